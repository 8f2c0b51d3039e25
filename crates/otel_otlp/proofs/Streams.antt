-- What a connection has seen of a stream that comes in pieces.
use Rattle.std.proofs.Common.{◌≡◌, ◌&&◌, IsTrue, List, ℕ, [], ◌∷◌, ◌++◌, refl, sym, ap, ◌∙◌, subst, subst₂, append_assoc}
use Rattle.std.proofs.lemmas.List.Elements.{All-append, All-nil}
use Rattle.http.specs.declared.response.Parts as Response
use Rattle.http1.specs.declared.client.Client.{Client}
use Rattle.http1.specs.Client.{is_interim}
use Rattle.http1.specs.ServerTrace.{no_body}
use Rattle.http1.specs.ClientTrace.{SeenResponse, Seen, Trace}
use Rattle.otel_otlp.specs.StreamClient.{with_body, is_kept, keeps_open, Skips, FindsHead, with_front, Gives, FindsBody}

-- ---- steps after steps
-- what is seen from a head on has no body before it
no_body_before : (later : Seen) → later.body ≡ no_body → later ≡ record { body = no_body; responses = later.responses }
no_body_before later is = λ i. record { body = is i; responses = later.responses }

-- nothing was skipped yet
pub skips_none : (a : Client) (stream : List ℕ) → Skips a stream a stream
skips_none a stream = record {
  interim = [];
  are_interim = All-nil _;
  same = refl;
  goes_on = λ more later rest none t. subst (λ s. Trace a (stream ++ more) s rest) (no_body_before later none) t;
}

module _ (a b c : Client) (stream unread came left : List ℕ) where
  pub skips_skips : Skips a stream b unread → Skips b (unread ++ came) c left → Skips a (stream ++ came) c left
  skips_skips x y = record {
    interim = x.interim ++ y.interim;
    are_interim = All-append (λ (s : SeenResponse). IsTrue (is_interim s.status)) x.interim y.interim x.are_interim y.are_interim;
    same = y.same ∙ x.same;
    goes_on = λ more later rest none t.
        let second = y.goes_on more later rest none t in
        let first = x.goes_on (came ++ more) _ rest refl (subst (λ s. Trace b s (record { body = no_body; responses = y.interim ++ later.responses }) rest) (append_assoc unread came more) second) in
        subst₂ (λ s rs. Trace a s (record { body = no_body; responses = rs }) rest) (sym (append_assoc stream came more)) (sym (append_assoc x.interim y.interim later.responses)) first;
  }

  pub skips_finds : (p : Response.Parts) → Skips a stream b unread → FindsHead b (unread ++ came) c left p → FindsHead a (stream ++ came) c left p
  skips_finds p x y = record {
    interim = x.interim ++ y.interim;
    are_interim = All-append (λ (s : SeenResponse). IsTrue (is_interim s.status)) x.interim y.interim x.are_interim y.are_interim;
    head = y.head;
    is_final = y.is_final;
    method = y.method ∙ ap (λ (k : Client). k.method) x.same;
    parts = y.parts;
    keeps = y.keeps ∙ ap (λ (k : Client). is_kept k && keeps_open y.head) x.same;
    closes = y.closes;
    goes_on = λ more later rest t.
        let others = with_body y.head later.body ∷ later.responses in
        let second = y.goes_on more later rest t in
        let first = x.goes_on (came ++ more) _ rest refl (subst (λ s. Trace b s (record { body = no_body; responses = y.interim ++ others }) rest) (append_assoc unread came more) second) in
        subst₂ (λ s rs. Trace a s (record { body = no_body; responses = rs }) rest) (sym (append_assoc stream came more)) (sym (append_assoc x.interim y.interim others)) first;
  }

  pub gives_gives : (body piece : List ℕ) → Gives a stream b unread body → Gives b (unread ++ came) c left piece → Gives a (stream ++ came) c left (body ++ piece)
  gives_gives body piece x y more later rest t =
      let second = y more later rest t in
      let first = x (came ++ more) _ rest (subst (λ s. Trace b s (with_front piece later) rest) (append_assoc unread came more) second) in
      subst₂ (λ s bs. Trace a s (record later { body = record (later.body) { bytes = bs } }) rest) (sym (append_assoc stream came more)) (sym (append_assoc body piece later.body.bytes)) first

pub gives_none : (a : Client) (stream : List ℕ) → Gives a stream a stream []
gives_none a stream more later rest t = t

pub gives_finds : (a b : Client) (stream unread came body piece rest : List ℕ) → Gives a stream b unread body → FindsBody b (unread ++ came) piece rest → FindsBody a (stream ++ came) (body ++ piece) rest
gives_finds a b stream unread came body piece rest x y = record {
  trailers = y.trailers;
  trace = x came _ rest y.trace;
}
