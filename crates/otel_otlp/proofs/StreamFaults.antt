-- Why the bytes that a client read are no answer.
use Rattle.std.proofs.Common.{◌≡◌, ◌≢◌, ◌⊎◌, ◌<◌, ◌/◌, ◌==◌, ◌&&◌, nat_lt, ℕ, Bool, true, false, true≢false, cond, List, [], ◌++◌, length, drop, Option, Result, Ok, Err, IfErr, inl, inr, refl, sym, ap, ◌∙◌, subst, subst₂, append-nil, append_assoc}
use Rattle.std.proofs.KnownBytes.{Consumes-trans}
use Rattle.std.specs.Io.KnownBytes.{Consumes}
use Rattle.std.specs.declared.io.Error.{Error}
use Rattle.httparse.specs.declared.spans.Span.{Span}
use Rattle.httparse.specs.declared.spans.HeaderSpan.{HeaderSpan}
use Rattle.httparse.specs.declared.spans.ResponseSpans.{ResponseSpans}
use Rattle.http.specs.declared.request.Parts as Request
use Rattle.http1.specs.declared.client.Client.{Client}
use Rattle.http1.specs.declared.conn.Event.{Event}
use Rattle.http1.specs.declared.conn.Event.TheVariants as Found
use Rattle.http1.specs.declared.conn.Progress.{Progress}
use Rattle.http1.specs.declared.conn.Reading.{Reading}
use Rattle.http1.specs.declared.conn.Reading.TheVariants as Reads
use Rattle.http1.specs.declared.decode.Decoder.{Decoder}
use Rattle.http1.specs.Client.{reading, ClientReads, ReadsAt, ReadsFirst, ReadsHead, ReadsInBody, client_eof, closed_client, upgraded_client, reading_body, cut_short, at_eof, switches, is_interim, after_piece}
use Rattle.http1.specs.Conn.{ReadsPiece, awaits_head, is_connect}
use Rattle.httparse.specs.Grammar.{ResponseHead, status_code}
use Rattle.http1.specs.Message.{known_of}
use Rattle.http1.specs.declared.framing.Framing.{Framing}
use Rattle.otel_otlp.specs.StreamClient.{max_body_len, asking, Comes, stays, moves, piece_of, IsOver}
use Rattle.otel_otlp.specs.StreamClient.{StopsAt, EndsEarly, FindsBadHead, LacksMore, LacksAnswer, Breaks, IsNoAnswer}
use Rattle.otel_otlp.proofs.StreamSteps.{no_interim}
use Rattle.otel_otlp.specs.declared.otlp_http.client.HttpError.{HttpError}
use Rattle.otel_otlp.specs.declared.otlp_http.client.HttpError.TheVariants.{Io, Memory, Malformed, Unopened, Unreachable}
use Rattle.otel_otlp.specs.declared.otlp_http.stream_client.source.Source.{Source}

-- a read that isn't `Ok` has failed
pub refuses : {A E : Type 0} (P : E → Type 0) (r : Result A E) → ((x : A) → r ≢ Ok x) → IfErr r P → (e : E) × P e
refuses P (Ok x) other h = absurd (other x refl)
refuses P (Err e) other h = (e, h)

-- ---- sources
module _ {R : Type 0} (remaining : R → Option (List ℕ)) where
  -- an error that says so of what was unread, after which no byte was read
  pub breaks_now : (old new : Source R) (Lacks : List ℕ → Type 0) (e : HttpError)
      → Consumes (remaining old.reader) (remaining new.reader) [] → (e ≡ Malformed → Lacks old.unread.items) → Breaks remaining old new Lacks e
  breaks_now old new Lacks Unreachable none why = tt
  breaks_now old new Lacks (Io cause) none why = tt
  breaks_now old new Lacks (Unopened path cause) none why = tt
  breaks_now old new Lacks Malformed none why = ([], none, subst Lacks (sym (append-nil old.unread.items)) (why refl))
  breaks_now old new Lacks (Memory failed) none why = tt

  pub breaks_front : (old new : Source R) (Lacks : List ℕ → Type 0) (e : HttpError)
      → Consumes (remaining old.reader) (remaining new.reader) [] → (e ≡ Malformed → Lacks (old.unread.items ++ [])) → Breaks remaining old new Lacks e
  breaks_front old new Lacks Unreachable none why = tt
  breaks_front old new Lacks (Io cause) none why = tt
  breaks_front old new Lacks (Unopened path cause) none why = tt
  breaks_front old new Lacks Malformed none why = ([], none, why refl)
  breaks_front old new Lacks (Memory failed) none why = tt

  pub breaks_ended : (old new : Source R) (Lacks : List ℕ → Type 0) (e : HttpError)
      → (e ≡ Malformed → Consumes (remaining old.reader) (remaining new.reader) [] × Lacks old.unread.items) → Breaks remaining old new Lacks e
  breaks_ended old new Lacks Unreachable why = tt
  breaks_ended old new Lacks (Io cause) why = tt
  breaks_ended old new Lacks (Unopened path cause) why = tt
  breaks_ended old new Lacks Malformed why = let (none, lacks) = why refl in ([], none, subst Lacks (sym (append-nil old.unread.items)) lacks)
  breaks_ended old new Lacks (Memory failed) why = tt

  -- after more bytes were read
  pub breaks_after : (old mid new : Source R) (Lacks Whole : List ℕ → Type 0) (before : List ℕ)
      → Consumes (remaining old.reader) (remaining mid.reader) before
      → ((more : List ℕ) → Lacks (mid.unread.items ++ more) → Whole ((old.unread.items ++ before) ++ more))
      → (e : HttpError) → Breaks remaining mid new Lacks e → Breaks remaining old new Whole e
  breaks_after old mid new Lacks Whole before first whole Unreachable b = tt
  breaks_after old mid new Lacks Whole before first whole (Io cause) b = tt
  breaks_after old mid new Lacks Whole before first whole (Unopened path cause) b = tt
  breaks_after old mid new Lacks Whole before first whole Malformed b =
      let (came, then, lacks) = b in
      (before ++ came, Consumes-trans _ _ _ before came first then, subst Whole (append_assoc old.unread.items before came) (whole came lacks))
  breaks_after old mid new Lacks Whole before first whole (Memory failed) b = tt

  -- the client says the same of its source
  pub breaks_client : (may_read : Result ℕ Error → Type 0) (p : Request.Parts) (body : List ℕ) (old new : Source R) (connection : Client) → connection ≡ asking p body
      → (e : HttpError) → Breaks remaining old new (LacksAnswer may_read connection) e → IsNoAnswer remaining may_read p body old.reader old.unread.items new.reader e
  breaks_client may_read p body old new connection asked Unreachable b = tt
  breaks_client may_read p body old new connection asked (Io cause) b = tt
  breaks_client may_read p body old new connection asked (Unopened path cause) b = tt
  breaks_client may_read p body old new connection asked Malformed b =
      let (came, consumed, lacks) = b in
      (came, consumed, subst (λ k. LacksAnswer may_read k (old.unread.items ++ came)) asked lacks)
  breaks_client may_read p body old new connection asked (Memory failed) b = tt

-- ---- steps
-- more bytes may follow
pub comes_more : (a b : Client) (stream left body more : List ℕ) → Comes a stream b left body → Comes a (stream ++ more) b (left ++ more) body
comes_more a b stream left body more (stays c xs) = stays a (stream ++ more)
comes_more a b stream left body more (moves c new now input rest spans read last after found going then) =
    subst (λ (xs : List ℕ). Comes a xs b (left ++ more) (piece_of input read.event ++ after)) (sym (append_assoc input rest more))
    (moves a new b input (rest ++ more) spans read (left ++ more) after found going
    (subst (λ (xs : List ℕ). Comes new xs b (left ++ more) after) (append_assoc (drop read.consumed input) rest more) (comes_more new b _ left after more then)))

-- and more steps
pub comes_on : (a b c : Client) (stream mid left body piece : List ℕ) → Comes a stream b mid body → Comes b mid c left piece → Comes a stream c left (body ++ piece)
comes_on a b c stream mid left body piece (stays k xs) y = y
comes_on a b c stream mid left body piece (moves k new now input rest spans read last after found going then) y =
    subst (λ (xs : List ℕ). Comes a stream c left xs) (sym (append_assoc (piece_of input read.event) after piece))
    (moves a new c input rest spans read left (after ++ piece) found going (comes_on new b c _ mid left after piece then y))

-- both
pub comes_then : (a b c : Client) (stream mid came left body piece : List ℕ) → Comes a stream b mid body → Comes b (mid ++ came) c left piece → Comes a (stream ++ came) c left (body ++ piece)
comes_then a b c stream mid came left body piece x y = comes_on a b c (stream ++ came) (mid ++ came) left body piece (comes_more a b stream mid body came x) y

module _ (may_read : Result ℕ Error → Type 0) where
  pub lacks_here : (body : List ℕ) (c : Client) (input : List ℕ) → (StopsAt may_read c input ⊎ FindsBadHead c input) ⊎ IsOver (reading c) → LacksMore may_read body c input
  lacks_here body c input (inl stops) = record { now = c; left = input; piece = []; comes = stays c input; stops = inl stops }
  lacks_here body c input (inr over) = record { now = c; left = input; piece = []; comes = stays c input; stops = inr (inr over) }

  pub comes_lacks : (a b : Client) (stream unread came before body : List ℕ) → Comes a stream b unread body → LacksMore may_read (before ++ body) b (unread ++ came) → LacksMore may_read before a (stream ++ came)
  comes_lacks a b stream unread came before body x y = record {
    now = y.now;
    left = y.left;
    piece = body ++ y.piece;
    comes = comes_then a b y.now stream unread came y.left body y.piece x y.comes;
    stops = subst (λ (xs : List ℕ). (StopsAt may_read y.now y.left ⊎ FindsBadHead y.now y.left) ⊎ ((max_body_len < length xs) ⊎ IsOver (reading y.now))) (append_assoc before body y.piece) y.stops;
  }

-- ---- events
-- a head that is none of 1xx isn't followed by another
begun_after : (c : Client) (h : ResponseHead) (framing : Framing) (s low : Bool)
    → switches c (status_code h) ≡ s → nat_lt (status_code h) 200 ≡ low → is_interim (status_code h) ≡ false
    → reading (cond s (upgraded_client c) (cond low c (reading_body c h.minor (known_of h.fields) framing))) ≢ Reads.Head
begun_after c h framing true low sw below final at = cc
begun_after c h framing false true sw below final at =
    no_interim (nat_lt (status_code h) 200) (status_code h == 101) (is_connect c.method && (status_code h / 100 == 2)) final below sw
begun_after c h framing false false sw below final at = cc

module _ (c new : Client) (input : List ℕ) (spans : List HeaderSpan) (read : Progress ResponseSpans) (found : ClientReads c input spans new read) where
  event_is : (e : Event ResponseSpans) → read ≡ record { consumed = 0; event = e } → read.event ≡ e
  event_is e is = ap (λ (p : Progress ResponseSpans). p.event) is

  -- an event that is none of a body's comes only from a connection within no body
  other_piece : (d : Decoder) (next : Reading) (e : Event ResponseSpans) → ReadsPiece d input spans next read.consumed e
      → ((s : Span) → e ≢ Found.Data s) → ((count : ℕ) → e ≢ Found.End count) → e ≢ Found.NeedMore → ⊥
  other_piece d next Found.NeedMore h piece end more = more refl
  other_piece d next (Found.Head r) h piece end more = h
  other_piece d next (Found.Informational r) h piece end more = h
  other_piece d next (Found.Data s) h piece end more = piece s refl
  other_piece d next (Found.End count) h piece end more = end count refl
  other_piece d next Found.Paused h piece end more = h
  other_piece d next Found.Upgraded h piece end more = h
  other_piece d next Found.Closed h piece end more = h

  over_at : (r : Reading) → ReadsAt r c input spans new read
      → ((s : Span) → read.event ≢ Found.Data s) → ((count : ℕ) → read.event ≢ Found.End count) → read.event ≢ Found.NeedMore → r ≢ Reads.Head → IsOver r
  over_at Reads.Head h piece end more begun = begun refl
  over_at (Reads.Body d) h piece end more begun = absurd (other_piece d h.0 read.event h.1 piece end more)
  over_at Reads.Done h piece end more begun = tt
  over_at Reads.Upgraded h piece end more begun = tt
  over_at Reads.Closed h piece end more begun = tt
  over_at (Reads.Failed e) h piece end more begun = absurd h

  pub over : ((s : Span) → read.event ≢ Found.Data s) → ((count : ℕ) → read.event ≢ Found.End count) → read.event ≢ Found.NeedMore → reading c ≢ Reads.Head → IsOver (reading c)
  over piece end more begun = over_at (reading c) found piece end more begun

  -- one step, after which more bytes may come
  pub one_step : ((count : ℕ) → read.event ≢ Found.End count) → (came : List ℕ) → Comes c (input ++ came) new (drop read.consumed input ++ came) (piece_of input read.event)
  one_step going came =
      subst (λ (xs : List ℕ). Comes c (input ++ came) new (drop read.consumed input ++ came) xs) (append-nil (piece_of input read.event))
      (moves c new new input came spans read (drop read.consumed input ++ came) [] found going (stays new (drop read.consumed input ++ came)))

  -- the same by the event, without a piece of a body
  pub one_step_by : (e : Event ResponseSpans) → read.event ≡ e → ((count : ℕ) → e ≢ Found.End count) → piece_of input e ≡ [] → (came : List ℕ) → Comes c (input ++ came) new (drop read.consumed input ++ came) []
  one_step_by e is going none came =
      subst (λ (xs : List ℕ). Comes c (input ++ came) new (drop read.consumed input ++ came) xs) (ap (piece_of input) is ∙ none)
      (one_step (λ count at. going count (sym is ∙ at)) came)

  -- and an event that is none of a head's only from one that has sent no request
  other_first : (w : Bool) (e : Event ResponseSpans) → ReadsFirst w c input spans new read → read.event ≡ e
      → ((r : ResponseSpans) → e ≢ Found.Head r) → ((r : ResponseSpans) → e ≢ Found.Informational r) → e ≢ Found.NeedMore → w ≡ true
  other_first true e h is head info more = refl
  other_first false e h is head info more = absurd (no_head e (subst (λ x. ReadsHead c input spans new read.consumed x) is h) head info more)
    where
      no_head : (e : Event ResponseSpans) → ReadsHead c input spans new read.consumed e
          → ((r : ResponseSpans) → e ≢ Found.Head r) → ((r : ResponseSpans) → e ≢ Found.Informational r) → e ≢ Found.NeedMore → ⊥
      no_head Found.NeedMore h head info more = more refl
      no_head (Found.Head r) h head info more = head r refl
      no_head (Found.Informational r) h head info more = info r refl
      no_head (Found.Data s) h head info more = h
      no_head (Found.End count) h head info more = h
      no_head Found.Paused h head info more = h
      no_head Found.Upgraded h head info more = h
      no_head Found.Closed h head info more = h

  -- a head isn't ended by the end of the reader
  eof_in_head : (w : Bool) (k : Client) (count : ℕ) → (cond w (Ok Found.Closed, closed_client k) (cut_short k)).0 ≢ Ok (Found.End count)
  eof_in_head true k count is = cc
  eof_in_head false k count is = cc

  eof_at_head : (r : Reading) (k : Client) (count : ℕ) → r ≡ Reads.Head → (at_eof r k).0 ≢ Ok (Found.End count)
  eof_at_head r k count head is = eof_in_head (awaits_head k.writing) k count (subst (λ x. (at_eof x k).0 ≡ Ok (Found.End count)) head is)

  head_stays : (w : Bool) → ReadsFirst w c input spans new read → read.event ≡ Found.NeedMore → new ≡ c
  head_stays true h event = h.2
  head_stays false h event = (subst (λ e. ReadsHead c input spans new read.consumed e) event h).1

  pub ends_in_head : reading c ≡ Reads.Head → read.event ≡ Found.NeedMore → EndsEarly c input
  ends_in_head is event =
      let same = head_stays _ (subst (λ r. ReadsAt r c input spans new read) is found) event in
      record {
        spans = spans;
        next = new;
        read = read;
        finds = found;
        needs = event;
        ends = λ count. eof_at_head (reading new) new count (ap reading same ∙ is);
      }

  pub ends_in_body : read.event ≡ Found.NeedMore → ((count : ℕ) → (client_eof new).0 ≢ Ok (Found.End count)) → EndsEarly c input
  ends_in_body event other = record { spans = spans; next = new; read = read; finds = found; needs = event; ends = other }

  -- nothing more came
  pub last_step_by : (e : Event ResponseSpans) → read.event ≡ e → ((count : ℕ) → e ≢ Found.End count) → Comes c (input ++ []) new (drop read.consumed input) (piece_of input e)
  last_step_by e is going =
      subst₂ (λ (xs ys : List ℕ). Comes c (input ++ []) new xs ys) (append-nil (drop read.consumed input)) (ap (piece_of input) is)
      (one_step (λ count at. going count (sym is ∙ at)) [])

  -- a head that isn't there yet leaves all unread
  pub waiting_step : reading c ≡ Reads.Head → read.event ≡ Found.NeedMore → (came : List ℕ) → Comes c (input ++ came) new (input ++ came) []
  waiting_step is event came =
      subst (λ k. Comes c (input ++ came) k (input ++ came) []) (sym (head_stays _ (subst (λ r. ReadsAt r c input spans new read) is found) event)) (stays c (input ++ came))

  -- no other event comes to a connection that has asked
  pub none_other : reading c ≡ Reads.Head → awaits_head c.writing ≡ false → ((r : ResponseSpans) → read.event ≢ Found.Head r) → ((r : ResponseSpans) → read.event ≢ Found.Informational r) → read.event ≢ Found.NeedMore → ⊥
  none_other is asked head info more =
      true≢false (sym (other_first _ read.event (subst (λ r. ReadsAt r c input spans new read) is found) refl head info more) ∙ asked)

  -- after a head the connection waits for no other, nor after a piece of a body
  begun_head : (w : Bool) (r : ResponseSpans) → ReadsFirst w c input spans new read → read.event ≡ Found.Head r → reading new ≢ Reads.Head
  begun_head true r h event at = let it = sym (event_is _ h.1) ∙ event in cc
  begun_head false r h event at =
      let (final, t) = subst (λ e. ReadsHead c input spans new read.consumed e) event h in
      begun_after c t.head t.framing _ _ refl refl (subst (λ n. is_interim n ≡ false) t.covered.code final) (sym (ap reading t.next) ∙ at)

  pub begins : reading c ≡ Reads.Head → (r : ResponseSpans) → read.event ≡ Found.Head r → reading new ≢ Reads.Head
  begins is r event at = begun_head _ r (subst (λ k. ReadsAt k c input spans new read) is found) event at

  begun_piece : (d : Decoder) (e : Event ResponseSpans) → ReadsInBody d c input spans new read → read.event ≡ e → ((count : ℕ) → e ≢ Found.End count) → reading new ≢ Reads.Head
  begun_piece d Found.NeedMore h event going at =
      let next = (subst (λ e. ReadsPiece d input spans h.0 read.consumed e) event h.1).1 in
      let it = sym (ap reading (h.2 ∙ ap (after_piece c) next)) ∙ at in cc
  begun_piece d (Found.Data s) h event going at =
      let next = (subst (λ e. ReadsPiece d input spans h.0 read.consumed e) event h.1).1 in
      let it = sym (ap reading (h.2 ∙ ap (after_piece c) next)) ∙ at in cc
  begun_piece d (Found.End count) h event going at = going count refl
  begun_piece d (Found.Head r) h event going at = subst (λ e. ReadsPiece d input spans h.0 read.consumed e) event h.1
  begun_piece d (Found.Informational r) h event going at = subst (λ e. ReadsPiece d input spans h.0 read.consumed e) event h.1
  begun_piece d Found.Paused h event going at = subst (λ e. ReadsPiece d input spans h.0 read.consumed e) event h.1
  begun_piece d Found.Upgraded h event going at = subst (λ e. ReadsPiece d input spans h.0 read.consumed e) event h.1
  begun_piece d Found.Closed h event going at = subst (λ e. ReadsPiece d input spans h.0 read.consumed e) event h.1

  begun_at : (r : Reading) → reading c ≡ r → ReadsAt r c input spans new read → (e : Event ResponseSpans) → read.event ≡ e → ((count : ℕ) → e ≢ Found.End count) → r ≢ Reads.Head → reading new ≢ Reads.Head
  begun_at Reads.Head was h e event going begun at = begun refl
  begun_at (Reads.Body d) was h e event going begun at = begun_piece d e h event going at
  begun_at Reads.Done was h e event going begun at = let it = sym was ∙ sym (ap reading h.1) ∙ at in cc
  begun_at Reads.Upgraded was h e event going begun at = let it = sym was ∙ sym (ap reading h.1) ∙ at in cc
  begun_at Reads.Closed was h e event going begun at = let it = sym was ∙ sym (ap reading h.1) ∙ at in cc
  begun_at (Reads.Failed x) was h e event going begun at = h

  pub goes_on : reading c ≢ Reads.Head → (e : Event ResponseSpans) → read.event ≡ e → ((count : ℕ) → e ≢ Found.End count) → reading new ≢ Reads.Head
  goes_on begun e event going at = begun_at (reading c) refl found e event going begun at
