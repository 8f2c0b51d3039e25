-- What a call of a connection's `read` says of a stream.
use Rattle.std.proofs.Common.{◌≡◌, ℕ, ◌+◌, ◌-◌, ◌≤◌, nat_lt, ◌/◌, ◌==◌, ◌&&◌, ◌||◌, Bool, true, false, true≢false, not, cond, List, [], ◌∷◌, ◌++◌, length, take, drop, map, fold, Ok, All, IsTrue, ◌↔◌, inl, inr, refl, sym, ap, ◌∙◌, subst, subst₂, arith, append-nil, append_assoc}
use Rattle.std.proofs.lemmas.Bool.Decides.{nat_tests}
use Rattle.std.proofs.lemmas.List.{drop_all, drop-take, take-take}
use Rattle.std.proofs.lemmas.List.Elements.{All-nil, All-cons, All-head, All-tail}
use Rattle.httparse.specs.Grammar.{ResponseHead, status_code}
use Rattle.httparse.specs.Spans.{span_bytes, header_bytes, IsWithin, IsHeaderWithin}
use Rattle.httparse.specs.declared.spans.Span.{Span}
use Rattle.httparse.specs.declared.spans.HeaderSpan.{HeaderSpan}
use Rattle.httparse.specs.declared.spans.ResponseSpans.{ResponseSpans}
use Rattle.http_header.specs.Token.{lowercase}
use Rattle.http_header.specs.FieldValue.{FieldValue, plain_value}
use Rattle.http_header.specs.HeaderMap.{Entries, append}
use Rattle.http.specs.declared.response.Parts as Response
use Rattle.http1.specs.declared.client.Client.{Client}
use Rattle.http1.specs.declared.framing.MethodKind.{MethodKind}
use Rattle.http1.specs.declared.framing.MethodKind.TheVariants as Method
use Rattle.http1.specs.declared.conn.Event.{Event}
use Rattle.http1.specs.declared.conn.Event.TheVariants as Found
use Rattle.http1.specs.declared.conn.Progress.{Progress}
use Rattle.http1.specs.declared.conn.Reading.{Reading}
use Rattle.http1.specs.declared.conn.Reading.TheVariants as Reads
use Rattle.http1.specs.declared.decode.Decoder.{Decoder}
use Rattle.http1.specs.declared.decode.Decoder.TheVariants.{Length, Chunked, UntilClose}
use Rattle.http1.specs.Conn.{no_progress, awaits_head, is_connect, is_until_close, keeps_alive, ReadsPiece}
use Rattle.http1.specs.Fields.{Header, known_fields}
use Rattle.http1.specs.Message.{known_of}
use Rattle.http1.specs.declared.framing.Framing.{Framing}
use Rattle.http1.specs.Decoder.{AwaitsTrailers, Runs}
use Rattle.http1.specs.declared.framing.Framing.TheVariants as Framed
use Rattle.http1.specs.Client.{new_client, closed_client, upgraded_client, reading_body, is_written, is_interim, switches, after_piece, ReadsHead, ReadsInBody, ReadsFirst, ReadsAt, ClientReads, at_eof, reading, IsIdle}
use Rattle.http1.specs.ServerTrace.{no_body, headers_at}
use Rattle.http1.specs.ClientTrace.{SeenResponse, nothing, observe, IsBetween, Trace, stops, peer_closes, reads}
use Rattle.http1_typed.specs.Parts.{entry_at, map_at, IsResponseParts}
use Rattle.http1.specs.Framing.{response_framing}
use Rattle.otel_otlp.specs.StreamClient.{map_of, with_body, keeps_open, is_kept, ClosesAtEnd, Skips, FindsHead, with_front, Gives, FindsBody, StaysOpen}
use Rattle.otel_otlp.proofs.Streams.{skips_none}

-- ---- parts of a head
span_bytes-take : (n : ℕ) (u : List ℕ) (s : Span) → IsWithin n s → span_bytes (take n u) s ≡ span_bytes u s
span_bytes-take n u s within =
    let sum : n ≡ s.start + (n - s.start) = omega arith in
    let fits : s.end - s.start ≤ n - s.start = omega arith in
    ap (λ (j : ℕ). take (s.end - s.start) (drop s.start (take j u))) sum ∙ rw (drop-take, take-take)

headers-take : (n : ℕ) (u : List ℕ) (hs : List HeaderSpan) → All (IsHeaderWithin n) hs → map (header_bytes (take n u)) hs ≡ map (header_bytes u) hs
headers-take n u [] all = refl
headers-take n u (h ∷ hs) all =
    let within = All-head (IsHeaderWithin n) h hs all in
    λ i. (span_bytes-take n u h.name within.0 i, span_bytes-take n u h.value within.1 i)
    ∷ headers-take n u hs (All-tail (IsHeaderWithin n) h hs all) i

map_at-fold : (head : List ℕ) (spans : List HeaderSpan) (m : Entries FieldValue)
    → fold (λ j h. append j (entry_at head h).0 (entry_at head h).1) m spans
    ≡ fold (λ j h. append j (lowercase h.0) (plain_value h.1)) m (map (header_bytes head) spans)
map_at-fold head [] m = refl
map_at-fold head (h ∷ spans) m = map_at-fold head spans _

map_at_is : (head : List ℕ) (spans : List HeaderSpan) → map_at head spans ≡ map_of (map (header_bytes head) spans)
map_at_is head spans = map_at-fold head spans []

-- the map of the first bytes is the map of all, if they contain the spans
pub map_at-take : (n : ℕ) (u : List ℕ) (hs : List HeaderSpan) → All (IsHeaderWithin n) hs → map_at (take n u) hs ≡ map_at u hs
map_at-take n u hs all = map_at_is (take n u) hs ∙ ap map_of (headers-take n u hs all) ∙ sym (map_at_is u hs)

-- ---- heads
-- a status of 1xx other than 101 switches no protocols
by_method : (m : MethodKind) (status : ℕ) → IsTrue (is_interim status) → (((status == 101) || (is_connect m && (status / 100 == 2))) ≡ false) × (nat_lt status 200 ≡ true)
by_method Method.Head status is = grind (arith, nat_tests)
by_method Method.Connect status is = grind (arith, nat_tests)
by_method Method.Other status is = grind (arith, nat_tests)

-- the connection is unchanged by it
interim_stays : (c : Client) (status : ℕ) (other : Client) → IsTrue (is_interim status) → cond (switches c status) (upgraded_client c) (cond (nat_lt status 200) c other) ≡ c
interim_stays c status other is =
    let tests = by_method c.method status is in
    ap (λ b. cond b (upgraded_client c) (cond (nat_lt status 200) c other)) tests.0 ∙ ap (λ b. cond b c other) tests.1

-- ---- whether a connection goes on
pub and_left : (a b : Bool) → IsTrue (a && b) → IsTrue a
and_left true b h = refl
and_left false true h = h
and_left false false h = h

pub and_right : (a b : Bool) → IsTrue (a && b) → IsTrue b
and_right true b h = h
and_right false true h = refl
and_right false false h = h

-- a status that is below 200 and not interim is 101
pub no_interim : (low is other : Bool) → (low && not is) ≡ false → low ≡ true → (is || other) ≡ false → ⊥
no_interim true true other final below sw = true≢false sw
no_interim true false other final below sw = true≢false final
no_interim false is other final below sw = true≢false (sym below)

and_none : (a : Bool) → (a && false) ≡ false
and_none true = refl
and_none false = refl

and_swap : (a b w : Bool) → ((a && b) && w) ≡ ((a && w) && b)
and_swap true true true = refl
and_swap true true false = refl
and_swap true false true = refl
and_swap true false false = refl
and_swap false b w = refl

never_kept : (a b w : Bool) → ((a && (b && false)) && w) ≡ false
never_kept true true w = refl
never_kept true false w = refl
never_kept false b w = refl

-- whether the connection goes on after a head
kept_after : (c : Client) (h : ResponseHead) (framing : Framing) (s low : Bool)
    → switches c (status_code h) ≡ s → nat_lt (status_code h) 200 ≡ low → is_interim (status_code h) ≡ false
    → is_kept (cond s (upgraded_client c) (cond low c (reading_body c h.minor (known_of h.fields) framing)))
    ≡ (is_kept c && (not s && (keeps_alive h.minor (known_of h.fields) && not (is_until_close framing))))
kept_after c h framing true low sw below final = and_none c.keep_alive ∙ sym (and_none (is_kept c))
kept_after c h framing false true sw below final =
    absurd (no_interim (nat_lt (status_code h) 200) (status_code h == 101) (is_connect c.method && (status_code h / 100 == 2)) final below sw)
kept_after c h framing false false sw below final = and_swap c.keep_alive (keeps_alive h.minor (known_of h.fields) && not (is_until_close framing)) (is_written c.writing)

-- the same by what is seen of the head
kept_seen : (new c : Client) (seen : SeenResponse) (code minor : ℕ) (headers : List Header) (framing : Framing)
    → seen.method ≡ c.method → seen.status ≡ code → seen.minor ≡ minor → seen.headers ≡ headers
    → response_framing c.method code minor (known_fields headers) ≡ Ok framing
    → is_kept new ≡ (is_kept c && (not ((code == 101) || (is_connect c.method && (code / 100 == 2))) && (keeps_alive minor (known_fields headers) && not (is_until_close framing))))
    → is_kept new ≡ (is_kept c && keeps_open seen)
kept_seen new c seen code minor headers framing m s v h framed kept = rw (m, s, v, h, framed) kept

closes_body : (c : Client) (h : ResponseHead) (framing : Framing) → ClosesAtEnd (reading_body c h.minor (known_of h.fields) framing)
closes_body c h Framed.NoBody is = absurd cc
closes_body c h (Framed.Length len) is = absurd cc
closes_body c h Framed.Chunked is = absurd cc
closes_body c h Framed.UntilClose is = never_kept c.keep_alive (keeps_alive h.minor (known_of h.fields)) (is_written c.writing)

-- after a head whose body ends with the reader it doesn't
closes_after : (c : Client) (h : ResponseHead) (framing : Framing) (s low : Bool) → ClosesAtEnd c
    → ClosesAtEnd (cond s (upgraded_client c) (cond low c (reading_body c h.minor (known_of h.fields) framing)))
closes_after c h framing true low old is = absurd cc
closes_after c h framing false true old is = old is
closes_after c h framing false false old is = closes_body c h framing is

-- a connection at a head is within no body
head_closes : (c : Client) → reading c ≡ Reads.Head → ClosesAtEnd c
head_closes c head is = let it = sym head ∙ is in absurd cc

-- only a body that ends with the reader goes on as one
runs_until : (d new : Decoder) (input piece : List ℕ) (len : ℕ) → Runs d input new len piece → new ≡ UntilClose → d ≡ UntilClose
runs_until (Length left) new input piece len runs is = let it = sym runs ∙ is in absurd cc
runs_until (Chunked chunks max_len) new input piece len runs is = let it = sym runs.1 ∙ is in absurd cc
runs_until UntilClose new input piece len runs is = refl

module _ (c new : Client) (input : List ℕ) (spans : List HeaderSpan) (read : Progress ResponseSpans) (is : reading c ≡ Reads.Head) (found : ClientReads c input spans new read) where
  at_head : ReadsFirst (awaits_head c.writing) c input spans new read
  at_head = subst (λ r. ReadsAt r c input spans new read) is found

  -- more bytes are needed
  waits_by : (idle : Bool) → ReadsFirst idle c input spans new read → read.event ≡ Found.NeedMore → new ≡ c
  waits_by true h event = h.2
  waits_by false h event = (subst (λ e. ReadsHead c input spans new read.consumed e) event h).1

  pub waits : read.event ≡ Found.NeedMore → (came : List ℕ) → Skips c (input ++ came) new (input ++ came)
  waits event came = subst (λ n. Skips c (input ++ came) n (input ++ came)) (sym (waits_by _ at_head event)) (skips_none c (input ++ came))

  interim_by : (idle : Bool) (r : ResponseSpans) → ReadsFirst idle c input spans new read → read.event ≡ Found.Informational r → IsTrue (is_interim r.code) × (new ≡ c)
  interim_by true r h event = let it = h.1 in cc
  interim_by false r h event =
      let (low, t) = subst (λ e. ReadsHead c input spans new read.consumed e) event h in
      (low, t.next ∙ interim_stays c (status_code t.head) _ (subst (λ n. IsTrue (is_interim n)) t.covered.code low))

  -- a response of status 1xx was skipped
  pub skips_one : (r : ResponseSpans) → read.event ≡ Found.Informational r → Skips c (input ++ []) new (drop read.consumed input)
  skips_one r event =
      let (low, same) = interim_by _ r at_head event in
      let seen : SeenResponse = record { method = c.method; minor = r.version; status = r.code; reason = span_bytes input r.reason; headers = headers_at input spans r.headers; body = no_body } in
      record {
        interim = seen ∷ [];
        are_interim = All-cons (λ (s : SeenResponse). IsTrue (is_interim s.status)) seen [] low (All-nil _);
        same = same;
        goes_on = λ more later rest none t.
            let first = reads c new input more spans read later rest found t in
            let told = subst (λ e. Trace c (input ++ more) (observe c.method input spans e later) rest) event first in
            subst₂ (λ s b. Trace c (s ++ more) (record { body = no_body; responses = record seen { body = b } ∷ later.responses }) rest) (sym (append-nil input)) none told;
      }

  final_by : (idle : Bool) (r : ResponseSpans) → ReadsFirst idle c input spans new read → read.event ≡ Found.Head r → is_interim r.code ≡ false
  final_by true r h event = let it = h.1 in cc
  final_by false r h event = (subst (λ e. ReadsHead c input spans new read.consumed e) event h).0

  keeps_by : (idle : Bool) (r : ResponseSpans) (seen : SeenResponse)
      → seen.method ≡ c.method → seen.status ≡ r.code → seen.minor ≡ r.version → seen.headers ≡ headers_at input spans r.headers
      → ReadsFirst idle c input spans new read → read.event ≡ Found.Head r
      → (is_kept new ≡ (is_kept c && keeps_open seen)) × ClosesAtEnd new
  keeps_by true r seen m code minor headers h event = let it = sym (ap (λ (p : Progress ResponseSpans). p.event) h.1) ∙ event in absurd cc
  keeps_by false r seen m code minor headers h event =
      let (final, t) = subst (λ e. ReadsHead c input spans new read.consumed e) event h in
      let kept = kept_after c t.head t.framing _ _ refl refl (subst (λ n. is_interim n ≡ false) t.covered.code final) in
      let same = subst (λ n. is_kept n ≡ (is_kept c && (not (switches c (status_code t.head)) && (keeps_alive t.head.minor (known_of t.head.fields) && not (is_until_close t.framing))))) (sym t.next) kept in (
        kept_seen new c seen (status_code t.head) t.head.minor _ t.framing m (code ∙ t.covered.code) (minor ∙ t.covered.version) (headers ∙ t.covered.fields) t.accepts.framed same,
        subst (λ n. ClosesAtEnd n) (sym t.next) (closes_after c t.head t.framing _ _ (head_closes c is)),
      )

  -- a head was found
  pub finds_head : (r : ResponseSpans) (p : Response.Parts) → read.event ≡ Found.Head r → IsResponseParts input spans r p → FindsHead c (input ++ []) new (drop read.consumed input) p
  finds_head r p event is_parts =
      let seen : SeenResponse = record { method = c.method; minor = r.version; status = r.code; reason = span_bytes input r.reason; headers = headers_at input spans r.headers; body = no_body } in
      record {
        interim = [];
        are_interim = All-nil _;
        head = seen;
        is_final = final_by _ r at_head event;
        method = refl;
        parts = record { status = is_parts.status; version = is_parts.version; headers = is_parts.headers ∙ map_at_is input (take r.headers spans) };
        keeps = (keeps_by _ r seen refl refl refl refl at_head event).0;
        closes = (keeps_by _ r seen refl refl refl refl at_head event).1;
        goes_on = λ more later rest t.
            let first = reads c new input more spans read later rest found t in
            let told = subst (λ e. Trace c (input ++ more) (observe c.method input spans e later) rest) event first in
            subst (λ s. Trace c (s ++ more) (record { body = no_body; responses = with_body seen later.body ∷ later.responses }) rest) (sym (append-nil input)) told;
      }

-- ---- bodies
-- a connection that has read a whole response is at no body
between_cycle : (c : Client) (again : Bool) → IsBetween (reading (cond again (new_client c.limits) (closed_client c)))
between_cycle c true = tt
between_cycle c false = tt

-- only an end of the stream ends a body without a length
pub until_close : (r : Reading) (c : Client) (count : ℕ) → (at_eof r c).0 ≡ Ok (Found.End count) → r ≡ Reads.Body UntilClose
until_close Reads.Head c count is = absurd (grind arith)
until_close (Reads.Body (Length left)) c count is = cc
until_close (Reads.Body (Chunked chunks max_len)) c count is = cc
until_close (Reads.Body UntilClose) c count is = refl
until_close Reads.Done c count is = cc
until_close Reads.Upgraded c count is = cc
until_close Reads.Closed c count is = cc
until_close (Reads.Failed e) c count is = cc

-- and it closes the connection
pub eof_closes : (r : Reading) (c : Client) → r ≡ Reads.Body UntilClose → IsIdle (at_eof r c).1 → ⊥
eof_closes r c is idle = let closed = subst (λ x. IsIdle (at_eof x c).1) is idle in cc

-- a connection is idle after a response exactly if it goes on
idle_by : (c : Client) (again : Bool) → IsIdle (cond again (new_client c.limits) (closed_client c)) ↔ IsTrue again
idle_by c true = (λ _. refl, λ _. refl)
idle_by c false = (λ idle. absurd cc, λ is. absurd (true≢false (sym is)))

-- the end of the stream leaves what was read
pub eof_body : (r : Reading) (c : Client) → r ≡ Reads.Body UntilClose → (at_eof r c).0 ≡ Ok (Found.End 0)
eof_body r c is = ap (λ x. (at_eof x c).0) is

module _ (c new : Client) (input : List ℕ) (spans : List HeaderSpan) (read : Progress ResponseSpans) where
  event_of : (e : Event ResponseSpans) → read ≡ no_progress e → read.event ≡ e
  event_of e is = ap (λ (p : Progress ResponseSpans). p.event) is

  module _ (count : ℕ) (event : read.event ≡ Found.End count) where
    ends_first : (idle : Bool) → ReadsFirst idle c input spans new read → ⊥
    ends_first true h = let it = sym (event_of _ h.1) ∙ event in cc
    ends_first false h = subst (λ e. ReadsHead c input spans new read.consumed e) event h

    ends_piece : (d : Decoder) → ReadsInBody d c input spans new read → IsBetween (reading new)
    ends_piece d h =
        let done = (subst (λ e. ReadsPiece d input spans h.0 read.consumed e) event h.1).0 in
        subst (λ n. IsBetween (reading n)) (sym (h.2 ∙ ap (after_piece c) done)) (between_cycle (record c { reading = Reads.Done }) (c.keep_alive && is_written c.writing))

    idles_piece : (d : Decoder) → ReadsInBody d c input spans new read → IsIdle new ↔ IsTrue (is_kept c)
    idles_piece d h =
        let done = (subst (λ e. ReadsPiece d input spans h.0 read.consumed e) event h.1).0 in
        subst (λ n. IsIdle n ↔ IsTrue (is_kept c)) (sym (h.2 ∙ ap (after_piece c) done)) (idle_by (record c { reading = Reads.Done }) (is_kept c))

    idles : (r : Reading) → ReadsAt r c input spans new read → IsIdle new ↔ IsTrue (is_kept c)
    idles Reads.Head h = absurd (ends_first _ h)
    idles (Reads.Body d) h = idles_piece d h
    idles Reads.Done h = let it = sym (event_of _ h.0) ∙ event in absurd cc
    idles Reads.Upgraded h = let it = sym (event_of _ h.0) ∙ event in absurd cc
    idles Reads.Closed h = let it = sym (event_of _ h.0) ∙ event in absurd cc
    idles (Reads.Failed e) h = absurd h

    ends_between : (r : Reading) → ReadsAt r c input spans new read → IsBetween (reading new)
    ends_between Reads.Head h = absurd (ends_first _ h)
    ends_between (Reads.Body d) h = ends_piece d h
    ends_between Reads.Done h = let it = sym (event_of _ h.0) ∙ event in absurd cc
    ends_between Reads.Upgraded h = let it = sym (event_of _ h.0) ∙ event in absurd cc
    ends_between Reads.Closed h = let it = sym (event_of _ h.0) ∙ event in absurd cc
    ends_between (Reads.Failed e) h = absurd h

  module _ (s : Span) (event : read.event ≡ Found.Data s) where
    gives_first : (idle : Bool) → ReadsFirst idle c input spans new read → ⊥
    gives_first true h = let it = sym (event_of _ h.1) ∙ event in cc
    gives_first false h = subst (λ e. ReadsHead c input spans new read.consumed e) event h

    gives_piece : (d : Decoder) → ReadsInBody d c input spans new read → is_kept new ≡ is_kept c
    gives_piece d h =
        let next = (subst (λ e. ReadsPiece d input spans h.0 read.consumed e) event h.1).1 in
        ap is_kept (h.2 ∙ ap (after_piece c) next)

    gives : (r : Reading) → ReadsAt r c input spans new read → is_kept new ≡ is_kept c
    gives Reads.Head h = absurd (gives_first _ h)
    gives (Reads.Body d) h = gives_piece d h
    gives Reads.Done h = let it = sym (event_of _ h.0) ∙ event in absurd cc
    gives Reads.Upgraded h = let it = sym (event_of _ h.0) ∙ event in absurd cc
    gives Reads.Closed h = let it = sym (event_of _ h.0) ∙ event in absurd cc
    gives (Reads.Failed e) h = absurd h

    was_piece : (d : Decoder) → ReadsInBody d c input spans new read → reading new ≡ Reads.Body UntilClose → d ≡ UntilClose
    was_piece d h is =
        let (kept, next, len, some, continues) = subst (λ e. ReadsPiece d input spans h.0 read.consumed e) event h.1 in
        let body : Reads.Body kept ≡ Reads.Body UntilClose = sym (ap reading (h.2 ∙ ap (after_piece c) next)) ∙ is in
        let until : kept ≡ UntilClose = cc in
        runs_until d kept input (span_bytes input s) s.end continues.runs until

    was : (r : Reading) → ReadsAt r c input spans new read → reading new ≡ Reads.Body UntilClose → r ≡ Reads.Body UntilClose
    was Reads.Head h is = absurd (gives_first _ h)
    was (Reads.Body d) h is = ap Reads.Body (was_piece d h is)
    was Reads.Done h is = let it = sym (event_of _ h.0) ∙ event in absurd cc
    was Reads.Upgraded h is = let it = sym (event_of _ h.0) ∙ event in absurd cc
    was Reads.Closed h is = let it = sym (event_of _ h.0) ∙ event in absurd cc
    was (Reads.Failed e) h is = absurd h

  module _ (event : read.event ≡ Found.NeedMore) where
    needed_piece : (d : Decoder) → ReadsInBody d c input spans new read → reading new ≡ Reads.Body UntilClose → d ≡ UntilClose
    needed_piece d h is =
        let (kept, next, starves) = subst (λ e. ReadsPiece d input spans h.0 read.consumed e) event h.1 in
        let body : Reads.Body kept ≡ Reads.Body UntilClose = sym (ap reading (h.2 ∙ ap (after_piece c) next)) ∙ is in
        let until : kept ≡ UntilClose = cc in
        runs_until d kept input [] read.consumed starves.continues.runs until

    needed_first : (idle : Bool) → reading c ≡ Reads.Head → ReadsFirst idle c input spans new read → reading new ≡ Reads.Body UntilClose → Reads.Head ≡ Reads.Body UntilClose
    needed_first true head h is = let it = sym (event_of _ h.1) ∙ event in absurd cc
    needed_first false head h is = sym head ∙ sym (ap reading (subst (λ e. ReadsHead c input spans new read.consumed e) event h).1) ∙ is

    needed : (r : Reading) → reading c ≡ r → ReadsAt r c input spans new read → reading new ≡ Reads.Body UntilClose → r ≡ Reads.Body UntilClose
    needed Reads.Head at h is = needed_first _ at h is
    needed (Reads.Body d) at h is = ap Reads.Body (needed_piece d h is)
    needed Reads.Done at h is = let it = sym (event_of _ h.0) ∙ event in absurd cc
    needed Reads.Upgraded at h is = let it = sym (event_of _ h.0) ∙ event in absurd cc
    needed Reads.Closed at h is = let it = sym (event_of _ h.0) ∙ event in absurd cc
    needed (Reads.Failed e) at h is = absurd h

    needs_first : (idle : Bool) → ReadsFirst idle c input spans new read → is_kept new ≡ is_kept c
    needs_first true h = let it = sym (event_of _ h.1) ∙ event in absurd cc
    needs_first false h = ap is_kept (subst (λ e. ReadsHead c input spans new read.consumed e) event h).1

    needs_piece : (d : Decoder) → ReadsInBody d c input spans new read → is_kept new ≡ is_kept c
    needs_piece d h =
        let next = (subst (λ e. ReadsPiece d input spans h.0 read.consumed e) event h.1).1 in
        ap is_kept (h.2 ∙ ap (after_piece c) next)

    needs : (r : Reading) → ReadsAt r c input spans new read → is_kept new ≡ is_kept c
    needs Reads.Head h = needs_first _ h
    needs (Reads.Body d) h = needs_piece d h
    needs Reads.Done h = let it = sym (event_of _ h.0) ∙ event in absurd cc
    needs Reads.Upgraded h = let it = sym (event_of _ h.0) ∙ event in absurd cc
    needs Reads.Closed h = let it = sym (event_of _ h.0) ∙ event in absurd cc
    needs (Reads.Failed e) h = absurd h

    drains_first : (idle : Bool) → reading c ≡ Reads.Head → ReadsFirst idle c input spans new read → reading new ≡ Reads.Body UntilClose → ⊥
    drains_first true head h is = let it = sym (event_of _ h.1) ∙ event in cc
    drains_first false head h is =
        let same = (subst (λ e. ReadsHead c input spans new read.consumed e) event h).1 in
        let it = sym head ∙ sym (ap reading same) ∙ is in cc

    drains_piece : (d : Decoder) → ReadsInBody d c input spans new read → reading new ≡ Reads.Body UntilClose → drop read.consumed input ≡ []
    drains_piece d h is =
        let (kept, next, starves) = subst (λ e. ReadsPiece d input spans h.0 read.consumed e) event h.1 in
        let body : Reads.Body kept ≡ Reads.Body UntilClose = sym (ap reading (h.2 ∙ ap (after_piece c) next)) ∙ is in
        let until : kept ≡ UntilClose = cc in
        elim starves.drained [
          | inl all ↦ drop_all read.consumed input (omega (arith, all))
          | inr more ↦ absurd (subst (λ v. AwaitsTrailers v (length (drop read.consumed input))) until more)
        ]

    drains : (r : Reading) → reading c ≡ r → ReadsAt r c input spans new read → reading new ≡ Reads.Body UntilClose → drop read.consumed input ≡ []
    drains Reads.Head head h is = absurd (drains_first _ head h is)
    drains (Reads.Body d) body h is = drains_piece d h is
    drains Reads.Done done h is = let it = sym (event_of _ h.0) ∙ event in absurd cc
    drains Reads.Upgraded done h is = let it = sym (event_of _ h.0) ∙ event in absurd cc
    drains Reads.Closed done h is = let it = sym (event_of _ h.0) ∙ event in absurd cc
    drains (Reads.Failed e) failed h is = absurd h

  module _ (found : ClientReads c input spans new read) where
    abbrev left : List ℕ
    left = drop read.consumed input

    -- whether the connection goes on stays so within the body, and is so if it is idle at the end
    pub stays_by_data : ClosesAtEnd c → (s : Span) → read.event ≡ Found.Data s → StaysOpen false c new
    stays_by_data closes s event =
        let same = gives s event (reading c) found in
        (same, λ is. same ∙ closes (was s event (reading c) found is))

    pub was_until : read.event ≡ Found.NeedMore → reading new ≡ Reads.Body UntilClose → reading c ≡ Reads.Body UntilClose
    was_until event is = needed event (reading c) refl found is

    pub stays_by_need : ClosesAtEnd c → read.event ≡ Found.NeedMore → StaysOpen false c new
    stays_by_need closes event =
        let same = needs event (reading c) found in
        (same, λ is. same ∙ closes (was_until event is))

    pub stays_at_end : (count : ℕ) → read.event ≡ Found.End count → StaysOpen true c new
    stays_at_end count event = idles count event (reading c) found

    -- a body that ends with the reader closes the connection
    pub stays_at_eof : ClosesAtEnd c → read.event ≡ Found.NeedMore → (after : Client) → reading new ≡ Reads.Body UntilClose → (IsIdle after → ⊥) → StaysOpen true c after
    stays_at_eof closes event after is busy = (λ idle. absurd (busy idle), λ kept. absurd (true≢false (sym kept ∙ closes (was_until event is))))

    -- a piece was found
    pub gives_data : (s : Span) → read.event ≡ Found.Data s → Gives c (input ++ []) new left (span_bytes input s)
    gives_data s event more later rest t =
        let told = subst (λ e. Trace c (input ++ more) (observe c.method input spans e later) rest) event (reads c new input more spans read later rest found t) in
        subst (λ xs. Trace c (xs ++ more) (with_front (span_bytes input s) later) rest) (sym (append-nil input)) told

    -- more bytes were read
    pub gives_more : read.event ≡ Found.NeedMore → (came : List ℕ) → Gives c (input ++ came) new (left ++ came) []
    gives_more event came more later rest t =
        let next = subst (λ xs. Trace new xs later rest) (append_assoc left came more) t in
        let told = subst (λ e. Trace c (input ++ (came ++ more)) (observe c.method input spans e later) rest) event (reads c new input (came ++ more) spans read later rest found next) in
        subst (λ xs. Trace c xs (with_front [] later) rest) (sym (append_assoc input came more)) told

    -- the end was found
    pub finds_end : (count : ℕ) → read.event ≡ Found.End count → FindsBody c (input ++ []) [] left
    finds_end count event =
        let ended = reads c new input [] spans read nothing (left ++ []) found (stops new (left ++ []) (ends_between count event (reading c) found)) in
        let told = subst (λ e. Trace c (input ++ []) (observe c.method input spans e nothing) (left ++ [])) event ended in
        record {
          trailers = headers_at input spans count;
          trace = subst (λ xs. Trace c (input ++ []) (record { body = record { bytes = []; trailers = headers_at input spans count }; responses = [] }) xs) (append-nil left) told;
        }

    -- the stream has ended, and so has a body without a length
    pub finds_close : read.event ≡ Found.NeedMore → reading new ≡ Reads.Body UntilClose → FindsBody c (input ++ []) [] (left ++ [])
    finds_close event is =
        let none : left ++ [] ≡ [] = append-nil left ∙ drains event (reading c) refl found is in
        let closed = subst (λ xs. Trace new xs nothing []) (sym none) (peer_closes new is) in
        let told = subst (λ e. Trace c (input ++ []) (observe c.method input spans e nothing) []) event (reads c new input [] spans read nothing [] found closed) in
        record {
          trailers = [];
          trace = subst (λ xs. Trace c (input ++ []) nothing xs) (sym none) told;
        }
