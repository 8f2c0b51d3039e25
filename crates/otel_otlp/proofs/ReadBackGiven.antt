-- What members that may be absent say, and nothing else.
use Rattle.std.proofs.Common.{◌≡◌, refl, sym, ap, subst, ◌∙◌, ℕ, ◌<◌, ◌^◌, ◌==◌, arith}
use Rattle.std.proofs.Common.{Bool, true, if◌then◌else◌, List, [], length, codes, bytes_eq, decimal}
use Rattle.std.proofs.Common.{Option, Some, None, IfSome, MatchOption, option_map, option_and_then, is_some, nat_lt}
use Rattle.std.proofs.lemmas.Bool.{ne_eqb, lt-ltb}
use Rattle.std.specs.Bool.{MatchBool}
use Rattle.std.specs.Int.{w64, w128, to_be_bytes}
use Rattle.hex.proofs.HexLemmas.{decode_sized-encode_lower, decode_sized-ok}
use Rattle.otel_sdk_logs.specs.declared.record.TraceContext.{TraceContext}
use Rattle.serde_json.specs.Data.{Data, string, number, unsigned}
use Rattle.otel_otlp.specs.HttpResponse.{IsCount}
use Rattle.otel_otlp.specs.Json.{Member, object_of, decimal_if_given, number_if_given, trace_id_text, span_id_text}
use Rattle.otel_otlp.specs.Logs.{trace_members}
use Rattle.otel_otlp.specs.ReadBackLogs.{IsHeldContext}
use Rattle.otel_otlp.specs.ReadLogs.{severity_with, severity_numbered, severity_of, HasSeverity, HasActive, active_of}
use Rattle.otel_otlp.specs.ReadMembers.{member_of, text_of, text_in, IsGivenWideIn, IsGivenNarrowIn, IsNarrowIn, trace_id_of, span_id_of, given_trace_id_of, given_trace_id_in, given_span_id_of, given_span_id_in}
use Rattle.otel_otlp.specs.ReadTraces.{trace_flags}
use Rattle.otel_otlp.proofs.Found.{if_so, found}
use Rattle.otel_otlp.proofs.Ids.{bytes_small}
use Rattle.otel_otlp.proofs.ReadBack.{Only, only_some, member_in, text_is, wide_is, narrow_is}
use Rattle.otel_otlp.proofs.ReadBackValues.{only_there, trace_id_again, span_id_again}
use Rattle.otel_otlp.proofs.ReadErrors.{some_same, one_count}

-- ---- a member that isn't there
pub only_absent : {Y : Type 0} (o : Option Data) (A : Y → Type 0) (B : Data → Y → Type 0) (y : Y)
    → o ≡ None → Only A y → Only (λ z. MatchOption o (A z) (λ v. B v z)) y
only_absent o A B y e h = subst (λ p. Only (λ z. MatchOption p (A z) (λ v. B v z)) y) (sym e) h

only_none : {X : Type 0} → Only (λ (o : Option X). o ≡ None) None
only_none = (refl, λ o h. h)

-- ---- numbers of 64 bits
abbrev Given : Data → Option ℕ → Type 0
Given d n = (given : ℕ) × (n ≡ Some given) × IsCount d (Some given)

only_count : (d : Data) (n : ℕ) → IsCount d (Some n) → Only (Given d) (Some n)
only_count d n h =
    ((n, refl, h), λ o k. k.1 ∙ ap (λ m. Some m) (one_count d k.0 n k.2 h))

pub given_wide : (q : List ℕ) (xs : List Member) (o : Option ℕ) → IfSome o (λ n. n < 2 ^ 64)
    → found q xs ≡ found q (decimal_if_given q o) → bytes_eq q q ≡ true
    → Only (IsGivenWideIn q (object_of xs)) o
given_wide q xs None h e r =
    only_absent (member_of q (object_of xs)) (λ n. n ≡ None) Given None (member_in q xs None e) only_none
given_wide q xs (Some n) h e r =
    let d = string (decimal n) in
    let there : found q xs ≡ Some d = e ∙ ap (λ b. if_so b d) r in
    let in_xs : member_of q (object_of xs) ≡ Some d = member_in q xs (Some d) there in
    let count : IsCount d (Some n) =
    subst (λ o. MatchOption o (n ≡ 0) (λ v. IsCount v (Some n))) in_xs (wide_is q xs n h there).0 in
    only_there (member_of q (object_of xs)) d (λ o. o ≡ None) Given (Some n) in_xs (only_count d n count)

-- ---- numbers of 32 bits
abbrev IfGiven : List ℕ → Data → Bool → Option ℕ → Type 0
IfGiven q d b o = MatchBool b ((given : ℕ) × (o ≡ Some given) × IsNarrowIn q d given) (o ≡ None)

pub given_narrow : (q : List ℕ) (xs : List Member) (o : Option ℕ) → IfSome o (λ n. n < 2 ^ 32)
    → found q xs ≡ found q (number_if_given q o) → bytes_eq q q ≡ true
    → Only (IsGivenNarrowIn q (object_of xs)) o
given_narrow q xs None h e r =
    subst (λ b. Only (IfGiven q (object_of xs) b) None) (sym (ap is_some (member_in q xs None e)))
    only_none
given_narrow q xs (Some n) h e r =
    let d = number (unsigned n) in
    let there : found q xs ≡ Some d = e ∙ ap (λ b. if_so b d) r in
    let narrow = narrow_is q xs n h there in
    subst (λ b. Only (IfGiven q (object_of xs) b) (Some n))
    (sym (ap is_some (member_in q xs (Some d) there)))
    ((n, refl, narrow.0), λ o k. k.1 ∙ ap (λ m. Some m) (narrow.1 k.0 k.2))

-- ---- severities
severity_again : (n : ℕ) → 0 < n → n < 25 → severity_numbered n ≡ Some (Some n)
unfolding severity_numbered
severity_again n above below =
    ap (λ (b : Bool). if b then Some None else option_map (λ s. Some s) (severity_with n))
    (ne_eqb n 0 (λ e. omega (arith, above, e)))
    ∙ ap (λ (b : Bool). option_map (λ s. Some s)
    (if b then (if nat_lt n 25 then Some n else None) else None))
    (lt-ltb 0 n above)
    ∙ ap (λ (b : Bool). option_map (λ s. Some s) (if b then Some n else None)) (lt-ltb n 25 below)

pub given_severity : (xs : List Member) (o : Option ℕ) → IfSome o (λ n. (0 < n) × (n < 25))
    → found (codes "severityNumber") xs
    ≡ found (codes "severityNumber") (number_if_given (codes "severityNumber") o)
    → Only (HasSeverity (object_of xs)) o
given_severity xs None h e =
    let q = codes "severityNumber" in
    only_absent (member_of q (object_of xs)) (λ s. s ≡ None) (λ d s. severity_of d ≡ Some s) None
    (member_in q xs None e) only_none
given_severity xs (Some n) h e =
    let q = codes "severityNumber" in
    let d = number (unsigned n) in
    only_there (member_of q (object_of xs)) d (λ s. s ≡ None) (λ v s. severity_of v ≡ Some s) (Some n)
    (member_in q xs (Some d) e) (only_some (severity_of d) (Some n) (severity_again n h.0 h.1))

-- ---- ids
no_text_in : (q : List ℕ) (xs : List Member) → found q xs ≡ None → text_in q (object_of xs) ≡ Some []
no_text_in q xs e = ap text_of (member_in q xs None e)

trace_length : (id : ℕ) → length (trace_id_text id) ≡ 32
trace_length id =
    decode_sized-ok (trace_id_text id) 16 (to_be_bytes w128 id)
    (decode_sized-encode_lower (to_be_bytes w128 id) 16 refl (bytes_small 16 id))

span_length : (id : ℕ) → length (span_id_text id) ≡ 16
span_length id =
    decode_sized-ok (span_id_text id) 8 (to_be_bytes w64 id)
    (decode_sized-encode_lower (to_be_bytes w64 id) 8 refl (bytes_small 8 id))

given_trace : (id : ℕ) → id < 2 ^ 128 → given_trace_id_of (trace_id_text id) ≡ Some (Some id)
given_trace id h =
    ap (λ n. if n == 0 then Some None else option_map (λ i. Some i) (trace_id_of (trace_id_text id)))
    (trace_length id)
    ∙ ap (option_map (λ i. Some i)) (trace_id_again id h)

given_span : (id : ℕ) → id < 2 ^ 64 → given_span_id_of (span_id_text id) ≡ Some (Some id)
given_span id h =
    ap (λ n. if n == 0 then Some None else option_map (λ i. Some i) (span_id_of (span_id_text id)))
    (span_length id)
    ∙ ap (option_map (λ i. Some i)) (span_id_again id h)

-- ---- the span that was active
abbrev IsSmall : Option ℕ → Type 0
IsSmall o = IfSome o (λ flags. flags < 256)

same_flags : (o : Option ℕ) → IsSmall o → option_map trace_flags o ≡ o
same_flags None h = refl
same_flags (Some f) h = let e : trace_flags f ≡ f = omega (arith, h) in ap (λ n. Some n) e

wider : (o : Option ℕ) → IsSmall o → IfSome o (λ n. n < 2 ^ 32)
wider None h = tt
wider (Some f) h = omega (arith, h)

-- whatever the ids and the flags are that are found
only_active : (d : Data) (trace span flags : Option ℕ) (c : Option TraceContext)
    → given_trace_id_in d ≡ Some trace → given_span_id_in d ≡ Some span
    → Only (IsGivenNarrowIn (codes "flags") d) flags → active_of trace span flags ≡ c
    → Only (HasActive d) c
only_active d trace span flags c has_trace has_span has_flags is = (
  record {
    trace = trace;
    has_trace = has_trace;
    span = span;
    has_span = has_span;
    flags = flags;
    has_flags = has_flags.0;
    is = sym is;
  },
  λ y k.
      let t = some_same _ _ (sym k.has_trace ∙ has_trace) in
      let s = some_same _ _ (sym k.has_span ∙ has_span) in
      let f = has_flags.1 k.flags k.has_flags in
      k.is ∙ (λ i. active_of (t i) (s i) (f i)) ∙ is,
)

-- the members of a context among these
pub record HasIds (ms : List Member) (c : Option TraceContext) : Type 0 where
  pub trace : found (codes "traceId") ms ≡ found (codes "traceId") (trace_members c)
  pub span : found (codes "spanId") ms ≡ found (codes "spanId") (trace_members c)
  pub flags : found (codes "flags") ms ≡ found (codes "flags") (trace_members c)

-- without flags, and with them
module _ (trace span : ℕ) where
  abbrev context : Option ℕ → TraceContext
  context flags = record { trace_id = trace; span_id = span; trace_flags = flags }

  trace_in : (flags : Option ℕ) → found (codes "traceId") (trace_members (Some (context flags)))
      ≡ Some (string (trace_id_text trace))
  trace_in None = refl
  trace_in (Some f) = refl

  span_in : (flags : Option ℕ) → found (codes "spanId") (trace_members (Some (context flags)))
      ≡ Some (string (span_id_text span))
  span_in None = refl
  span_in (Some f) = refl

  flags_in : (flags : Option ℕ) → found (codes "flags") (trace_members (Some (context flags)))
      ≡ found (codes "flags") (number_if_given (codes "flags") flags)
  flags_in None = refl
  flags_in (Some f) = refl

pub given_active : (xs : List Member) (c : Option TraceContext) → IfSome c IsHeldContext → HasIds xs c
    → Only (HasActive (object_of xs)) c
given_active xs None h is =
    only_active (object_of xs) None None None None
    (ap (option_and_then given_trace_id_of) (no_text_in (codes "traceId") xs is.trace))
    (ap (option_and_then given_span_id_of) (no_text_in (codes "spanId") xs is.span))
    (given_narrow (codes "flags") xs None tt is.flags refl) refl
given_active xs (Some c) h is =
    let flags = given_narrow (codes "flags") xs c.trace_flags (wider c.trace_flags h.flags)
    (is.flags ∙ flags_in c.trace_id c.span_id c.trace_flags) refl in
    let trace = text_is (codes "traceId") xs (trace_id_text c.trace_id)
    (is.trace ∙ trace_in c.trace_id c.span_id c.trace_flags) in
    let span = text_is (codes "spanId") xs (span_id_text c.span_id)
    (is.span ∙ span_in c.trace_id c.span_id c.trace_flags) in
    let f = same_flags c.trace_flags h.flags in
    only_active (object_of xs) (Some c.trace_id) (Some c.span_id) c.trace_flags (Some c)
    (ap (option_and_then given_trace_id_of) trace ∙ given_trace c.trace_id h.trace_id)
    (ap (option_and_then given_span_id_of) span ∙ given_span c.span_id h.span_id)
    flags (λ i. Some (record { trace_id = c.trace_id; span_id = c.span_id; trace_flags = f i }))
