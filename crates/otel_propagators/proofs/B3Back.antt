-- What is read from the headers of B3 that a propagator injected.
use Rattle.std.proofs.Common.{◌≡◌, ◌≢◌, ℕ, ◌^◌, ◌<◌, Bool, true, false, List, [], ◌∷◌, ◌++◌, length, refl, sym, ap, subst, ◌∙◌, arith, Option, Some, None, if◌then◌else◌, All}
use Rattle.std.specs.Prelude.{◌||◌, ◌==◌, codes}
use Rattle.std.specs.Char.{is_ascii_hexdigit}
use Rattle.std.specs.List.{list_all, list_any, slice_split}
use Rattle.std.specs.Option.{option_and_then, option_map_or, option_or}
use Rattle.std.proofs.lemmas.Bool.{and_from}
use Rattle.std.proofs.lemmas.Bool.Decides.{nat_tests}
use Rattle.std.proofs.lemmas.List.Elements.{All-weaker}
use Rattle.std.proofs.lemmas.List.{append-nil}
use Rattle.std.proofs.lemmas.List.Splits.{slice_split_at, slice_split_none}
use Rattle.otel_base.specs.Blanks.{is_blank, cut_blanks}
use Rattle.otel_base.proofs.shared.BlankCuts.{no_blanks}
use Rattle.otel_base.proofs.shared.Searches.{none_append, none_from_all, none_All, list_all-weaker}
use Rattle.otel_ids.specs.Ids.{id_text}
use Rattle.otel_ids.specs.SpanContext.{SpanContextRecord, IsValidSpanContext}
use Rattle.otel_ids.specs.TraceFlags.{is_sampled}
use Rattle.otel_ids.proofs.shared.Numerals.{length_text, number_below}
use Rattle.otel_context.specs.Context.{ContextRecord, get, span_context}
use Rattle.opentelemetry.specs.Carrier.{Pairs, TextMap, at, last_value, lower}
use Rattle.otel_propagators.specs.B3.{B3Span, span_with, b3_extracted, b3_in, b3_key, b3_pairs, dashed, flags_key, flags_of, id_in, is_debug, is_debug_state, is_deferred, multi_in, multi_of, multi_state, remote_of, sampled_key, sampling_of, sent, single_in, single_text, span_id_in, span_id_key, span_in, span_of, span_pairs, state_after_ids, state_pairs, state_text, trace_id_in, trace_id_key, with_b3, with_debug}
use Rattle.otel_propagators.specs.B3Laws.{B3ComesBack, B3Injects, IsNotB3, MultiComesBack, NoSpanIsSent, SingleComesBack, b3_received}
use Rattle.otel_propagators.specs.Digits.{is_digit}
use Rattle.otel_propagators.specs.Laws.{IsContext}
use Rattle.otel_propagators.proofs.B3Entries.{both_alone, both_debug, both_entries, both_kept, is_kept, none_kept}
use Rattle.otel_propagators.proofs.Carried.{invalid_fails, no_value, skip_back, skip_front}
use Rattle.otel_propagators.proofs.Injecting.{valid_passes}
use Rattle.otel_propagators.proofs.Numbering.{all_shown}
use Rattle.otel_propagators.specs.declared.b3.form.Form.{Form}
use Rattle.otel_propagators.specs.declared.b3.form.Form.TheVariants.{Single, Multi}
use Rattle.otel_propagators.specs.declared.b3.sampling.Sampling.{Sampling}
use Rattle.otel_propagators.specs.declared.b3.sampling.Sampling.TheVariants.{Denied, Accepted, Debug, Deferred}

-- ---- ids that were written

hex_digit : (b : ℕ) → is_digit b ≡ true → is_ascii_hexdigit b ≡ true
hex_digit b h = grind (arith, nat_tests)

no_blank : (b : ℕ) → is_digit b ≡ true → is_blank b ≡ false
no_blank b h = grind (arith, nat_tests)

no_dash : (b : ℕ) → is_digit b ≡ true → (b == 45) ≡ false
no_dash b h = grind (arith, nat_tests)

length_is : (k n : ℕ) → (length (id_text k n) == k) ≡ true
length_is k n = let l = length_text k n in grind (arith, nat_tests, l)

id_back : (k n : ℕ) → n < 16 ^ k → id_in k (id_text k n) ≡ Some n
id_back k n below =
    let t = and_from (length (id_text k n) == k) (list_all is_ascii_hexdigit (id_text k n)) (length_is k n) (list_all-weaker is_digit is_ascii_hexdigit hex_digit (id_text k n) (all_shown k n)) in
    rw t (ap (λ (x : ℕ). Some x) (number_below k n below))

trace_id_back : (n : ℕ) → n < 2 ^ 128 → trace_id_in (id_text 32 n) ≡ Some n
trace_id_back n below = ap (λ (o : Option ℕ). option_or o (id_in 16 (id_text 32 n))) (id_back 32 n (omega arith))

span_id_back : (n : ℕ) → n < 2 ^ 64 → span_id_in (id_text 16 n) ≡ Some n
span_id_back n below = id_back 16 n (omega arith)

-- ---- the single header

blank_free : (k n : ℕ) → list_any is_blank (id_text k n) ≡ false
blank_free k n = none_from_all is_blank is_digit no_blank (id_text k n) (all_shown k n)

dash_free : (k n : ℕ) → All (λ b. (b == 45) ≡ false) (id_text k n)
dash_free k n = none_All (λ b. b == 45) (id_text k n) (none_from_all (λ b. b == 45) is_digit no_dash (id_text k n) (all_shown k n))

state_blank_free : (s : Sampling) → list_any is_blank (state_text s) ≡ false
state_blank_free Denied = refl
state_blank_free Accepted = refl
state_blank_free Deferred = refl
state_blank_free Debug = refl

-- the parts after the ids
state_parts : Sampling → List (List ℕ)
state_parts Denied = codes "0" ∷ []
state_parts Accepted = codes "1" ∷ []
state_parts Deferred = []
state_parts Debug = codes "d" ∷ []

state_back : (s : Sampling) → state_after_ids (state_parts s) ≡ Some s
unfolding state_parts
state_back Denied = refl
state_back Accepted = refl
state_back Deferred = refl
state_back Debug = refl

last_parts : (xs : List ℕ) (s : Sampling) → All (λ b. (b == 45) ≡ false) xs → slice_split (λ b. b == 45) (xs ++ state_text s) ≡ xs ∷ state_parts s
unfolding state_parts
last_parts xs Denied h = slice_split_at (λ b. b == 45) xs 45 (codes "0") h refl
last_parts xs Accepted h = slice_split_at (λ b. b == 45) xs 45 (codes "1") h refl
last_parts xs Deferred h = ap (slice_split (λ b. b == 45)) (append-nil xs) ∙ slice_split_none (λ b. b == 45) xs h
last_parts xs Debug h = slice_split_at (λ b. b == 45) xs 45 (codes "d") h refl

nothing_cut : (p : B3Span) → cut_blanks (single_text p) ≡ single_text p
nothing_cut p =
    no_blanks (single_text p)
    (none_append is_blank (id_text 32 p.trace_id) (45 ∷ (id_text 16 p.span_id ++ state_text p.sampling)) (blank_free 32 p.trace_id)
    (none_append is_blank (45 ∷ id_text 16 p.span_id) (state_text p.sampling) (blank_free 16 p.span_id) (state_blank_free p.sampling)))

parts_are : (p : B3Span) → dashed (single_text p) ≡ id_text 32 p.trace_id ∷ id_text 16 p.span_id ∷ state_parts p.sampling
parts_are p =
    slice_split_at (λ b. b == 45) (id_text 32 p.trace_id) 45 (id_text 16 p.span_id ++ state_text p.sampling) (dash_free 32 p.trace_id) refl
    ∙ ap (λ (x : List (List ℕ)). id_text 32 p.trace_id ∷ x) (last_parts (id_text 16 p.span_id) p.sampling (dash_free 16 p.span_id))

single_back : (p : B3Span) → p.trace_id < 2 ^ 128 → p.span_id < 2 ^ 64 → single_in (single_text p) ≡ Some p
single_back p a b =
    ap (λ (x : List ℕ). span_in (dashed x)) (nothing_cut p)
    ∙ ap span_in (parts_are p)
    ∙ ap (λ (o : Option ℕ). span_of o (span_id_in (id_text 16 p.span_id)) (state_after_ids (state_parts p.sampling))) (trace_id_back p.trace_id a)
    ∙ ap (λ (o : Option ℕ). span_of (Some p.trace_id) o (state_after_ids (state_parts p.sampling))) (span_id_back p.span_id b)
    ∙ ap (λ (o : Option Sampling). span_of (Some p.trace_id) (Some p.span_id) o) (state_back p.sampling)

-- ---- the state that is sent

sent_debug : (context : ContextRecord) → is_debug_state (sampling_of context) ≡ is_debug context
sent_debug context =
    elim (is_debug context) as (λ b. is_debug_state (if b then Debug else if is_sampled (span_context context).trace_flags then Accepted else if is_deferred context then Deferred else Denied) ≡ b) [
      | true ↦ refl
      | false ↦
          elim (is_sampled (span_context context).trace_flags) as (λ s. is_debug_state (if s then Accepted else if is_deferred context then Deferred else Denied) ≡ false) [
            | true ↦ refl
            | false ↦ elim (is_deferred context) as (λ d. is_debug_state (if d then Deferred else Denied) ≡ false) [ true ↦ refl | false ↦ refl ]
          ]
    ]

sent_flags : (context : ContextRecord) → flags_of (sampling_of context) ≡ (if is_debug context || is_sampled (span_context context).trace_flags then 1 else 0)
sent_flags context =
    elim (is_debug context) as (λ b. flags_of (if b then Debug else if is_sampled (span_context context).trace_flags then Accepted else if is_deferred context then Deferred else Denied) ≡ (if b || is_sampled (span_context context).trace_flags then 1 else 0)) [
      | true ↦ refl
      | false ↦
          elim (is_sampled (span_context context).trace_flags) as (λ s. flags_of (if s then Accepted else if is_deferred context then Deferred else Denied) ≡ (if s then 1 else 0)) [
            | true ↦ refl
            | false ↦ elim (is_deferred context) as (λ d. flags_of (if d then Deferred else Denied) ≡ 0) [ true ↦ refl | false ↦ refl ]
          ]
    ]

remote_is : (context : ContextRecord) → remote_of (sent context) ≡ b3_received context
remote_is context =
    ap (λ (f : ℕ). record { trace_id = (span_context context).trace_id; span_id = (span_context context).span_id; trace_flags = f; is_remote = true; trace_state = [] }) (sent_flags context)

-- ---- the context that is extracted

-- the context that has the span as its remote one
abbrev back_of : B3Span → ContextRecord → ContextRecord
back_of p given = record (both_kept (is_debug_state p.sampling) p given) { span = Some (record { context = remote_of p; number = None }) }

-- the state that is sent for it
state_is : (t i : ℕ) (s : Sampling) (given : ContextRecord) → sampling_of (back_of (span_with t i s) given) ≡ s
state_is t i Denied given =
    ap (λ (b : Bool). if b then Debug else if is_deferred (back_of (span_with t i Denied) given) then Deferred else Denied) (both_debug false (span_with t i Denied) given)
    ∙ ap (λ (b : Bool). if b then Deferred else Denied) (none_kept (single_text (span_with t i Deferred)) (with_debug false given))
state_is t i Accepted given = ap (λ (b : Bool). if b then Debug else Accepted) (both_debug false (span_with t i Accepted) given)
state_is t i Deferred given =
    ap (λ (b : Bool). if b then Debug else if is_deferred (back_of (span_with t i Deferred) given) then Deferred else Denied) (both_debug false (span_with t i Deferred) given)
    ∙ ap (λ (b : Bool). if b then Deferred else Denied) (is_kept t i (with_debug false given))
state_is t i Debug given = ap (λ (b : Bool). if b then Debug else Accepted) (both_debug true (span_with t i Debug) given)

comes_back_from : (context given back : ContextRecord) → IsValidSpanContext (span_context context) → back ≡ with_b3 given (sent context) → B3ComesBack context given back
comes_back_from context given back v e =
    let t = valid_passes (remote_of (sent context)) v in
    let p = sent context in
    let s = is_debug_state (sampling_of context) in
    let is : back ≡ back_of p given = e ∙ rw t refl in
    let alone = ap (λ (c : ContextRecord). record c { span = Some (record { context = remote_of p; number = None }) }) (both_alone s p given) in
    record {
      span = ap (λ (c : ContextRecord). c.span) is ∙ ap (λ (x : SpanContextRecord). Some (record { context = x; number = None })) (remote_is context);
      debug = ap is_debug is ∙ both_debug s p given ∙ sent_debug context;
      state = ap sampling_of is ∙ state_is p.trace_id p.span_id p.sampling given;
      entries = λ k n m. ap (λ (c : ContextRecord). get c k) is ∙ both_entries s p given k n m;
      nothing_else = subst (λ (c : ContextRecord). c ≡ record given { span = c.span; entries = c.entries }) (sym is) alone;
    }

-- ---- the texts that are set

module _ (form : Form) (context : ContextRecord) (old new : TextMap) (there : B3Injects form context old new) where
  text_at : (k : List ℕ) → ((p : List ℕ × List ℕ) → IsNotB3 p → lower p.0 ≢ k) → at new k ≡ option_or (last_value (b3_pairs form context) k) (at old k)
  text_at k other =
      let none : (ps : Pairs) → All IsNotB3 ps → last_value ps k ≡ None = λ ps h. no_value ps k (All-weaker IsNotB3 (λ (p : List ℕ × List ℕ). lower p.0 ≢ k) other ps h) in
      there.sets.at_key k
      ∙ ap (λ (o : Option (List ℕ)). option_or o (at old k))
      (skip_front there.before (b3_pairs form context ++ there.after) k (none there.before there.others.0)
      ∙ skip_back (b3_pairs form context) there.after k (none there.after there.others.1))

  at_single : at new b3_key ≡ option_or (last_value (b3_pairs form context) b3_key) (at old b3_key)
  at_single = text_at b3_key (λ p n. n.single)

  at_trace_id : at new trace_id_key ≡ option_or (last_value (b3_pairs form context) trace_id_key) (at old trace_id_key)
  at_trace_id = text_at trace_id_key (λ p n. n.trace_id)

  at_span_id : at new span_id_key ≡ option_or (last_value (b3_pairs form context) span_id_key) (at old span_id_key)
  at_span_id = text_at span_id_key (λ p n. n.span_id)

  at_sampled : at new sampled_key ≡ option_or (last_value (b3_pairs form context) sampled_key) (at old sampled_key)
  at_sampled = text_at sampled_key (λ p n. n.sampled)

  at_flags : at new flags_key ≡ option_or (last_value (b3_pairs form context) flags_key) (at old flags_key)
  at_flags = text_at flags_key (λ p n. n.flags)

pairs_are : (form : Form) (context : ContextRecord) → IsValidSpanContext (span_context context) → b3_pairs form context ≡ span_pairs form (sent context)
pairs_are form context v = let t = valid_passes (span_context context) v in rw t refl

no_pairs : (form : Form) (context : ContextRecord) → ¬ IsValidSpanContext (span_context context) → b3_pairs form context ≡ []
no_pairs form context n = let f = invalid_fails (span_context context) n in rw f refl

-- the span in the multiple headers whose state is this
multi_back : (t s : ℕ) (state : Sampling) (flags sampled oldsampled : Option (List ℕ)) → t < 2 ^ 128 → s < 2 ^ 64
    → (state ≡ Deferred → oldsampled ≡ None)
    → flags ≡ option_or (last_value (state_pairs state) flags_key) None
    → sampled ≡ option_or (last_value (state_pairs state) sampled_key) oldsampled
    → multi_of (Some (id_text 32 t)) (Some (id_text 16 s)) flags sampled ≡ Some (span_with t s state)
multi_back t s state flags sampled oldsampled a b none f m =
    ap (λ (o : Option ℕ). span_of o (span_id_in (id_text 16 s)) (Some (multi_state flags sampled))) (trace_id_back t a)
    ∙ ap (λ (o : Option ℕ). span_of (Some t) o (Some (multi_state flags sampled))) (span_id_back s b)
    ∙ ap (λ (x : Sampling). Some (span_with t s x)) (ap (λ (o : Option (List ℕ)). multi_state o sampled) f ∙ ap (multi_state (option_or (last_value (state_pairs state) flags_key) None)) m ∙ state_read state oldsampled none)
  where
    state_read : (state : Sampling) (o : Option (List ℕ)) → (state ≡ Deferred → o ≡ None) → multi_state (option_or (last_value (state_pairs state) flags_key) None) (option_or (last_value (state_pairs state) sampled_key) o) ≡ state
    state_read Denied o h = refl
    state_read Accepted o h = refl
    state_read Deferred o h = ap (multi_state None) (h refl)
    state_read Debug o h = refl

single_read : (context : ContextRecord) (old new : TextMap) → IsContext context → IsValidSpanContext (span_context context) → B3Injects Single context old new → b3_in new ≡ Some (sent context)
single_read context old new i v there =
    let set : at new b3_key ≡ Some (single_text (sent context)) =
    at_single Single context old new there ∙ ap (λ (ps : Pairs). option_or (last_value ps b3_key) (at old b3_key)) (pairs_are Single context v) in
    let c = i.span_context in
    ap (λ (o : Option (List ℕ)). option_or (option_and_then single_in o) (multi_in new)) set
    ∙ ap (λ (o : Option B3Span). option_or o (multi_in new)) (single_back (sent context) c.trace_id c.span_id)

-- which of the multiple headers are set
value_of : (p : B3Span) (k : List ℕ) → Option (List ℕ) → Option (List ℕ)
value_of p k o = option_or (last_value (span_pairs Multi p) k) o

no_single : (p : B3Span) (o : Option (List ℕ)) → value_of p b3_key o ≡ o
unfolding value_of
no_single p o =
    elim p.sampling as (λ s. option_or (last_value (span_pairs Multi (span_with p.trace_id p.span_id s)) b3_key) o ≡ o) [ Denied ↦ refl | Accepted ↦ refl | Deferred ↦ refl | Debug ↦ refl ]

its_trace_id : (p : B3Span) (o : Option (List ℕ)) → value_of p trace_id_key o ≡ Some (id_text 32 p.trace_id)
unfolding value_of
its_trace_id p o =
    elim p.sampling as (λ s. option_or (last_value (span_pairs Multi (span_with p.trace_id p.span_id s)) trace_id_key) o ≡ Some (id_text 32 p.trace_id)) [ Denied ↦ refl | Accepted ↦ refl | Deferred ↦ refl | Debug ↦ refl ]

its_span_id : (p : B3Span) (o : Option (List ℕ)) → value_of p span_id_key o ≡ Some (id_text 16 p.span_id)
unfolding value_of
its_span_id p o =
    elim p.sampling as (λ s. option_or (last_value (span_pairs Multi (span_with p.trace_id p.span_id s)) span_id_key) o ≡ Some (id_text 16 p.span_id)) [ Denied ↦ refl | Accepted ↦ refl | Deferred ↦ refl | Debug ↦ refl ]

its_flags : (p : B3Span) (o : Option (List ℕ)) → value_of p flags_key o ≡ option_or (last_value (state_pairs p.sampling) flags_key) o
unfolding value_of
its_flags p o =
    elim p.sampling as (λ s. option_or (last_value (span_pairs Multi (span_with p.trace_id p.span_id s)) flags_key) o ≡ option_or (last_value (state_pairs s) flags_key) o) [ Denied ↦ refl | Accepted ↦ refl | Deferred ↦ refl | Debug ↦ refl ]

its_sampled : (p : B3Span) (o : Option (List ℕ)) → value_of p sampled_key o ≡ option_or (last_value (state_pairs p.sampling) sampled_key) o
unfolding value_of
its_sampled p o =
    elim p.sampling as (λ s. option_or (last_value (span_pairs Multi (span_with p.trace_id p.span_id s)) sampled_key) o ≡ option_or (last_value (state_pairs s) sampled_key) o) [ Denied ↦ refl | Accepted ↦ refl | Deferred ↦ refl | Debug ↦ refl ]

multi_read : (context : ContextRecord) (old new : TextMap) → IsContext context → IsValidSpanContext (span_context context) → B3Injects Multi context old new
    → at old b3_key ≡ None → at old flags_key ≡ None → (sampling_of context ≡ Deferred → at old sampled_key ≡ None) → b3_in new ≡ Some (sent context)
unfolding value_of
multi_read context old new i v there nothing no_flags no_sampled =
    let p = sent context in
    let c = i.span_context in
    let by : (k : List ℕ) → at new k ≡ option_or (last_value (b3_pairs Multi context) k) (at old k) → at new k ≡ value_of p k (at old k) =
    λ k e. e ∙ ap (λ (ps : Pairs). option_or (last_value ps k) (at old k)) (pairs_are Multi context v) in
    let single : at new b3_key ≡ None = by b3_key (at_single Multi context old new there) ∙ no_single p (at old b3_key) ∙ nothing in
    let trace_id = by trace_id_key (at_trace_id Multi context old new there) ∙ its_trace_id p (at old trace_id_key) in
    let span_id = by span_id_key (at_span_id Multi context old new there) ∙ its_span_id p (at old span_id_key) in
    let flags = by flags_key (at_flags Multi context old new there) ∙ its_flags p (at old flags_key) ∙ ap (λ (o : Option (List ℕ)). option_or (last_value (state_pairs p.sampling) flags_key) o) no_flags in
    let sampled = by sampled_key (at_sampled Multi context old new there) ∙ its_sampled p (at old sampled_key) in
    ap (λ (o : Option (List ℕ)). option_or (option_and_then single_in o) (multi_in new)) single
    ∙ ap (λ (o : Option (List ℕ)). multi_of o (at new span_id_key) (at new flags_key) (at new sampled_key)) trace_id
    ∙ ap (λ (o : Option (List ℕ)). multi_of (Some (id_text 32 p.trace_id)) o (at new flags_key) (at new sampled_key)) span_id
    ∙ multi_back p.trace_id p.span_id p.sampling (at new flags_key) (at new sampled_key) (at old sampled_key) c.trace_id c.span_id no_sampled flags sampled

-- ---- the laws

extracted_is : (given : ContextRecord) (texts : TextMap) (p : B3Span) → b3_in texts ≡ Some p → b3_extracted given texts ≡ with_b3 given p
extracted_is given texts p e = ap (λ (o : Option B3Span). option_map_or (with_b3 given) o given) e

pub single_comes_back : SingleComesBack
single_comes_back context given old new i v there =
    comes_back_from context given (b3_extracted given new) v (extracted_is given new (sent context) (single_read context old new i v there))

pub multi_comes_back : MultiComesBack
multi_comes_back context given old new i v there nothing no_flags no_sampled =
    comes_back_from context given (b3_extracted given new) v (extracted_is given new (sent context) (multi_read context old new i v there nothing no_flags no_sampled))

pub no_span_is_sent : NoSpanIsSent
no_span_is_sent form context given old new n there =
    let e = no_pairs form context n in
    let by : (k : List ℕ) → at new k ≡ option_or (last_value (b3_pairs form context) k) (at old k) → at new k ≡ at old k =
    λ k h. h ∙ ap (λ (ps : Pairs). option_or (last_value ps k) (at old k)) e in
    ap (λ (o : Option B3Span). option_map_or (with_b3 given) o given)
    (ap (λ (o : Option (List ℕ)). option_or (option_and_then single_in o) (multi_in new)) (by b3_key (at_single form context old new there))
    ∙ ap (option_or (option_and_then single_in (at old b3_key)))
    (ap (λ (o : Option (List ℕ)). multi_of o (at new span_id_key) (at new flags_key) (at new sampled_key)) (by trace_id_key (at_trace_id form context old new there))
    ∙ ap (λ (o : Option (List ℕ)). multi_of (at old trace_id_key) o (at new flags_key) (at new sampled_key)) (by span_id_key (at_span_id form context old new there))
    ∙ ap (λ (o : Option (List ℕ)). multi_of (at old trace_id_key) (at old span_id_key) o (at new sampled_key)) (by flags_key (at_flags form context old new there))
    ∙ ap (multi_of (at old trace_id_key) (at old span_id_key) (at old flags_key)) (by sampled_key (at_sampled form context old new there))))
