-- The texts of a carrier once both propagators injected, and the context that both extract from it.
use Rattle.std.proofs.Common.{◌≡◌, ◌≢◌, ℕ, true, false, List, [], ◌∷◌, ◌++◌, map, refl, sym, ap, subst, ◌∙◌, inl, inr, Option, Some, None, if◌then◌else◌}
use Rattle.std.specs.Prelude.{◌⊎◌, not, ◌==◌, All}
use Rattle.std.specs.Option.{option_map_or, option_and_then, option_or}
use Rattle.std.specs.Str.{bytes_eq}
use Rattle.std.proofs.lemmas.Bool.{cases_Bool, and_parts, cond-true, cond-false, eqb-false, not-true}
use Rattle.std.proofs.lemmas.List.{append-nil}
use Rattle.std.proofs.lemmas.List.Elements.{All-nil, All-head, All-tail, All-weaker}
use Rattle.otel_ids.specs.TraceState.{Pair, IsState, header}
use Rattle.otel_ids.specs.Laws.{cut_value}
use Rattle.otel_ids.specs.SpanContext.{SpanContextRecord, IsValidSpanContext}
use Rattle.otel_ids.proofs.shared.Header.{header_reads}
use Rattle.otel_context.specs.BaggageHeader.{header as baggage_text}
use Rattle.otel_context.specs.BaggageMember.{Member}
use Rattle.otel_context.specs.Context.{ContextRecord, SpanPart, span_context, with_baggage, with_remote_span_context}
use Rattle.opentelemetry.specs.Carrier.{Pairs, TextMap, Sets, at, last_value, lower}
use Rattle.otel_base.proofs.shared.Bytes.{differs}
use Rattle.otel_base.proofs.shared.Options.{option_or-none}
use Rattle.opentelemetry.proofs.shared.Setting.{sets_more, last_value-append}
use Rattle.otel_propagators.specs.TraceParent.{Parent, IsParent, parent_text, parent_of}
use Rattle.otel_propagators.specs.TraceContext.{traceparent_key, tracestate_key, parent, is_valid, trace_pairs, state_of, remote, extracted_by, trace_extracted}
use Rattle.otel_propagators.specs.BaggageReading.{read_baggage}
use Rattle.otel_propagators.specs.BaggagePropagator.{baggage_key, members, baggage_pairs, baggage_extracted}
use Rattle.otel_propagators.proofs.Injecting.{state_read, valid_passes}
use Rattle.otel_propagators.proofs.Parents.{parent_reads, parent_of_reads}
use Rattle.otel_propagators.proofs.PieceReads.{baggage_reads}
use Rattle.otel_propagators.specs.Laws.{IsSpanContext, IsContext, BothExtract, IsOther, ArePairsOfBoth, AreSet, CompositeSets, ComesBackByW3c, received_span, ComesBack, ComesBackInTurn, ComesBackTogether}

-- ---- the texts that are set

abbrev traceparent_pair : SpanContextRecord → List ℕ × List ℕ
traceparent_pair s = (traceparent_key, parent_text (parent s))

abbrev tracestate_pair : SpanContextRecord → List ℕ × List ℕ
tracestate_pair s = (tracestate_key, header s.trace_state)

-- ---- which pairs count at a key

-- no pair of the other members counts
pub no_value : (ps : Pairs) (k : List ℕ) → All (λ (p : List ℕ × List ℕ). lower p.0 ≢ k) ps → last_value ps k ≡ None
no_value [] k h = refl
no_value (p ∷ ps) k h =
    ap (λ o. option_or o (if bytes_eq (lower p.0) k then Some p.1 else None)) (no_value ps k (All-tail (λ (q : List ℕ × List ℕ). lower q.0 ≢ k) p ps h))
    ∙ ap (λ b. if b then Some p.1 else None) (differs (lower p.0) k (All-head (λ (q : List ℕ × List ℕ). lower q.0 ≢ k) p ps h))

pub skip_front : (ps qs : Pairs) (k : List ℕ) → last_value ps k ≡ None → last_value (ps ++ qs) k ≡ last_value qs k
skip_front ps qs k h = last_value-append ps qs k ∙ ap (option_or (last_value qs k)) h ∙ option_or-none (last_value qs k)

pub skip_back : (ps qs : Pairs) (k : List ℕ) → last_value qs k ≡ None → last_value (ps ++ qs) k ≡ last_value ps k
skip_back ps qs k h = last_value-append ps qs k ∙ ap (λ o. option_or o (last_value ps k)) h

-- ---- the texts that a composite of both sets

module _ (context : ContextRecord) (old m : TextMap) where
  abbrev own : SpanContextRecord
  own = span_context context

  set_at : (k : List ℕ) (before one between other after : Pairs) → last_value before k ≡ None → last_value between k ≡ None → last_value after k ≡ None
      → Sets old (before ++ (one ++ (between ++ (other ++ after)))) m → at m k ≡ option_or (option_or (last_value other k) (last_value one k)) (at old k)
  set_at k before one between other after b n a sets =
      sets.at_key k
      ∙ ap (λ o. option_or o (at old k))
      (skip_front before (one ++ (between ++ (other ++ after))) k b
      ∙ last_value-append one (between ++ (other ++ after)) k
      ∙ ap (λ o. option_or o (last_value one k)) (skip_front between (other ++ after) k n ∙ skip_back other after k a))

  traceparent_set : option_or (last_value (trace_pairs context) traceparent_key) (at old traceparent_key) ≡ (if is_valid own then Some (parent_text (parent own)) else at old traceparent_key)
  traceparent_set =
      elim (is_valid own) as (λ v. option_or (last_value (if v then traceparent_pair own ∷ tracestate_pair own ∷ [] else []) traceparent_key) (at old traceparent_key)
      ≡ (if v then Some (parent_text (parent own)) else at old traceparent_key)) [ true ↦ refl | false ↦ refl ]

  tracestate_set : option_or (last_value (trace_pairs context) tracestate_key) (at old tracestate_key) ≡ (if is_valid own then Some (header own.trace_state) else at old tracestate_key)
  tracestate_set =
      elim (is_valid own) as (λ v. option_or (last_value (if v then traceparent_pair own ∷ tracestate_pair own ∷ [] else []) tracestate_key) (at old tracestate_key)
      ≡ (if v then Some (header own.trace_state) else at old tracestate_key)) [ true ↦ refl | false ↦ refl ]

  no_baggage : last_value (trace_pairs context) baggage_key ≡ None
  no_baggage = elim (is_valid own) as (λ v. last_value (if v then traceparent_pair own ∷ tracestate_pair own ∷ [] else []) baggage_key ≡ None) [ true ↦ refl | false ↦ refl ]

  sets_both : (pairs : Pairs) → ArePairsOfBoth context pairs → Sets old pairs m → AreSet context old m
  sets_both pairs are sets = by are.both
    where
      value : (k : List ℕ) → ((ps : Pairs) → All IsOther ps → last_value ps k ≡ None) → at m k ≡ option_or (option_or (last_value are.other k) (last_value are.one k)) (at old k)
      value k none =
          set_at k are.before are.one are.between are.other are.after (none are.before are.others.0) (none are.between are.others.1) (none are.after are.others.2)
          (subst (λ (ps : Pairs). Sets old ps m) are.all sets)

      at_traceparent : at m traceparent_key ≡ option_or (option_or (last_value are.other traceparent_key) (last_value are.one traceparent_key)) (at old traceparent_key)
      at_traceparent = value traceparent_key (λ ps h. no_value ps traceparent_key (All-weaker IsOther (λ (p : List ℕ × List ℕ). lower p.0 ≢ traceparent_key) (λ p t. t.0) ps h))

      at_tracestate : at m tracestate_key ≡ option_or (option_or (last_value are.other tracestate_key) (last_value are.one tracestate_key)) (at old tracestate_key)
      at_tracestate = value tracestate_key (λ ps h. no_value ps tracestate_key (All-weaker IsOther (λ (p : List ℕ × List ℕ). lower p.0 ≢ tracestate_key) (λ p t. t.1) ps h))

      at_baggage : at m baggage_key ≡ option_or (option_or (last_value are.other baggage_key) (last_value are.one baggage_key)) (at old baggage_key)
      at_baggage = value baggage_key (λ ps h. no_value ps baggage_key (All-weaker IsOther (λ (p : List ℕ × List ℕ). lower p.0 ≢ baggage_key) (λ p t. t.2) ps h))

      by : ((are.one ≡ trace_pairs context) × (are.other ≡ baggage_pairs context)) ⊎ ((are.one ≡ baggage_pairs context) × (are.other ≡ trace_pairs context)) → AreSet context old m
      by (inl e) = record {
        traceparent = (rw (e.0, e.1) at at_traceparent) ∙ traceparent_set;
        tracestate = (rw (e.0, e.1) at at_tracestate) ∙ tracestate_set;
        baggage = rw (e.0, e.1) at at_baggage;
      }
      by (inr e) = record {
        traceparent = (rw (e.0, e.1) at at_traceparent) ∙ ap (λ o. option_or o (at old traceparent_key)) (option_or-none (last_value (trace_pairs context) traceparent_key)) ∙ traceparent_set;
        tracestate = (rw (e.0, e.1) at at_tracestate) ∙ ap (λ o. option_or o (at old tracestate_key)) (option_or-none (last_value (trace_pairs context) tracestate_key)) ∙ tracestate_set;
        baggage = (rw (e.0, e.1) at at_baggage) ∙ ap (λ o. option_or (option_or o (Some (baggage_text (members context)))) (at old baggage_key)) no_baggage;
      }

-- ---- validity, as a test and as a proposition

pub invalid_fails : (s : SpanContextRecord) → (IsValidSpanContext s → ⊥) → is_valid s ≡ false
invalid_fails s v = by (cases_Bool (is_valid s))
  where
    by : (is_valid s ≡ true) ⊎ (is_valid s ≡ false) → is_valid s ≡ false
    by (inl t) =
        let a = and_parts (not (s.trace_id == 0)) (not (s.span_id == 0)) t in
        absurd (v (eqb-false s.trace_id 0 (not-true (s.trace_id == 0) a.0), eqb-false s.span_id 0 (not-true (s.span_id == 0) a.1)))
    by (inr f) = f

-- ---- the trace context

valid_parent : (s : SpanContextRecord) → IsSpanContext s → IsValidSpanContext s → IsParent (parent s)
valid_parent s i v = record { trace_fits = i.trace_id; trace_some = v.0; span_fits = i.span_id; span_some = v.1; flags_fit = i.trace_flags }

parent_back : (s : SpanContextRecord) → IsSpanContext s → IsValidSpanContext s → parent_of (parent_text (parent s)) ≡ Some (parent s)
parent_back s i v = parent_of_reads (parent_text (parent s)) (parent s) (parent_reads (parent s) (valid_parent s i v))

state_back : (state : List Pair) → IsState state → state_of (Some (header state)) ≡ map cut_value state
state_back state i = sym (state_read (header state) (map cut_value state) (header_reads state i))

trace_back : (context : ContextRecord) (old m : TextMap) (a : ContextRecord) → IsContext context → AreSet context old m → IsValidSpanContext (span_context context)
    → (trace_extracted a m).span ≡ Some (received_span (span_context context))
trace_back context old m a i h v =
    let s = span_context context in
    let t = valid_passes s v in
    ap (λ (o : Option (List ℕ)). (extracted_by a o (at m tracestate_key)).span) (h.traceparent ∙ cond-true (is_valid s) (Some (parent_text (parent s))) (at old traceparent_key) t)
    ∙ ap (λ (o : Option (List ℕ)). (extracted_by a (Some (parent_text (parent s))) o).span) (h.tracestate ∙ cond-true (is_valid s) (Some (header s.trace_state)) (at old tracestate_key) t)
    ∙ ap (λ (o : Option Parent). (option_map_or (λ (p : Parent). with_remote_span_context a (remote p (state_of (Some (header s.trace_state))))) o a).span) (parent_back s i.span_context v)
    ∙ ap (λ (ps : List Pair). (with_remote_span_context a (remote (parent s) ps)).span) (state_back s.trace_state i.span_context.trace_state)

trace_absent : (m : TextMap) (a : ContextRecord) → at m traceparent_key ≡ None → trace_extracted a m ≡ a
trace_absent m a e = ap (λ (o : Option (List ℕ)). extracted_by a o (at m tracestate_key)) e

-- ---- the baggage

baggage_back : (context : ContextRecord) (old m : TextMap) (a : ContextRecord) → AreSet context old m → baggage_extracted a m ≡ with_baggage a (read_baggage (baggage_text (members context)))
baggage_back context old m a h = ap (λ (o : Option (List ℕ)). option_map_or (λ text. with_baggage a (read_baggage text)) o a) h.baggage

-- ---- both

-- the given context with another span and another baggage
abbrev with_both : ContextRecord → Option SpanPart → Option (List Member) → ContextRecord
with_both given span baggage = record given { span = span; baggage = baggage }

same_but_span : (a : ContextRecord) (state : List Pair) (o : Option Parent)
    → let b = option_map_or (λ (p : Parent). with_remote_span_context a (remote p state)) o a in b ≡ record a { span = b.span }
same_but_span a state None = refl
same_but_span a state (Some p) = refl

-- a trace context propagator changes only the span
span_alone : (m : TextMap) (a : ContextRecord) → trace_extracted a m ≡ record a { span = (trace_extracted a m).span }
span_alone m a = same_but_span a (state_of (at m tracestate_key)) (option_and_then parent_of (at m traceparent_key))

module _ (context given : ContextRecord) (old m : TextMap) (i : IsContext context) (h : AreSet context old m) where
  abbrev read : List Member
  read = read_baggage (baggage_text (members context))

  no_traceparent : (IsValidSpanContext (span_context context) → ⊥) → at old traceparent_key ≡ None → at m traceparent_key ≡ None
  no_traceparent n o =
      let s = span_context context in
      h.traceparent ∙ cond-false (is_valid s) (Some (parent_text (parent s))) (at old traceparent_key) (invalid_fails s n) ∙ o

  baggage_last : (back : ContextRecord) → back ≡ baggage_extracted (trace_extracted given m) m → ComesBack context old given back
  baggage_last back e =
      let between = trace_extracted given m in
      let is : back ≡ with_baggage between read = e ∙ baggage_back context old m between h in
      let all : with_baggage between read ≡ with_both given between.span (Some read) = ap (λ (x : ContextRecord). with_baggage x read) (span_alone m given) in
      record {
        span = λ v. ap (λ (x : ContextRecord). x.span) is ∙ trace_back context old m given i h v;
        no_span = λ n o. ap (λ (x : ContextRecord). x.span) is ∙ ap (λ (x : ContextRecord). x.span) (trace_absent m given (no_traceparent n o));
        members = λ n. ap members is ∙ baggage_reads (members context) i.members n;
        nothing_else = subst (λ (x : ContextRecord). x ≡ with_both given x.span x.baggage) (sym is) all;
      }

  trace_last : (back : ContextRecord) → back ≡ trace_extracted (baggage_extracted given m) m → ComesBack context old given back
  trace_last back e =
      let between = with_baggage given read in
      let is : back ≡ trace_extracted between m = e ∙ ap (λ (x : ContextRecord). trace_extracted x m) (baggage_back context old m given h) in
      let last = trace_extracted between m in
      let alone : last ≡ with_both given last.span (Some read) = span_alone m between in
      let held : last.baggage ≡ Some read = ap (λ (x : ContextRecord). x.baggage) alone in
      let all : last ≡ with_both given last.span last.baggage = alone ∙ ap (with_both given last.span) (sym held) in
      record {
        span = λ v. ap (λ (x : ContextRecord). x.span) is ∙ trace_back context old m between i h v;
        no_span = λ n o. ap (λ (x : ContextRecord). x.span) is ∙ ap (λ (x : ContextRecord). x.span) (trace_absent m between (no_traceparent n o));
        members = λ n. ap members is ∙ ap members alone ∙ baggage_reads (members context) i.members n;
        nothing_else = subst (λ (x : ContextRecord). x ≡ with_both given x.span x.baggage) (sym is) all;
      }

  comes_back : (back : ContextRecord) → BothExtract given m back → ComesBack context old given back
  comes_back back (inl e) = baggage_last back e
  comes_back back (inr e) = trace_last back e

pub composite_sets : CompositeSets
composite_sets context pairs old new = sets_both context old new pairs

pub together : ComesBackTogether
together context given back old new i set = comes_back context given old new i set back

no_others : All IsOther []
no_others = All-nil IsOther

-- the trace context propagator sets its pairs, and then the one of the baggage
trace_first : (context : ContextRecord) (old new : TextMap) → Sets old (trace_pairs context ++ baggage_pairs context) new → AreSet context old new
trace_first context old new =
    composite_sets context (trace_pairs context ++ baggage_pairs context) old new
    (record { before = []; one = trace_pairs context; between = []; other = baggage_pairs context; after = []; all = refl; both = inl (refl, refl); others = (no_others, no_others, no_others) })

pub by_w3c : ComesBackByW3c
by_w3c context given back old new i s e = together context given back old new i (trace_first context old new s) (inl e)

pub in_turn : ComesBackInTurn
in_turn context given back old new i there = together context given back old new i (by there.sets)
  where
    by : (Sets old (trace_pairs context) there.between × Sets there.between (baggage_pairs context) new) ⊎ (Sets old (baggage_pairs context) there.between × Sets there.between (trace_pairs context) new)
        → AreSet context old new
    by (inl s) =
        trace_first context old new
        (sets_more old there.between new (trace_pairs context) (baggage_pairs context) s.0 s.1)
    by (inr s) =
        composite_sets context (baggage_pairs context ++ trace_pairs context) old new
        (record {
          before = [];
          one = baggage_pairs context;
          between = [];
          other = trace_pairs context;
          after = [];
          all = ap (λ (ps : Pairs). baggage_pairs context ++ ps) (sym (append-nil (trace_pairs context)));
          both = inr (refl, refl);
          others = (no_others, no_others, no_others);
        })
        (sets_more old there.between new (baggage_pairs context) (trace_pairs context) s.0 s.1)
