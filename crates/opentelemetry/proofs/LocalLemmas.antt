-- Facts on the open spans of a value that traces, and on the steps of a loop that ends them.
use Rattle.std.proofs.Common.{◌≡◌, ◌∙◌, ℕ, ◌+◌, ◌-◌, ◌<◌, ◌≤◌, Bool, true, false, cond, List, [], ◌∷◌, ◌++◌, length, reverse, Option, Some, None, Result, Ok, Err, inl, inr, refl, sym, ap, subst, arith}
use Rattle.std.specs.Cmp.{nat_cmp_total}
use Rattle.std.specs.FinMap as map
use Rattle.std.specs.Option.{option_map_or}
use Rattle.std.specs.Ordering.{nat_cmp, eq_by_cmp}
use Rattle.std.specs.Prelude.{slice_get, ◌==◌, ◌≢◌, IfErr, IfOk, IsErrOf, MatchBool, is_err, is_some}
use Rattle.std.proofs.Math.Seq.{get_or-append_seam}
use Rattle.std.proofs.lemmas.Bool.{cases_Bool, eq-eqb, eqb-true, false≢true, ne_eqb}
use Rattle.std.proofs.lemmas.List.{append_assoc, length-append, length-reverse, reverse-append}
use Rattle.std.proofs.lemmas.Option.{slice_get_read}
use Rattle.otel_context.specs.Context.{ContextRecord, with_span}
use Rattle.otel_context.specs.Spans as table
use Rattle.otel_context.specs.Spans.{HasSameSpans, SpansState}
use Rattle.otel_context.specs.Stack as stack
use Rattle.otel_context.specs.Stack.{Live}
use Rattle.otel_context.proofs.shared.SpansLemmas.{HasSameSpans-take_back, get-insert}
use Rattle.otel_ids.specs.SpanContext.{SpanContextRecord}
use Rattle.opentelemetry.specs.OpenSpans.{Begins, Builds, OpenState}
use Rattle.opentelemetry.specs.SpanBuilder.{BuilderRecord}
use Rattle.opentelemetry.specs.SpanSource.{SourceCalls}
use Rattle.opentelemetry.specs.Tracing.{EndsEach, EndsNewest, EndsOne, EntersSpan, FallBelow, Refuses, StartsAlone, StartsNone, StartsSpan, TracingState, TriesToEnter, TriesToStart, ending, is_inside, is_inside_at, is_open, number_of, starting_at, without}
use Rattle.opentelemetry.specs.declared.trace.tracing.Entered.{Entered}
use Rattle.opentelemetry.specs.declared.trace.tracing.NotEntered.{NotEntered}
use Rattle.opentelemetry.specs.declared.trace.tracing.NotEntered.TheVariants.{NumbersUsedUp, PositionsUsedUp}
use Rattle.opentelemetry.specs.declared.trace.tracing.open_spans.OpenSpan.{OpenSpan}

-- ---- a place in a list

module _ {A : Type 0} where
  seam : (xs : List A) (y : A) (ys : List A) → slice_get (xs ++ y ∷ ys) (length xs) ≡ Some y
  seam xs y ys =
      slice_get_read (xs ++ y ∷ ys) _ (length xs) y refl (omega (arith, length-append xs (y ∷ ys))) (sym (get_or-append_seam xs y ys y))

  reverse-seam : (kept : List A) (e : A) (older : List A) → reverse (kept ++ e ∷ older) ≡ reverse older ++ (e ∷ reverse kept)
  reverse-seam kept e older =
      reverse-append kept (e ∷ older) ∙ ap (λ (l : List A). l ++ reverse kept) (reverse-append (e ∷ []) older)
      ∙ append_assoc (reverse older) (e ∷ []) (reverse kept)

  -- the one with so many older ones is at that index, the oldest first
  pub place-at : (kept : List A) (e : A) (older : List A) → slice_get (reverse (kept ++ e ∷ older)) (length older) ≡ Some e
  place-at kept e older =
      ap (λ (l : List A). slice_get l (length older)) (reverse-seam kept e older)
      ∙ ap (λ (n : ℕ). slice_get (reverse older ++ (e ∷ reverse kept)) n) (sym (length-reverse older))
      ∙ seam (reverse older) e (reverse kept)

-- ---- numbers that fall

above : (n m : ℕ) → n < m → (m == n) ≡ false
above n m h = ne_eqb m n (λ e. absurd (omega (arith, e)))

below : (n m : ℕ) → n < m → (n == m) ≡ false
below n m h = ne_eqb n m (λ e. absurd (omega (arith, e)))

pub fall-weaker : (a b : ℕ) (l : List OpenSpan) → a ≤ b → FallBelow a l → FallBelow b l
fall-weaker a b [] h f = tt
fall-weaker a b (e ∷ older) h f = (omega (arith, f.0), f.1)

number-below : (b : ℕ) (kept : List OpenSpan) (e : OpenSpan) (older : List OpenSpan) → FallBelow b (kept ++ e ∷ older) → e.number < b
number-below b [] e older f = f.0
number-below b (x ∷ kept) e older f = omega (arith, f.0, number-below x.number kept e older f.1)

older-fall : (b : ℕ) (kept : List OpenSpan) (e : OpenSpan) (older : List OpenSpan) → FallBelow b (kept ++ e ∷ older) → FallBelow e.number older
older-fall b [] e older f = f.1
older-fall b (x ∷ kept) e older f = older-fall x.number kept e older f.1

-- without one of them the numbers fall still
fall-without : (b : ℕ) (kept : List OpenSpan) (e : OpenSpan) (older : List OpenSpan) → FallBelow b (kept ++ e ∷ older) → FallBelow b (kept ++ older)
fall-without b [] e older f = fall-weaker e.number b older (omega (arith, f.0)) f.1
fall-without b (x ∷ kept) e older f = (f.0, fall-without x.number kept e older f.1)

-- no span has the bound as its number
pub not-open : (b : ℕ) (l : List OpenSpan) (number : ℕ) → b ≤ number → FallBelow b l → is_open number l ≡ false
not-open b [] number h f = refl
not-open b (e ∷ older) number h f =
    rw (below e.number number (omega (arith, f.0))) (not-open e.number older number (omega (arith, f.0)) f.1)

without-none : (b : ℕ) (l : List OpenSpan) (number : ℕ) → b ≤ number → FallBelow b l → without number l ≡ l
without-none b [] number h f = refl
without-none b (e ∷ older) number h f =
    rw (below e.number number (omega (arith, f.0))) (ap (λ (l : List OpenSpan). e ∷ l) (without-none e.number older number (omega (arith, f.0)) f.1))

-- only one span has the number
pub without-one : (b : ℕ) (kept : List OpenSpan) (e : OpenSpan) (older : List OpenSpan) → FallBelow b (kept ++ e ∷ older)
    → without e.number (kept ++ e ∷ older) ≡ kept ++ older
without-one b [] e older f = rw (eq-eqb e.number e.number refl) (without-none e.number older e.number (omega arith) f.1)
without-one b (x ∷ kept) e older f =
    rw (above e.number x.number (number-below x.number kept e older f.1)) (ap (λ (l : List OpenSpan). x ∷ l) (without-one x.number kept e older f.1))

-- ---- inside a span

-- newer spans don't matter
inside-newer : (outer b : ℕ) (kept : List OpenSpan) (e : OpenSpan) (older : List OpenSpan) → FallBelow b (kept ++ e ∷ older)
    → is_inside outer (kept ++ e ∷ older) e.number ≡ is_inside outer (e ∷ older) e.number
inside-newer outer b [] e older f = refl
inside-newer outer b (x ∷ kept) e older f =
    rw (above e.number x.number (number-below x.number kept e older f.1)) (inside-newer outer x.number kept e older f.1)

pub inside-at : (outer b : ℕ) (kept : List OpenSpan) (e : OpenSpan) (older : List OpenSpan) → FallBelow b (kept ++ e ∷ older)
    → is_inside_at outer (length older) (kept ++ e ∷ older) ≡ is_inside outer (e ∷ older) e.number
inside-at outer b kept e older f =
    ap (λ (o : Option OpenSpan). option_map_or (λ x. is_inside outer (kept ++ e ∷ older) x.number) o false) (place-at kept e older)
    ∙ inside-newer outer b kept e older f

-- a span is inside itself
inside-itself : (outer : ℕ) (e : OpenSpan) (older : List OpenSpan) → e.number ≡ outer → is_inside outer (e ∷ older) e.number ≡ true
inside-itself outer e older h = rw (eq-eqb e.number e.number refl, eq-eqb e.number outer h) refl

option-none : (f : ℕ → Bool) (o : Option ℕ) → ((n : ℕ) → f n ≡ false) → option_map_or f o false ≡ false
option-none f None h = refl
option-none f (Some n) h = h n

-- an older span is inside no newer one
inside-none : (outer b : ℕ) (l : List OpenSpan) (number : ℕ) → b ≤ outer → FallBelow b l → is_inside outer l number ≡ false
inside-none outer b [] number h f = refl
inside-none outer b (e ∷ older) number h f = elim (cases_Bool (e.number == number)) [
  | inl t ↦
      let same : e.number ≡ number = eqb-true e.number number t in
      rw (t, below number outer (omega (arith, same, f.0)))
      (option-none (λ n. is_inside outer older n) e.within (λ n. inside-none outer e.number older n (omega (arith, f.0)) f.1))
  | inr u ↦ rw u (inside-none outer e.number older number (omega (arith, f.0)) f.1)
]

ending-none : (outer b : ℕ) (l : List OpenSpan) → b ≤ outer → FallBelow b l → ending outer l ≡ []
ending-none outer b [] h f = refl
ending-none outer b (e ∷ older) h f =
    rw (inside-none outer b (e ∷ older) e.number h f) (ending-none outer e.number older (omega (arith, f.0)) f.1)

-- ---- a span that begins

module _ {S : Type 0} where
  folded : (b : Bool) (o v w : Option S) → cond b v (cond b w o) ≡ cond b v o
  folded true o v w = refl
  folded false o v w = refl

  -- a span that was just inserted is replaced by another
  pub replace-inserted : (t : SpansState S) (built span : S) → table.replace (table.insert t built) t.next_number span ≡ table.insert t span
  replace-inserted t built span =
      let m = t.spans in let k = t.next_number in
      let same : map.insert (map.insert m k built) k span ≡ map.insert m k span =
      map.same_map nat_cmp_total map.nat_cmp-IsAntisymmetric _ _ (λ q.
      map.get-insert nat_cmp_total (map.insert m k built) k span q
      ∙ ap (cond (eq_by_cmp nat_cmp q k) (Some span)) (map.get-insert nat_cmp_total m k built q)
      ∙ folded (eq_by_cmp nat_cmp q k) (map.get m q) (Some span) (Some built)
      ∙ sym (map.get-insert nat_cmp_total m k span q)) in
      ap (λ (s : map.FinMap nat_cmp S). let r : SpansState S = record { spans = s; next_number = t.next_number + 1 } in r) same

-- ---- a span that starts

module _ {B S : Type 0} (calls : SourceCalls B S) (context_of : S → SpanContextRecord) where
  -- the state of these parts
  abbrev pub tracing_of : OpenState B S → Live → ℕ → TracingState B S
  tracing_of o contexts unrecorded = record {
    source = o.source;
    contexts = contexts;
    spans = o.spans;
    places = o.places;
    unrecorded = unrecorded;
  }

  -- the span that was built is in the table
  pub found-built : (builder : BuilderRecord) (parent context : ContextRecord) (r b : OpenState B S) (number : ℕ)
      → (m : Builds calls context_of builder parent context r b) → number ≡ r.spans.next_number → table.get b.spans number ≡ Some m.built
  found-built builder parent context r b number m n =
      (λ i. table.get (ap (λ (x : OpenState B S). x.spans) m.state i) (n i)) ∙ get-insert r.spans m.built

  -- no open span has its number
  pub not-open-built : (builder : BuilderRecord) (parent context : ContextRecord) (r b : OpenState B S) (number : ℕ)
      → Builds calls context_of builder parent context r b → number ≡ r.spans.next_number → FallBelow r.spans.next_number r.places
      → is_open number b.places ≡ false
  not-open-built builder parent context r b number m n f =
      ap (λ (l : List OpenSpan). is_open number l) (ap (λ (x : OpenState B S). x.places) m.state)
      ∙ not-open r.spans.next_number r.places number (omega (arith, n)) f

  pub starts-span : (builder : BuilderRecord) (parent context : ContextRecord) (o r b n : OpenState B S) (place : OpenSpan)
      (contexts after : Live) (u : ℕ) (old : TracingState B S) → tracing_of o contexts u ≡ old → r ≡ record o { capacity = r.capacity }
      → Builds calls context_of builder parent context r b → place.number ≡ r.spans.next_number → Begins calls parent place b n
      → StartsSpan calls context_of builder parent old (tracing_of n after u) context
  starts-span builder parent context o r b n place contexts after u old view e m p g =
      let source : r.source ≡ o.source = ap (λ (x : OpenState B S). x.source) e in
      let spans : r.spans ≡ o.spans = ap (λ (x : OpenState B S). x.spans) e in
      let found : table.get b.spans place.number ≡ Some m.built = found-built builder parent context r b place.number m p in
      let built : g.built ≡ m.built = cc (found, g.found) in
      let began : calls.begins o.source parent m.built n.source g.span =
      subst (λ (s : B). calls.begins s parent m.built n.source g.span) (ap (λ (x : OpenState B S). x.source) m.state ∙ source)
      (subst (λ (s : S). calls.begins b.source parent s n.source g.span) built g.begins) in
      let replaced : n.spans ≡ table.insert o.spans g.span =
      ap (λ (x : OpenState B S). x.spans) g.same
      ∙ (λ i. table.replace (ap (λ (x : OpenState B S). x.spans) m.state i) (p i) g.span)
      ∙ replace-inserted r.spans m.built g.span ∙ ap (λ (s : SpansState S). table.insert s g.span) spans in
      let starts : StartsSpan calls context_of builder parent (tracing_of o contexts u) (tracing_of n after u) context = record {
        timestamp = m.timestamp;
        shown = subst (λ (s : B). calls.may_show s m.timestamp) source m.shown;
        built = m.built;
        may_build = subst (λ (s : B). calls.may_build s (starting_at m.timestamp builder) parent m.built) source m.may_build;
        span = g.span;
        begins = began;
        is_active = m.is_active ∙ ap (λ (s : SpansState S). with_span parent (context_of m.built) s.next_number) spans;
        spans = replaced;
        unrecorded = refl;
      } in
      subst (λ (t : TracingState B S). StartsSpan calls context_of builder parent t (tracing_of n after u) context) view starts

  places-begun : (builder : BuilderRecord) (parent context : ContextRecord) (o r b n : OpenState B S) (place : OpenSpan)
      → r ≡ record o { capacity = r.capacity } → Builds calls context_of builder parent context r b → Begins calls parent place b n
      → n.places ≡ place ∷ o.places
  places-begun builder parent context o r b n place e m g =
      ap (λ (x : OpenState B S). x.places) g.same
      ∙ ap (λ (l : List OpenSpan). place ∷ l) (ap (λ (x : OpenState B S). x.places) m.state ∙ ap (λ (x : OpenState B S). x.places) e)

  pub starts-alone : (builder : BuilderRecord) (parent context : ContextRecord) (o r b n : OpenState B S) (number : ℕ)
      (contexts : Live) (u : ℕ) (old : TracingState B S) → tracing_of o contexts u ≡ old → r ≡ record o { capacity = r.capacity }
      → Builds calls context_of builder parent context r b → number ≡ r.spans.next_number
      → Begins calls parent (record { number = number; within = None; position = None }) b n
      → StartsAlone calls context_of builder parent old (tracing_of n contexts u) context
  starts-alone builder parent context o r b n number contexts u old view e m p g =
      let place : OpenSpan = record { number = number; within = None; position = None } in
      let spans : r.spans ≡ o.spans = ap (λ (x : OpenState B S). x.spans) e in
      let here : n.places ≡ place ∷ o.places = places-begun builder parent context o r b n place e m g in
      let given : number ≡ o.spans.next_number = p ∙ ap (λ (s : SpansState S). s.next_number) spans in
      let starts : StartsAlone calls context_of builder parent (tracing_of o contexts u) (tracing_of n contexts u) context = record {
        starts = starts-span builder parent context o r b n place contexts contexts u (tracing_of o contexts u) refl e m p g;
        contexts = refl;
        places = here ∙ ap (λ (k : ℕ). let x : OpenSpan = record { number = k; within = None; position = None } in x ∷ o.places) given;
      } in
      subst (λ (t : TracingState B S). StartsAlone calls context_of builder parent t (tracing_of n contexts u) context) view starts

  pub enters-span : (builder : BuilderRecord) (parent context : ContextRecord) (o r b n : OpenState B S) (number : ℕ) (within : Option ℕ)
      (position : ℕ) (contexts after : Live) (u : ℕ) (old : TracingState B S) → tracing_of o contexts u ≡ old
      → r ≡ record o { capacity = r.capacity } → parent ≡ stack.current contexts
      → Builds calls context_of builder parent context r b → number ≡ r.spans.next_number
      → within ≡ number_of context_of r.spans parent → position ≡ stack.newest_position contexts + 1
      → after ≡ stack.attach context contexts
      → Begins calls parent (record { number = number; within = within; position = Some position }) b n
      → EntersSpan calls context_of builder old (tracing_of n after u) (record { number = number })
  enters-span builder parent context o r b n number within position contexts after u old view e is m p w at attached g =
      let place : OpenSpan = record { number = number; within = within; position = Some position } in
      let spans : r.spans ≡ o.spans = ap (λ (x : OpenState B S). x.spans) e in
      let here : n.places ≡ place ∷ o.places = places-begun builder parent context o r b n place e m g in
      let given : number ≡ o.spans.next_number = p ∙ ap (λ (s : SpansState S). s.next_number) spans in
      let inside : within ≡ number_of context_of o.spans (stack.current contexts) = w ∙ (λ i. number_of context_of (spans i) (is i)) in
      let starts : StartsSpan calls context_of builder parent (tracing_of o contexts u) (tracing_of n after u) context =
      starts-span builder parent context o r b n place contexts after u (tracing_of o contexts u) refl e m p g in
      let enters : EntersSpan calls context_of builder (tracing_of o contexts u) (tracing_of n after u) (record { number = number }) = record {
        context = context;
        starts = subst (λ (x : ContextRecord). StartsSpan calls context_of builder x (tracing_of o contexts u) (tracing_of n after u) context) is starts;
        is_next = given;
        contexts = attached;
        places = here ∙ (λ i. let x : OpenSpan = record { number = given i; within = inside i; position = Some (at i) } in x ∷ o.places);
      } in
      subst (λ (t : TracingState B S). EntersSpan calls context_of builder t (tracing_of n after u) (record { number = number })) view enters

  fresh : (t : SpansState S) → table.IsNumbered t → (o : Option S) → table.get t t.next_number ≡ o → table.get t t.next_number ≡ None
  fresh t h None e = e
  fresh t h (Some s) e = absurd (omega (arith, h t.next_number (ap is_some e)))

  -- the span that was built is taken out again
  pub starts-none : (builder : BuilderRecord) (parent context : ContextRecord) (o r b n : OpenState B S) (number : ℕ)
      (contexts after : Live) (u : ℕ) (old : TracingState B S) → tracing_of o contexts u ≡ old → r ≡ record o { capacity = r.capacity }
      → Builds calls context_of builder parent context r b → number ≡ r.spans.next_number → table.IsNumbered r.spans
      → n ≡ record b { spans = table.take b.spans number } → after ≡ contexts → StartsNone calls old (tracing_of n after u)
  starts-none builder parent context o r b n number contexts after u old view e m p numbered taken a =
      let source : n.source ≡ o.source = ap (λ (x : OpenState B S). x.source) taken ∙ ap (λ (x : OpenState B S). x.source) m.state
      ∙ ap (λ (x : OpenState B S). x.source) e in
      let places : n.places ≡ o.places = ap (λ (x : OpenState B S). x.places) taken ∙ ap (λ (x : OpenState B S). x.places) m.state
      ∙ ap (λ (x : OpenState B S). x.places) e in
      let spans : r.spans ≡ o.spans = ap (λ (x : OpenState B S). x.spans) e in
      let left : table.take (table.insert r.spans m.built) r.spans.next_number ≡ n.spans =
      sym (ap (λ (x : OpenState B S). x.spans) taken ∙ (λ i. table.take (ap (λ (x : OpenState B S). x.spans) m.state i) (p i))) in
      let back : HasSameSpans o.spans n.spans =
      subst (λ (s : SpansState S). HasSameSpans s n.spans) spans
      (subst (λ (s : SpansState S). HasSameSpans r.spans s) left
      (HasSameSpans-take_back r.spans m.built (fresh r.spans numbered (table.get r.spans r.spans.next_number) refl))) in
      let none : StartsNone calls (tracing_of o contexts u) (tracing_of n after u) = record {
        same = λ i. record { source = source i; contexts = a i; spans = n.spans; places = places i; unrecorded = u };
        spans = back;
      } in
      subst (λ (t : TracingState B S). StartsNone calls t (tracing_of n after u)) view none

  -- ---- a source that starts spans

  pub tries-to_enter : (builder : BuilderRecord) (result : Result Entered NotEntered) (old new : TracingState B S)
      → calls.is_disabled old.source ≡ false → IfOk result (EntersSpan calls context_of builder old new) → Refuses calls result old new
      → (stack.newest_position old.contexts ≡ stack.last_position → IsErrOf result PositionsUsedUp)
      → (stack.newest_position old.contexts ≢ stack.last_position → old.spans.next_number ≡ table.used_up → IsErrOf result NumbersUsedUp)
      → TriesToEnter calls context_of builder result old new
  tries-to_enter builder (Ok entered) old new on h refused full used = record {
    entered = record {
      span = subst (λ (x : Bool). MatchBool x (new ≡ old) (EntersSpan calls context_of builder old new entered)) (sym on) h;
      disabled = λ off. absurd (false≢true (sym on ∙ off));
    };
    refused = refused;
    full = λ _. full;
    used_up = λ _. used;
  }
  tries-to_enter builder (Err error) old new on h refused full used = record {
    entered = tt;
    refused = refused;
    full = λ _. full;
    used_up = λ _. used;
  }

  pub tries-to_start : (builder : BuilderRecord) (parent : ContextRecord) (result : Result ContextRecord NotEntered) (old new : TracingState B S)
      → calls.is_disabled old.source ≡ false → IfOk result (StartsAlone calls context_of builder parent old new) → Refuses calls result old new
      → IfErr result (λ error. error ≢ PositionsUsedUp)
      → (old.spans.next_number ≡ table.used_up → IsErrOf result NumbersUsedUp)
      → TriesToStart calls context_of builder parent result old new
  tries-to_start builder parent (Ok context) old new on h refused left used = record {
    started = record {
      span = subst (λ (x : Bool). MatchBool x (new ≡ old) (StartsAlone calls context_of builder parent old new context)) (sym on) h;
      disabled = λ off. absurd (false≢true (sym on ∙ off));
    };
    none = refused.none;
    numbers = refused.numbers;
    positions = left;
    used_up = λ _ last. ap is_err (used last);
  }
  tries-to_start builder parent (Err error) old new on h refused left used = record {
    started = tt;
    none = refused.none;
    numbers = refused.numbers;
    positions = left;
    used_up = λ _ last. ap is_err (used last);
  }

-- ---- spans that end

module _ {B S : Type 0} (calls : SourceCalls B S) (after_end : S → ℕ → S) where
  -- Of the open spans, these older ones were not yet looked at. To end those of them that end with
  -- `outer` is to end all that do.
  pub record Rest (timestamp outer index : ℕ) (initial current : TracingState B S) : Type 0 where
    pub kept : List OpenSpan
    pub older : List OpenSpan
    pub places : current.places ≡ kept ++ older
    pub is_index : length older ≡ index
    pub bound : ℕ
    pub fall : FallBelow bound (kept ++ older)
    pub finishes : (new : TracingState B S) → EndsEach calls after_end timestamp (ending outer older) current new
        → EndsEach calls after_end timestamp (ending outer initial.places) initial new

  pub rest-at_start : (timestamp outer index bound : ℕ) (t : TracingState B S) → FallBelow bound t.places → index ≡ length t.places
      → Rest timestamp outer index t t
  rest-at_start timestamp outer index bound t f e = record {
    kept = [];
    older = t.places;
    places = refl;
    is_index = sym e;
    bound = bound;
    fall = f;
    finishes = λ new h. h;
  }

  pub rest-within : (timestamp outer index : ℕ) (initial current : TracingState B S) → Rest timestamp outer index initial current → 0 < index
      → index - 1 < length current.places
  rest-within timestamp outer index initial current r h =
      omega (arith, ap (λ (l : List OpenSpan). length l) r.places, length-append r.kept r.older, r.is_index)

  none-left : (timestamp outer : ℕ) (older : List OpenSpan) (current : TracingState B S) → length older ≡ 0
      → EndsEach calls after_end timestamp (ending outer older) current current
  none-left timestamp outer [] current h = refl
  none-left timestamp outer (e ∷ older) current h = absurd (omega (arith, h))

  pub rest-done : (timestamp outer index : ℕ) (initial current : TracingState B S) → Rest timestamp outer index initial current → index ≡ 0
      → EndsEach calls after_end timestamp (ending outer initial.places) initial current
  rest-done timestamp outer index initial current r z =
      r.finishes current (none-left timestamp outer r.older current (r.is_index ∙ z))

  passed-at : (timestamp outer index : ℕ) (initial current : TracingState B S) (kept older : List OpenSpan) → current.places ≡ kept ++ older
      → length older ≡ index → (b : ℕ) → FallBelow b (kept ++ older)
      → ((new : TracingState B S) → EndsEach calls after_end timestamp (ending outer older) current new
      → EndsEach calls after_end timestamp (ending outer initial.places) initial new)
      → 0 < index → is_inside_at outer (index - 1) current.places ≡ false → Rest timestamp outer (index - 1) initial current
  passed-at timestamp outer index initial current kept [] p l b f fin pos is_out = absurd (omega (arith, l))
  passed-at timestamp outer index initial current kept (e ∷ older) p l b f fin pos is_out =
      let i : index - 1 ≡ length older = omega (arith, l) in
      let outside : is_inside outer (e ∷ older) e.number ≡ false =
      sym (inside-at outer b kept e older f) ∙ sym (λ j. is_inside_at outer (i j) (p j)) ∙ is_out in
      let same : kept ++ e ∷ older ≡ (kept ++ e ∷ []) ++ older = sym (append_assoc kept (e ∷ []) older) in
      record {
        kept = kept ++ e ∷ [];
        older = older;
        places = p ∙ same;
        is_index = sym i;
        bound = b;
        fall = subst (λ (l : List OpenSpan). FallBelow b l) same f;
        finishes = λ new h. fin new
            (subst (λ (x : Bool). EndsEach calls after_end timestamp (cond x (e ∷ ending outer older) (ending outer older)) current new)
            (sym outside) h);
      }

  -- the newest of the rest doesn't end
  pub rest-passed : (timestamp outer index : ℕ) (initial current : TracingState B S) → Rest timestamp outer index initial current → 0 < index
      → is_inside_at outer (index - 1) current.places ≡ false → Rest timestamp outer (index - 1) initial current
  rest-passed timestamp outer index initial current r pos is_out =
      passed-at timestamp outer index initial current r.kept r.older r.places r.is_index r.bound r.fall r.finishes pos is_out

  -- the places after the span at the index ended
  places-after : (timestamp b : ℕ) (current next : TracingState B S) (kept : List OpenSpan) (e : OpenSpan) (older : List OpenSpan)
      → current.places ≡ kept ++ e ∷ older → FallBelow b (kept ++ e ∷ older) → EndsOne calls after_end timestamp e current next
      → next.places ≡ kept ++ older
  places-after timestamp b current next kept e older p f o =
      ap (λ (t : TracingState B S). t.places) o.same ∙ ap (λ (l : List OpenSpan). without e.number l) p ∙ without-one b kept e older f

  same-place : (index : ℕ) (current : TracingState B S) (kept : List OpenSpan) (e : OpenSpan) (older : List OpenSpan) (place : OpenSpan)
      → current.places ≡ kept ++ e ∷ older → index - 1 ≡ length older → slice_get (reverse current.places) (index - 1) ≡ Some place → place ≡ e
  same-place index current kept e older place p i at =
      let there : slice_get (reverse current.places) (index - 1) ≡ Some e =
      (λ j. slice_get (reverse (p j)) (i j)) ∙ place-at kept e older in
      cc

  ended-at : (timestamp outer index : ℕ) (initial current next : TracingState B S) (kept older : List OpenSpan) → current.places ≡ kept ++ older
      → length older ≡ index → (b : ℕ) → FallBelow b (kept ++ older)
      → ((new : TracingState B S) → EndsEach calls after_end timestamp (ending outer older) current new
      → EndsEach calls after_end timestamp (ending outer initial.places) initial new)
      → 0 < index → is_inside_at outer (index - 1) current.places ≡ true → (place : OpenSpan)
      → slice_get (reverse current.places) (index - 1) ≡ Some place → EndsOne calls after_end timestamp place current next
      → Rest timestamp outer (index - 1) initial next
  ended-at timestamp outer index initial current next kept [] p l b f fin pos is_in place at o = absurd (omega (arith, l))
  ended-at timestamp outer index initial current next kept (e ∷ older) p l b f fin pos is_in place at o =
      let i : index - 1 ≡ length older = omega (arith, l) in
      let inside : is_inside outer (e ∷ older) e.number ≡ true =
      sym (inside-at outer b kept e older f) ∙ sym (λ j. is_inside_at outer (i j) (p j)) ∙ is_in in
      let one : EndsOne calls after_end timestamp e current next =
      subst (λ (x : OpenSpan). EndsOne calls after_end timestamp x current next) (same-place index current kept e older place p i at) o in
      record {
        kept = kept;
        older = older;
        places = places-after timestamp b current next kept e older p f one;
        is_index = sym i;
        bound = b;
        fall = fall-without b kept e older f;
        finishes = λ new h. fin new
            (subst (λ (x : Bool). EndsEach calls after_end timestamp (cond x (e ∷ ending outer older) (ending outer older)) current new)
            (sym inside) (next, one, h));
      }

  -- the newest of the rest ended
  pub rest-ended : (timestamp outer index : ℕ) (initial current next : TracingState B S) → Rest timestamp outer index initial current → 0 < index
      → is_inside_at outer (index - 1) current.places ≡ true → (place : OpenSpan)
      → slice_get (reverse current.places) (index - 1) ≡ Some place → EndsOne calls after_end timestamp place current next
      → Rest timestamp outer (index - 1) initial next
  rest-ended timestamp outer index initial current next r pos is_in place at o =
      ended-at timestamp outer index initial current next r.kept r.older r.places r.is_index r.bound r.fall r.finishes pos is_in place at o

  inside-last : (outer index : ℕ) (current : TracingState B S) (kept older : List OpenSpan) → current.places ≡ kept ++ older
      → length older ≡ index → (b : ℕ) → FallBelow b (kept ++ older) → 0 < index → (place : OpenSpan)
      → slice_get (reverse current.places) (index - 1) ≡ Some place → place.number ≡ outer → is_inside_at outer (index - 1) current.places ≡ true
  inside-last outer index current kept [] p l b f pos place at n = absurd (omega (arith, l))
  inside-last outer index current kept (e ∷ older) p l b f pos place at n =
      let i : index - 1 ≡ length older = omega (arith, l) in
      (λ j. is_inside_at outer (i j) (p j)) ∙ inside-at outer b kept e older f
      ∙ inside-itself outer e older (ap (λ (x : OpenSpan). x.number) (sym (same-place index current kept e older place p i at)) ∙ n)

  -- the span `outer` itself is inside it
  pub rest-itself : (timestamp outer index : ℕ) (initial current : TracingState B S) → Rest timestamp outer index initial current → 0 < index
      → (place : OpenSpan) → slice_get (reverse current.places) (index - 1) ≡ Some place → place.number ≡ outer
      → is_inside_at outer (index - 1) current.places ≡ true
  rest-itself timestamp outer index initial current r pos place at n =
      inside-last outer index current r.kept r.older r.places r.is_index r.bound r.fall pos place at n

  last-at : (timestamp outer index : ℕ) (initial current next : TracingState B S) (kept older : List OpenSpan) → current.places ≡ kept ++ older
      → length older ≡ index → (b : ℕ) → FallBelow b (kept ++ older)
      → ((new : TracingState B S) → EndsEach calls after_end timestamp (ending outer older) current new
      → EndsEach calls after_end timestamp (ending outer initial.places) initial new)
      → 0 < index → (place : OpenSpan) → slice_get (reverse current.places) (index - 1) ≡ Some place → place.number ≡ outer
      → EndsOne calls after_end timestamp place current next
      → EndsEach calls after_end timestamp (ending outer initial.places) initial next
  last-at timestamp outer index initial current next kept [] p l b f fin pos place at n o = absurd (omega (arith, l))
  last-at timestamp outer index initial current next kept (e ∷ older) p l b f fin pos place at n o =
      let i : index - 1 ≡ length older = omega (arith, l) in
      let same : place ≡ e = same-place index current kept e older place p i at in
      let number : e.number ≡ outer = ap (λ (x : OpenSpan). x.number) (sym same) ∙ n in
      let one : EndsOne calls after_end timestamp e current next =
      subst (λ (x : OpenSpan). EndsOne calls after_end timestamp x current next) same o in
      let no_more : ending outer older ≡ [] = ending-none outer e.number older (omega (arith, number)) (older-fall b kept e older f) in
      let rest : EndsEach calls after_end timestamp (ending outer older) next next =
      subst (λ (l : List OpenSpan). EndsEach calls after_end timestamp l next next) (sym no_more) refl in
      fin next
      (subst (λ (x : Bool). EndsEach calls after_end timestamp (cond x (e ∷ ending outer older) (ending outer older)) current next)
      (sym (inside-itself outer e older number)) (next, one, rest))

  -- the span `outer` ended, and no older one is inside it
  pub rest-last : (timestamp outer index : ℕ) (initial current next : TracingState B S) → Rest timestamp outer index initial current → 0 < index
      → (place : OpenSpan) → slice_get (reverse current.places) (index - 1) ≡ Some place → place.number ≡ outer
      → EndsOne calls after_end timestamp place current next
      → EndsEach calls after_end timestamp (ending outer initial.places) initial next
  rest-last timestamp outer index initial current next r pos place at n o =
      last-at timestamp outer index initial current next r.kept r.older r.places r.is_index r.bound r.fall r.finishes pos place at n o

  -- To end every span that is open is to end all that were at the start.
  pub record AllRest (timestamp : ℕ) (initial current : TracingState B S) : Type 0 where
    pub bound : ℕ
    pub fall : FallBelow bound current.places
    pub finishes : (new : TracingState B S) → EndsEach calls after_end timestamp current.places current new
        → EndsEach calls after_end timestamp initial.places initial new

  pub all-at_start : (timestamp bound : ℕ) (t : TracingState B S) → FallBelow bound t.places → AllRest timestamp t t
  all-at_start timestamp bound t f = record { bound = bound; fall = f; finishes = λ new h. h }

  newest-at : (timestamp : ℕ) (initial current next : TracingState B S) (l : List OpenSpan) → current.places ≡ l → (b : ℕ) → FallBelow b l
      → ((new : TracingState B S) → EndsEach calls after_end timestamp l current new
      → EndsEach calls after_end timestamp initial.places initial new)
      → EndsNewest calls after_end timestamp l current next
      → AllRest timestamp initial next × (length next.places < length l)
  newest-at timestamp initial current next [] p b f fin o = absurd o
  newest-at timestamp initial current next (e ∷ older) p b f fin o =
      let after : next.places ≡ older = places-after timestamp b current next [] e older p f o in (
        record {
          bound = e.number;
          fall = subst (λ (l : List OpenSpan). FallBelow e.number l) (sym after) f.1;
          finishes = λ new h. fin new
              (next, o, subst (λ (l : List OpenSpan). EndsEach calls after_end timestamp l next new) after h);
        },
        omega (arith, ap (λ (l : List OpenSpan). length l) after),
      )

  -- the newest span ended, and fewer are open
  pub all-ended : (timestamp : ℕ) (initial current next : TracingState B S) → AllRest timestamp initial current
      → EndsNewest calls after_end timestamp current.places current next
      → AllRest timestamp initial next × (length next.places < length current.places)
  all-ended timestamp initial current next r o =
      newest-at timestamp initial current next current.places refl r.bound r.fall r.finishes o

  all-none : (timestamp : ℕ) (l : List OpenSpan) (current : TracingState B S) → length l ≡ 0
      → EndsEach calls after_end timestamp l current current
  all-none timestamp [] current h = refl
  all-none timestamp (e ∷ older) current h = absurd (omega (arith, h))

  pub all-done : (timestamp : ℕ) (initial current : TracingState B S) → AllRest timestamp initial current → length current.places ≡ 0
      → EndsEach calls after_end timestamp initial.places initial current
  all-done timestamp initial current r z = r.finishes current (all-none timestamp current.places current z)
