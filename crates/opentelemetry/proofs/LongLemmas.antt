-- Runs with as many attaches as there are positions.
use Rattle.std.proofs.Common.{◌≡◌, ℕ, zero, suc, ◌+◌, ◌≤◌, false, List, [], ◌∷◌, ◌++◌, length, Some, None, refl, sym, ap, ◌∙◌, subst, arith, append_assoc, append-nil, add-zero, zero-add}
use Rattle.std.specs.Prelude.{◌↔◌, map, slice_set}
use Rattle.std.specs.List.{list_any, enumerate_from, range_with_len}
use Rattle.std.proofs.Math.Seq.{set-append_seam}
use Rattle.std.proofs.lemmas.List.{length-append, length-map, map-append, map_push}
use Rattle.std.proofs.lemmas.List.Elements.{filter_map-append}
use Rattle.std.proofs.lemmas.List.FromFn.{map-range_with_len_more, length-enumerate_from}
use Rattle.otel_context.specs.Context.{ContextRecord}
use Rattle.otel_context.specs.Stack.{Live, newest_position, last_or, last_position}
use Rattle.opentelemetry.specs.declared.carry.event.StackEvent.{StackEvent}
use Rattle.opentelemetry.specs.declared.carry.event.StackEvent.TheVariants.{Attach, Detach}
use Rattle.opentelemetry.specs.declared.carry.event.AttachOutcome.{AttachOutcome}
use Rattle.opentelemetry.specs.declared.carry.event.AttachOutcome.TheVariants.{Attached, Full, NoMemory}
use Rattle.opentelemetry.specs.Run.{attaches_of, detaches, left_by, survivors, IsOutcome, Legal}
use Rattle.opentelemetry.specs.LongRuns.{attaches, detaches_below, in_order, AttachesInOrder, filled, filled_outcomes, emptied, IsBegunAgain, FilledAndBegunAgain}
use Rattle.opentelemetry.proofs.RunLemmas.{Left, survivors_of, left_by-attach, left_by-detached, legal-attach, legal-detach, outcome_allowed}
use Rattle.otel_context.proofs.shared.LiveLemmas.{last_or-push}
use Rattle.opentelemetry.proofs.RefusalLemmas.{survivors-attach}
use Rattle.opentelemetry.proofs.WorkedLemmas.{legal-none}

none-detached : (k : ℕ) (contexts : List ContextRecord) → list_any (detaches k) (attaches contexts) ≡ false
none-detached k [] = refl
none-detached k (c ∷ contexts) = none-detached k contexts

abbrev some_of : Live → List Left
some_of live = map (λ a. Some a) live

left_by-attaches : (k p : ℕ) (contexts : List ContextRecord)
    → left_by k (attaches contexts) (map (λ q. Attached q) (range_with_len p (length contexts))) ≡ some_of (enumerate_from p contexts)
left_by-attaches k p [] = refl
left_by-attaches k p (c ∷ contexts) =
    rw (none-detached k contexts) (ap (λ (l : List Left). Some (p, c) ∷ l) (left_by-attaches (k + 1) (p + 1) contexts))

survivors_of-some : (live : Live) → survivors_of (some_of live) ≡ live
survivors_of-some [] = refl
survivors_of-some (a ∷ live) = ap (λ (l : Live). a ∷ l) (survivors_of-some live)

survivors-attaches : (contexts : List ContextRecord) → survivors (attaches contexts) (in_order (length contexts)) ≡ enumerate_from 1 contexts
survivors-attaches contexts = ap survivors_of (left_by-attaches 0 1 contexts) ∙ survivors_of-some (enumerate_from 1 contexts)

-- the newest position of attachments in order is their number
last_or-in_order : (p : ℕ) (contexts : List ContextRecord) → last_or p (map (λ a. a.0) (enumerate_from (p + 1) contexts)) ≡ p + length contexts
last_or-in_order p [] = sym (add-zero p)
last_or-in_order p (c ∷ contexts) = last_or-in_order (p + 1) contexts ∙ omega arith

newest-attaches : (contexts : List ContextRecord) → newest_position (survivors (attaches contexts) (in_order (length contexts))) ≡ length contexts
newest-attaches contexts = ap newest_position (survivors-attaches contexts) ∙ last_or-in_order 0 contexts ∙ zero-add (length contexts)

in_order-more : (n : ℕ) → in_order (n + 1) ≡ in_order n ++ Attached (n + 1) ∷ []
in_order-more n = map-range_with_len_more (λ q. Attached q) 1 n (n + 1) (omega arith)

attaches_of-attaches : (contexts : List ContextRecord) → attaches_of (attaches contexts) ≡ length contexts
attaches_of-attaches [] = refl
attaches_of-attaches (c ∷ contexts) = ap suc (attaches_of-attaches contexts)

legal-after : (done contexts : List ContextRecord) → Legal (attaches done) (in_order (length done)) → length done + length contexts ≤ last_position
    → Legal (attaches (done ++ contexts)) (in_order (length (done ++ contexts)))
legal-after done [] legal few = rw append-nil legal
legal-after done (c ∷ contexts) legal few =
    let more : Legal (attaches done ++ Attach c ∷ []) (in_order (length done) ++ Attached (length done + 1) ∷ []) =
    legal-attach (attaches done) (in_order (length done)) c (Attached (length done + 1)) legal (rw newest-attaches (omega arith, refl)) in
    let whole : Legal (attaches (done ++ c ∷ [])) (in_order (length (done ++ c ∷ []))) =
    rw (map-append, length-append, in_order-more) more in
    let rest = legal-after (done ++ c ∷ []) contexts whole (rw length-append (omega arith)) in
    subst (λ (cs : List ContextRecord). Legal (attaches cs) (in_order (length cs))) (append_assoc done (c ∷ []) contexts) rest

legal-attaches : (contexts : List ContextRecord) → length contexts ≤ last_position → Legal (attaches contexts) (in_order (length contexts))
legal-attaches contexts few = legal-after [] contexts legal-none (omega (arith, few))

full_only : (n : ℕ) (o : AttachOutcome) → IsOutcome n o → (o ≡ Full) ↔ (n ≡ last_position)
full_only n (Attached p) h = (λ e. cc, λ e. absurd (omega (arith, h.0, e)))
full_only n Full h = (λ e. h, λ e. refl)
full_only n NoMemory h = (λ e. cc, λ e. absurd (omega (arith, h.1, e)))

pub in_order_is : AttachesInOrder
in_order_is contexts few = record {
  legal = legal;
  all = survivors-attaches contexts;
  one_more = λ context outcome more.
      full_only (length contexts) outcome (rw newest-attaches at (outcome_allowed (attaches contexts) (in_order (length contexts)) context outcome legal.one_each more));
} where
  legal : Legal (attaches contexts) (in_order (length contexts))
  legal = legal-attaches contexts few

-- the list with `n` places cleared, starting at `a`
abbrev clear_from : ℕ → ℕ → List Left → List Left
clear_from a zero lefts = lefts
clear_from a (suc n) lefts = clear_from (a + 1) n (slice_set lefts a None)

abbrev detaches_from : ℕ → ℕ → List StackEvent
detaches_from a n = map (λ number. Detach number) (range_with_len a n)

left_by-detaches : (a n : ℕ) (events : List StackEvent) (outcomes : List AttachOutcome)
    → left_by 0 (events ++ detaches_from a n) outcomes ≡ clear_from a n (left_by 0 events outcomes)
left_by-detaches a zero events outcomes = ap (λ (es : List StackEvent). left_by 0 es outcomes) (append-nil events)
left_by-detaches a (suc n) events outcomes =
    ap (λ (es : List StackEvent). left_by 0 es outcomes) (sym (append_assoc events (Detach a ∷ []) (detaches_from (a + 1) n)))
    ∙ left_by-detaches (a + 1) n (events ++ Detach a ∷ []) outcomes
    ∙ ap (clear_from (a + 1) n) (left_by-detached a events outcomes)

legal-detaches : (a n : ℕ) (events : List StackEvent) (outcomes : List AttachOutcome) → Legal events outcomes → Legal (events ++ detaches_from a n) outcomes
legal-detaches a zero events outcomes legal = rw append-nil legal
legal-detaches a (suc n) events outcomes legal =
    subst (λ (es : List StackEvent). Legal es outcomes) (append_assoc events (Detach a ∷ []) (detaches_from (a + 1) n))
    (legal-detaches (a + 1) n (events ++ Detach a ∷ []) outcomes (legal-detach events outcomes a legal))

abbrev nones : List Left → List Left
nones lefts = map (λ x. None) lefts

clear_all : (done lefts rest : List Left) → clear_from (length done) (length lefts) (done ++ (lefts ++ rest)) ≡ done ++ (nones lefts ++ rest)
clear_all done [] rest = refl
clear_all done (x ∷ lefts) rest =
    ap (clear_from (length done + 1) (length lefts)) (set-append_seam done x (lefts ++ rest) None ∙ sym (append_assoc done (None ∷ []) (lefts ++ rest)))
    ∙ ap (λ n. clear_from n (length lefts) (done ++ None ∷ [] ++ (lefts ++ rest))) (sym (length-append done (None ∷ [])))
    ∙ clear_all (done ++ None ∷ []) lefts rest
    ∙ append_assoc done (None ∷ []) (nones lefts ++ rest)

survivors_of-nones : (lefts rest : List Left) → survivors_of (nones lefts ++ rest) ≡ survivors_of rest
survivors_of-nones [] rest = refl
survivors_of-nones (x ∷ lefts) rest = survivors_of-nones lefts rest

module _ (contexts : List ContextRecord) (last x y z : ContextRecord) (count : length contexts + 1 ≡ last_position) where
  abbrev lefts : List Left
  lefts = some_of (enumerate_from 1 contexts)

  abbrev first_events : List StackEvent
  first_events = attaches contexts ++ Attach last ∷ []

  abbrev first_outcomes : List AttachOutcome
  first_outcomes = in_order (length contexts) ++ Attached last_position ∷ []

  legal-first : Legal first_events first_outcomes
  legal-first =
      let legal = legal-attaches contexts (omega (arith, count)) in
      legal-attach (attaches contexts) (in_order (length contexts)) last (Attached last_position) legal (rw newest-attaches (omega (arith, count), omega (arith, count)))

  left-first : left_by 0 first_events first_outcomes ≡ lefts ++ Some (last_position, last) ∷ []
  left-first =
      left_by-attach 0 (attaches contexts) (in_order (length contexts)) last (Attached last_position) (legal-attaches contexts (omega (arith, count))).one_each
      ∙ ap (λ (l : List Left). l ++ Some (last_position, last) ∷ []) (left_by-attaches 0 1 contexts)

  survivors-first : survivors first_events first_outcomes ≡ enumerate_from 1 contexts ++ (last_position, last) ∷ []
  survivors-first =
      ap survivors_of left-first ∙ filter_map-append (λ left. left) lefts (Some (last_position, last) ∷ [])
      ∙ ap (λ (l : Live). l ++ (last_position, last) ∷ []) (survivors_of-some (enumerate_from 1 contexts))

  newest-first : newest_position (survivors first_events first_outcomes) ≡ last_position
  newest-first = ap newest_position survivors-first ∙ newest-push (enumerate_from 1 contexts) where
    newest-push : (live : Live) → newest_position (live ++ (last_position, last) ∷ []) ≡ last_position
    newest-push live = rw map_push (last_or-push 0 (map (λ (a : ℕ × ContextRecord). a.0) live) last_position)

  abbrev events-2 : List StackEvent
  events-2 = filled contexts last x

  abbrev outcomes-2 : List AttachOutcome
  outcomes-2 = filled_outcomes contexts

  legal-2 : Legal events-2 outcomes-2
  legal-2 = legal-attach first_events first_outcomes x Full legal-first newest-first

  full : survivors events-2 outcomes-2 ≡ enumerate_from 1 contexts ++ (last_position, last) ∷ []
  full = survivors-attach first_events first_outcomes x Full legal-first.one_each ∙ append-nil (survivors first_events first_outcomes) ∙ survivors-first

  left-2 : left_by 0 events-2 outcomes-2 ≡ lefts ++ (Some (last_position, last) ∷ None ∷ [])
  left-2 =
      left_by-attach 0 first_events first_outcomes x Full legal-first.one_each ∙ ap (λ (l : List Left). l ++ None ∷ []) left-first
      ∙ append_assoc lefts (Some (last_position, last) ∷ []) (None ∷ [])

  abbrev events-3 : List StackEvent
  events-3 = events-2 ++ detaches_below (length contexts)

  legal-3 : Legal events-3 outcomes-2
  legal-3 = legal-detaches 0 (length contexts) events-2 outcomes-2 legal-2

  left-3 : left_by 0 events-3 outcomes-2 ≡ nones lefts ++ (Some (last_position, last) ∷ None ∷ [])
  left-3 =
      left_by-detaches 0 (length contexts) events-2 outcomes-2 ∙ ap (clear_from 0 (length contexts)) left-2
      ∙ ap (λ n. clear_from 0 n (lefts ++ (Some (last_position, last) ∷ None ∷ []))) (sym many) ∙ clear_all [] lefts (Some (last_position, last) ∷ None ∷ []) where
        many : length lefts ≡ length contexts
        many = length-map (enumerate_from 1 contexts) (λ a. Some a) ∙ length-enumerate_from 1 contexts

  survivors-3 : survivors events-3 outcomes-2 ≡ (last_position, last) ∷ []
  survivors-3 = ap survivors_of left-3 ∙ survivors_of-nones lefts (Some (last_position, last) ∷ None ∷ [])

  abbrev events-4 : List StackEvent
  events-4 = emptied contexts last x y

  abbrev outcomes-4 : List AttachOutcome
  outcomes-4 = outcomes-2 ++ Full ∷ []

  legal-4 : Legal events-4 outcomes-4
  legal-4 = legal-attach events-3 outcomes-2 y Full legal-3 (rw survivors-3 refl)

  last_alone : survivors events-4 outcomes-4 ≡ (last_position, last) ∷ []
  last_alone = survivors-attach events-3 outcomes-2 y Full legal-3.one_each ∙ append-nil (survivors events-3 outcomes-2) ∙ survivors-3

  left-4 : left_by 0 events-4 outcomes-4 ≡ nones lefts ++ (Some (last_position, last) ∷ None ∷ None ∷ [])
  left-4 =
      left_by-attach 0 events-3 outcomes-2 y Full legal-3.one_each ∙ ap (λ (l : List Left). l ++ None ∷ []) left-3
      ∙ append_assoc (nones lefts) (Some (last_position, last) ∷ None ∷ []) (None ∷ [])

  abbrev events-5 : List StackEvent
  events-5 = events-4 ++ Detach (length contexts) ∷ []

  legal-5 : Legal events-5 outcomes-4
  legal-5 = legal-detach events-4 outcomes-4 (length contexts) legal-4

  left-5 : left_by 0 events-5 outcomes-4 ≡ nones lefts ++ (None ∷ None ∷ None ∷ [])
  left-5 =
      left_by-detached (length contexts) events-4 outcomes-4 ∙ ap (λ (l : List Left). slice_set l (length contexts) None) left-4
      ∙ ap (λ n. slice_set (nones lefts ++ (Some (last_position, last) ∷ None ∷ None ∷ [])) n None) (sym many)
      ∙ set-append_seam (nones lefts) (Some (last_position, last)) (None ∷ None ∷ []) None where
        many : length (nones lefts) ≡ length contexts
        many = length-map lefts (λ x. None) ∙ length-map (enumerate_from 1 contexts) (λ a. Some a) ∙ length-enumerate_from 1 contexts

  none : survivors events-5 outcomes-4 ≡ []
  none = ap survivors_of left-5 ∙ survivors_of-nones lefts (None ∷ None ∷ None ∷ [])

  first : IsOutcome (newest_position (survivors events-5 outcomes-4)) (Attached 1)
  first = rw none (omega arith, refl)

  begun : IsBegunAgain contexts last x y z
  begun = record {
    legal = legal-attach events-5 outcomes-4 z (Attached 1) legal-5 first;
    full = full;
    last_alone = last_alone;
    none = none;
    first_again = survivors-attach events-5 outcomes-4 z (Attached 1) legal-5.one_each ∙ ap (λ (l : Live). l ++ (1, z) ∷ []) none;
  }

pub begun_again_is : FilledAndBegunAgain
begun_again_is contexts last x y z count = begun contexts last x y z count
