use Rattle.std.proofs.Common.{ℕ, [], ◌≡◌, ◌∷◌, ◌++◌, take, drop, add-one, refl, sym, ap, subst, ◌∙◌}
use Rattle.std.proofs.lemmas.List.{take_rest}
use Rattle.std.proofs.lemmas.List.Elements.{All-append, All-cons, All-nil, All-take, All-drop}
use Rattle.std.specs.FinMap.Entries.{put}
use Rattle.std.specs.declared.alloc.Global.{Global}
use Rattle.std.specs.declared.rc.Rc.{Rc}
use Rattle.otel_base.specs.View.{tree}
use Rattle.otel_context.specs.View.{rows, text_cmp, sort_key, slot_number, AreInSlots}
use Rattle.otel_context.specs.declared.context.entries.Entry.{Entry}
use Rattle.otel_context.proofs.EntryLemmas.{searchable, rows-joined, put-found, put-missed, IsRising-put, insert-put, All-shared}
use Rattle.otel_context.proofs.context.entries.with_entry.Goals.{in-Ok, in-Err}
use Rattle.otel_context.proofs.context.entries.with_entry.Goals as goal

-- the parts around the place, with the entry between them, are the result of `put`
around : (c : goal.In_ok-extend_with_clones-2)
    → rows (take c.match-search.before.0 c.args.items.now) ++ (sort_key c.args.entry.value, tree c.args.entry.value.value) ∷ rows (drop c.match-search.before.1 c.args.items.now)
    ≡ put text_cmp (sort_key c.args.entry.value) (tree c.args.entry.value.value) (rows c.args.items.now)
around c =
    let t = tree c.args.entry.value.value in
    let es = c.args.items.now in
    let k = c.deref.result.now.slot ∷ c.as_str.result.now in
    let key : k ≡ sort_key c.args.entry.value = λ i. (c.deref.ensures i).slot ∷ (c.as_str.ensures ∙ ap (λ (e : Entry). e.key) c.deref-2.ensures) i in
    subst (λ k. rows (take c.match-search.before.0 es) ++ (k, t) ∷ rows (drop c.match-search.before.1 es) ≡ put text_cmp k t (rows es)) key
    (elim c.match-search.branch [
      | in-Ok w ↦
          ap (λ (b : ℕ × ℕ). rows (take b.0 es) ++ (k, t) ∷ rows (drop b.1 es)) (w.before-is ∙ ap (λ n. (w.in-Ok.at, n)) (add-one w.in-Ok.at))
          ∙ sym (put-found k t es w.in-Ok.at c.requires.rising w.in-Ok.ensures.bound w.in-Ok.ensures.position)
      | in-Err w ↦
          ap (λ (b : ℕ × ℕ). rows (take b.0 es) ++ (k, t) ∷ rows (drop b.1 es)) w.before-is
          ∙ sym (put-missed k t es w.in-Err.at (w.in-Err.ensures.position (searchable es k c.requires.rising)))
    ])

made : (c : goal.In_ok-extend_with_clones-2)
    → rows c.extend_with_clones-2.new.self.items ≡ put text_cmp (sort_key c.args.entry.value) (tree c.args.entry.value.value) (rows c.args.items.now)
made c =
    let front = c.in_ok-extend_with_clones.ensures.items in
    let back = c.in_ok-extend_with_clones-2.ensures.items in
    let e = c.args.entry in
    rows-joined _ _ front.0 back.0 _ e (sort_key e.value) (tree e.value.value) front.2 back.2
    (back.1 ∙ ap (λ l. l ++ back.0) (c.in_ok-push.ensures.items ∙ ap (λ l. l ++ e ∷ []) (front.1 ∙ ap (λ l. l ++ front.0) c.in_ok-made.ensures.items)))
    refl refl
    ∙ ap (λ l. rows (take c.match-search.before.0 c.args.items.now) ++ (sort_key e.value, tree e.value.value) ∷ rows l) (take_rest c.args.items.now c.match-search.before.1)
    ∙ around c

abbrev InSlot : Rc Entry Global → Type 0
InSlot e = e.value.slot ≡ slot_number e.value.key

in_slots : (c : goal.In_ok-extend_with_clones-2) → AreInSlots c.extend_with_clones-2.new.self.items
in_slots c =
    let front = c.in_ok-extend_with_clones.ensures.items in
    let back = c.in_ok-extend_with_clones-2.ensures.items in
    let e = c.args.entry in
    let es = c.args.items.now in
    let is = back.1 ∙ ap (λ l. l ++ back.0) (c.in_ok-push.ensures.items ∙ ap (λ l. l ++ e ∷ []) (front.1 ∙ ap (λ l. l ++ front.0) c.in_ok-made.ensures.items)) in
    let shared = All-shared (λ e. e.slot ≡ slot_number e.key) in
    let before = shared _ front.0 front.2 (All-take InSlot c.match-search.before.0 es c.requires.in_slots) in
    let after = shared _ back.0 back.2 (subst AreInSlots (sym (take_rest es c.match-search.before.1)) (All-drop InSlot c.match-search.before.1 es c.requires.in_slots)) in
    subst AreInSlots (sym is)
    (All-append InSlot _ back.0 (All-append InSlot front.0 (e ∷ []) before (All-cons InSlot e [] c.requires.slot (All-nil InSlot))) after)

pub returns-clause-rising : goal.returns-clause-rising
returns-clause-rising c = IsRising-put c.args.items.now _ c.args.entry.value.slot c.args.entry.value.key (tree c.args.entry.value.value) (made c) c.requires.rising

pub returns-clause-in_slots : goal.returns-clause-in_slots
returns-clause-in_slots c = in_slots c

pub returns-clause-inserted : goal.returns-clause-inserted
returns-clause-inserted c =
    insert-put c.args.items.now _ c.args.entry.value.slot c.args.entry.value.key (tree c.args.entry.value.value) (made c) c.requires.slot c.requires.in_slots (in_slots c)
