-- The groups of a map, with one more item.
use Rattle.std.proofs.Common.{◌≡◌, List, [], ◌∷◌, ◌++◌, map, Bool, true, false, cond, if◌then◌else◌, Option, Some, None, Vec, Bor, is_some, sym, ap, ◌∙◌, true≢false}
use Rattle.std.specs.Map.{lookup, set_value}
use Rattle.std.specs.declared.alloc.Global.{Global}
use Rattle.indexmap.specs.IndexMap.{insert_entry}
use Rattle.otel_base.specs.InstrumentationScope.{Scope, eq}
use Rattle.otel_proto_batches.specs.Sorted.{put_in_group}
use Rattle.otel_proto_batches.specs.SortedView.{groups_view}

module _ (R : Type 0) where
  abbrev pub Items : Type 0
  Items = Vec (Bor R) Global

  abbrev pub Entry : Type 0
  Entry = Scope × Items

  -- the items
  abbrev pub values_of : List (Bor R) → List R
  values_of = map (λ r. r.now)

  abbrev items_or : Items → Option Items → Items
  items_or other None = other
  items_or other (Some v) = v

  -- the items of a scope with an entry are one more
  pub set_value-put_in_group_group : (es : List Entry) (s : Scope) (old new : Items) (d : R) → lookup (eq s) es ≡ Some old → values_of new.items ≡ values_of old.items ++ d ∷ []
      → groups_view {R = R} (set_value (eq s) es new) ≡ put_in_group (groups_view {R = R} es) s d
  set_value-put_in_group_group [] s old new d at is = absurd (true≢false (sym (ap is_some at)))
  set_value-put_in_group_group (e ∷ es) s old new d at is = by (eq s e.0) at (λ found. set_value-put_in_group_group es s old new d found is)
    where
      by : (b : Bool) → cond b (Some e.1) (lookup (eq s) es) ≡ Some old
          → (lookup (eq s) es ≡ Some old → groups_view {R = R} (set_value (eq s) es new) ≡ put_in_group (groups_view {R = R} es) s d)
          → groups_view {R = R} (cond b ((e.0, new) ∷ es) (e ∷ set_value (eq s) es new))
          ≡ (if b then (e.0, values_of e.1.items ++ d ∷ []) ∷ groups_view {R = R} es else (e.0, values_of e.1.items) ∷ put_in_group (groups_view {R = R} es) s d)
      by true found more =
          ap (λ ds. (e.0, ds) ∷ groups_view {R = R} es) (is ∙ ap (λ (v : Items). values_of v.items ++ d ∷ []) (sym (ap (items_or e.1) found)))
      by false found more = ap (λ gs. (e.0, values_of e.1.items) ∷ gs) (more found)

  -- a scope without an entry gets one
  pub insert_entry-put_in_group_group : (es : List Entry) (s : Scope) (new : Items) (d : R) → lookup (eq s) es ≡ None → values_of new.items ≡ d ∷ []
      → groups_view {R = R} (insert_entry eq es s new) ≡ put_in_group (groups_view {R = R} es) s d
  insert_entry-put_in_group_group [] s new d at is = ap (λ ds. (s, ds) ∷ []) is
  insert_entry-put_in_group_group (e ∷ es) s new d at is = by (eq s e.0) at (λ found. insert_entry-put_in_group_group es s new d found is)
    where
      by : (b : Bool) → cond b (Some e.1) (lookup (eq s) es) ≡ None
          → (lookup (eq s) es ≡ None → groups_view {R = R} (insert_entry eq es s new) ≡ put_in_group (groups_view {R = R} es) s d)
          → groups_view {R = R} (if b then (e.0, new) ∷ es else e ∷ insert_entry eq es s new)
          ≡ (if b then (e.0, values_of e.1.items ++ d ∷ []) ∷ groups_view {R = R} es else (e.0, values_of e.1.items) ∷ put_in_group (groups_view {R = R} es) s d)
      by true found more = absurd (true≢false (ap is_some found))
      by false found more = ap (λ gs. (e.0, values_of e.1.items) ∷ gs) (more found)
