-- The scopes of items, with one more item.
use Rattle.std.proofs.Common.{◌≡◌, List, [], ◌∷◌, ◌++◌, sym, ap, ◌∙◌, append_assoc}
use Rattle.std.proofs.lemmas.List.{append-nil}
use Rattle.otel_base.specs.InstrumentationScope.{Scope}
use Rattle.otel_proto_batches.specs.Groups.{first_scopes, new_scope}

-- a last item adds its scope, unless that scope appears earlier
pub first_scopes-last : {R : Type 0} (scope_of : R → Scope) (before xs : List R) (r : R) → first_scopes scope_of before (xs ++ r ∷ []) ≡ first_scopes scope_of before xs ++ new_scope scope_of (before ++ xs) r
first_scopes-last scope_of before [] r = append-nil (new_scope scope_of before r) ∙ ap (λ all. new_scope scope_of all r) (sym (append-nil before))
first_scopes-last scope_of before (x ∷ xs) r =
    ap (λ more. new_scope scope_of before x ++ more)
    (first_scopes-last scope_of (before ++ x ∷ []) xs r ∙ ap (λ all. first_scopes scope_of (before ++ x ∷ []) xs ++ new_scope scope_of all r) (append_assoc before (x ∷ []) xs))
    ∙ sym (append_assoc (new_scope scope_of before x) (first_scopes scope_of (before ++ x ∷ []) xs) (new_scope scope_of (before ++ x ∷ xs) r))
