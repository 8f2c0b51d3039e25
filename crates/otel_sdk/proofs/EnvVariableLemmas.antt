-- Variables that are read in turn.
use Rattle.std.proofs.Common.{◌≡◌, ℕ, ◌+◌, ◌<◌, ◌≤◌, true, false, cond, List, [], ◌∷◌, ◌++◌, length, take, get_or, Option, Some, string_bytes, refl, sym, ap, subst, ◌∙◌}
use Rattle.std.proofs.lemmas.List.{append-nil, append_assoc, take_all, map-append}
use Rattle.std.specs.List.{flat_map}
use Rattle.std.specs.declared.string.String.{String}
use Rattle.otel_base.proofs.shared.Steps.{flat_map-take_more}
use Rattle.otel_sdk.specs.EnvTexts.{Variables, variables_of, is_unset}
use Rattle.otel_sdk.specs.EnvVariables.{AreRead, if_set, name_in, first_word}

-- one variable more at the end
pub with_variable : {A : Type 0} (old new : List (String A × String A)) (name text : String A) (word : List ℕ) → new ≡ old ++ ((name, text) ∷ [])
    → string_bytes name ≡ word → variables_of new ≡ variables_of old ++ if_set word (Some (string_bytes text))
with_variable old new name text word is same =
    ap variables_of is ∙ map-append (λ v. (string_bytes v.0, string_bytes v.1)) old ((name, text) ∷ [])
    ∙ ap (λ (w : List ℕ). variables_of old ++ ((w, string_bytes text) ∷ [])) same

module _ (may_be : List ℕ → Option (List ℕ) → Type 0) where
  -- the variables of further names, after those of the first
  joined : (names others : List (List ℕ)) (vars more : Variables) → AreRead may_be names vars → AreRead may_be others more
      → AreRead may_be (names ++ others) (vars ++ more)
  unfolding AreRead
  joined [] others vars more none rest = subst (AreRead may_be others) (ap (λ (l : Variables). l ++ more) (sym none)) rest
  joined (name ∷ names) others vars more h rest = (
    h.0,
    h.1 ++ more,
    h.2,
    ap (λ (l : Variables). l ++ more) h.3 ∙ append_assoc (if_set name h.0) h.1 more,
    joined names others h.1 more h.4 rest,
  )

  pub read_none : (vars : Variables) → vars ≡ [] → AreRead may_be [] vars
  unfolding AreRead
  read_none vars none = none

  -- a line that begins with a blank describes no variable
  pub without_name : (line word : List ℕ) → word ≡ first_word line → true ≡ is_unset word → AreRead may_be (name_in line) []
  unfolding AreRead
  without_name line word is unset = subst (λ (names : List (List ℕ)). AreRead may_be names []) (ap (λ (b : _). cond b [] (first_word line ∷ [])) (unset ∙ ap is_unset is)) refl

  pub with_name : (line word : List ℕ) (text : Option (List ℕ)) → word ≡ first_word line → false ≡ is_unset word
      → may_be word text → AreRead may_be (name_in line) (if_set word text)
  unfolding AreRead
  with_name line word text is some read =
      subst (λ (names : List (List ℕ)). AreRead may_be names (if_set word text))
      (ap (λ (w : List ℕ). w ∷ []) is ∙ ap (λ (b : _). cond b [] (first_word line ∷ [])) (some ∙ ap is_unset is))
      (text, [], read, sym (append-nil (if_set word text)), refl)

  -- one line more
  pub line_more : (lines : List (List ℕ)) (n k : ℕ) (line : List ℕ) (old new : Variables) → k ≡ n + 1
      → (n < length lines) × (line ≡ get_or lines n line) → (more : Variables) × AreRead may_be (name_in line) more × (new ≡ old ++ more)
      → AreRead may_be (flat_map name_in (take n lines)) old → AreRead may_be (flat_map name_in (take k lines)) new
  line_more lines n k line old new next turn step before =
      let names = ap (λ (i : ℕ). flat_map name_in (take i lines)) next ∙ flat_map-take_more name_in lines n line turn.0 turn.1 in
      subst (λ (vars : Variables). AreRead may_be (flat_map name_in (take k lines)) vars) (sym step.2)
      (subst (λ (l : List (List ℕ)). AreRead may_be l (old ++ step.0)) (sym names)
      (joined (flat_map name_in (take n lines)) (name_in line) old step.0 before step.1))

  pub all_lines : (lines : List (List ℕ)) (n : ℕ) (vars : Variables) → length lines ≤ n
      → AreRead may_be (flat_map name_in (take n lines)) vars → AreRead may_be (flat_map name_in lines) vars
  all_lines lines n vars all = subst (λ (l : List (List ℕ)). AreRead may_be (flat_map name_in l) vars) (take_all n lines all)

  -- the variables of some names, and then those of others
  pub both_read : {A : Type 0} (names others : List (List ℕ)) (vars more all : List (String A × String A)) → all ≡ vars ++ more
      → AreRead may_be names (variables_of vars) → AreRead may_be others (variables_of more) → AreRead may_be (names ++ others) (variables_of all)
  both_read names others vars more all is h k =
      subst (AreRead may_be (names ++ others)) (sym (ap variables_of is ∙ map-append (λ v. (string_bytes v.0, string_bytes v.1)) vars more))
      (joined names others (variables_of vars) (variables_of more) h k)
