-- Items joined group by group, and lines that are refused.
use Rattle.std.proofs.Common.{◌≡◌, refl, sym, ap, ◌∙◌, List, [], ◌∷◌, ◌++◌, map, append-nil}
use Rattle.std.proofs.Common.{ℕ, Option, Some, None, subst, Result, Ok, Err, IfErr}
use Rattle.std.specs.Prelude.{codes}
use Rattle.std.proofs.lemmas.Grind.{flat_map-append}
use Rattle.std.proofs.lemmas.List.{map-append}
use Rattle.otel_otlp.specs.ReadGroups.{ResourceItems, joined, AreInLine}
use Rattle.otel_otlp.specs.ReadMembers.{IsRefused, IsObject, AreIn}
use Rattle.otel_otlp.specs.ReadErrors.{NamesPlace, NamesLine, IsNoJson, IsRefusal, told}
use Rattle.otel_otlp.specs.declared.read.error.Fault.{Fault}
use Rattle.otel_otlp.specs.declared.read.error.Fault.TheVariants as fault
use Rattle.otel_otlp.specs.declared.read.error.ReadError.{ReadError}
use Rattle.otel_otlp.specs.declared.read.error.ReadError.TheVariants as error
use Rattle.otel_otlp.proofs.ReadErrors.{some_same}
use Rattle.serde_json.specs.Data.{Data}
use Rattle.serde_json.specs.Read.{read}

pub joined_more : {R G : Type 0} (held : G → List R) (gs : List G) (g : G)
    → joined (map held (gs ++ g ∷ [])) ≡ joined (map held gs) ++ held g
joined_more held gs g =
    ap joined (map-append held gs (g ∷ []))
    ∙ flat_map-append (λ items. items) (map held gs) (held g ∷ [])
    ∙ ap (λ items. joined (map held gs) ++ items) (append-nil (held g))

-- the items of each group, by the group as contracts see it
pub items_of_each : {G R : Type 0} (see : G → ResourceItems R) (gs : List G)
    → map (λ (g : ResourceItems R). g.items) (map see gs) ≡ map (λ g. (see g).items) gs
items_of_each see [] = refl
items_of_each see (g ∷ gs) = ap (λ l. (see g).items ∷ l) (items_of_each see gs)

-- the line is the JSON of d only, so it is refused if d is
refused_if : {A : Type 0} (Says : Data → A → Type 0) (name line : List ℕ) (d : Data) (P : Type 0)
    → read line ≡ Some d → (P → (xs : List A) → IsObject d → ¬ AreIn Says name d xs)
    → P → (xs : List A) → ¬ AreInLine Says name line xs
refused_if Says name line d P is h = λ no xs from.
    let same = some_same _ _ (sym from.is_json ∙ is) in
    h no xs (subst IsObject same from.is_object) (subst (λ f. AreIn Says name f xs) same from.are)

pub line_refused : {A : Type 0} (Says : Data → A → Type 0) (name line : List ℕ) (f : Fault)
    (d : Data) → read line ≡ Some d
    → (IsRefused f → (xs : List A) → IsObject d → ¬ AreIn Says name d xs)
    → IsRefusal (told f) → (xs : List A) → ¬ AreInLine Says name line xs
line_refused Says name line (fault.Unexpected place wanted) d is h =
    refused_if Says name line d (Unit {0}) is h
line_refused Says name line (fault.Memory failed) d is h = refused_if Says name line d ⊥ is h

-- ---- the error of a line
some_none : {A : Type 0} (o : Option A) (x : A) → o ≡ Some x → o ≡ None → ⊥
some_none o x is none = let no : Some x ≡ None = sym is ∙ none in cc

-- a line that is JSON
pub line_named : (line : List ℕ) (f : Fault) (d : Data) → read line ≡ Some d
    → (¬ (IsObject d) → NamesPlace (codes "line") (codes "an object") f)
    → NamesLine line (told f)
line_named line (fault.Unexpected place wanted) d is object = record {
  no_json = λ none. absurd (some_none (read line) d is none);
  no_object = λ e of not.
      object (λ known. not (subst IsObject (some_same d e (sym is ∙ of)) known));
  json = λ none. absurd none;
}
line_named line (fault.Memory failed) d is object = record {
  no_json = λ none. tt;
  no_object = λ e of not. tt;
  json = λ none. absurd none;
}

-- a line that isn't read as JSON
pub line_unread : (line : List ℕ) (e : ReadError) → IsNoJson e
    → (IsRefusal e → read line ≡ None) → NamesLine line e
line_unread line error.Json told none = record {
  no_json = λ _. tt;
  no_object = λ d is not. absurd (some_none (read line) d is (none tt));
  json = none;
}
line_unread line (error.Unexpected place wanted) told none = absurd told
line_unread line (error.Memory failed) told none = record {
  no_json = λ _. tt;
  no_object = λ d is not. tt;
  json = λ none. absurd none;
}
