-- The bytes of a header's value as a test, and the first attribute of a resource.
use Rattle.std.proofs.Common.{◌≡◌, ℕ, true, false, List, Option, Some, None, map, sym, ap, ◌∙◌, inl, inr, Bor, Iter, true≢false}
use Rattle.std.specs.List.{list_all}
use Rattle.std.specs.Prelude.{option_map}
use Rattle.std.specs.Slice.Iter.{iter_rest, iter_steps}
use Rattle.std.proofs.lemmas.Bool.{cases_Bool}
use Rattle.std.proofs.lemmas.List.{nil_from_length}
use Rattle.std.proofs.lemmas.List.Sums.{AllPass-from_list_all, list_all-from_AllPass}
use Rattle.http_header.specs.FieldValue.{IsFieldValue}
use Rattle.http_header.specs.Token.{is_value_byte}
use Rattle.otel_base.specs.KeyValue.{Attribute}
use Rattle.otel_base.specs.View.{attribute_of}
use Rattle.otel_base.specs.declared.key_value.KeyValue.{KeyValue}
use Rattle.otel_sdk.specs.EnvHeaders.{first, has_value_bytes}

-- ---- values
pub value_bytes : (bytes : List ℕ) → ¬ (¬ (IsFieldValue bytes)) → true ≡ has_value_bytes bytes
value_bytes bytes n =
    elim (cases_Bool (list_all is_value_byte bytes)) [
      | inl t ↦ sym t
      | inr f ↦ absurd (n (λ h. true≢false (sym (list_all-from_AllPass is_value_byte bytes h) ∙ f)))
    ]

pub no_value_bytes : (bytes : List ℕ) → ¬ (IsFieldValue bytes) → false ≡ has_value_bytes bytes
no_value_bytes bytes n =
    elim (cases_Bool (list_all is_value_byte bytes)) [
      | inl t ↦ absurd (n (AllPass-from_list_all is_value_byte bytes t))
      | inr f ↦ sym f
    ]

-- ---- attributes
-- the next item of an iterator over the attributes is the first one
pub first_is : (r : Option (Bor KeyValue)) (s t : Iter KeyValue) (all : List Attribute) → iter_steps s r t → map attribute_of (iter_rest s) ≡ all → option_map (λ (a : Bor KeyValue). attribute_of a.now) r ≡ first all
first_is None s t all h e = sym (ap first (sym e ∙ ap (map attribute_of) (nil_from_length (iter_rest s) h.0)))
first_is (Some x) s t all h e = ap first (ap (map attribute_of) (sym h) ∙ e)
