-- Objects with a list among three members, where only the place of its name in the order of names is known.
use Rattle.std.proofs.Common.{◌≡◌, ℕ, List, [], ◌∷◌, ◌++◌, Option, true, Ordering, Less, Greater, refl, sym, ap, ◌∙◌, subst, append_assoc}
use Rattle.std.proofs.lemmas.Cmp.{nat_list_cmp_total}
use Rattle.std.specs.Cmp.Lexicographic.{slice_cmp}
use Rattle.std.specs.Ordering.{nat_cmp, ordering_reverse}
use Rattle.json.specs.Token.{begin_object, end_object}
use Rattle.json.specs.Written.{Written}
use Rattle.serde_json.specs.Data.{Data, array}
use Rattle.serde_json.specs.View.{items_of}
use Rattle.otel_otlp.specs.Json.{object_of, list_member, text_if_given}
use Rattle.otel_otlp.specs.Tokens.{Appended, HasMembers, HasValue}
use Rattle.otel_otlp.proofs.InOrder.{Group, one, both, flat, IsGroup, Row, sorted, is_distinct, do_rise, join, at_member, at_text_if_given}
use Rattle.otel_otlp.proofs.Tokens.{whole_object}

abbrev cmp : List ℕ → List ℕ → Ordering
cmp = slice_cmp nat_cmp

opposite : (x y : List ℕ) (o : Ordering) → cmp x y ≡ o → cmp y x ≡ ordering_reverse o
opposite x y o is = nat_list_cmp_total.antisymm y x ∙ ap ordering_reverse is

-- a value, a list and a text that may be left out, with their names
module _ (a b c : List ℕ) (d : Data) (ds : List Data) (t : Option (List ℕ)) where
  abbrev pub three : Group
  three = both (both (one a ((a, d) ∷ [])) (one b (list_member b ds))) (one c (text_if_given c t))

  three-IsGroup : IsGroup three
  three-IsGroup = ((at_member a d, at_member b (array (items_of ds))), at_text_if_given c t)

  abbrev value_row : Row
  value_row = (a, (a, d) ∷ [])

  abbrev list_row : Row
  list_row = (b, list_member b ds)

  abbrev text_row : Row
  text_row = (c, text_if_given c t)

  -- an object of these rows, in the order of names
  whole_three : {w x y z : Written} (rows : List Row) → sorted three ≡ rows → is_distinct three ≡ true → do_rise rows ≡ true
      → Appended w x (begin_object ∷ []) → HasMembers x y (join rows) → Appended y z (end_object ∷ []) → HasValue w z (object_of (flat three))
  whole_three {w} {x} {y} {z} rows is distinct rise begins members ends =
      whole_object three (record { group = three-IsGroup; distinct = distinct; rise = ap do_rise is ∙ rise }) begins
      (subst (HasMembers x y) (ap join (sym is)) members) ends

  -- the list, the text, the value
  first-sorted : cmp b a ≡ Less → cmp c b ≡ Greater → cmp c a ≡ Less → sorted three ≡ list_row ∷ text_row ∷ value_row ∷ []
  first-sorted ba cb ca = rw ba (rw cb (rw ca refl))

  first-distinct : cmp b a ≡ Less → cmp c b ≡ Greater → cmp c a ≡ Less → is_distinct three ≡ true
  first-distinct ba cb ca = rw ba (rw cb (rw ca refl))

  first-rise : cmp a b ≡ Greater → cmp c b ≡ Greater → cmp a c ≡ Greater → do_rise (list_row ∷ text_row ∷ value_row ∷ []) ≡ true
  first-rise ab cb ac = rw ab (rw cb (rw ac refl))

  pub list_first : {w x y z : Written} → cmp b a ≡ Less → cmp b c ≡ Less → cmp c a ≡ Less → Appended w x (begin_object ∷ [])
      → HasMembers x y (list_member b ds ++ (text_if_given c t ++ (a, d) ∷ [])) → Appended y z (end_object ∷ []) → HasValue w z (object_of (flat three))
  list_first ba bc ca begins members ends =
      let cb = opposite b c Less bc in
      whole_three (list_row ∷ text_row ∷ value_row ∷ []) (first-sorted ba cb ca) (first-distinct ba cb ca)
      (first-rise (opposite b a Less ba) cb (opposite c a Less ca)) begins members ends

  -- the text, the value, the list
  last-sorted : cmp b a ≡ Greater → cmp c b ≡ Less → cmp c a ≡ Less → sorted three ≡ text_row ∷ value_row ∷ list_row ∷ []
  last-sorted ba cb ca = rw ba (rw cb (rw ca refl))

  last-distinct : cmp b a ≡ Greater → cmp c b ≡ Less → cmp c a ≡ Less → is_distinct three ≡ true
  last-distinct ba cb ca = rw ba (rw cb (rw ca refl))

  last-rise : cmp b a ≡ Greater → cmp b c ≡ Greater → cmp a c ≡ Greater → do_rise (text_row ∷ value_row ∷ list_row ∷ []) ≡ true
  last-rise ba bc ac = rw ba (rw bc (rw ac refl))

  pub list_last : {w x y z : Written} → cmp b a ≡ Greater → cmp b c ≡ Greater → cmp c a ≡ Less → Appended w x (begin_object ∷ [])
      → HasMembers x y ((text_if_given c t ++ (a, d) ∷ []) ++ list_member b ds) → Appended y z (end_object ∷ []) → HasValue w z (object_of (flat three))
  list_last {w} {x} {y} {z} ba bc ca begins members ends =
      let cb = opposite b c Greater bc in
      whole_three (text_row ∷ value_row ∷ list_row ∷ []) (last-sorted ba cb ca) (last-distinct ba cb ca)
      (last-rise ba bc (opposite c a Less ca)) begins
      (subst (HasMembers x y) (append_assoc (text_if_given c t) ((a, d) ∷ []) (list_member b ds)) members) ends

  -- the value, the text, the list
  third-sorted : cmp b a ≡ Greater → cmp c b ≡ Less → cmp c a ≡ Greater → sorted three ≡ value_row ∷ text_row ∷ list_row ∷ []
  third-sorted ba cb ca = rw ba (rw cb (rw ca refl))

  third-distinct : cmp b a ≡ Greater → cmp c b ≡ Less → cmp c a ≡ Greater → is_distinct three ≡ true
  third-distinct ba cb ca = rw ba (rw cb (rw ca refl))

  third-rise : cmp b a ≡ Greater → cmp b c ≡ Greater → cmp c a ≡ Greater → do_rise (value_row ∷ text_row ∷ list_row ∷ []) ≡ true
  third-rise ba bc ca = rw ba (rw bc (rw ca refl))

  pub list_third : {w x y z : Written} → cmp b a ≡ Greater → cmp b c ≡ Greater → cmp c a ≡ Greater → Appended w x (begin_object ∷ [])
      → HasMembers x y ((a, d) ∷ (text_if_given c t ++ list_member b ds)) → Appended y z (end_object ∷ []) → HasValue w z (object_of (flat three))
  list_third ba bc ca begins members ends =
      let cb = opposite b c Greater bc in
      whole_three (value_row ∷ text_row ∷ list_row ∷ []) (third-sorted ba cb ca) (third-distinct ba cb ca) (third-rise ba bc ca) begins members ends
