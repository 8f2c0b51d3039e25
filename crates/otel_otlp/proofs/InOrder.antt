-- Objects whose members are written in the order of their names.
use Rattle.std.proofs.Common.{◌≡◌, ℕ, List, [], ◌∷◌, ◌++◌, Bool, true, false, ◌&&◌, if◌then◌else◌, Option, Some, None, decimal, Ordering, Less, Equal, Greater, inl, inr, refl, sym, ap, ◌∙◌}
use Rattle.std.specs.Prelude.{◌⊎◌, ⊤}
use Rattle.std.specs.Ordering.{nat_cmp}
use Rattle.std.specs.Cmp.Lexicographic.{slice_cmp}
use Rattle.serde_json.specs.Data.{Data, string, number, unsigned, Members, no_members, member, put}
use Rattle.otel_otlp.specs.Json.{Member, put_all, text_if_given, number_if_given, decimal_if_given}

-- ---- members in the order in which they are listed
abbrev pub listed : List Member → Members
listed [] = no_members
listed (m ∷ more) = member m.0 m.1 (listed more)

-- the member of this name, or none
abbrev pub IsAt : List ℕ → List Member → Type 0
IsAt n ms = (ms ≡ []) ⊎ ((d : Data) × (ms ≡ (n, d) ∷ []))

-- ---- members that may be left out, with their names
abbrev pub Row : Type 0
Row = List ℕ × List Member

abbrev pub join : List Row → List Member
join [] = []
join (r ∷ more) = r.1 ++ join more

abbrev pub AreAt : List Row → Type 0
AreAt [] = ⊤
AreAt (r ∷ more) = IsAt r.0 r.1 × AreAt more

-- ---- names in order
abbrev is_less : Ordering → Bool
is_less Less = true
is_less Equal = false
is_less Greater = false

abbrev is_greater : Ordering → Bool
is_greater Less = false
is_greater Equal = false
is_greater Greater = true

abbrev cmp : List ℕ → List ℕ → Ordering
cmp = slice_cmp nat_cmp

-- the name comes before the names of these rows
abbrev is_first : List ℕ → List Row → Bool
is_first n [] = true
is_first n (r ∷ more) = is_less (cmp n r.0) && is_first n more

-- the rows with one more, before the first of the rows that come after it
abbrev insert : List ℕ → List Member → List Row → List Row
insert n ms [] = (n, ms) ∷ []
insert n ms (r ∷ more) =
    if is_first n (r ∷ more) then (n, ms) ∷ r ∷ more else r ∷ insert n ms more

-- the name comes after the rows in front of its place
abbrev has_place : List ℕ → List Row → Bool
has_place n [] = true
has_place n (r ∷ more) = if is_first n (r ∷ more) then true else is_greater (cmp n r.0) && has_place n more

-- ---- one more member
both-first : (a b : Bool) → (a && b) ≡ true → a ≡ true
both-first true b e = refl
both-first false b e = e

both-second : (a b : Bool) → (a && b) ≡ true → b ≡ true
both-second true b e = e
both-second false b e = absurd cc

put_before : (n : List ℕ) (d : Data) (m : Member) (more : List Member) (o : Ordering) → is_less o ≡ true → cmp n m.0 ≡ o
    → put n d (listed (m ∷ more)) ≡ member n d (listed (m ∷ more))
put_before n d m more Less h e = rw e refl
put_before n d m more Equal h e = absurd cc
put_before n d m more Greater h e = absurd cc

put_after : (n : List ℕ) (d : Data) (m : Member) (more : List Member) (o : Ordering) → is_greater o ≡ true → cmp n m.0 ≡ o
    → put n d (listed (m ∷ more)) ≡ member m.0 m.1 (put n d (listed more))
put_after n d m more Less h e = absurd cc
put_after n d m more Equal h e = absurd cc
put_after n d m more Greater h e = rw e refl

put_first : (n : List ℕ) (d : Data) (rows : List Row) → AreAt rows → is_first n rows ≡ true → put n d (listed (join rows)) ≡ member n d (listed (join rows))
put_first n d [] at h = refl
put_first n d (r ∷ more) at h =
    elim at.0 [
      | inl none ↦ ap (λ ms. put n d (listed (ms ++ join more))) none ∙ put_first n d more at.1 (both-second _ _ h) ∙ ap (λ ms. member n d (listed (ms ++ join more))) (sym none)
      | inr some ↦ ap (λ ms. put n d (listed (ms ++ join more))) some.1
          ∙ put_before n d (r.0, some.0) (join more) (cmp n r.0) (both-first _ _ h) refl
          ∙ ap (λ ms. member n d (listed (ms ++ join more))) (sym some.1)
    ]

put_row : (n : List ℕ) (d : Data) (rows : List Row) → AreAt rows → has_place n rows ≡ true
    → put n d (listed (join rows)) ≡ listed (join (insert n ((n, d) ∷ []) rows))
put_row n d [] at h = refl
put_row n d (r ∷ more) at h = by (is_first n (r ∷ more)) refl (put_row n d more at.1) h
  where
    later : is_greater (cmp n r.0) ≡ true → put n d (listed (join more)) ≡ listed (join (insert n ((n, d) ∷ []) more))
        → put n d (listed (join (r ∷ more))) ≡ listed (join (r ∷ insert n ((n, d) ∷ []) more))
    later greater rest =
        elim at.0 [
          | inl none ↦ ap (λ ms. put n d (listed (ms ++ join more))) none ∙ rest
              ∙ ap (λ ms. listed (ms ++ join (insert n ((n, d) ∷ []) more))) (sym none)
          | inr some ↦ ap (λ ms. put n d (listed (ms ++ join more))) some.1
              ∙ put_after n d (r.0, some.0) (join more) (cmp n r.0) greater refl
              ∙ ap (member r.0 some.0) rest
              ∙ ap (λ ms. listed (ms ++ join (insert n ((n, d) ∷ []) more))) (sym some.1)
        ]

    by : (b : Bool) → is_first n (r ∷ more) ≡ b
        → (has_place n more ≡ true → put n d (listed (join more)) ≡ listed (join (insert n ((n, d) ∷ []) more)))
        → (if b then true else is_greater (cmp n r.0) && has_place n more) ≡ true
        → put n d (listed (join (r ∷ more))) ≡ listed (join (if b then (n, (n, d) ∷ []) ∷ r ∷ more else r ∷ insert n ((n, d) ∷ []) more))
    by true e rest h = put_first n d (r ∷ more) at e
    by false e rest h = later (both-first _ _ h) (rest (both-second _ _ h))

-- without a member nothing changes
insert_none : (n : List ℕ) (rows : List Row) → join (insert n [] rows) ≡ join rows
insert_none n [] = refl
insert_none n (r ∷ more) = by (is_first n (r ∷ more)) (insert_none n more)
  where
    by : (b : Bool) → join (insert n [] more) ≡ join more
        → join (if b then (n, []) ∷ r ∷ more else r ∷ insert n [] more) ≡ join (r ∷ more)
    by true rest = refl
    by false rest = ap (λ ms. r.1 ++ ms) rest

insert_row : (n : List ℕ) (ms : List Member) (rows : List Row) → IsAt n ms → AreAt rows → has_place n rows ≡ true
    → put_all (listed (join rows)) ms ≡ listed (join (insert n ms rows))
insert_row n ms rows is at h =
    elim is [
      | inl none ↦ ap (put_all (listed (join rows))) none ∙ ap listed (sym (insert_none n rows)) ∙ ap (λ xs. listed (join (insert n xs rows))) (sym none)
      | inr some ↦ ap (put_all (listed (join rows))) some.1 ∙ put_row n some.0 rows at h ∙ ap (λ xs. listed (join (insert n xs rows))) (sym some.1)
    ]

AreAt-insert : (n : List ℕ) (ms : List Member) (rows : List Row) → IsAt n ms → AreAt rows → AreAt (insert n ms rows)
AreAt-insert n ms [] is at = (is, tt)
AreAt-insert n ms (r ∷ more) is at = by (is_first n (r ∷ more)) (AreAt-insert n ms more is at.1)
  where
    by : (b : Bool) → AreAt (insert n ms more) → AreAt (if b then (n, ms) ∷ r ∷ more else r ∷ insert n ms more)
    by true rest = (is, at)
    by false rest = (at.0, rest)

-- ---- members in any order
-- members with their names, as they are grouped
pub data Group : Type 0 where
  one : List ℕ → List Member → Group
  both : Group → Group → Group

abbrev pub flat : Group → List Member
flat (one n ms) = ms
flat (both a b) = flat a ++ flat b

abbrev pub IsGroup : Group → Type 0
IsGroup (one n ms) = IsAt n ms
IsGroup (both a b) = IsGroup a × IsGroup b

-- the rows with those of the group, each in its place
abbrev place_in : List Row → Group → List Row
place_in rows (one n ms) = insert n ms rows
place_in rows (both a b) = place_in (place_in rows a) b

abbrev have_places : List Row → Group → Bool
have_places rows (one n ms) = has_place n rows
have_places rows (both a b) = have_places rows a && have_places (place_in rows a) b

put_all-append : (held : Members) (xs ys : List Member) → put_all held (xs ++ ys) ≡ put_all (put_all held xs) ys
put_all-append held [] ys = refl
put_all-append held (x ∷ xs) ys = put_all-append (put x.0 x.1 held) xs ys

AreAt-place_in : (rows : List Row) (g : Group) → AreAt rows → IsGroup g → AreAt (place_in rows g)
AreAt-place_in rows (one n ms) at is = AreAt-insert n ms rows is at
AreAt-place_in rows (both a b) at is = AreAt-place_in (place_in rows a) b (AreAt-place_in rows a at is.0) is.1

put_group : (rows : List Row) (g : Group) → AreAt rows → IsGroup g → have_places rows g ≡ true
    → put_all (listed (join rows)) (flat g) ≡ listed (join (place_in rows g))
put_group rows (one n ms) at is h = insert_row n ms rows is at h
put_group rows (both a b) at is h =
    put_all-append (listed (join rows)) (flat a) (flat b)
    ∙ ap (λ members. put_all members (flat b)) (put_group rows a at is.0 (both-first _ _ h))
    ∙ put_group (place_in rows a) b (AreAt-place_in rows a at is.0) is.1 (both-second _ _ h)

-- the members of a group in the order of their names
abbrev pub sorted : Group → List Row
sorted g = place_in [] g

-- each name of the group comes once
abbrev pub is_distinct : Group → Bool
is_distinct g = have_places [] g

-- a group in any order makes the object with its members in the order of their names
pub put_group_at : (g : Group) → IsGroup g → is_distinct g ≡ true → put_all no_members (flat g) ≡ listed (join (sorted g))
put_group_at g is h = put_group [] g tt is h

-- ---- members whose names rise
-- the names of these rows come after the name
abbrev are_after : List ℕ → List Row → Bool
are_after n [] = true
are_after n (r ∷ more) = is_greater (cmp r.0 n) && are_after n more

abbrev pub do_rise : List Row → Bool
do_rise [] = true
do_rise (r ∷ more) = are_after r.0 more && do_rise more

put_all_after : (m : Member) (rows : List Row) (held : Members) → AreAt rows → are_after m.0 rows ≡ true
    → put_all (member m.0 m.1 held) (join rows) ≡ member m.0 m.1 (put_all held (join rows))
put_all_after m [] held at h = refl
put_all_after m (r ∷ more) held at h =
    elim at.0 [
      | inl none ↦ ap (λ ms. put_all (member m.0 m.1 held) (ms ++ join more)) none
          ∙ put_all_after m more held at.1 (both-second _ _ h)
          ∙ ap (λ ms. member m.0 m.1 (put_all held (ms ++ join more))) (sym none)
      | inr some ↦ ap (λ ms. put_all (member m.0 m.1 held) (ms ++ join more)) some.1
          ∙ ap (λ ms. put_all ms (join more)) (put_greater r.0 some.0 m held (cmp r.0 m.0) (both-first _ _ h) refl)
          ∙ put_all_after m more (put r.0 some.0 held) at.1 (both-second _ _ h)
          ∙ ap (λ ms. member m.0 m.1 (put_all held (ms ++ join more))) (sym some.1)
    ]
  where
    put_greater : (n : List ℕ) (d : Data) (m : Member) (held : Members) (o : Ordering) → is_greater o ≡ true → cmp n m.0 ≡ o
        → put n d (member m.0 m.1 held) ≡ member m.0 m.1 (put n d held)
    put_greater n d m held Less h e = absurd cc
    put_greater n d m held Equal h e = absurd cc
    put_greater n d m held Greater h e = rw e refl

-- they are put in the order in which they are listed
pub put_risen : (rows : List Row) → AreAt rows → do_rise rows ≡ true → put_all no_members (join rows) ≡ listed (join rows)
put_risen [] at h = refl
put_risen (r ∷ more) at h =
    let rest = put_risen more at.1 (both-second _ _ h) in
    elim at.0 [
      | inl none ↦ ap (λ ms. put_all no_members (ms ++ join more)) none ∙ rest ∙ ap (λ ms. listed (ms ++ join more)) (sym none)
      | inr some ↦ ap (λ ms. put_all no_members (ms ++ join more)) some.1
          ∙ put_all_after (r.0, some.0) more no_members at.1 (both-first _ _ h)
          ∙ ap (member r.0 some.0) rest ∙ ap (λ ms. listed (ms ++ join more)) (sym some.1)
    ]

pub AreAt-sorted : (g : Group) → IsGroup g → AreAt (sorted g)
AreAt-sorted g is = AreAt-place_in [] g tt is

-- ---- members that may be left out
pub at_member : (n : List ℕ) (d : Data) → IsAt n ((n, d) ∷ [])
at_member n d = inr (d, refl)

pub at_unless : (b : Bool) (n : List ℕ) (d : Data) → IsAt n (if b then [] else (n, d) ∷ [])
at_unless true n d = inl refl
at_unless false n d = inr (d, refl)

pub at_text_if_given : (n : List ℕ) (text : Option (List ℕ)) → IsAt n (text_if_given n text)
at_text_if_given n None = inl refl
at_text_if_given n (Some text) = inr (string text, refl)

pub at_number_if_given : (n : List ℕ) (given : Option ℕ) → IsAt n (number_if_given n given)
at_number_if_given n None = inl refl
at_number_if_given n (Some k) = inr (number (unsigned k), refl)

pub at_decimal_if_given : (n : List ℕ) (given : Option ℕ) → IsAt n (decimal_if_given n given)
at_decimal_if_given n None = inl refl
at_decimal_if_given n (Some k) = inr (string (decimal k), refl)
