-- The members of a header, which it determines.
use Rattle.std.proofs.Common.{◌≡◌, ℕ, ◌+◌, ◌*◌, ◌<◌, ◌≤◌, true, List, [], ◌∷◌, ◌++◌, length, All}
use Rattle.std.proofs.Common.{refl, sym, ap, ◌∙◌, arith, length-append}
use Rattle.std.specs.Prelude.{not, ◌==◌, nat_lt}
use Rattle.std.specs.List.{list_all, AllByRecursion}
use Rattle.std.proofs.lemmas.Bool.{and_parts, false≢true}
use Rattle.std.proofs.lemmas.Bool.Decides.{nat_tests}
use Rattle.std.proofs.lemmas.List.{append-nil}
use Rattle.std.proofs.lemmas.List.Elements.{All-head, All-tail}
use Rattle.std.proofs.lemmas.List.Sums.{sum_by-cons}
use Rattle.otel_base.proofs.shared.Searches.{list_all-weaker}
use Rattle.otel_context.specs.BaggageText.{is_key_byte, is_key, escaped}
use Rattle.otel_context.specs.BaggageMember.{Member, member_of, weight_of, IsValidMember}
use Rattle.otel_context.specs.Baggage.{weight}
use Rattle.otel_context.specs.BaggageHeader.{metadata_text, member_text, header}
use Rattle.otel_context.specs.BaggageLaws.{HasNoComma, HeaderDetermines, HeaderIsShort}
use Rattle.otel_context.proofs.BaggageCuts.{Lacks, no_cut}
use Rattle.otel_base.proofs.shared.Searches.{list_all-both}
use Rattle.otel_context.proofs.BaggageCuts.{same_cut}
use Rattle.otel_context.proofs.shared.BaggageEscapes.{escaped-injective, escaped_no_comma}
use Rattle.otel_context.proofs.shared.BaggageEscapes.{escaped_no_semicolon, length-escaped}

-- ---- which bytes a member lacks

key_no_comma : (b : ℕ) → is_key_byte b ≡ true → not (b == 44) ≡ true
key_no_comma b h = grind (arith, nat_tests)

key_no_equals : (b : ℕ) → is_key_byte b ≡ true → not (b == 61) ≡ true
key_no_equals b h = grind (arith, nat_tests)

key_lacks_comma : (k : List ℕ) → is_key k ≡ true → Lacks 44 k
key_lacks_comma k h = list_all-weaker is_key_byte (λ b. not (b == 44)) key_no_comma k (and_parts (nat_lt 0 (length k)) (list_all is_key_byte k) h).1

key_lacks_equals : (k : List ℕ) → is_key k ≡ true → Lacks 61 k
key_lacks_equals k h = list_all-weaker is_key_byte (λ b. not (b == 61)) key_no_equals k (and_parts (nat_lt 0 (length k)) (list_all is_key_byte k) h).1

metadata_lacks_comma : (m : List ℕ) → Lacks 44 m → Lacks 44 (metadata_text m)
metadata_lacks_comma [] h = refl
metadata_lacks_comma (b ∷ bs) h = h

member_lacks_comma : (t : Member) → IsValidMember t → HasNoComma t → Lacks 44 (member_text t)
member_lacks_comma t good none =
    let p = λ (b : ℕ). not (b == 44) in
    list_all-both p t.key (61 ∷ escaped t.value ++ metadata_text t.metadata) (key_lacks_comma t.key good.0)
    (list_all-both p (escaped t.value) (metadata_text t.metadata) (escaped_no_comma t.value) (metadata_lacks_comma t.metadata none))

-- ---- the text of a member determines it

after_key : (v w m n : List ℕ) → escaped v ++ metadata_text m ≡ escaped w ++ metadata_text n → (v ≡ w) × (m ≡ n)
after_key v w [] [] e = (escaped-injective v w (sym (append-nil (escaped v)) ∙ e ∙ append-nil (escaped w)), refl)
after_key v w [] (b ∷ bs) e = absurd (no_cut 59 (escaped v) (escaped w) (b ∷ bs) (escaped_no_semicolon v) (sym (append-nil (escaped v)) ∙ e))
after_key v w (b ∷ bs) [] e = absurd (no_cut 59 (escaped w) (escaped v) (b ∷ bs) (escaped_no_semicolon w) (sym (append-nil (escaped w)) ∙ sym e))
after_key v w (b ∷ bs) (c ∷ cs) e =
    let parts = same_cut 59 (escaped v) (escaped w) (b ∷ bs) (c ∷ cs) (escaped_no_semicolon v) (escaped_no_semicolon w) e in
    (escaped-injective v w parts.0, parts.1)

member_text-injective : (s t : Member) → IsValidMember s → IsValidMember t → member_text s ≡ member_text t → s ≡ t
member_text-injective s t good fine e =
    let parts = same_cut 61 s.key t.key (escaped s.value ++ metadata_text s.metadata) (escaped t.value ++ metadata_text t.metadata) (key_lacks_equals s.key good.0) (key_lacks_equals t.key fine.0) e in
    let rest = after_key s.value t.value s.metadata t.metadata parts.1 in
    λ i. member_of (parts.0 i) (rest.0 i) (rest.1 i)

-- ---- a header determines its members

not_empty : (t : Member) (rest : List ℕ) → [] ≡ member_text t ++ rest → ⊥
not_empty t rest e = let n = ap length e in omega (arith, length-append (member_text t) rest, length-append t.key (61 ∷ escaped t.value ++ metadata_text t.metadata))

abbrev Good : Member → Type 0
Good t = IsValidMember t × HasNoComma t

determines : (xs ys : List Member) → AllByRecursion Good xs → AllByRecursion Good ys → header xs ≡ header ys → xs ≡ ys
determines [] [] h k e = refl
determines [] (t ∷ []) h k e = absurd (not_empty t [] (e ∙ sym (append-nil (member_text t))))
determines [] (t ∷ u ∷ ts) h k e = absurd (not_empty t (44 ∷ header (u ∷ ts)) e)
determines (t ∷ []) [] h k e = absurd (not_empty t [] (sym e ∙ sym (append-nil (member_text t))))
determines (t ∷ u ∷ ts) [] h k e = absurd (not_empty t (44 ∷ header (u ∷ ts)) (sym e))
determines (s ∷ []) (t ∷ []) h k e = let i = member_text-injective s t h.0.0 k.0.0 e in ap (λ (x : Member). x ∷ []) i
determines (s ∷ []) (t ∷ u ∷ ts) h k e = absurd (no_cut 44 (member_text s) (member_text t) (header (u ∷ ts)) (member_lacks_comma s h.0.0 h.0.1) e)
determines (s ∷ r ∷ rs) (t ∷ []) h k e = absurd (no_cut 44 (member_text t) (member_text s) (header (r ∷ rs)) (member_lacks_comma t k.0.0 k.0.1) (sym e))
determines (s ∷ r ∷ rs) (t ∷ u ∷ ts) h k e =
    let parts = same_cut 44 (member_text s) (member_text t) (header (r ∷ rs)) (header (u ∷ ts)) (member_lacks_comma s h.0.0 h.0.1) (member_lacks_comma t k.0.0 k.0.1) e in
    let first = member_text-injective s t h.0.0 k.0.0 parts.0 in
    let rest = determines (r ∷ rs) (u ∷ ts) h.1 k.1 parts.1 in
    λ i. first i ∷ rest i

all_good : (ts : List Member) → All IsValidMember ts → All HasNoComma ts → AllByRecursion Good ts
all_good [] h k = tt
all_good (t ∷ ts) h k = ((All-head IsValidMember t ts h, All-head HasNoComma t ts k), all_good ts (All-tail IsValidMember t ts h) (All-tail HasNoComma t ts k))

pub header_determines : HeaderDetermines
header_determines xs ys h k free none e = determines xs ys (all_good xs h.valid free) (all_good ys k.valid none) e

-- ---- a header is short

key_nonempty : (k : List ℕ) → is_key k ≡ true → 0 < length k
key_nonempty [] h = absurd (false≢true h)
key_nonempty (b ∷ bs) h = omega arith

length-metadata : (m : List ℕ) → length (metadata_text m) ≤ 3 * length m
length-metadata [] = omega arith
length-metadata (b ∷ bs) = omega arith

-- the text of a member and the comma after it have at most three bytes for each byte of the member
member_short : (t : Member) → IsValidMember t → length (member_text t) + 1 ≤ 3 * weight_of t
member_short t good =
    omega (arith, key_nonempty t.key good.0, length-escaped t.value, length-metadata t.metadata, length-append t.key (61 ∷ escaped t.value ++ metadata_text t.metadata), length-append (escaped t.value) (metadata_text t.metadata))

short : (t : Member) (ts : List Member) → All IsValidMember (t ∷ ts) → length (header (t ∷ ts)) + 1 ≤ 3 * weight (t ∷ ts)
short t [] h = omega (arith, member_short t (All-head IsValidMember t [] h), sum_by-cons weight_of t [])
short t (u ∷ ts) h =
    omega (arith, member_short t (All-head IsValidMember t (u ∷ ts) h), short u ts (All-tail IsValidMember t (u ∷ ts) h), sum_by-cons weight_of t (u ∷ ts), length-append (member_text t) (44 ∷ header (u ∷ ts)))

pub header_short : HeaderIsShort
header_short [] h = omega arith
header_short (t ∷ ts) h = omega (arith, short t ts h.valid, h.light)
