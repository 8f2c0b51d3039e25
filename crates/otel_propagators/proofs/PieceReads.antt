-- The members read from the pieces of a header.
use Rattle.std.proofs.Common.{◌≡◌, ℕ, ◌+◌, ◌<◌, ◌≤◌, Bool, true, false, List, [], ◌∷◌, ◌++◌, length, drop, get_or, Option, Some, None, inl, inr, refl, sym, ap, subst, ◌∙◌, arith, append_assoc, All}
use Rattle.std.specs.Prelude.{◌&&◌, nat_lt, nat_le, map, IsUtf8, if◌then◌else◌}
use Rattle.std.specs.List.{list_all, list_any, before_first, after_first, join_with_byte, AllByRecursion}
use Rattle.std.specs.Str.{trim, is_utf8}
use Rattle.otel_base.proofs.shared.Steps.{next_element}
use Rattle.std.proofs.Math.Bool.{and-false}
use Rattle.std.proofs.lemmas.Bool.{cases_Bool, and_parts, and_from, or_from, or_parts, cond-true, cond-false, cond_both, le-leb, eqb-true, eq-eqb, both_ways, false_from_ne_true}
use Rattle.std.proofs.lemmas.Bool.Decides.{nat_tests}
use Rattle.std.proofs.lemmas.List.{append-nil, length-append, drop_all}
use Rattle.std.proofs.lemmas.List.Elements.{All-head, All-tail, All-nil}
use Rattle.std.proofs.lemmas.List.Splits.{slice_split_none, slice_split_at, join_with_byte-slice_split}
use Rattle.std.proofs.lemmas.List.Sums.{sum_by-cons}
use Rattle.std.proofs.lemmas.Str.{IsUtf8-from_is_utf8, is_utf8-from_IsUtf8}
use Rattle.percent_encoding.specs.Percent.{percent_decode}
use Rattle.percent_encoding.proofs.PercentLemmas.{percent_decode-nil, percent_decode_not_percent, length-percent_decode}
use Rattle.otel_base.specs.Blanks.{is_blank, cut_blanks}
use Rattle.otel_base.proofs.shared.BlankCuts.{no_blanks}
use Rattle.otel_ids.specs.Text.{is_comma, is_equals}
use Rattle.otel_context.specs.BaggageText.{is_key_byte, is_key, escaped, IsTrimmed}
use Rattle.otel_context.specs.BaggageMember.{Member, member_of, weight_of, IsValidMember}
use Rattle.otel_context.specs.Baggage.{max_key_value_pairs, max_len_of_all_pairs, weight, put, accepts, insert, IsBaggage}
use Rattle.otel_context.specs.BaggageHeader.{metadata_text, member_text, header}
use Rattle.otel_context.specs.BaggageLaws.{HasNoComma}
use Rattle.otel_context.proofs.shared.BaggageTrims.{trim_twice}
use Rattle.otel_propagators.specs.BaggagePieces.{is_percent, decoded_value, with_value}
use Rattle.otel_propagators.specs.BaggageReading.{is_semicolon, pieces, key_and_value, key_in, written_value, value_in, metadata_in, member_in, is_member, with_piece, with_pieces, BaggageReads, ReadsBaggage}
use Rattle.otel_base.proofs.shared.Searches.{none_append, some_at, none_from_all, none_from_not, none_All, before_at, after_at, before_none, after_none, utf8_cut, utf8_after}
use Rattle.otel_propagators.proofs.EscapedValues.{is_written, all_written, decoded}
use Rattle.otel_context.proofs.shared.BaggageAppends.{is_new, weight_more, inserted}
use Rattle.otel_context.proofs.shared.BaggageLists.{AreDistinct}
use Rattle.otel_propagators.proofs.PutMembers.{distinct_nil, insert_baggage, too_long}

-- ---- bytes that occur neither in keys nor in escaped values

key_comma : (b : ℕ) → is_key_byte b ≡ true → is_comma b ≡ false
key_comma b h = grind (arith, nat_tests)

key_semicolon : (b : ℕ) → is_key_byte b ≡ true → is_semicolon b ≡ false
key_semicolon b h = grind (arith, nat_tests)

key_equals : (b : ℕ) → is_key_byte b ≡ true → is_equals b ≡ false
key_equals b h = grind (arith, nat_tests)

key_blank : (b : ℕ) → is_key_byte b ≡ true → is_blank b ≡ false
key_blank b h = grind (arith, nat_tests)

written_comma : (b : ℕ) → is_written b ≡ true → is_comma b ≡ false
written_comma b h = grind (arith, nat_tests)

written_semicolon : (b : ℕ) → is_written b ≡ true → is_semicolon b ≡ false
written_semicolon b h = grind (arith, nat_tests)

written_blank : (b : ℕ) → is_written b ≡ true → is_blank b ≡ false
written_blank b h = grind (arith, nat_tests)

key_none : (p : ℕ → Bool) (apart : (b : ℕ) → is_key_byte b ≡ true → p b ≡ false) (k : List ℕ) → is_key k ≡ true → list_any p k ≡ false
key_none p apart k h = none_from_all p is_key_byte apart k (and_parts (nat_lt 0 (length k)) (list_all is_key_byte k) h).1

value_none : (p : ℕ → Bool) (apart : (b : ℕ) → is_written b ≡ true → p b ≡ false) (v : List ℕ) → IsUtf8 v → list_any p (escaped v) ≡ false
value_none p apart v u = none_from_all p is_written apart (escaped v) (all_written v u)

-- ---- one member

-- the text before the metadata
abbrev head : Member → List ℕ
head m = m.key ++ (61 ∷ escaped m.value)

text_is : (m : Member) → member_text m ≡ head m ++ metadata_text m.metadata
text_is m = sym (append_assoc m.key (61 ∷ escaped m.value) (metadata_text m.metadata))

module _ (m : Member) (good : IsValidMember m) where
  text : IsUtf8 m.value
  text = IsUtf8-from_is_utf8 m.value good.1

  head_none : (p : ℕ → Bool) (key : (b : ℕ) → is_key_byte b ≡ true → p b ≡ false) (value : (b : ℕ) → is_written b ≡ true → p b ≡ false) → p 61 ≡ false → list_any p (head m) ≡ false
  head_none p key value equals =
      none_append p m.key (61 ∷ escaped m.value) (key_none p key m.key good.0) (or_from (p 61) (list_any p (escaped m.value)) equals (value_none p value m.value text))

  cut_metadata : (t : List ℕ) → (before_first is_semicolon (head m ++ metadata_text t) ≡ head m) × (after_first is_semicolon (head m ++ metadata_text t) ≡ t)
  cut_metadata t = by t (head_none is_semicolon key_semicolon written_semicolon refl)
    where
      by : (t : List ℕ) → list_any is_semicolon (head m) ≡ false → (before_first is_semicolon (head m ++ metadata_text t) ≡ head m) × (after_first is_semicolon (head m ++ metadata_text t) ≡ t)
      by [] n =
          let e = append-nil (head m) in
          (ap (before_first is_semicolon) e ∙ before_none is_semicolon (head m) n, ap (after_first is_semicolon) e ∙ after_none is_semicolon (head m) n)
      by (b ∷ bs) n = (before_at is_semicolon (head m) 59 (b ∷ bs) n refl, after_at is_semicolon (head m) 59 (b ∷ bs) n refl)

  front_is : key_and_value (member_text m) ≡ head m
  front_is = ap (before_first is_semicolon) (text_is m) ∙ (cut_metadata m.metadata).0

  rest_is : after_first is_semicolon (member_text m) ≡ m.metadata
  rest_is = ap (after_first is_semicolon) (text_is m) ∙ (cut_metadata m.metadata).1

  key_is : key_in (member_text m) ≡ m.key
  key_is =
      ap (λ (x : List ℕ). cut_blanks (before_first is_equals x)) front_is
      ∙ ap cut_blanks (before_at is_equals m.key 61 (escaped m.value) (key_none is_equals key_equals m.key good.0) refl)
      ∙ no_blanks m.key (key_none is_blank key_blank m.key good.0)

  value_is : value_in (member_text m) ≡ m.value
  value_is =
      ap (λ (x : List ℕ). percent_decode (cut_blanks (after_first is_equals x))) front_is
      ∙ ap (λ (x : List ℕ). percent_decode (cut_blanks x)) (after_at is_equals m.key 61 (escaped m.value) (key_none is_equals key_equals m.key good.0) refl)
      ∙ ap percent_decode (no_blanks (escaped m.value) (value_none is_blank written_blank m.value text))
      ∙ decoded m.value text

  metadata_is : metadata_in (member_text m) ≡ m.metadata
  metadata_is = ap trim rest_is ∙ good.2

  member_is : member_in (member_text m) ≡ m
  member_is = λ i. member_of (key_is i) (value_is i) (metadata_is i)

  counts : is_member (member_text m) ≡ true
  counts =
      and_from (list_any is_equals (key_and_value (member_text m))) (is_utf8 (value_in (member_text m)))
      (ap (list_any is_equals) front_is ∙ some_at is_equals m.key 61 (escaped m.value) refl)
      (ap is_utf8 value_is ∙ good.1)

  with_member : (ms : List Member) → with_piece ms (member_text m) ≡ insert ms m
  with_member ms =
      cond-true (is_member (member_text m)) (insert ms (member_in (member_text m))) ms counts ∙ ap (insert ms) member_is

  no_comma : HasNoComma m → list_any is_comma (member_text m) ≡ false
  no_comma none = ap (list_any is_comma) (text_is m) ∙ none_append is_comma (head m) (metadata_text m.metadata) (head_none is_comma key_comma written_comma refl) (rest m.metadata (none_from_not is_comma m.metadata none))
    where
      rest : (t : List ℕ) → list_any is_comma t ≡ false → list_any is_comma (metadata_text t) ≡ false
      rest [] h = refl
      rest (b ∷ bs) h = h

-- ---- all members

all_inserted : (ms ys : List Member) → All IsValidMember ys → AreDistinct (ms ++ ys) → length ms + length ys ≤ max_key_value_pairs → weight ms + weight ys ≤ max_len_of_all_pairs → with_pieces ms (map member_text ys) ≡ ms ++ ys
all_inserted ms [] good d few light = sym (append-nil ms)
all_inserted ms (y ∷ ys) good d few light =
    let valid = All-head IsValidMember y ys good in
    let cons = sum_by-cons weight_of y ys in
    let one = with_member y valid ms ∙ inserted ms y (is_new ms y ys d) valid.0 (omega arith) (omega arith) in
    let same : (ms ++ y ∷ []) ++ ys ≡ ms ++ y ∷ ys = append_assoc ms (y ∷ []) ys in
    let w = weight_more ms (y ∷ []) in
    let single = sum_by-cons weight_of y [] in
    let l = length-append ms (y ∷ []) in
    let more = all_inserted (ms ++ y ∷ []) ys (All-tail IsValidMember y ys good) (subst AreDistinct (sym same) d) (omega arith) (omega arith) in
    ap (λ (x : List Member). with_pieces x (map member_text ys)) one ∙ more ∙ same

header_split : (m : Member) (ms : List Member) → All IsValidMember (m ∷ ms) → All HasNoComma (m ∷ ms) → pieces (header (m ∷ ms)) ≡ map member_text (m ∷ ms)
header_split m [] good none = slice_split_none is_comma (member_text m) (none_All is_comma (member_text m) (no_comma m (All-head IsValidMember m [] good) (All-head HasNoComma m [] none)))
header_split m (o ∷ ms) good none =
    slice_split_at is_comma (member_text m) 44 (header (o ∷ ms)) (none_All is_comma (member_text m) (no_comma m (All-head IsValidMember m (o ∷ ms) good) (All-head HasNoComma m (o ∷ ms) none))) refl
    ∙ ap (λ (x : List (List ℕ)). member_text m ∷ x) (header_split o ms (All-tail IsValidMember m (o ∷ ms) good) (All-tail HasNoComma m (o ∷ ms) none))

pub baggage_reads : BaggageReads
baggage_reads [] held none = refl
baggage_reads (m ∷ ms) held none =
    ap (with_pieces []) (header_split m ms held.valid none)
    ∙ all_inserted [] (m ∷ ms) held.valid held.distinct (let f = held.few in omega arith) (let l = held.light in omega arith)

-- ---- the result of reading is a baggage

pub no_members : IsBaggage []
no_members = record { few = omega arith; distinct = distinct_nil; valid = All-nil IsValidMember; light = omega arith }

semicolon_small : (b : ℕ) → is_semicolon b ≡ true → b < 128
semicolon_small b h = let e = eqb-true b 59 h in omega arith

piece_baggage : (ms : List Member) (piece : List ℕ) → IsBaggage ms → IsUtf8 piece → IsBaggage (with_piece ms piece)
piece_baggage ms piece held u =
    cond_both (is_member piece) (insert ms (member_in piece)) ms IsBaggage
    (λ t. insert_baggage ms (member_in piece) held (and_parts (list_any is_equals (key_and_value piece)) (is_utf8 (value_in piece)) t).1 (trim_twice (after_first is_semicolon piece) (utf8_after is_semicolon semicolon_small piece u)))
    (λ f. held)

pieces_baggage : (ms : List Member) (ps : List (List ℕ)) → IsBaggage ms → AllByRecursion IsUtf8 ps → IsBaggage (with_pieces ms ps)
pieces_baggage ms [] held u = held
pieces_baggage ms (p ∷ ps) held u = pieces_baggage (with_piece ms p) ps (piece_baggage ms p held u.0) u.1

joined_utf8 : (ps : List (List ℕ)) → IsUtf8 (join_with_byte 44 ps) → AllByRecursion IsUtf8 ps
joined_utf8 [] u = tt
joined_utf8 (p ∷ []) u = (u, tt)
joined_utf8 (p ∷ q ∷ ps) u = let c = utf8_cut p 44 (join_with_byte 44 (q ∷ ps)) (omega arith) u in (c.0, joined_utf8 (q ∷ ps) c.1)

pub reads_baggage : ReadsBaggage
reads_baggage t u = pieces_baggage [] (pieces t) no_members (joined_utf8 (pieces t) (subst IsUtf8 (sym (join_with_byte-slice_split 44 t)) u))

-- ---- the effect of the code on a piece

-- whether these bytes are UTF-8 and at most `longest` bytes long
abbrev pub may_stand : ℕ → List ℕ → Bool
may_stand longest bytes = is_utf8 bytes && nat_le (length bytes) longest

pub decoded_some : (longest : ℕ) (found bytes : List ℕ) → found ≡ bytes → IsUtf8 bytes → length bytes ≤ longest → Some found ≡ (if may_stand longest bytes then Some bytes else None)
decoded_some longest found bytes e u few =
    ap Some e ∙ sym (cond-true (may_stand longest bytes) (Some bytes) None (and_from (is_utf8 bytes) (nat_le (length bytes) longest) (is_utf8-from_IsUtf8 bytes u) (le-leb (length bytes) longest few)))

pub decoded_none : (longest : ℕ) (bytes : List ℕ) → ¬ IsUtf8 bytes → None ≡ (if may_stand longest bytes then Some bytes else None)
decoded_none longest bytes n =
    sym (cond-false (may_stand longest bytes) (Some bytes) None (false_from_ne_true (may_stand longest bytes) (λ t. n (IsUtf8-from_is_utf8 bytes (and_parts (is_utf8 bytes) (nat_le (length bytes) longest) t).0))))

stands : (longest : ℕ) (found bytes : List ℕ) → Some found ≡ (if may_stand longest bytes then Some bytes else None) → (is_utf8 bytes ≡ true) × (found ≡ bytes)
stands longest found bytes h =
    elim (cases_Bool (may_stand longest bytes)) [
      | inl t ↦ let e : Some found ≡ Some bytes = h ∙ cond-true (may_stand longest bytes) (Some bytes) None t in ((and_parts (is_utf8 bytes) (nat_le (length bytes) longest) t).0, (cc))
      | inr f ↦ let e : Some found ≡ None = h ∙ cond-false (may_stand longest bytes) (Some bytes) None f in absurd (cc)
    ]

stands_not : (longest : ℕ) (bytes : List ℕ) → None ≡ (if may_stand longest bytes then Some bytes else None) → may_stand longest bytes ≡ false
stands_not longest bytes h =
    false_from_ne_true (may_stand longest bytes) (λ t. let e : None ≡ Some bytes = h ∙ cond-true (may_stand longest bytes) (Some bytes) None t in cc)

longer : (longest n : ℕ) → nat_le n longest ≡ false → longest < n
longer longest n h = grind (arith, nat_tests)

-- without such a value, no member is inserted
not_inserted : (longest : ℕ) (ms : List Member) (m : Member) (far : longest < length m.value → max_len_of_all_pairs < length m.value) (readable : Bool) → readable ≡ is_utf8 m.value → may_stand longest m.value ≡ false → (b : Bool) → (if b && readable then insert ms m else ms) ≡ ms
not_inserted longest ms m far false e h b = cond-false (b && false) (insert ms m) ms (and-false b)
not_inserted longest ms m far true e h b =
    let long : nat_le (length m.value) longest ≡ false = ap (λ u. u && nat_le (length m.value) longest) e ∙ h in
    let same : insert ms m ≡ ms = cond-false (accepts ms m) (put ms m) ms (too_long m ms (far (longer longest (length m.value) long))) in
    cond_both (b && true) (insert ms m) ms (λ l. l ≡ ms) (λ t. same) (λ f. refl)

-- a value without `%` decodes to itself
pub without_percent : (value : List ℕ) → list_any is_percent value ≡ false → percent_decode value ≡ value
without_percent [] h = percent_decode-nil
without_percent (b ∷ bs) h =
    let apart = or_parts (is_percent b) (list_any is_percent bs) h in
    percent_decode_not_percent b bs (λ e. both_ways (is_percent b) apart.0 (eq-eqb b 37 e)) ∙ ap (λ (x : List ℕ). b ∷ x) (without_percent bs apart.1)

-- the metadata of a piece has no white space at its ends
pub metadata_trimmed : (piece metadata : List ℕ) → IsUtf8 piece → metadata ≡ metadata_in piece → IsTrimmed metadata
metadata_trimmed piece metadata u d = subst IsTrimmed (sym d) (trim_twice (after_first is_semicolon piece) (utf8_after is_semicolon semicolon_small piece u))

-- in a buffer of its length
pub plain_value : (value : List ℕ) → IsUtf8 value → list_any is_percent value ≡ false → decoded_value (length value) value ≡ Some value
plain_value value u none =
    let same = without_percent value none in
    sym (decoded_some (length value) value (percent_decode value) (sym same) (subst IsUtf8 (sym same) u) (length-percent_decode value).0)

-- a buffer as long as the value is written has room for the decoded value
pub room_enough : (longest : ℕ) (value : List ℕ) → length value ≤ longest → longest < length (percent_decode value) → max_len_of_all_pairs < length (percent_decode value)
room_enough longest value le long = absurd (omega (arith, (length-percent_decode value).0))

module _ (ms : List Member) (piece key value metadata : List ℕ) (some : list_any is_equals (key_and_value piece) ≡ true) (k : key ≡ key_in piece) (v : value ≡ written_value piece) (d : metadata ≡ metadata_in piece) where
  -- the member with a value that was read
  piece_is : (found : List ℕ) → is_utf8 (percent_decode value) ≡ true → found ≡ percent_decode value → insert ms (member_of key found metadata) ≡ with_piece ms piece
  piece_is found t e =
      let decodes : found ≡ value_in piece = e ∙ ap percent_decode v in
      let utf8 : is_utf8 (value_in piece) ≡ true = ap (λ (x : List ℕ). is_utf8 (percent_decode x)) (sym v) ∙ t in
      ap (insert ms) (λ i. member_of (k i) (decodes i) (d i)) ∙ sym (cond-true (is_member piece) (insert ms (member_in piece)) ms (and_from (list_any is_equals (key_and_value piece)) (is_utf8 (value_in piece)) some utf8))

  -- the list after a value that was decoded into a buffer
  pub piece_decoded : (longest : ℕ) (found : Option (List ℕ)) → (longest < length (percent_decode value) → max_len_of_all_pairs < length (percent_decode value)) → found ≡ decoded_value longest value → with_value ms key found metadata ≡ with_piece ms piece
  piece_decoded longest None far h =
      sym (not_inserted longest ms (member_in piece) (subst (λ (x : List ℕ). longest < length (percent_decode x) → max_len_of_all_pairs < length (percent_decode x)) v far) (is_utf8 (value_in piece)) refl (ap (λ (x : List ℕ). may_stand longest (percent_decode x)) (sym v) ∙ stands_not longest (percent_decode value) h) (list_any is_equals (key_and_value piece)))
  piece_decoded longest (Some text) far h =
      let r = stands longest text (percent_decode value) h in
      piece_is text r.0 r.1

-- ---- the loop

pub goes_on : (ps : List (List ℕ)) (n k : ℕ) (piece : List ℕ) (ms new total : List Member) → k ≡ n + 1 → (n < length ps) × (piece ≡ get_or ps n piece) → new ≡ with_piece ms piece → with_pieces ms (drop n ps) ≡ total → with_pieces new (drop k ps) ≡ total
goes_on ps n k piece ms new total next turn is so_far =
    rw (next, is) (sym (ap (with_pieces ms) (next_element ps n piece turn)) ∙ so_far)

pub ends : (ps : List (List ℕ)) (n : ℕ) (ms total : List Member) → length ps ≤ n → with_pieces ms (drop n ps) ≡ total → ms ≡ total
ends ps n ms total le so_far = ap (with_pieces ms) (sym (drop_all n ps le)) ∙ so_far
