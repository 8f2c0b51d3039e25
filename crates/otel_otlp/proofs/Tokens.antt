-- Values that are written token by token.
use Rattle.std.proofs.Common.{◌≡◌, ℕ, suc, max, ◌^◌, ◌<◌, ◌≤◌, List, [], ◌∷◌, ◌++◌, Bool, true, false, ◌||◌, Result, Ok, Err, OnOk, inr, Some, option_map, option_and_then, decimal, refl, sym, ap, ap₂, ◌∙◌, subst, append_assoc, append-nil, arith, codes, map, take, length, get_or, ◌+◌, ◌≢◌, if◌then◌else◌, ne_eqb}
use Rattle.std.specs.Prelude.{⊤}
use Rattle.std.specs.List.{All}
use Rattle.std.specs.declared.alloc.AllocError.{AllocError}
use Rattle.std.proofs.lemmas.List.Elements.{All-head, All-tail, All-nil, All-cons, All-append}
use Rattle.std.proofs.lemmas.List.{map-append, take_more}
use Rattle.json.specs.Json as json
use Rattle.json.specs.Lex.{tokens}
use Rattle.json.specs.Print.{print}
use Rattle.json.specs.Token as token_of
use Rattle.json.specs.Token.{Token, begin_object, end_object, begin_array, end_array, key}
use Rattle.json.specs.Tree as tree
use Rattle.json.specs.Tree.{json_tokens, items_tokens, members_tokens}
use Rattle.json.specs.Written.{Written, Writes}
use Rattle.serde_json.specs.Data.{Data, null, boolean, number, string, array, object, unsigned, Items, no_items, item, Members, no_members, member, put, depth, items_depth, members_depth}
use Rattle.serde_json.specs.Read.{of_json, of_items, of_members, read, max_depth}
use Rattle.serde_json.specs.View.{items_of}
use Rattle.serde_json.specs.Written.{outline, items_outline, members_outline, blank_items, blank_members, has_float, items_have_float, members_have_float}
use Rattle.serde_json.proofs.Numbers.{number_of-decimal}
use Rattle.serde_json.proofs.Texts.{unless_float-number_of, print-outline}
use Rattle.json.proofs.Printed.Trees.{value-json_tokens}
use Rattle.otel_otlp.specs.Json.{Member, put_all, object_of, list_member, list_unless_empty, object_member, text_member, IsTextOf}
use Rattle.otel_otlp.specs.Common.{pair}
use Rattle.otel_otlp.specs.Tokens.{value_tokens, member_tokens, item_tokens, IsReadable, AreReadable, Appended, HasValue, HasMembers, HasItems}
use Rattle.otel_otlp.proofs.InOrder.{Group, one, both, flat, IsGroup, sorted, is_distinct, do_rise, join, listed, AreAt-sorted, put_group_at, put_risen}

-- ---- values that read back
pub readable_text : (s : List ℕ) → IsReadable (string s)
readable_text s = record { reads = refl; whole = refl; exact = refl }

pub readable_boolean : (b : Bool) → IsReadable (boolean b)
readable_boolean b = record { reads = refl; whole = refl; exact = refl }

pub readable_number : (n : ℕ) → n < 2 ^ 64 → IsReadable (number (unsigned n))
readable_number n h =
    let read = number_of-decimal n h in
    record {
      reads = ap (option_map number) read;
      whole = ap json.number (unless_float-number_of (decimal n) (unsigned n) read);
      exact = refl;
    }

-- ---- arrays
item_tokens-array : (ds : List Data) → items_tokens (items_outline (items_of ds)) ≡ item_tokens ds ++ end_array ∷ []
item_tokens-array [] = refl
item_tokens-array (d ∷ ds) = ap (λ ts. value_tokens d ++ ts) (item_tokens-array ds) ∙ sym (append_assoc (value_tokens d) (item_tokens ds) (end_array ∷ []))

read_items : (ds : List Data) → All IsReadable ds → of_items (items_outline (items_of ds)) ≡ Some (items_of ds)
read_items [] h = refl
read_items (d ∷ ds) h =
    let first = All-head IsReadable d ds h in
    ap (option_and_then (λ e. option_map (item e) (of_items (items_outline (items_of ds))))) first.reads
    ∙ ap (option_map (item d)) (read_items ds (All-tail IsReadable d ds h))

whole_items : (ds : List Data) → All IsReadable ds → blank_items (items_outline (items_of ds)) ≡ items_outline (items_of ds)
whole_items [] h = refl
whole_items (d ∷ ds) h =
    let first = All-head IsReadable d ds h in
    ap₂ json.item first.whole (whole_items ds (All-tail IsReadable d ds h))

either : (a b : Bool) → a ≡ false → b ≡ false → (a || b) ≡ false
either a b p q = ap (λ c. c || b) p ∙ q

exact_items : (ds : List Data) → All IsReadable ds → items_have_float (items_of ds) ≡ false
exact_items [] h = refl
exact_items (d ∷ ds) h =
    let first = All-head IsReadable d ds h in
    either (has_float d) (items_have_float (items_of ds)) first.exact (exact_items ds (All-tail IsReadable d ds h))

pub readable_array : (ds : List Data) → All IsReadable ds → IsReadable (array (items_of ds))
readable_array ds h = record {
  reads = ap (option_map array) (read_items ds h);
  whole = ap json.array (whole_items ds h);
  exact = exact_items ds h;
}

pub array_tokens : (ds : List Data) → value_tokens (array (items_of ds)) ≡ begin_array ∷ (item_tokens ds ++ end_array ∷ [])
array_tokens ds = ap (λ ts. begin_array ∷ ts) (item_tokens-array ds)

-- ---- objects
member_tokens-object : (ms : List Member) → members_tokens (members_outline (listed ms)) ≡ member_tokens ms ++ end_object ∷ []
member_tokens-object [] = refl
member_tokens-object (m ∷ ms) =
    ap (λ ts. key m.0 ∷ (value_tokens m.1 ++ ts)) (member_tokens-object ms)
    ∙ ap (λ ts. key m.0 ∷ ts) (sym (append_assoc (value_tokens m.1) (member_tokens ms) (end_object ∷ [])))

read_members : (ms : List Member) (held : Members) → AreReadable ms → of_members (members_outline (listed ms)) held ≡ Some (put_all held ms)
read_members [] held h = refl
read_members (m ∷ ms) held h =
    let first = All-head (λ m. IsReadable m.1) m ms h in
    ap (option_and_then (λ d. of_members (members_outline (listed ms)) (put m.0 d held))) first.reads
    ∙ read_members ms (put m.0 m.1 held) (All-tail (λ m. IsReadable m.1) m ms h)

whole_members : (ms : List Member) → AreReadable ms → blank_members (members_outline (listed ms)) ≡ members_outline (listed ms)
whole_members [] h = refl
whole_members (m ∷ ms) h =
    let first = All-head (λ m. IsReadable m.1) m ms h in
    ap₂ (json.member m.0) first.whole (whole_members ms (All-tail (λ m. IsReadable m.1) m ms h))

exact_members : (ms : List Member) → AreReadable ms → members_have_float (listed ms) ≡ false
exact_members [] h = refl
exact_members (m ∷ ms) h =
    let first = All-head (λ m. IsReadable m.1) m ms h in
    either (has_float m.1) (members_have_float (listed ms)) first.exact (exact_members ms (All-tail (λ m. IsReadable m.1) m ms h))

-- the names of the group come once each
pub record IsProper (g : Group) : Type 0 where
  pub group : IsGroup g
  pub distinct : is_distinct g ≡ true
  pub rise : do_rise (sorted g) ≡ true

object_is : (g : Group) → IsProper g → object_of (flat g) ≡ object (listed (join (sorted g)))
object_is g h = ap object (put_group_at g h.group h.distinct)

pub readable_object : (g : Group) → IsProper g → AreReadable (join (sorted g)) → IsReadable (object_of (flat g))
readable_object g h each =
    let ms = join (sorted g) in
    subst IsReadable (sym (object_is g h)) (record {
      reads = ap (option_map object) (read_members ms no_members each ∙ ap Some (put_risen (sorted g) (AreAt-sorted g h.group) h.rise));
      whole = ap json.object (whole_members ms each);
      exact = exact_members ms each;
    })

pub object_tokens : (g : Group) → IsProper g → value_tokens (object_of (flat g)) ≡ begin_object ∷ (member_tokens (join (sorted g)) ++ end_object ∷ [])
object_tokens g h = ap value_tokens (object_is g h) ∙ ap (λ ts. begin_object ∷ ts) (member_tokens-object (join (sorted g)))

readable_one : (n : List ℕ) (d : Data) → IsReadable d → IsReadable (object_of ((n, d) ∷ []))
readable_one n d h =
    readable_object (one n ((n, d) ∷ [])) (record { group = inr (d, refl); distinct = refl; rise = refl })
    (All-cons (λ m. IsReadable m.1) (n, d) [] h (All-nil (λ m. IsReadable m.1)))

values_tokens : (n : List ℕ) (ds : List Data)
    → begin_object ∷ key n ∷ begin_object ∷ key (codes "values") ∷ begin_array ∷ (item_tokens ds ++ end_array ∷ end_object ∷ end_object ∷ [])
    ≡ value_tokens (object_of (object_member n (list_member (codes "values") ds)))
values_tokens n ds =
    let items = items_tokens (items_outline (items_of ds)) in
    ap (λ ts. begin_object ∷ key n ∷ begin_object ∷ key (codes "values") ∷ begin_array ∷ ts)
    (sym (append_assoc (item_tokens ds) (end_array ∷ []) (end_object ∷ end_object ∷ []))
    ∙ ap (λ ts. ts ++ end_object ∷ end_object ∷ []) (sym (item_tokens-array ds))
    ∙ sym (append_assoc items (end_object ∷ []) (end_object ∷ [])))

-- ---- tokens that are appended
pub followed : {a b c : Written} {ts us : List Token} → Appended a b ts → Appended b c us → Appended a c (ts ++ us)
followed {a} {b} {c} {ts} {us} first second = record {
  tokens = second.tokens ∙ ap (λ xs. xs ++ us) first.tokens ∙ append_assoc a.tokens ts us;
  before = second.before ∙ first.before;
}

-- a call that wrote its token
pub token : {a b : Written} {t : Token} {v : ⊤} {r : Result ⊤ AllocError} → r ≡ Ok v → Writes r a b t → Appended a b (t ∷ [])
token {a} {b} {t} {v} {r} is h =
    let done = subst (λ (x : Result ⊤ AllocError). Writes x a b t) is h in
    record { tokens = done.ok; before = done.room.0 }

-- the last call, whose result is returned
pub last : {P Q : Type 0} (r : Result ⊤ AllocError) → OnOk r P → (P → Q) → OnOk r Q
last (Ok v) h more = more h
last (Err e) h more = tt

pub last_token : {a b : Written} {t : Token} {Q : Type 0} (r : Result ⊤ AllocError) → Writes r a b t → (Appended a b (t ∷ []) → Q) → OnOk r Q
last_token (Ok v) h more = more (record { tokens = h.ok; before = h.room.0 })
last_token (Err e) h more = tt

member_tokens-append : (xs ys : List Member) → member_tokens (xs ++ ys) ≡ member_tokens xs ++ member_tokens ys
member_tokens-append [] ys = refl
member_tokens-append (x ∷ xs) ys =
    ap (λ ts. key x.0 ∷ (value_tokens x.1 ++ ts)) (member_tokens-append xs ys)
    ∙ ap (λ ts. key x.0 ∷ ts) (sym (append_assoc (value_tokens x.1) (member_tokens xs) (member_tokens ys)))

pub item_tokens-append : (xs ys : List Data) → item_tokens (xs ++ ys) ≡ item_tokens xs ++ item_tokens ys
item_tokens-append [] ys = refl
item_tokens-append (x ∷ xs) ys =
    ap (λ ts. value_tokens x ++ ts) (item_tokens-append xs ys)
    ∙ sym (append_assoc (value_tokens x) (item_tokens xs) (item_tokens ys))

pub no_members_yet : (a : Written) → HasMembers a a []
no_members_yet a = record {
  appended = record { tokens = sym (append-nil a.tokens); before = refl };
  readable = All-nil (λ m. IsReadable m.1);
}

pub no_items_yet : (a : Written) → HasItems a a []
no_items_yet a = record {
  appended = record { tokens = sym (append-nil a.tokens); before = refl };
  readable = All-nil IsReadable;
}

pub and_members : {a b c : Written} {xs ys : List Member} → HasMembers a b xs → HasMembers b c ys → HasMembers a c (xs ++ ys)
and_members {a} {b} {c} {xs} {ys} first second = record {
  appended = subst (Appended a c) (sym (member_tokens-append xs ys)) (followed first.appended second.appended);
  readable = All-append (λ m. IsReadable m.1) xs ys first.readable second.readable;
}

-- the last members
pub and_no_more : {a b : Written} {xs : List Member} → HasMembers a b xs → HasMembers a b (xs ++ [])
and_no_more {a} {b} h = and_members h (no_members_yet b)

-- three, and then others
pub and_three : {a b c : Written} {more : List Member} (xs ys zs : List Member) → HasMembers a b (xs ++ ys ++ zs) → HasMembers b c more → HasMembers a c (xs ++ (ys ++ (zs ++ more)))
and_three {a} {b} {c} {more} xs ys zs first second =
    subst (HasMembers a c) (append_assoc (xs ++ ys) zs more ∙ append_assoc xs ys (zs ++ more)) (and_members first second)

-- the same members, of an equal argument
pub same : {A : Type 0} {a b : Written} {x y : A} (f : A → List Member) → x ≡ y → HasMembers a b (f x) → HasMembers a b (f y)
same {A} {a} {b} f e h = subst (λ z. HasMembers a b (f z)) e h

-- one more item
pub one_more_item : {a b c : Written} {xs : List Data} {d : Data} → HasItems a b xs → HasValue b c d → HasItems a c (xs ++ d ∷ [])
one_more_item {a} {b} {c} {xs} {d} first second = record {
  appended = subst (Appended a c) (ap (λ ts. item_tokens xs ++ ts) (sym (append-nil (value_tokens d))) ∙ sym (item_tokens-append xs (d ∷ []))) (followed first.appended second.appended);
  readable = All-append IsReadable xs (d ∷ []) first.readable (All-cons IsReadable d [] second.readable (All-nil IsReadable));
}

-- the same in a loop over xs
pub next_item : {A : Type 0} {a b c : Written} (f : A → Data) (xs : List A) (i : ℕ) (x : A) → i < length xs → x ≡ get_or xs i x → HasItems a b (map f (take i xs)) → HasValue b c (f x) → HasItems a c (map f (take (i + 1) xs))
next_item {A} {a} {b} {c} f xs i x below at before value =
    subst (HasItems a c)
    (sym (map-append f (take i xs) (x ∷ [])) ∙ ap (map f) (ap (λ y. take i xs ++ y ∷ []) at ∙ sym (take_more xs i x below)))
    (one_more_item before value)

-- the item may be read with another default
pub next_at : {A : Type 0} {a b c : Written} (f : A → Data) (xs : List A) (i : ℕ) (d : A) → i < length xs → HasItems a b (map f (take i xs)) → HasValue b c (f (get_or xs i d)) → HasItems a c (map f (take (i + 1) xs))
next_at {A} {a} {b} {c} f xs i d below before value =
    subst (HasItems a c) (sym (map-append f (take i xs) (get_or xs i d ∷ [])) ∙ ap (map f) (sym (take_more xs i d below))) (one_more_item before value)

pub next_mapped : {A B : Type 0} {a b c : Written} (f : B → Data) (g : A → B) (xs : List A) (i : ℕ) (x : A) → i < length xs → x ≡ get_or xs i x → HasItems a b (map f (map g (take i xs)))
    → HasValue b c (f (g x)) → HasItems a c (map f (map g (take (i + 1) xs)))
next_mapped {A} {B} {a} {b} {c} f g xs i x below at before value =
    subst (HasItems a c)
    (sym (map-append f (map g (take i xs)) (g x ∷ [])) ∙ ap (map f) (sym (map-append g (take i xs) (x ∷ [])) ∙ ap (map g) (ap (λ y. take i xs ++ y ∷ []) at ∙ sym (take_more xs i x below))))
    (one_more_item before value)

-- a value that is one token
pub one_token : {a b : Written} (d : Data) → Appended a b (value_tokens d) → IsReadable d → HasValue a b d
one_token d h readable = record { appended = h; readable = readable }

-- a member is its name and its value
pub whole_member : {a b c : Written} {n : List ℕ} {d : Data} → Appended a b (key n ∷ []) → HasValue b c d → HasMembers a c ((n, d) ∷ [])
whole_member {a} {b} {c} {n} {d} name value = record {
  appended = subst (Appended a c) (ap (λ ts. key n ∷ ts) (sym (append-nil (value_tokens d)))) (followed name value.appended);
  readable = All-cons (λ m. IsReadable m.1) (n, d) [] value.readable (All-nil (λ m. IsReadable m.1));
}

-- a member with a list
pub whole_list : {a b c d : Written} {n : List ℕ} {ds : List Data} → Appended a b (key n ∷ begin_array ∷ []) → HasItems b c ds → Appended c d (end_array ∷ []) → HasMembers a d (list_member n ds)
whole_list {a} {b} {c} {d} {n} {ds} begins items ends = record {
  appended = subst (Appended a d) (ap (λ ts. key n ∷ ts) (sym (array_tokens ds) ∙ sym (append-nil (value_tokens (array (items_of ds)))))) (followed begins (followed items.appended ends));
  readable = All-cons (λ m. IsReadable m.1) (n, array (items_of ds)) [] (readable_array ds items.readable) (All-nil (λ m. IsReadable m.1));
}

-- the same, unless the list is empty
pub some_list : {a b c d : Written} {n : List ℕ} {ds : List Data} → length ds ≢ 0 → Appended a b (key n ∷ begin_array ∷ []) → HasItems b c ds → Appended c d (end_array ∷ []) → HasMembers a d (list_unless_empty n ds)
some_list {a} {b} {c} {d} {n} {ds} some begins items ends =
    subst (λ e. HasMembers a d (if e then [] else list_member n ds)) (sym (ne_eqb (length ds) 0 some)) (whole_list begins items ends)

pub whole_object : {a b c d : Written} (g : Group) → IsProper g → Appended a b (begin_object ∷ []) → HasMembers b c (join (sorted g)) → Appended c d (end_object ∷ []) → HasValue a d (object_of (flat g))
whole_object {a} {b} {c} {d} g h begins members ends = record {
  appended = subst (Appended a d) (sym (object_tokens g h)) (followed begins (followed members.appended ends));
  readable = readable_object g h members.readable;
}

-- an object with one member
pub object_of_one : {a b c d : Written} {n : List ℕ} {e : Data} → Appended a b (begin_object ∷ []) → HasMembers b c ((n, e) ∷ []) → Appended c d (end_object ∷ []) → HasValue a d (object_of ((n, e) ∷ []))
object_of_one {a} {b} {c} {d} {n} {e} begins named ends =
    whole_object (one n ((n, e) ∷ [])) (record { group = inr (e, refl); distinct = refl; rise = refl }) begins named ends

-- ---- values of lists and pairs
-- the value of a list or of a map, which has its items under the name
pub whole_values : {a b c d : Written} {n : List ℕ} {ds : List Data} → Appended a b (begin_object ∷ key n ∷ begin_object ∷ key (codes "values") ∷ begin_array ∷ []) → HasItems b c ds
    → Appended c d (end_array ∷ end_object ∷ end_object ∷ []) → HasValue a d (object_of (object_member n (list_member (codes "values") ds)))
whole_values {a} {b} {c} {d} {n} {ds} begins items ends =
    let inner = readable_one (codes "values") (array (items_of ds)) (readable_array ds items.readable) in
    record {
      appended = subst (Appended a d) (values_tokens n ds) (followed begins (followed items.appended ends));
      readable = readable_one n (object_of (list_member (codes "values") ds)) inner;
    }

-- a key with its value
pub whole_pair : {a b c d : Written} {k : List ℕ} {v : Data} → Appended a b (begin_object ∷ key (codes "key") ∷ token_of.string k ∷ key (codes "value") ∷ []) → HasValue b c v
    → Appended c d (end_object ∷ []) → HasValue a d (pair k v)
whole_pair {a} {b} {c} {d} {k} {v} begins value ends = record {
  appended = subst (Appended a d) (ap (λ ts. begin_object ∷ key (codes "key") ∷ token_of.string k ∷ key (codes "value") ∷ ts) refl) (followed begins (followed value.appended ends));
  readable = readable_object (both (one (codes "key") (text_member (codes "key") k)) (one (codes "value") ((codes "value", v) ∷ [])))
      (record { group = (inr (string k, refl), inr (v, refl)); distinct = refl; rise = refl })
      (All-cons (λ m. IsReadable m.1) (codes "key", string k) ((codes "value", v) ∷ []) (readable_text k) (All-cons (λ m. IsReadable m.1) (codes "value", v) [] value.readable (All-nil (λ m. IsReadable m.1))));
}

-- ---- the whole text
mutual
  depth-outline : (d : Data) → tree.depth (outline d) ≡ depth d
  depth-outline null = refl
  depth-outline (boolean b) = refl
  depth-outline (number n) = refl
  depth-outline (string s) = refl
  depth-outline (array ds) = ap suc (items_depth-outline ds)
  depth-outline (object ms) = ap suc (members_depth-outline ms)

  items_depth-outline : (ds : Items) → tree.items_depth (items_outline ds) ≡ items_depth ds
  items_depth-outline no_items = refl
  items_depth-outline (item d ds) = ap₂ max (depth-outline d) (items_depth-outline ds)

  members_depth-outline : (ms : Members) → tree.members_depth (members_outline ms) ≡ members_depth ms
  members_depth-outline no_members = refl
  members_depth-outline (member k d ms) = ap₂ max (depth-outline d) (members_depth-outline ms)

again : (d : Data) (text : List ℕ) → IsReadable d → tokens text ≡ value_tokens d → depth d ≤ max_depth → read text ≡ Some d
again d text h same shallow =
    ap (λ o. option_and_then of_json (option_and_then (λ p. json.if_last p.0 p.1) o))
    (ap (json.value max_depth) (same ∙ sym (append-nil (value_tokens d))) ∙ value-json_tokens (outline d) max_depth [] (omega (arith, depth-outline d)))
    ∙ h.reads

pub text_of_tokens : (d : Data) (ts : List Token) (text : List ℕ) → IsReadable d → ts ≡ value_tokens d → text ≡ print ts → tokens (print ts) ≡ ts → IsTextOf text d
text_of_tokens d ts text h is printed back =
    let whole : tokens text ≡ ts = ap tokens printed ∙ back in
    record {
      compact = λ _. printed ∙ ap print is ∙ print-outline d;
      in_order = (outline d, whole ∙ is, h.whole);
      reads_back = again d text h (whole ∙ is);
    }
