-- Fields that are put before others.
use Rattle.std.proofs.Common.{◌≡◌, ℕ, ◌+◌, ◌-◌, List, [], ◌∷◌, ◌++◌, length, Option, Some, None, refl, sym, ap, ◌∙◌, append_assoc, append-nil, length-append, zero-add, arith}
use Rattle.std.proofs.Common.{Result, OnOk, subst, eq-eqb}
use Rattle.std.specs.Int.{w32, w64, to_le_bytes}
use Rattle.std.specs.Prelude.{option_map, ◌==◌, Bool, true, if◌then◌else◌}
use Rattle.std.specs.declared.alloc.AllocError.{AllocError}
use Rattle.std.proofs.lemmas.Grind.{flat_map-append}
use Rattle.std.proofs.lemmas.List.{nil_from_length}
use Rattle.otel_proto.specs.Output.{Output, put_bytes, put, put_head, writing, Puts}
use Rattle.otel_proto.specs.Wire.{Field, varint, fixed64, fixed32, bytes}
use Rattle.otel_proto.specs.Written.{bytes_of, field_bytes, message, messages, head, tag, varint_bytes, bytes_unless_empty}

both_in : (a b : List ℕ) (x : Option (List ℕ)) → option_map (λ (t : List ℕ). a ++ t) (option_map (λ (t : List ℕ). b ++ t) x) ≡ option_map (λ (t : List ℕ). (a ++ b) ++ t) x
both_in a b None = refl
both_in a b (Some t) = ap Some (sym (append_assoc a b t))

pub bytes_twice : (a b : List ℕ) (o : Output) → put_bytes a (put_bytes b o) ≡ put_bytes (a ++ b) o
bytes_twice a b o =
    let counts : length a + (length b + o.count) ≡ length (a ++ b) + o.count = grind (arith, length-append a b) in
    let same = both_in a b o.bytes in
    λ i. record { count = counts i; bytes = same i }

none_in : (x : Option (List ℕ)) → option_map (λ (t : List ℕ). [] ++ t) x ≡ x
none_in None = refl
none_in (Some t) = refl

-- no fields
pub put_none : (o : Output) → put [] o ≡ o
unfolding put bytes_of
put_none o = let same = none_in o.bytes in let counts = zero-add o.count in λ i. record { count = counts i; bytes = same i }

-- fields before fields
pub put_both : (f g : List Field) (o : Output) → put f (put g o) ≡ put (f ++ g) o
unfolding put bytes_of
put_both f g o = bytes_twice (bytes_of f) (bytes_of g) o ∙ ap (λ (s : List ℕ). put_bytes s o) (sym (flat_map-append field_bytes f g))

-- the bytes of one field
pub put_field : (f : Field) (a b : List ℕ) (o : Output) → a ++ b ≡ field_bytes f → put_bytes a (put_bytes b o) ≡ put (f ∷ []) o
unfolding put bytes_of
put_field f a b o h =
    bytes_twice a b o ∙ ap (λ (s : List ℕ). put_bytes s o) (h ∙ sym (append-nil (field_bytes f)))

pub put_varint_field : (number v : ℕ) (o : Output) → put_bytes (tag number 0) (put_bytes (varint_bytes v) o) ≡ put ((number, varint v) ∷ []) o
put_varint_field number v o = put_field (number, varint v) (tag number 0) (varint_bytes v) o refl

pub put_fixed64_field : (number v : ℕ) (o : Output) → put_bytes (tag number 1) (put_bytes (to_le_bytes w64 v) o) ≡ put ((number, fixed64 v) ∷ []) o
put_fixed64_field number v o = put_field (number, fixed64 v) (tag number 1) (to_le_bytes w64 v) o refl

pub put_fixed32_field : (number v : ℕ) (o : Output) → put_bytes (tag number 5) (put_bytes (to_le_bytes w32 v) o) ≡ put ((number, fixed32 v) ∷ []) o
put_fixed32_field number v o = put_field (number, fixed32 v) (tag number 5) (to_le_bytes w32 v) o refl

-- a number that is left out
pub put_zero : (v : ℕ) (fs : List Field) (o : Output) → v ≡ 0 → o ≡ put (if v == 0 then [] else fs) o
put_zero v fs o none = sym (put_none o) ∙ ap (λ (b : Bool). put (if b then [] else fs) o) (sym (eq-eqb v 0 none))

-- fields before those that were put
pub put_then : (f g : List Field) (o : Output) {mid new : Output} → mid ≡ put g o → new ≡ put f mid → new ≡ put (f ++ g) o
put_then f g o a b = b ∙ ap (put f) a ∙ put_both f g o

-- the same by the last call
pub puts_then : (r : Result Unit AllocError) (f g : List Field) (o new : Output) {mid : Output} → mid ≡ put g o → Puts r mid new f → Puts r o new (f ++ g)
puts_then r f g o new a h = subst (λ (p : Output). OnOk r (new ≡ p)) (ap (put f) a ∙ put_both f g o) h

-- fields of a value that is another's
pub same_put : {A : Type 0} (f : A → List Field) (old : Output) {new : Output} {a b : A} → a ≡ b → new ≡ put (f a) old → new ≡ put (f b) old
same_put f old e h = h ∙ ap (λ x. put (f x) old) e

pub same_puts : {A : Type 0} (f : A → List Field) (r : Result Unit AllocError) (old new : Output) {a b : A} → a ≡ b → Puts r old new (f a) → Puts r old new (f b)
same_puts f r old new e h = subst (λ x. Puts r old new (f x)) e h

-- the tag and the length of bytes
pub put_head_parts : (number end n : ℕ) (o : Output) → n ≡ o.count - end → put_bytes (tag number 2) (put_bytes (varint_bytes n) o) ≡ put_head number end o
unfolding put_head
put_head_parts number end n o h =
    bytes_twice (tag number 2) (varint_bytes n) o ∙ ap (λ (k : ℕ). put_bytes (head number k) o) h

-- bytes that were put since the count was `end`
pub put_bytes_field : (number end : ℕ) (s : List ℕ) (o : Output) → end ≡ o.count → put_head number end (put_bytes s o) ≡ put ((number, bytes s) ∷ []) o
unfolding put_head
put_bytes_field number end s o h =
    let same : length s + o.count - end ≡ length s = omega arith in
    ap (λ (k : ℕ). put_bytes (head number k) (put_bytes s o)) same
    ∙ put_field (number, bytes s) (head number (length s)) s o refl

-- a message whose fields were put since the count was `end`
pub put_message : (number end : ℕ) (fs : List Field) (o : Output) → end ≡ o.count → put_head number end (put fs o) ≡ put (message number fs ∷ []) o
unfolding put
put_message number end fs o h = put_bytes_field number end (bytes_of fs) o h

-- the same by the last call
pub puts_message : (r : Result Unit AllocError) (number end : ℕ) (fs : List Field) (o new : Output) {mid : Output} → end ≡ o.count → mid ≡ put fs o → OnOk r (new ≡ put_head number end mid)
    → Puts r o new (message number fs ∷ [])
puts_message r number end fs o new counted a h =
    subst (λ (p : Output). OnOk r (new ≡ p)) (ap (put_head number end) a ∙ put_message number end fs o counted) h

-- one more message in a list that is put from its end
pub put_more : {A : Type 0} (number end : ℕ) (g : A → List Field) (x : A) (done : List A) (init old mid new : Output) → end ≡ old.count → old ≡ put (messages number g done) init
    → mid ≡ put (g x) old → new ≡ put_head number end mid → new ≡ put (messages number g (x ∷ done)) init
put_more number end g x done init old mid new counted h wrote headed =
    headed ∙ ap (put_head number end) wrote ∙ put_message number end (g x) old counted
    ∙ ap (put (message number (g x) ∷ [])) h ∙ put_both (message number (g x) ∷ []) (messages number g done) init

-- the elements before one that was the last
pub one_less : {A : Type 0} (rest now all done : List A) (x : A) → rest ≡ now ++ x ∷ [] → rest ++ done ≡ all → now ++ (x ∷ done) ≡ all
one_less {A = A} rest now all done x e h = sym (append_assoc now (x ∷ []) done) ∙ ap (λ (xs : List A). xs ++ done) (sym e) ∙ h

pub all_done : {A : Type 0} (rest done all : List A) → length rest ≡ 0 → rest ++ done ≡ all → done ≡ all
all_done {A = A} rest done all none h = ap (λ (xs : List A). xs ++ done) (sym (nil_from_length rest none)) ∙ h

-- no bytes
pub put_empty : (number : ℕ) (s : List ℕ) (o : Output) → (length s == 0) ≡ true → o ≡ put (bytes_unless_empty number s) o
put_empty number s o none =
    sym (put_none o) ∙ ap (λ (b : Bool). put (if b then [] else (number, bytes s) ∷ []) o) (sym none)

-- the bytes of a whole output
pub whole_bytes : (fs : List Field) (bs : List ℕ) (o : Output) → o ≡ put fs writing → o.bytes ≡ Some bs → bs ≡ bytes_of fs
unfolding put
whole_bytes fs bs o e h =
    let same : Some bs ≡ Some (bytes_of fs ++ []) = sym h ∙ ap (λ (p : Output). p.bytes) e in
    let inner : bs ≡ bytes_of fs ++ [] = cc in
    inner ∙ append-nil (bytes_of fs)
