-- One turn of the loop over the pieces of a list of headers.
use Rattle.std.proofs.Common.{◌≡◌, ◌⊎◌, inl, Bool, true, false, ℕ, ◌+◌, ◌<◌, ◌≤◌, List, ◌∷◌, ◌++◌, length, take, drop, get_or, fold, add-one, map, Option, Some, None, sym, ap, ◌∙◌, subst, Bor, Iter}
use Rattle.std.specs.Prelude.{All, option_map}
use Rattle.std.specs.Slice.Iter.{iter_rest, iter_steps}
use Rattle.std.proofs.lemmas.List.{take_all, nil_from_length, take-append-drop}
use Rattle.std.proofs.Math.Seq.{drop-cons}
use Rattle.std.proofs.lemmas.List.Elements.{All-more}
use Rattle.http_header.specs.FieldValue.{FieldValue}
use Rattle.http_header.specs.HeaderMap.{Entries}
use Rattle.otel_base.specs.KeyValue.{Attribute}
use Rattle.otel_base.specs.View.{attribute_of}
use Rattle.otel_base.specs.declared.key_value.KeyValue.{KeyValue}
use Rattle.otel_base.proofs.shared.Steps.{fold-take_more}
use Rattle.otel_sdk_base.specs.ResourceTexts.{pieces}
use Rattle.otel_otlp.specs.HttpConfig.{IfHeader}
use Rattle.otel_otlp.specs.HttpTexts.{first, read, with_piece, IsRefused, NamesRead, NamesPiece, IsReadRefusedBy, OneIsRefused}
use Rattle.otel_otlp.specs.declared.otlp_http.config.ConfigError.{ConfigError}
use Rattle.otel_otlp.specs.declared.otlp_http.config.ConfigError.TheVariants as error

-- the headers of the first pieces are set, and none of these is refused
pub record IsSet (ps : List (List ℕ)) (n : ℕ) (old now : Entries FieldValue) : Type 0 where
  pub headers : now ≡ fold with_piece old (take n ps)
  pub allowed : All (λ piece. ¬ IsRefused piece) (take n ps)

false_not_true : ◌≡◌ {A = Bool} false true → ⊥
false_not_true e = cc

module _ (ps : List (List ℕ)) (n : ℕ) (piece : List ℕ) (turn : (n < length ps) × (piece ≡ get_or ps n piece)) where
  -- one more piece is set
  pub one_more : (k : ℕ) (old now next : Entries FieldValue) → k ≡ n + 1 → next ≡ with_piece now piece → (IsRefused piece → ◌≡◌ {A = Bool} false true) → IsSet ps n old now → IsSet ps k old next
  one_more k old now next e step fine is = subst (λ m. IsSet ps m old next) (sym e) (record {
    headers = step ∙ ap (λ m. with_piece m piece) is.headers ∙ sym (fold-take_more with_piece old ps n piece turn.0 turn.1);
    allowed = All-more (λ p. ¬ IsRefused p) ps n piece turn.0 is.allowed (subst (λ p. ¬ IsRefused p) turn.1 (λ r. false_not_true (fine r)));
  })

-- each piece is set
pub all_set : (ps : List (List ℕ)) (n : ℕ) (old now : Entries FieldValue) → length ps ≤ n → IsSet ps n old now → (now ≡ fold with_piece old ps) × All (λ piece. ¬ IsRefused piece) ps
all_set ps n old now end is =
    (is.headers ∙ ap (fold with_piece old) (take_all n ps end), subst (All (λ piece. ¬ IsRefused piece)) (take_all n ps end) is.allowed)

-- the error of a piece names a piece of the list
pub named : (list : List ℕ) (n : ℕ) (piece : List ℕ) → (n < length (pieces list)) × (piece ≡ get_or (pieces list) n piece)
    → (e : ConfigError) → NamesRead (read piece) e → NamesPiece list e
named list n piece turn (error.Endpoint text) is = absurd is
named list n piece turn (error.Header text) is = (n, piece, turn.0, sym turn.1, is)
named list n piece turn (error.HeaderList number) is = absurd is
named list n piece turn (error.Memory failed) is = tt

-- the next item of an iterator over the attributes is the first one
pub first_is : (r : Option (Bor KeyValue)) (s t : Iter KeyValue) (all : List Attribute) → iter_steps s r t → map attribute_of (iter_rest s) ≡ all → option_map (λ (a : Bor KeyValue). attribute_of a.now) r ≡ first all
first_is None s t all h e = sym (ap first (sym e ∙ ap (map attribute_of) (nil_from_length (iter_rest s) h.0)))
first_is (Some x) s t all h e = ap first (ap (map attribute_of) (sym h) ∙ e)

-- ---- errors that name a header
pub header_if : (P : Type 0) (e : ConfigError) → P → IfHeader P e
header_if P (error.Endpoint text) h = tt
header_if P (error.Header text) h = h
header_if P (error.HeaderList piece) h = tt
header_if P (error.Memory failed) h = tt

pub header_or : (P Q : Type 0) (e : ConfigError) → IfHeader P e → IfHeader (P ⊎ Q) e
header_or P Q (error.Endpoint text) h = tt
header_or P Q (error.Header text) h = inl h
header_or P Q (error.HeaderList piece) h = tt
header_or P Q (error.Memory failed) h = tt

-- ---- the piece of a list that is refused
-- the list around an element
around : {A : Type 0} (xs : List A) (n : ℕ) (d x : A) → n < length xs → x ≡ get_or xs n d → xs ≡ take n xs ++ x ∷ drop (n + 1) xs
around xs n d x lt is =
    sym (take-append-drop n xs) ∙ ap (λ ys. take n xs ++ ys) (rw add-one (drop-cons xs n d lt) ∙ ap (λ y. y ∷ drop (n + 1) xs) (sym is))

pub one_refused : (list : List ℕ) (n : ℕ) (piece : List ℕ) → (n < length (pieces list)) × (piece ≡ get_or (pieces list) n piece)
    → (old now : Entries FieldValue) → IsSet (pieces list) n old now
    → (e : ConfigError) → IfHeader (IsReadRefusedBy now (read piece)) e → IfHeader (OneIsRefused old list) e
one_refused list n piece turn old now set (error.Endpoint text) is = tt
one_refused list n piece turn old now set (error.Header text) is = record {
  before = take n (pieces list);
  piece = piece;
  after = drop (n + 1) (pieces list);
  whole = around (pieces list) n piece piece turn.0 turn.1;
  refused = subst (λ h. IsReadRefusedBy h (read piece)) set.headers is;
}
one_refused list n piece turn old now set (error.HeaderList number) is = tt
one_refused list n piece turn old now set (error.Memory failed) is = tt
