-- The text of a trace state's header, put from its end.
use Rattle.std.proofs.Common.{◌≡◌, ◌≢◌, ℕ, List, [], ◌∷◌, ◌++◌, length, Bool, if◌then◌else◌, sym, ap, ◌∙◌, length-append, arith}
use Rattle.std.proofs.lemmas.Bool.{ne_eqb}
use Rattle.std.proofs.lemmas.List.Concat.{flat_map-cons}
use Rattle.std.specs.List.{flat_map}
use Rattle.otel_ids.specs.TraceState.{Pair, pair_with, entry, header}
use Rattle.otel_proto.specs.Output.{Output, put, put_bytes, put_head}
use Rattle.otel_proto.specs.Wire.{bytes}
use Rattle.otel_proto.specs.Written.{bytes_unless_empty}
use Rattle.otel_proto.proofs.shared.Outputs.{bytes_twice, put_bytes_field, put_none}

abbrev pub joined : Pair → List ℕ
joined p = (44 ∷ []) ++ entry (61 ∷ []) p

-- a pair
pub entry_put : (key value : List ℕ) (o : Output) {first second : Output} → first ≡ put_bytes value o → second ≡ put_bytes (61 ∷ []) first → put_bytes key second ≡ put_bytes (entry (61 ∷ []) (pair_with key value)) o
entry_put key value o h k =
    ap (put_bytes key) (k ∙ ap (put_bytes (61 ∷ [])) h ∙ bytes_twice (61 ∷ []) value o)
    ∙ bytes_twice key ((61 ∷ []) ++ value) o

-- a pair and its comma, before the others
pub entries_put : (p : Pair) (ps : List Pair) (o : Output) {first second : Output} → first ≡ put_bytes (flat_map joined ps) o → second ≡ put_bytes (entry (61 ∷ []) p) first
    → put_bytes (44 ∷ []) second ≡ put_bytes (flat_map joined (p ∷ ps)) o
entries_put p ps o h k =
    ap (put_bytes (44 ∷ [])) (k ∙ ap (put_bytes (entry (61 ∷ []) p)) h ∙ bytes_twice (entry (61 ∷ []) p) (flat_map joined ps) o)
    ∙ bytes_twice (44 ∷ []) (entry (61 ∷ []) p ++ flat_map joined ps) o
    ∙ ap (λ (s : List ℕ). put_bytes s o) (sym (flat_map-cons joined p ps))

some_bytes : (p : Pair) (rest : List ℕ) → length (entry (61 ∷ []) p ++ rest) ≢ 0
some_bytes p rest e = omega (arith, e, length-append (entry (61 ∷ []) p) rest, length-append p.key (61 ∷ p.value))

-- the whole text, with its head
pub state_put : (end : ℕ) (p : Pair) (ps : List Pair) (o : Output) {first second : Output} → end ≡ o.count → first ≡ put_bytes (flat_map joined ps) o → second ≡ put_bytes (entry (61 ∷ []) p) first
    → put_head 3 end second ≡ put (bytes_unless_empty 3 (header (p ∷ ps))) o
state_put end p ps o counted h k =
    let text = header (p ∷ ps) in
    ap (put_head 3 end) (k ∙ ap (put_bytes (entry (61 ∷ []) p)) h ∙ bytes_twice (entry (61 ∷ []) p) (flat_map joined ps) o)
    ∙ put_bytes_field 3 end text o counted
    ∙ ap (λ (b : Bool). put (if b then [] else (3, bytes text) ∷ []) o) (sym (ne_eqb (length text) 0 (some_bytes p (flat_map joined ps))))

-- no pairs
pub no_state : (ps : List Pair) (o : Output) → ps ≡ [] → o ≡ put (bytes_unless_empty 3 (header ps)) o
no_state ps o none =
    sym (put_none o) ∙ ap (λ (qs : List Pair). put (bytes_unless_empty 3 (header qs)) o) (sym none)
