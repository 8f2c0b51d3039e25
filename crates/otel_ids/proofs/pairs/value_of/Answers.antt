use Rattle.std.proofs.Common.{◌≡◌, ◌+◌, ◌-◌, ◌∷◌, List, ℕ, take, drop, slice_range, slice_index_or, false, refl, sym, ap, ◌∙◌, arith}
use Rattle.std.specs.Str.{bytes_eq}
use Rattle.std.proofs.lemmas.List.{drop_more, length-take}
use Rattle.otel_ids.specs.declared.pairs.Place.{Place}
use Rattle.otel_ids.proofs.Places.{turn, next_turn, lengths_differ, lasts_differ}
use Rattle.otel_ids.proofs.pairs.value_of.Goals as goal
use Rattle.otel_ids.proofs.pairs.value_of.Goals.{then-length-key+then-eq+else-eq-2, else-length-key, else-length-key-via-then-length-key+else-eq, else-length-key-via-else-length-key}

abbrev no_place : Place
no_place = record { key = 0; value = 0 }

pub pair_at-requires-clause-cut : goal.pair_at-requires-clause-cut
pair_at-requires-clause-cut c =
    let i = c.loop-place.place-index in
    let h = c.loop-place.invariant in
    (turn c.args.places.now i (slice_index_or c.args.places.now i no_place) c.args.text.now c.loop-place.at c.args.key.now _ (drop_more c.args.places.now i no_place (omega arith)) h.0 h.1 h.2).0

pub loop-place-preserved : goal.loop-place-preserved
loop-place-preserved c =
    let i = c.loop-place.place-index in
    let h = c.loop-place.invariant in
    let p : Place = slice_index_or c.args.places.now i no_place in
    let rest : List ℕ = drop c.loop-place.at c.args.text.now in
    let e : drop i c.args.places.now ≡ p ∷ drop (i + 1) c.args.places.now = drop_more c.args.places.now i no_place (omega arith) in
    let t = turn c.args.places.now i p c.args.text.now c.loop-place.at c.args.key.now _ e h.0 h.1 h.2 in
    let within = t.0.within in
    let differ : bytes_eq (take p.key rest) c.args.key.now ≡ false =
    elim c.if-length-key.branch [
      | then-length-key+then-eq+else-eq-2 w ↦ ap (λ (x : List ℕ). bytes_eq x c.args.key.now) (sym w.pair_at.ensures.key) ∙ sym w.eq-then-eq.ensures ∙ w.if-eq-2.false
      | else-length-key w ↦
          elim w.else-length-key.branch [
            | else-length-key-via-then-length-key+else-eq v ↦
                let n : c.loop-place.at + p.key - c.loop-place.at ≡ p.key = omega arith in
                let name : slice_range v.as_bytes-then-length-key.result.now c.loop-place.at (c.loop-place.at + p.key) ≡ take p.key rest =
                ap (λ (x : List ℕ). slice_range x c.loop-place.at (c.loop-place.at + p.key)) v.as_bytes-then-length-key.ensures.value ∙ ap (λ (m : ℕ). take m rest) n in
                lasts_differ (take p.key rest) c.args.key.now _ _ _ _ name c.as_bytes.ensures.value v.last.ensures.value c.last-last.ensures.value (sym v.eq.ensures ∙ v.if-eq.false)
            | else-length-key-via-else-length-key v ↦ lengths_differ (take p.key rest) c.args.key.now p.key (omega (arith, length-take p.key rest, within)) v.if-length-key.false
          ]
    ] in
    next_turn c.args.places.now i (i + 1) p c.args.text.now c.loop-place.at _ c.args.key.now _ refl (omega arith) e h.0 h.1 h.2 differ
