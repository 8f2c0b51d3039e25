-- The progress of a drawing.
use Rattle.std.proofs.Common.{◌≡◌, ◌<◌, ◌^◌, ℕ, Bool, List, [], length, refl, sym, subst, ◌∙◌, arith}
use Rattle.std.specs.Int.{w64, to_be_bytes, from_be_bytes}
use Rattle.std.proofs.lemmas.Nat.{from_be_bytes-to_be_bytes_8}
use Rattle.otel_waterfall.specs.Rows.{Draws, DrawsOn, IsDrawn}
use Rattle.otel_waterfall.specs.declared.rows.Drawing.{Drawing}
use Rattle.otel_waterfall.specs.declared.rows.Row.{Row}
use Rattle.otel_waterfall.specs.declared.rows.Row.TheVariants.{Span, Absent}

-- nothing is drawn
pub draws_nothing : (p : List Bool) (rows : List Row) → Draws p rows p rows
draws_nothing p rows = record { same_length = refl; each = λ place h. refl; none_anew = λ place h. h }

-- nothing is drawn at first
pub draws_first : (wanted p : List Bool) (rows : List Row) → p ≡ wanted → rows ≡ [] → Draws wanted [] p rows
draws_first wanted p rows e none =
    subst (λ (q : List Bool). Draws wanted [] q rows) (sym e) (subst (λ (r : List Row). Draws wanted [] wanted r) (sym none) (draws_nothing wanted []))

-- one after another
pub draws_more : (p : List Bool) (a : List Row) (q : List Bool) (b : List Row) (r : List Bool) (c : List Row)
    → Draws p a q b → Draws q b r c → Draws p a r c
draws_more p a q b r c first then = record {
  same_length = then.same_length ∙ first.same_length;
  each = λ place h. then.each place (let k : place < length q = omega (arith, first.same_length) in k) ∙ first.each place h;
  none_anew = λ place h. then.none_anew place (first.none_anew place h);
}

-- drawn spans stay drawn
pub stays_drawn : (row : Row) (a : Drawing) (b : Drawing) → DrawsOn a b → IsDrawn row a → IsDrawn row b
stays_drawn (Span place depth follows) a b more h = more.none_anew place h
stays_drawn (Absent child) a b more h = h

-- an id is the number that its bytes say
pub id_back : (id : ℕ) → id < 2 ^ 64 → from_be_bytes w64 (to_be_bytes w64 id) ≡ id
id_back id h = from_be_bytes-to_be_bytes_8 id h
