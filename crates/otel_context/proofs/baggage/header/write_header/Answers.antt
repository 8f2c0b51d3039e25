use Rattle.std.proofs.Common.{refl}
use Rattle.otel_context.specs.BaggageView.{lent_entry}
use Rattle.otel_context.proofs.BaggageWritten.{comma_after, written_more}
use Rattle.otel_context.proofs.baggage.header.write_header.Goals as goal

pub loop-key-preserved : goal.loop-key-preserved
loop-key-preserved g c = record {
  comma = comma_after c.loop-key.yielded (c.in-Some.key, c.in-Some.pair);
  written = λ p.
      let before = c.loop-key.invariant.written p in
      let first = c.in_ok-write_str.ensures.writes before.plain refl in
      written_more _ lent_entry _ _ _ _ c.loop-key.yielded (c.in-Some.key, c.in-Some.pair) c.loop-key.comma.now c.loop-key.invariant.comma before first (c.in_ok-write_member.ensures first.plain refl);
}
