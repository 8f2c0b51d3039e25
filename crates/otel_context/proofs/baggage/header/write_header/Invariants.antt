use Rattle.std.proofs.Common.{◌≡◌, map, length}
use Rattle.std.specs.Fmt.{HasWritten, IsPlainFormatter}
use Rattle.otel_base.specs.Array.{separator}
use Rattle.otel_context.specs.BaggageHeader.{header}
use Rattle.otel_context.specs.BaggageView.{entry_members, lent_entry}
use Rattle.otel_context.proofs.baggage.header.write_header.Given as goal

abbrev pub invariant-loop-key : goal.invariant-loop-key
invariant-loop-key g l = record {
  comma : l.comma ≡ separator (length l.yielded);
  written : IsPlainFormatter l.fn.f → HasWritten g.W.Write.write_str_gives l.fn.f (header (entry_members (map lent_entry l.yielded))) l.f;
}
