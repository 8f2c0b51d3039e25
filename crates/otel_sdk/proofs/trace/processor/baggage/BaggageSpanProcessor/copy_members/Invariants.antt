use Rattle.std.proofs.Common.{◌≡◌}
use Rattle.otel_sdk.specs.Processor.{ids_of}
use Rattle.otel_sdk.proofs.BaggageProcessorLemmas.{CopiesOn}
use Rattle.otel_sdk.proofs.trace.processor.baggage.BaggageSpanProcessor.copy_members.Given as goal

abbrev pub invariant-loop-key : goal.invariant-loop-key
invariant-loop-key l = record {
  keys : l.self.keys ≡ l.fn.self.keys;
  copies : CopiesOn l.fn.self.keys l.baggage l.key-iterator l.fn.span l.span l.fn.self.missed
      l.self.missed;
  ids : ids_of l.span ≡ ids_of l.fn.span;
}
