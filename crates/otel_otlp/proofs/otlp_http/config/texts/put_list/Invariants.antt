use Rattle.std.proofs.Common.{length}
use Rattle.otel_sdk_base.specs.ResourceTexts.{pieces}
use Rattle.otel_otlp.proofs.HeaderLists.{IsSet}
use Rattle.otel_otlp.proofs.otlp_http.config.texts.put_list.Given as goal

abbrev pub invariant-loop-piece : goal.invariant-loop-piece
invariant-loop-piece l = IsSet (pieces l.list) (length l.yielded) l.initial.headers l.headers
