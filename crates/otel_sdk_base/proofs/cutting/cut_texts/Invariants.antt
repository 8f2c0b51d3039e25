use Rattle.std.proofs.Common.{◌≡◌, map}
use Rattle.std.specs.Fmt.{take_chars}
use Rattle.otel_sdk_base.proofs.cutting.cut_texts.Given as goal

abbrev pub invariant-loop-text : goal.invariant-loop-text
invariant-loop-text l = l.cut.items ≡ map (take_chars l.length) l.yielded
