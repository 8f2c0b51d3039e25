-- The pieces left complete the first fault and the attributes of all pieces.
use Rattle.std.proofs.Common.{◌≡◌, length, drop, map}
use Rattle.std.specs.Prelude.{filter_map}
use Rattle.std.specs.List.{position_from}
use Rattle.otel_base.specs.View.{attribute_of}
use Rattle.otel_sdk_base.specs.Attributes.{put_all}
use Rattle.otel_sdk_base.specs.ResourceTexts as spec
use Rattle.otel_sdk_base.proofs.resource.texts.read_attributes.Given as goal

abbrev pub invariant-loop-number : goal.invariant-loop-number
invariant-loop-number l =
    (goal.iterator-loop-number).can_next l.number-iterator ×
    (goal.iterator-loop-number).is_finite l.number-iterator ×
    (position_from spec.is_fault (length l.yielded) (drop (length l.yielded) (spec.pieces l.text)) ≡ spec.fault l.text) ×
    (put_all (map attribute_of l.attributes.items) (filter_map spec.attribute_in (drop (length l.yielded) (spec.pieces l.text))) ≡ spec.attributes_in l.text)
