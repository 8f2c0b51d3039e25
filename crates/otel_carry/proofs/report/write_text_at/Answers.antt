use Rattle.std.proofs.Common.{refl}
use Rattle.std.proofs.KnownBytes.{Appends-nil}
use Rattle.opentelemetry.specs.Carrier.{text_map}
use Rattle.opentelemetry.proofs.shared.Maps.{at_found}
use Rattle.otel_carry.proofs.ReportLemmas.{text_written}
use Rattle.otel_carry.proofs.report.write_text_at.Goals as goal

pub returns-in-Some : goal.returns-in-Some
returns-in-Some g c =
    text_written (text_map c.args.texts.now.entries) c.args.key.now _ _ _ _
    (at_found c.args.texts.now.entries c.args.key.now c.args.key.now _ refl c.in-Some.ensures.value) c.writeln.ensures.bytes

pub returns-in-None : goal.returns-in-None
returns-in-None g c = rw (at_found c.args.texts.now.entries c.args.key.now c.args.key.now _ refl c.in-None.ensures.value) (Appends-nil _)
