use Rattle.std.proofs.Common.{length}
use Rattle.otel_otlp.proofs.otlp_http.part.+add_parts.Given as goal

abbrev pub decreases-add_parts : goal.decreases-add_parts
decreases-add_parts g l = length l.batch.now
