use Rattle.std.proofs.Common.{◌∙◌, sym}
use Rattle.otel_otlp.proofs.StreamSteps.{map_at-take}
use Rattle.otel_otlp.proofs.otlp_http.stream_client.source.take_head.Goals as goal

pub returns-in-Ok-response_parts-clause-parts : goal.returns-in-Ok-response_parts-clause-parts
returns-in-Ok-response_parts-clause-parts c =
    let r = c.args.head.now in
    let p = rw c.in-Ok.ensures.front at c.in-Ok-response_parts.ensures.ok in
    record {
      status = p.status;
      version = p.version;
      headers = p.headers ∙ map_at-take r.len _ _ c.requires.section.headers_fit;
    }

pub returns-clause-malformed : goal.returns-clause-malformed
returns-clause-malformed c = λ is. (c.in-Err.error, sym c.no_parts.ensures ∙ is, rw c.in-Ok.ensures.front at c.in-Err.ensures.err)
