use Rattle.std.proofs.Common.{[]}
use Rattle.otel_otlp.specs.StreamClient.{IsReadError}
use Rattle.otel_otlp.proofs.StreamErrors.{passed, read_error}
use Rattle.otel_otlp.proofs.otlp_http.stream_client.source.Source.fill_head.Goals as goal

pub returns-in_err-fill-clause-failed : goal.returns-in_err-fill-clause-failed
returns-in_err-fill-clause-failed g c =
    let e = c.in_err-fill.field-0.0 in
    passed (IsReadError g.R.ReaderCalls.may_read []) c.from_residual.result e c.from_residual.ensures.1
    (read_error g.R.ReaderCalls.may_read [] e c.in_err-fill.ensures.failed c.in_err-fill.ensures.no_bytes)
