use Rattle.http.specs.Request.{head_of, body_of}
use Rattle.otel_otlp.proofs.FileReads.{answered, over_files, fails_over_files}
use Rattle.otel_otlp.proofs.otlp_http.file_client.FileClientHttpClient.send_bytes.Goals as goal

pub returns-clause-answer : goal.returns-clause-answer
returns-clause-answer g c =
    answered {F = g.row.S.Denot} g.S.Read.remaining (head_of c.args.request.now) (body_of c.args.request.now).items
    c.send_bytes.result c.new.result c.send_bytes.new.self c.send_bytes.ensures.answer

pub returns-clause-read : goal.returns-clause-read
returns-clause-read g c =
    over_files {F = g.row.S.Denot} g.R.FileCalls.outputs g.R.FileCalls.inputs g.S.Write.contents g.S.Read.remaining
    (head_of c.args.request.now) (body_of c.args.request.now).items c.args.self.now.folder c.in_ok-input.input c.in_ok-output.output
    c.send_bytes.result c.new.result c.send_bytes.new.self
    (record { written = rw (← c.self.view_is) c.in_ok-output.ensures.ok; read = rw (← c.self.view_is) c.in_ok-input.ensures.ok })
    c.new.ensures c.send_bytes.ensures.whole c.send_bytes.ensures.answer

pub returns-clause-failed : goal.returns-clause-failed
returns-clause-failed g c =
    fails_over_files {F = g.row.S.Denot} g.R.FileCalls.outputs g.R.FileCalls.inputs g.S.Write.contents g.S.Read.remaining
    (head_of c.args.request.now) (body_of c.args.request.now).items c.args.self.now.folder c.in_ok-input.input c.in_ok-output.output
    g.S.WriterCalls.may_write g.S.WriterCalls.flushed g.S.ReaderCalls.may_read
    c.send_bytes.result c.new.result c.send_bytes.new.self
    (record { written = rw (← c.self.view_is) c.in_ok-output.ensures.ok; read = rw (← c.self.view_is) c.in_ok-input.ensures.ok })
    c.new.ensures c.send_bytes.ensures.failed c.send_bytes.ensures.malformed
