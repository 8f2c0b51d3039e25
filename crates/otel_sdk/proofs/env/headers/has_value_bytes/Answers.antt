use Rattle.std.proofs.Common.{rules, ◌≡◌, true}
use Rattle.http_header.specs.FieldValue.{IsFieldValue}
use Rattle.otel_sdk.specs.EnvHeaders as spec
use Rattle.otel_sdk.proofs.EnvHeaderLemmas.{value_bytes, no_value_bytes}
use Rattle.otel_sdk.proofs.env.headers.has_value_bytes.Goals as goal
use Rattle.otel_sdk.proofs.env.headers.has_value_bytes.Goals.{in-Ok, in-Err-Invalid, in-Err-OutOfMemory}

pub returns : goal.returns
returns c =
    elim c.match-from_str.branch [
      | in-Ok w ↦
          let all : true ≡ spec.has_value_bytes c.args.text.now = value_bytes c.args.text.now (λ n. search rules) in
          rw w.result-is all
      | in-Err-Invalid w ↦
          let none : ¬ (IsFieldValue c.args.text.now) = search rules in
          rw w.result-is (no_value_bytes c.args.text.now none)
      | in-Err-OutOfMemory w ↦ rw w.result-is tt
    ]
