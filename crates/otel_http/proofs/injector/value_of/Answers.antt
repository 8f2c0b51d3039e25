use Rattle.std.proofs.Common.{rules, ◌≡◌, is_some, false, string_bytes}
use Rattle.otel_http.proofs.Reading.{refused_value}
use Rattle.otel_http.proofs.injector.value_of.Goals as goal

pub returns-else-is_some-clause-refused : goal.returns-else-is_some-clause-refused
returns-else-is_some-clause-refused c = λ _ h.
    let none : is_some c.read.result ≡ false = search rules in
    refused_value c.read.result c.in-Ok.value (string_bytes c.args.text) c.read.ensures none c.in-Ok.ensures.ok h
