-- With the lines of the headers that are left, the text is whole.
use Rattle.std.specs.Fmt.{IsPlainFormatter}
use Rattle.otel_http.proofs.Written.{HasBegun}
use Rattle.otel_http.proofs.injector.HeaderInjectorDisplay.fmt.Given as goal

abbrev pub invariant-loop-name : goal.invariant-loop-name
invariant-loop-name g l =
    IsPlainFormatter l.initial.f → HasBegun g.W.Write.write_str_gives l.initial.f l.f l.self.headers l.name-iterator
