use Rattle.std.proofs.Common.{rules, ◌≡◌, sym, subst, None, string_bytes}
use Rattle.std.specs.List.{position}
use Rattle.std.specs.Str.{bytes_eq, str_to_ascii_lowercase}
use Rattle.otel_examples.proofs.HeaderLemmas.{sets_found, sets_new}
use Rattle.otel_examples.proofs.api.headers.HeadersInjector.set.Goals as goal

pub returns-in-Some-clause-ok : goal.returns-in-Some-clause-ok
returns-in-Some-clause-ok c =
    let lowered : c.as_str.result.now ≡ str_to_ascii_lowercase c.args.key.now = search rules in
    rw c.index_mut.ensures.value
    (sets_found c.args.self.now.pairs.items c.args.key.now c.as_str.result.now c.in-Some.index c.index_mut.result.now c.args.value lowered (sym c.in-Some.ensures))

pub returns-in_ok-push-in-None-clause-ok : goal.returns-in_ok-push-in-None-clause-ok
returns-in_ok-push-in-None-clause-ok c =
    let lowered : string_bytes c.in_ok-name.name ≡ str_to_ascii_lowercase c.args.key.now = search rules in
    let none : position (λ pair. bytes_eq (string_bytes c.in_ok-name.name) (string_bytes pair.0)) c.args.self.now.pairs.items ≡ None =
    subst (λ n. position (λ pair. bytes_eq n (string_bytes pair.0)) c.args.self.now.pairs.items ≡ None) c.as_str.ensures.value (sym c.in-None.ensures) in
    rw c.in_ok-push-in-None.ensures.items (sets_new c.args.self.now.pairs.items c.args.key.now c.in_ok-name.name c.args.value lowered none)
