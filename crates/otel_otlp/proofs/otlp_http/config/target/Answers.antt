use Rattle.std.proofs.Common.{rules, length, ◌==◌, ◌≡◌, ◌≢◌, true, false, [], is_some, eqb, ap, sym, ◌∙◌}
use Rattle.std.specs.List.{ends_with}
use Rattle.std.proofs.lemmas.List.{nil_from_length}
use Rattle.std.proofs.lemmas.Str.Pattern.{ends_text}
use Rattle.http_uri.specs.Uri.{Spells, uri_scheme, uri_path}
use Rattle.otel_otlp.specs.HttpConfig as spec
use Rattle.otel_otlp.proofs.Targets.{endpoint_if, no_scheme, other_path}
use Rattle.otel_otlp.proofs.otlp_http.config.target.Goals as goal
use Rattle.otel_otlp.proofs.otlp_http.config.target.Goals.{else-not-is_empty-via-then-not-is_empty+else-not-is_plain, else-not-is_empty-via-else-not-is_empty, then-is_none-via-then-is_none, then-is_none-via-else-is_none+then-not-ends_with}

pub returns-clause-ok : goal.returns-clause-ok
returns-clause-ok c =
    let text : Spells (spec.joined c.args.endpoint.now c.args.path.now) c.in-Ok.uri = search rules in
    let scheme : is_some (uri_scheme c.in-Ok.uri) ≡ true = search rules in
    let whole = ends_text c.ends_with.result c.args.path.now c.path.result.now c.ends_with.ensures.cases in
    let plain : c.args.path.now ≢ [] → spec.IsPlain c.args.endpoint.now =
    elim c.else-not-is_empty.branch [
      | else-not-is_empty-via-then-not-is_empty+else-not-is_plain w ↦ λ some. search rules
      | else-not-is_empty-via-else-not-is_empty w ↦
          let empty : (length c.args.path.now == 0) ≡ true = sym c.is_empty.ensures ∙ w.if-not-is_empty.false in
          λ some. absurd (some (nil_from_length c.args.path.now (search rules)))
    ] in
    record { text = text; scheme = scheme; end = ap (λ p. ends_with eqb p c.args.path.now) (sym c.path.ensures.value) ∙ sym whole ∙ c.if-not-ends_with.false; plain = plain }

pub returns-then-is_none-clause-refused : goal.returns-then-is_none-clause-refused
returns-then-is_none-clause-refused c =
    let text : Spells (spec.joined c.args.endpoint.now c.args.path.now) c.in-Ok.uri = search rules in
    elim c.then-is_none.branch [
      | then-is_none-via-then-is_none w ↦
          let none : is_some (uri_scheme c.in-Ok.uri) ≡ false = search rules in
          endpoint_if _ _ (no_scheme _ _ c.in-Ok.uri text none)
      | then-is_none-via-else-is_none+then-not-ends_with w ↦
          let whole = ends_text w.ends_with.result c.args.path.now w.path.result.now w.ends_with.ensures.cases in
          let other : ends_with eqb (uri_path c.in-Ok.uri) c.args.path.now ≡ false = ap (λ p. ends_with eqb p c.args.path.now) (sym w.path.ensures.value) ∙ sym whole ∙ w.if-not-ends_with.true in
          endpoint_if _ _ (other_path _ _ c.in-Ok.uri text other)
    ]
