use Rattle.std.proofs.Common.{ℕ, arith, sym, ◌∙◌, Ok, Err}
use Rattle.std.proofs.lemmas.Bool.{false≢true}
use Rattle.std.proofs.lemmas.Str.Parse.{parse_digits}
use Rattle.otel_sdk.proofs.EnvLemmas.{own, number_is, no_number}
use Rattle.otel_sdk.proofs.env.texts.number.Goals as goal

pub returns-then-not-has_digits : goal.returns-then-not-has_digits
returns-then-not-has_digits c =
    no_number c.args.least c.args.text.now (λ h. false≢true (c.if-not-has_digits.ensures ∙ h.digits))

pub returns-then-number-least : goal.returns-then-number-least
returns-then-number-least c =
    let read = parse_digits own {E = ℕ} 32 c.args.text.now (Ok c.in-Ok.number) c.in-Ok.ensures.value.0 (sym c.if-not-has_digits.ensures) in
    number_is c.args.least c.in-Ok.number c.args.text.now read.1 (record {
      some = read.0.0;
      digits = sym c.if-not-has_digits.ensures;
      enough = omega (arith, read.1, c.if-number-least.true);
      fits = read.0.1;
    })

pub returns-else-number-least : goal.returns-else-number-least
returns-else-number-least c =
    let read = parse_digits own {E = ℕ} 32 c.args.text.now (Ok c.in-Ok.number) c.in-Ok.ensures.value.0 (sym c.if-not-has_digits.ensures) in
    no_number c.args.least c.args.text.now (λ h. let e = h.enough in omega (arith, read.1, c.if-number-least.false, e))

pub returns-in-Err : goal.returns-in-Err
returns-in-Err c =
    no_number c.args.least c.args.text.now
    (λ h. parse_digits own 32 c.args.text.now (Err c.in-Err.field-0) c.in-Err.ensures.value.0 (sym c.if-not-has_digits.ensures) (h.some, h.fits))
