use Rattle.std.proofs.Common.{subst, decimal, arith}
use Rattle.json.specs.Token as token
use Rattle.json.specs.Written.{Writes}
use Rattle.serde_json.specs.Data.{number, unsigned}
use Rattle.otel_otlp.proofs.Tokens as tokens
use Rattle.otel_otlp.proofs.Tokens.{last_token, whole_member, readable_number, one_token}
use Rattle.otel_otlp.proofs.object.put_number.Goals as goal

pub returns : goal.returns
returns c =
    last_token c.u64.result (subst (λ n. Writes c.u64.result c.key.new.self c.u64.new.self (token.number (decimal n))) c.from.ensures c.u64.ensures) (λ wrote.
    whole_member (tokens.token c.in_ok-key.was c.key.ensures) (one_token (number (unsigned c.args.number)) wrote (readable_number c.args.number (omega (arith, c.ranges.number.fits)))))
