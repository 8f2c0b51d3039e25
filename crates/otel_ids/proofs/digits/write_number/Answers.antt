use Rattle.std.proofs.Common.{◌∙◌, ap, List, ℕ, false, ◌∷◌, []}
use Rattle.std.specs.Fmt.{padded_integral}
use Rattle.std.proofs.Output.{has_written_of_eq, has_written_styled_of_eq}
use Rattle.otel_ids.specs.Ids.{some_digit, without_zeros}
use Rattle.otel_ids.proofs.Significant.{plain_number}
use Rattle.otel_ids.proofs.digits.write_number.Goals as goal

pub returns-clause-writes : goal.returns-clause-writes
returns-clause-writes g c = λ plain ok.
    let text = c.without_leading_zeros.ensures ∙ ap (λ (ds : List ℕ). some_digit (without_zeros ds)) c.in_ok-digits.ensures in
    let styled = c.pad_integral.ensures.styled plain.flush ok in
    let unpadded = plain_number c.args.f.now.spec (48 ∷ 120 ∷ []) c.without_leading_zeros.result.now plain.bare in
    has_written_of_eq _ _ _ _ _ (unpadded ∙ text) (record {
      wrote = styled.wrote;
      plain = record { bare = rw styled.spec plain.bare; flush = styled.flush };
    })

pub returns-clause-styled : goal.returns-clause-styled
returns-clause-styled g c = λ flush ok.
    let text = c.without_leading_zeros.ensures ∙ ap (λ (ds : List ℕ). some_digit (without_zeros ds)) c.in_ok-digits.ensures in
    has_written_styled_of_eq _ _ _ _ _ (ap (padded_integral c.args.f.now.spec false (48 ∷ 120 ∷ [])) text) (c.pad_integral.ensures.styled flush ok)
