use Rattle.std.proofs.Common.{ℕ, ◌≤◌, List, [], ◌++◌, length, ◌∙◌, refl, sym, append-nil, append_assoc, subst, subst₂, arith}
use Rattle.std.proofs.KnownBytes.{Consumes-nil, Consumes-trans}
use Rattle.otel_otlp.specs.StreamClient.{Gives, StepsInBody, StaysOpen, Comes, IsReaders, stays, max_body_len, LacksMore, LacksAnswer, Breaks}
use Rattle.otel_otlp.proofs.StreamErrors.{passed}
use Rattle.otel_otlp.proofs.StreamFaults.{breaks_after, comes_then, comes_lacks}
use Rattle.otel_otlp.proofs.Streams.{gives_none, gives_gives}
use Rattle.otel_otlp.proofs.otlp_http.stream_client.source.Source.read_body.Goals as goal

pub loop-preserved : goal.loop-preserved
loop-preserved g c =
    let (before, first, gives) = c.loop.invariant.1 in
    let (came, then, grown) = c.in_ok-step_body.ensures.steps in
    let (piece, added, step) = grown in
    let more = subst (λ b. StepsInBody c.loop.connection (c.loop.self.unread.items ++ came) c.step_body.new.connection c.step_body.new.self.unread.items piece b) c.if-branch.false step in
    let given = gives_gives _ _ _ _ _ came _ c.loop.body.items piece gives more in
    let on = c.loop.invariant.5 in
    let going = c.in_ok-step_body.ensures.comes c.if-branch.false in
    let stays = subst (λ b. StaysOpen b c.loop.connection c.step_body.new.connection) c.if-branch.false c.in_ok-step_body.ensures.keeps in
    let whole = subst (λ s. Gives c.args.connection.now s c.step_body.new.connection c.step_body.new.self.unread.items (c.loop.body.items ++ piece)) (append_assoc c.args.self.now.unread.items before came) given in (
      c.in_ok-step_body.ensures.within,
      (before ++ came, Consumes-trans _ _ _ before came first then, rw added whole),
      stays.0 ∙ c.loop.invariant.2,
      stays.1,
      going.begun,
      (
        on.0 ++ going.came,
        Consumes-trans _ _ _ on.0 going.came on.1 going.consumed,
        subst₂ (λ (s xs : List ℕ). Comes c.args.connection.now s c.step_body.new.connection c.step_body.new.self.unread.items xs) (append_assoc c.args.self.now.unread.items on.0 going.came) (sym going.grows)
            (comes_then _ _ _ _ _ going.came _ c.loop.body.items going.piece on.2 going.comes),
      ),
    )

pub returns-in_err-step_body-clause-malformed : goal.returns-in_err-step_body-clause-malformed
returns-in_err-step_body-clause-malformed g c =
    let may = g.R.ReaderCalls.may_read in
    let on = c.loop.invariant.5 in
    let e = c.in_err-step_body.field-0.0 in
    passed (Breaks g.R.Read.remaining c.args.self.now c.step_body.new.self (LacksAnswer may c.args.connection.now)) c.from_residual.result e c.from_residual.ensures.1
    (breaks_after g.R.Read.remaining c.args.self.now c.loop.self c.step_body.new.self (LacksMore may c.loop.body.items c.loop.connection) (LacksAnswer may c.args.connection.now) on.0 on.1
    (λ more. comes_lacks may c.args.connection.now c.loop.connection (c.args.self.now.unread.items ++ on.0) c.loop.self.unread.items more [] c.loop.body.items on.2)
    e c.in_err-step_body.ensures.malformed)

pub loop-init : goal.loop-init
loop-init g c =
    let conn = c.args.connection.now in
    let input = c.args.self.now.unread.items in
    let empty = c.new-body.ensures.items in
    let none = append-nil input in (
      subst (λ (xs : List ℕ). length xs ≤ max_body_len) (sym empty) (omega arith),
      (
        [],
        Consumes-nil _,
        subst₂ (λ (s xs : List ℕ). Gives conn s conn input xs) (sym none) (sym empty) (gives_none conn input),
      ),
      refl,
      c.requires.closes,
      c.requires.begun,
      (
        [],
        Consumes-nil _,
        subst₂ (λ (s xs : List ℕ). Comes conn s conn input xs) (sym none) (sym empty) (stays conn input),
      ),
    )

pub returns-in_err-step_body-clause-failed : goal.returns-in_err-step_body-clause-failed
returns-in_err-step_body-clause-failed g c =
    let may = g.R.ReaderCalls.may_read in
    passed (IsReaders may) c.from_residual.result c.in_err-step_body.field-0.0 c.from_residual.ensures.1 c.in_err-step_body.ensures.failed
