use Rattle.std.proofs.Common.{ℕ, List, [], ◌++◌, is_some, append-nil, append_assoc, sym, ap, ◌∙◌, subst}
use Rattle.std.proofs.KnownBytes.{Consumes-nil, Consumes-trans}
use Rattle.http1.specs.declared.client.Client.{Client}
use Rattle.http1.specs.Conn.{awaits_head}
use Rattle.http1.specs.Client.{reading, writing}
use Rattle.otel_otlp.specs.StreamClient.{FindsHead, Skips, StepsToHead, Comes, IsReaders, stays, LacksAnswer, Breaks}
use Rattle.otel_otlp.proofs.StreamErrors.{passed}
use Rattle.otel_otlp.proofs.StreamFaults.{breaks_after, comes_then, comes_lacks}
use Rattle.otel_otlp.proofs.Streams.{skips_none, skips_skips, skips_finds}
use Rattle.otel_otlp.proofs.otlp_http.stream_client.source.Source.read_head.Goals as goal

pub step_head-requires-clause-head : goal.step_head-requires-clause-head
step_head-requires-clause-head g c = ap reading c.loop.invariant.2.same ∙ c.requires.head

pub step_head-requires-clause-asked : goal.step_head-requires-clause-asked
step_head-requires-clause-asked g c = ap (λ (k : Client). awaits_head (writing k)) c.loop.invariant.2.same ∙ c.requires.asked

pub returns-in-Some-clause-head : goal.returns-in-Some-clause-head
returns-in-Some-clause-head g c =
    let (before, first, skips, on) = c.loop.invariant in
    let (came, then, step) = c.in_ok-parts.ensures.steps in
    let finds = subst (λ o. StepsToHead c.loop.connection (c.loop.self.unread.items ++ came) c.step_head.new.connection c.step_head.new.self.unread.items o) c.in-Some.is step in (
      before ++ came,
      Consumes-trans _ _ _ before came first then,
      subst (λ s. FindsHead c.args.connection.now s c.step_head.new.connection c.step_head.new.self.unread.items c.in-Some.parts) (append_assoc c.args.self.now.unread.items before came)
          (skips_finds _ _ _ _ _ came _ _ skips finds),
    )

pub loop-preserved : goal.loop-preserved
loop-preserved g c =
    let (before, first, skips, on) = c.loop.invariant in
    let (came, then, step) = c.in_ok-parts.ensures.steps in
    let more = subst (λ o. StepsToHead c.loop.connection (c.loop.self.unread.items ++ came) c.step_head.new.connection c.step_head.new.self.unread.items o) c.in_default.is step in (
      before ++ came,
      Consumes-trans _ _ _ before came first then,
      subst (λ s. Skips c.args.connection.now s c.step_head.new.connection c.step_head.new.self.unread.items) (append_assoc c.args.self.now.unread.items before came)
          (skips_skips _ _ _ _ _ came _ skips more),
      (
        on.0 ++ c.in_ok-parts.ensures.comes.0,
        Consumes-trans _ _ _ on.0 c.in_ok-parts.ensures.comes.0 on.1 c.in_ok-parts.ensures.comes.1,
        subst (λ (s : List ℕ). Comes c.args.connection.now s c.step_head.new.connection c.step_head.new.self.unread.items []) (append_assoc c.args.self.now.unread.items on.0 c.in_ok-parts.ensures.comes.0)
            (comes_then _ _ _ _ _ c.in_ok-parts.ensures.comes.0 _ [] [] on.2 c.in_ok-parts.ensures.comes.2),
      ),
    )

pub returns-in-Some-clause-comes : goal.returns-in-Some-clause-comes
returns-in-Some-clause-comes g c =
    let on = c.loop.invariant.3 in
    let step = c.in_ok-parts.ensures.comes in (
      on.0 ++ step.0,
      Consumes-trans _ _ _ on.0 step.0 on.1 step.1,
      subst (λ (s : List ℕ). Comes c.args.connection.now s c.step_head.new.connection c.step_head.new.self.unread.items []) (append_assoc c.args.self.now.unread.items on.0 step.0)
          (comes_then _ _ _ _ _ step.0 _ [] [] on.2 step.2),
    )

pub returns-in-Some-clause-begun : goal.returns-in-Some-clause-begun
returns-in-Some-clause-begun g c = c.in_ok-parts.ensures.begun (ap is_some c.in-Some.is)

pub returns-in_err-parts-clause-malformed : goal.returns-in_err-parts-clause-malformed
returns-in_err-parts-clause-malformed g c =
    let may = g.R.ReaderCalls.may_read in
    let on = c.loop.invariant.3 in
    let e = c.in_err-parts.field-0.0 in
    passed (Breaks g.R.Read.remaining c.args.self.now c.step_head.new.self (LacksAnswer may c.args.connection.now)) c.from_residual.result e c.from_residual.ensures.1
    (breaks_after g.R.Read.remaining c.args.self.now c.loop.self c.step_head.new.self (LacksAnswer may c.loop.connection) (LacksAnswer may c.args.connection.now) on.0 on.1
    (λ more. comes_lacks may c.args.connection.now c.loop.connection (c.args.self.now.unread.items ++ on.0) c.loop.self.unread.items more [] [] on.2)
    e c.in_err-parts.ensures.malformed)

pub loop-init : goal.loop-init
loop-init g c =
    let none = append-nil c.args.self.now.unread.items in (
      [],
      Consumes-nil _,
      subst (λ (s : List ℕ). Skips c.args.connection.now s c.args.connection.now c.args.self.now.unread.items) (sym none) (skips_none c.args.connection.now c.args.self.now.unread.items),
      (
        [],
        Consumes-nil _,
        subst (λ (s : List ℕ). Comes c.args.connection.now s c.args.connection.now c.args.self.now.unread.items []) (sym none) (stays c.args.connection.now c.args.self.now.unread.items),
      ),
    )

pub returns-in_err-parts-clause-failed : goal.returns-in_err-parts-clause-failed
returns-in_err-parts-clause-failed g c =
    let may = g.R.ReaderCalls.may_read in
    passed (IsReaders may) c.from_residual.result c.in_err-parts.field-0.0 c.from_residual.ensures.1 c.in_err-parts.ensures.failed
