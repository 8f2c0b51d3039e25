use Rattle.std.proofs.Common.{◌-◌, ◌<◌, ap, arith}
use Rattle.otel_sdk.specs.LastExport.{TimeLeft, unread, pause}
use Rattle.otel_sdk.proofs.TimerLemmas.{no_reading, stands_still, one_reading}
use Rattle.otel_sdk.proofs.trace.tracing.last_export.Timer.wait.Goals as goal

pub loop-self-init : goal.loop-self-init
loop-self-init g c = record {
  read = unread c.args.self.now;
  stood = no_reading (g.C.Clock.reads c.args.clock.now) c.args.self.now.last;
  few = omega arith;
}

pub loop-self-preserved-then-read : goal.loop-self-preserved-then-read
loop-self-preserved-then-read g c =
    let reads = g.C.Clock.reads c.args.clock.now in
    let more : c.args.self.now.left - pause < c.loop-self.self.left =
    omega (arith, c.loop-self-test.true, c.saturating_sub-due.ensures, ap (λ (t : TimeLeft). t.left) c.self.view_is, ap (λ (t : TimeLeft). t.left) c.self-in-loop-self.view_is) in
    record {
      read = one_reading reads (c.args.self.now.left - pause) c.args.self.now c.loop-self.self c.read.new.self c.loop-self.invariant.read more c.read.ensures.shown c.read.ensures.passed;
      stood = no_reading reads c.read.new.self.last;
      few = omega arith;
    }

pub loop-self-preserved : goal.loop-self-preserved
loop-self-preserved g c =
    let reads = g.C.Clock.reads c.args.clock.now in
    let more : c.args.self.now.left - pause < c.loop-self.self.left =
    omega (arith, c.loop-self-test.true, c.saturating_sub-due.ensures, ap (λ (t : TimeLeft). t.left) c.self.view_is, ap (λ (t : TimeLeft). t.left) c.self-in-loop-self.view_is) in
    record {
      read = one_reading reads (c.args.self.now.left - pause) c.args.self.now c.loop-self.self c.read.new.self c.loop-self.invariant.read more c.read.ensures.shown c.read.ensures.passed;
      stood = stands_still reads c.loop-self.still c.loop-self.self.last c.read.new.self.last c.read.ensures.shown (c.read.ensures.still c.if-read.false) c.loop-self.invariant.stood;
      few = omega (arith, c.if-still-lt-STILL.true);
    }
