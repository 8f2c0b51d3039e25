use Rattle.std.proofs.Common.{◌≤◌, take}
use Rattle.std.specs.List.{flat_map}
use Rattle.opentelemetry.specs.Carrier.{Sets}
use Rattle.otel_sdk.specs.ConfiguredPropagator.{pairs_by}
use Rattle.otel_sdk.proofs.env.configured.inject_all.Given as goal

abbrev pub invariant-loop-member : goal.invariant-loop-member
invariant-loop-member g l =
    record {
      sets : Sets ((goal.Injector-dyn g l.fn.injector.now).state l.fn.injector.now.1).texts
          (flat_map (λ name. pairs_by name l.context) (take l.member-index l.members))
          ((goal.Injector-dyn g l.injector.now).state l.injector.now.1).texts;
      count : ((goal.Injector-dyn g l.fn.injector.now).state l.fn.injector.now.1).refusals
          ≤ ((goal.Injector-dyn g l.injector.now).state l.injector.now.1).refusals;
    }
