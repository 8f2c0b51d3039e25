use Rattle.std.proofs.Common.{◌≡◌, ◌≤◌, [], take}
use Rattle.std.specs.List.{flat_map}
use Rattle.opentelemetry.specs.Carrier.{Sets}
use Rattle.opentelemetry.proofs.propagation.composite.TextMapCompositePropagator.inject_context.Given as goal

abbrev pub invariant-loop-member : goal.invariant-loop-member
invariant-loop-member g l =
    record {
      sets : Sets ((goal.Injector-dyn g l.fn.injector.now).state l.fn.injector.now.1).texts
          (flat_map (λ b. (goal.TextMapPropagator-dyn g (b.vtable, b.value)).pairs b.value l.context) (take l.member-index l.member-items))
          ((goal.Injector-dyn g l.injector.now).state l.injector.now.1).texts;
      count : ((goal.Injector-dyn g l.fn.injector.now).state l.fn.injector.now.1).refusals
          ≤ ((goal.Injector-dyn g l.injector.now).state l.injector.now.1).refusals;
      untouched : l.member-items ≡ [] → (goal.Injector-dyn g l.injector.now).state l.injector.now.1 ≡ (goal.Injector-dyn g l.fn.injector.now).state l.fn.injector.now.1;
    }
