use Rattle.std.proofs.Common.{◌≡◌, length}
use Rattle.std.specs.Prelude.{IsTrue}
use Rattle.std.specs.List.{fold, list_any}
use Rattle.opentelemetry.proofs.propagation.composite.TextMapCompositePropagator.extract_with_context.Given as goal

abbrev pub invariant-loop-member : goal.invariant-loop-member
invariant-loop-member g l =
    record {
      extracted : fold (λ c b. (goal.TextMapPropagator-dyn g (b.vtable, b.value)).extracted b.value c ((goal.Extractor-dyn g l.extractor.now).texts l.extractor.now.1)) l.given l.rest
          ≡ fold (λ c b. (goal.TextMapPropagator-dyn g (b.vtable, b.value)).extracted b.value c ((goal.Extractor-dyn g l.extractor.now).texts l.extractor.now.1)) l.context l.self.members.items;
      refused : IsTrue (list_any (λ b. (goal.TextMapPropagator-dyn g (b.vtable, b.value)).may_refuse b.value) l.rest)
          → IsTrue (list_any (λ b. (goal.TextMapPropagator-dyn g (b.vtable, b.value)).may_refuse b.value) l.self.members.items);
    }

abbrev pub decreases-loop-member : goal.decreases-loop-member
decreases-loop-member g l = length l.rest
