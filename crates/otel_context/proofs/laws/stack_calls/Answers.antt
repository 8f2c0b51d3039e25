use Rattle.otel_context.proofs.StackLawLemmas.{detach_restores, attach_is_current, attach_leaves_all, removal_leaves_others, removal_keeps_order}
use Rattle.otel_context.proofs.laws.stack_calls.Goals as goal

pub returns : goal.returns
returns c = record {
  restores = detach_restores;
  current = attach_is_current;
  stays = attach_leaves_all;
  others = removal_leaves_others;
  order = removal_keeps_order;
}
