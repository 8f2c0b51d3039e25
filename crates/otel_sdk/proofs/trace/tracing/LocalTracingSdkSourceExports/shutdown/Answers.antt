use Rattle.std.proofs.Common.{Err, Ok, ap, rules}
use Rattle.otel_sdk.specs.SdkSource.{SourceState}
use Rattle.otel_sdk.proofs.trace.tracing.LocalTracingSdkSourceExports.shutdown.Goals as goal

pub returns-in_err-upkeep-clause-shuts_down : goal.returns-in_err-upkeep-clause-shuts_down
returns-in_err-upkeep-clause-shuts_down g c = record {
  ended = c.end_all-count.new.self;
  ends = c.end_all-count.ensures.ends;
  told = Err c.in_err-upkeep.field-0.0;
  shut_down = c.in_err-upkeep.ensures.does.0;
  answered = search rules;
  works = record {
    same = c.upkeep.ensures.same;
    begun = ap (λ (s : SourceState _ _). s.begun) c.upkeep.ensures.does.1;
    taken = ap (λ (s : SourceState _ _). s.taken) c.upkeep.ensures.does.1;
  };
}

pub returns-clause-shuts_down : goal.returns-clause-shuts_down
returns-clause-shuts_down g c = record {
  ended = c.end_all-count.new.self;
  ends = c.end_all-count.ensures.ends;
  told = Ok c.in_ok-upkeep.field-0;
  shut_down = c.in_ok-upkeep.ensures.does.0;
  answered = ap Ok c.end_all-count.ensures.count;
  works = record {
    same = c.upkeep.ensures.same;
    begun = ap (λ (s : SourceState _ _). s.begun) c.upkeep.ensures.does.1;
    taken = ap (λ (s : SourceState _ _). s.taken) c.upkeep.ensures.does.1;
  };
}
