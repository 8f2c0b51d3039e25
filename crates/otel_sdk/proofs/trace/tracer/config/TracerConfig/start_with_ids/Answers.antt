use Rattle.std.proofs.Common.{◌≡◌, true, rules, sym, ◌∙◌, option_copied}
use Rattle.std.specs.Rc.{rc_value}
use Rattle.opentelemetry.specs.View.{builder_of}
use Rattle.otel_sdk.specs.Sampler.{result_of}
use Rattle.otel_sdk.specs.Tracer as spec
use Rattle.otel_sdk.proofs.Outcomes.{weaken}
use Rattle.otel_sdk.proofs.Starts.{recorded}
use Rattle.otel_sdk.proofs.trace.tracer.config.TracerConfig.start_with_ids.Goals as goal

pub returns : goal.returns
returns g c =
    let parent = option_copied c.parent_of-parent.result in
    let sampled = g.S.ShouldSample.answer c.args.self.now.sampler in
    let random = g.G.IdGenerator.random c.args.self.now.id_generator in
    let answer = c.in_ok-answer.answer in
    let whole : spec.records answer.decision ≡ true = sym c.records.ensures ∙ c.if-not-records.false in
    let asks : result_of answer ≡ sampled (spec.asked (builder_of c.args.builder) c.args.parent_context.now c.args.ids.trace_id) = search rules in
    let is_random : c.is_random-random.result ≡ random = search rules in
    let own : c.span_context_of-span_context.result ≡ spec.span_context_of c.args.ids.trace_id c.args.ids.span_id answer.decision (spec.has_random_id parent random) (result_of answer).trace_state = search rules in
    weaken _ _ (λ span h. recorded sampled random g.C.TracerCalls.may_show c.args.self.now.limits (rc_value c.args.scope.now) (builder_of c.args.builder) c.args.parent_context.now c.args.ids.trace_id c.args.ids.span_id (result_of answer) parent _ span asks whole c.parent_of-parent.ensures own h) c.record.result c.record.ensures
