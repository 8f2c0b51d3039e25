use Rattle.std.proofs.Common.{List, ℕ, [], ◌∷◌, Bool, if◌then◌else◌, codes, Option, sym, ap, ◌∙◌, subst}
use Rattle.otel_base.specs.AnyValue as any
use Rattle.otel_base.specs.View.{pairs_view}
use Rattle.otel_proto.specs.Output.{put, Puts}
use Rattle.otel_proto.specs.Written.{message, messages}
use Rattle.otel_proto.proofs.shared.Outputs.{put_none}
use Rattle.otel_proto_batches.specs.Logs.{attribute, target_attribute}
use Rattle.otel_proto_batches.proofs.logs.put_target_unless_held.Goals as goal

pub returns-in_default : goal.returns-in_default
returns-in_default c =
    let o = c.args.out.now in
    let held = pairs_view c.args.held.now in
    sym (put_none o) ∙ ap (λ (t : Option (List ℕ)). put (messages 6 attribute (target_attribute held t)) o) (sym c.in_default.is)

pub returns-then-has_target : goal.returns-then-has_target
returns-then-has_target c =
    let o = c.args.out.now in
    let held = pairs_view c.args.held.now in
    let key = codes "log.target" in
    sym (put_none o)
    ∙ ap (λ (b : Bool). put (messages 6 attribute (if b then [] else (key, any.text c.in-Some.target) ∷ [])) o) (sym c.if-has_target.true ∙ c.has_target.ensures)
    ∙ ap (λ (t : Option (List ℕ)). put (messages 6 attribute (target_attribute held t)) o) (sym c.in-Some.is)

pub returns : goal.returns
returns c =
    let r = c.put_target.result in
    let o = c.args.out.now in
    let new = c.put_target.new.out in
    let held = pairs_view c.args.held.now in
    let key = codes "log.target" in
    subst (λ (t : Option (List ℕ)). Puts r o new (messages 6 attribute (target_attribute held t))) (sym c.in-Some.is)
    (subst (λ (b : Bool). Puts r o new (messages 6 attribute (if b then [] else (key, any.text c.in-Some.target) ∷ [])))
    (sym (sym c.has_target.ensures ∙ c.if-has_target.false))
    (subst (λ (s : List ℕ). Puts r o new (message 6 (attribute (key, any.text s)) ∷ [])) c.as_str.ensures c.put_target.ensures))
