use Rattle.std.proofs.Common.{Bool, sym, ap, ◌∙◌}
use Rattle.std.specs.Prelude.{if◌then◌else◌}
use Rattle.otel_sdk_base.specs.Attributes.{up_by}
use Rattle.otel_sdk_base.proofs.SetInTurn.{set_next, count_next}
use Rattle.otel_sdk_base.proofs.attributes.limited.Goals as goal

pub loop-attribute-preserved-then-not-branch : goal.loop-attribute-preserved-then-not-branch
loop-attribute-preserved-then-not-branch c =
    let l = c.loop-attribute in
    let y = c.in-Some.attribute in
    let kept = c.in_ok-set.field-0 in
    let cut = c.in_ok-cut.ensures in (
      set_next c.args.limit c.args.length l.yielded y _ _ l.invariant.0 cut _ c.in_ok-set.ensures.ok,
      c.up_by-count.ensures
          ∙ ap (λ (b : Bool). if b then l.count else up_by l.count 1) (sym c.if-not-branch.true)
          ∙ count_next c.args.limit c.args.length l.yielded y _ _ l.invariant.0 cut c.args.count l.count kept
          c.in_ok-set.ensures.kept l.invariant.1,
    )

pub loop-attribute-preserved : goal.loop-attribute-preserved
loop-attribute-preserved c =
    let l = c.loop-attribute in
    let y = c.in-Some.attribute in
    let kept = c.in_ok-set.field-0 in
    let cut = c.in_ok-cut.ensures in (
      set_next c.args.limit c.args.length l.yielded y _ _ l.invariant.0 cut _ c.in_ok-set.ensures.ok,
      ap (λ (b : Bool). if b then l.count else up_by l.count 1) (sym c.if-not-branch.false)
          ∙ count_next c.args.limit c.args.length l.yielded y _ _ l.invariant.0 cut c.args.count l.count kept
          c.in_ok-set.ensures.kept l.invariant.1,
    )
