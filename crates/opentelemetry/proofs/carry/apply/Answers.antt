use Rattle.std.proofs.Common.{◌≡◌, Some, None, inl, inr, arith}
use Rattle.std.specs.Prelude.{option_map}
use Rattle.std.specs.List.{slice_get}
use Rattle.std.proofs.lemmas.Option.{slice_get_read}
use Rattle.opentelemetry.specs.Run.{attachment_of}
use Rattle.opentelemetry.proofs.RunLemmas.{stands-attach, stands-detach, stands-skip}
use Rattle.opentelemetry.proofs.carry.apply.Goals as goal
use Rattle.opentelemetry.proofs.carry.apply.Goals.{in-Attached, in-Full}

pub returns-in_ok-push-in-Attach-2 : goal.returns-in_ok-push-in-Attach-2
returns-in_ok-push-in-Attach-2 c = λ done s.
    let place : c.match-outcome.push ≡ option_map (λ a. a.0) (attachment_of c.attach-outcome.result c.in-Attach.context) =
    elim c.match-outcome.branch [ in-Attached w ↦ rw w.in-Attached.is w.push-is | in-Full w ↦ elim w.in-Full.is [ inl e ↦ rw e w.push-is | inr e ↦ rw e w.push-is ] ] in
    rw (c.in-Attach.is, c.in_ok-push-in-Attach.ensures.items, c.in_ok-push-in-Attach-2.ensures.items, c.attach-outcome.ensures.after s.lawful)
    (stands-attach done c.args.outcomes.now.items c.args.positions.now.items c.args.stack.now c.in-Attach.context c.attach-outcome.result c.match-outcome.push s (c.attach-outcome.ensures.outcome s.lawful) (rw (c.attach-outcome.ensures.after s.lawful) at c.attach-outcome.ensures.lawful) place)

pub returns-in-Some : goal.returns-in-Some
returns-in-Some c = λ done s.
    let at : slice_get c.args.positions.now.items c.in-Detach.number ≡ Some (Some c.in-Some.position) =
    slice_get_read c.args.positions.now.items _ c.in-Detach.number (Some c.in-Some.position) c.args.positions.now.ok.0 (omega arith) (rw c.in-Some.is at c.index-live.ensures) in
    rw c.in-Detach.is (stands-detach done c.args.outcomes.now.items c.args.positions.now.items c.args.stack.now c.pop_id.new.self c.in-Detach.number c.in-Some.position s at c.pop_id.ensures.live c.pop_id.ensures.accepted c.pop_id.ensures.stepped c.pop_id.ensures.lawful)

pub returns-in_default : goal.returns-in_default
returns-in_default c = λ done s.
    let at : slice_get c.args.positions.now.items c.in-Detach.number ≡ Some None =
    slice_get_read c.args.positions.now.items _ c.in-Detach.number None c.args.positions.now.ok.0 (omega arith) (rw c.in_default.is at c.index-live.ensures) in
    rw c.in-Detach.is (stands-skip done c.args.outcomes.now.items c.args.positions.now.items c.args.stack.now c.in-Detach.number s (inl at))

pub returns-else-number-len : goal.returns-else-number-len
returns-else-number-len c = λ done s.
    rw c.in-Detach.is (stands-skip done c.args.outcomes.now.items c.args.positions.now.items c.args.stack.now c.in-Detach.number s (inr (omega (arith, c.args.positions.now.ok.0))))
