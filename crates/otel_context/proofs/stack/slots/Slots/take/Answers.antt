use Rattle.std.proofs.Common.{◌≡◌, ◌<◌, Some, sym, ap, ◌∙◌, arith}
use Rattle.otel_context.specs.Context.{ContextRecord}
use Rattle.otel_context.specs.Shared.{record_of}
use Rattle.otel_context.specs.Slots.{SlotsState, numbered, live_of}
use Rattle.otel_context.specs.SlotVec.{SlotVecState}
use Rattle.otel_context.specs.Stack.{newest_position, detach, context_at}
use Rattle.otel_context.specs.Links.{set_slot, live_at, older_at, newer_at, shared_at, kept_at, occupants, uncovered, unlinked}
use Rattle.otel_context.proofs.SlotLemmas.{none-same}
use Rattle.otel_context.proofs.LinkLemmas.{position_in, uncovered_stays, older_stays, taken-below, taken-newest, dead-given, below-linked, below-live, below-given, newest-linked, newest-detach, newest-given}
use Rattle.otel_context.proofs.stack.slots.Slots.take.Goals as goal

pub ask-requires : goal.ask-requires
ask-requires c = position_in c.self.inside.current c.self.inside.slots.items c.args.position (newest_position (live_of c.args.self.now)) c.self.invariant (sym (ap (λ (s : SlotsState). newest_position (live_of s)) c.self.view_is)) c.requires.below

pub returns-in_default-clause-given : goal.returns-in_default-clause-given
returns-in_default-clause-given c =
    let xs = c.self.inside.slots.items in
    let now = c.self.inside.current in
    let p = c.args.position in
    let inside = position_in now xs p (newest_position (live_of c.args.self.now)) c.self.invariant (sym (ap (λ (s : SlotsState). newest_position (live_of s)) c.self.view_is)) c.requires.below in
    dead-given now xs p c.requires.above inside c.in_default.ensures.dead ∙ ap (λ (s : SlotsState). context_at p (live_of s)) c.self.view_is

pub returns-in_default-clause-live : goal.returns-in_default-clause-live
returns-in_default-clause-live c =
    ap (λ (s : SlotVecState). numbered 1 (occupants c.self.inside.current s.items)) c.in_default.ensures.asked ∙ ap live_of c.self.view_is
    ∙ sym (none-same c.args.position (live_of c.args.self.now) (sym (returns-in_default-clause-given c)))

pub unlink-requires-clause-position : goal.unlink-requires-clause-position
unlink-requires-clause-position c =
    let asked = ap (λ (s : SlotVecState). s.items) c.in-Some.ensures.asked in
    let left = ap (λ (s : SlotVecState). s.items) c.uncover-shared.ensures.left ∙ ap (λ xs. set_slot xs c.args.position uncovered) asked in
    uncovered_stays c.self.inside.slots.items c.uncover-shared.new.self.items c.args.position c.in-Some.ensures.live left c.args.position ∙ c.in-Some.ensures.live

pub unlink-requires-clause-older : goal.unlink-requires-clause-older
unlink-requires-clause-older c =
    let xs = c.self.inside.slots.items in
    let a = c.in-Some.ensures in
    let o = c.in-Some.field-0.older in
    let asked = ap (λ (s : SlotVecState). s.items) a.asked in
    let left = ap (λ (s : SlotVecState). s.items) c.uncover-shared.ensures.left ∙ ap (λ s. set_slot s c.args.position uncovered) asked in
    uncovered_stays xs c.uncover-shared.new.self.items c.args.position a.live left o ∙ ap (live_at xs) a.older ∙ c.self.invariant.ring.older_live c.args.position a.live

pub unlink-requires-clause-newer : goal.unlink-requires-clause-newer
unlink-requires-clause-newer c =
    let xs = c.self.inside.slots.items in
    let a = c.in-Some.ensures in
    let n = c.in-Some.field-0.newer in
    let asked = ap (λ (s : SlotVecState). s.items) a.asked in
    let left = ap (λ (s : SlotVecState). s.items) c.uncover-shared.ensures.left ∙ ap (λ s. set_slot s c.args.position uncovered) asked in
    uncovered_stays xs c.uncover-shared.new.self.items c.args.position a.live left n ∙ ap (live_at xs) a.newer ∙ c.self.invariant.ring.newer_live c.args.position a.live

pub invariant_of-self-then-newer-gt0 : goal.invariant_of-self-then-newer-gt0
invariant_of-self-then-newer-gt0 c =
    let xs = c.self.inside.slots.items in
    let now = c.self.inside.current in
    let p = c.args.position in
    let r = c.in-Some.field-0 in
    let a = c.in-Some.ensures in
    let asked = ap (λ (s : SlotVecState). s.items) a.asked in
    let left = ap (λ (s : SlotVecState). s.items) c.uncover-shared.ensures.left ∙ ap (λ s. set_slot s p uncovered) asked in
    let removed = ap (λ (s : SlotVecState). s.items) c.unlink.ensures in
    let below : 0 < newer_at xs p = omega (arith, a.newer, c.if-newer-gt0.true) in
    let taken = taken-below now xs c.uncover-shared.new.self.items c.unlink.new.self.items p r.older r.newer c.self.invariant a.live a.older a.newer left removed in
    below-linked now xs c.unlink.new.self.items p c.self.invariant c.requires.above a.live below taken

pub returns-then-newer-gt0-clause-given : goal.returns-then-newer-gt0-clause-given
returns-then-newer-gt0-clause-given c =
    let xs = c.self.inside.slots.items in
    let now = c.self.inside.current in
    let p = c.args.position in
    let a = c.in-Some.ensures in
    let kept = c.uncover-shared.ensures.given ∙ ap (λ (s : SlotVecState). shared_at s.items p) a.asked in
    let below : 0 < newer_at xs p = omega (arith, a.newer, c.if-newer-gt0.true) in
    ap (λ (r : ContextRecord). Some r) (c.of_shared.ensures ∙ ap record_of kept)
    ∙ below-given now xs p c.self.invariant c.requires.above a.live below ∙ ap (λ (s : SlotsState). context_at p (live_of s)) c.self.view_is

pub returns-then-newer-gt0-clause-live : goal.returns-then-newer-gt0-clause-live
returns-then-newer-gt0-clause-live c =
    let xs = c.self.inside.slots.items in
    let now = c.self.inside.current in
    let p = c.args.position in
    let r = c.in-Some.field-0 in
    let a = c.in-Some.ensures in
    let asked = ap (λ (s : SlotVecState). s.items) a.asked in
    let left = ap (λ (s : SlotVecState). s.items) c.uncover-shared.ensures.left ∙ ap (λ s. set_slot s p uncovered) asked in
    let removed = ap (λ (s : SlotVecState). s.items) c.unlink.ensures in
    let below : 0 < newer_at xs p = omega (arith, a.newer, c.if-newer-gt0.true) in
    let taken = taken-below now xs c.uncover-shared.new.self.items c.unlink.new.self.items p r.older r.newer c.self.invariant a.live a.older a.newer left removed in
    below-live now xs c.unlink.new.self.items p c.self.invariant c.requires.above a.live below taken ∙ ap (λ (s : SlotsState). detach p (live_of s)) c.self.view_is

pub uncover-below-requires : goal.uncover-below-requires
uncover-below-requires c =
    let xs = c.self.inside.slots.items in
    let p = c.args.position in
    let r = c.in-Some.field-0 in
    let a = c.in-Some.ensures in
    let removed = ap (λ (s : SlotVecState). s.items) c.unlink-2.ensures ∙ ap (λ (s : SlotVecState). unlinked p r.older r.newer s.items) a.asked in
    (older_stays c.self.inside.current xs c.unlink-2.new.self.items p r.older r.newer c.self.invariant a.live c.requires.above a.older a.newer removed).0

pub invariant_of-self-2 : goal.invariant_of-self-2
invariant_of-self-2 c =
    let xs = c.self.inside.slots.items in
    let now = c.self.inside.current in
    let p = c.args.position in
    let r = c.in-Some.field-0 in
    let a = c.in-Some.ensures in
    let removed = ap (λ (s : SlotVecState). s.items) c.unlink-2.ensures ∙ ap (λ (s : SlotVecState). unlinked p r.older r.newer s.items) a.asked in
    let left = ap (λ (s : SlotVecState). s.items) c.uncover-below.ensures.left in
    let none : newer_at xs p ≡ 0 = omega (arith, a.newer, c.if-newer-gt0.false) in
    let taken = taken-newest now xs c.unlink-2.new.self.items c.uncover-below.new.self.items p r.older r.newer c.self.invariant a.live a.older a.newer removed left in
    let keeps = (older_stays now xs c.unlink-2.new.self.items p r.older r.newer c.self.invariant a.live c.requires.above a.older a.newer removed).1 in
    let is_c : c.replace_shared-shared.new.context ≡ kept_at xs (older_at xs p) = c.replace_shared-shared.ensures.replaced ∙ ap record_of (c.uncover-below.ensures.given ∙ keeps) in
    newest-linked now c.replace_shared-shared.new.context xs c.uncover-below.new.self.items p c.self.invariant c.requires.above a.live none taken is_c

pub returns-clause-given : goal.returns-clause-given
returns-clause-given c =
    let xs = c.self.inside.slots.items in
    let now = c.self.inside.current in
    let p = c.args.position in
    let a = c.in-Some.ensures in
    let none : newer_at xs p ≡ 0 = omega (arith, a.newer, c.if-newer-gt0.false) in
    ap (λ (r : ContextRecord). Some r) (c.of_shared-2.ensures ∙ c.replace_shared-shared.ensures.given)
    ∙ newest-given now xs p c.self.invariant c.requires.above a.live none ∙ ap (λ (s : SlotsState). context_at p (live_of s)) c.self.view_is

pub returns-clause-live : goal.returns-clause-live
returns-clause-live c =
    let xs = c.self.inside.slots.items in
    let now = c.self.inside.current in
    let p = c.args.position in
    let r = c.in-Some.field-0 in
    let a = c.in-Some.ensures in
    let removed = ap (λ (s : SlotVecState). s.items) c.unlink-2.ensures ∙ ap (λ (s : SlotVecState). unlinked p r.older r.newer s.items) a.asked in
    let left = ap (λ (s : SlotVecState). s.items) c.uncover-below.ensures.left in
    let none : newer_at xs p ≡ 0 = omega (arith, a.newer, c.if-newer-gt0.false) in
    let taken = taken-newest now xs c.unlink-2.new.self.items c.uncover-below.new.self.items p r.older r.newer c.self.invariant a.live a.older a.newer removed left in
    let keeps = (older_stays now xs c.unlink-2.new.self.items p r.older r.newer c.self.invariant a.live c.requires.above a.older a.newer removed).1 in
    let is_c : c.replace_shared-shared.new.context ≡ kept_at xs (older_at xs p) = c.replace_shared-shared.ensures.replaced ∙ ap record_of (c.uncover-below.ensures.given ∙ keeps) in
    newest-detach now c.replace_shared-shared.new.context xs c.uncover-below.new.self.items p c.self.invariant c.requires.above a.live none taken is_c ∙ ap (λ (s : SlotsState). detach p (live_of s)) c.self.view_is
