use Rattle.std.proofs.Common.{◌≡◌, ◌+◌, ◌<◌, ◌∷◌, [], ◌++◌, refl, sym, ap, ◌∙◌, arith}
use Rattle.otel_context.specs.Context.{ContextRecord}
use Rattle.otel_context.specs.Slots.{SlotsState, live_of}
use Rattle.otel_context.specs.SlotVec.{SlotVecState}
use Rattle.otel_context.specs.Stack.{newest_position, last_position}
use Rattle.otel_context.specs.Links.{older_at}
use Rattle.otel_context.proofs.LinkLemmas.{live_within, newest_live, linked-newest, dead-next, newest-stays, base-stays, push-linked, push-live}
use Rattle.otel_context.proofs.stack.slots.Slots.push.Goals as goal

pub set_live-requires-clause-within : goal.set_live-requires-clause-within
set_live-requires-clause-within c =
    let xs = c.self.inside.slots.items in
    let now = c.self.inside.current in
    let is : c.newest-newest.result ≡ older_at xs 0 = c.newest-newest.ensures.newest ∙ sym (ap (λ (s : SlotsState). newest_position (live_of s)) c.self.view_is) ∙ linked-newest now xs c.self.invariant in
    let within = live_within xs (older_at xs 0) (newest_live now xs c.self.invariant) in
    omega (arith, within, is)

pub set_live-requires-clause-dead : goal.set_live-requires-clause-dead
set_live-requires-clause-dead c =
    let xs = c.self.inside.slots.items in
    let now = c.self.inside.current in
    let m = c.newest-newest.result in
    let is : m ≡ older_at xs 0 = c.newest-newest.ensures.newest ∙ sym (ap (λ (s : SlotsState). newest_position (live_of s)) c.self.view_is) ∙ linked-newest now xs c.self.invariant in
    dead-next now xs m (m + 1) c.self.invariant is refl

pub cover-requires : goal.cover-requires
cover-requires c =
    let xs = c.self.inside.slots.items in
    let now = c.self.inside.current in
    let m = c.newest-newest.result in
    let is : m ≡ older_at xs 0 = c.newest-newest.ensures.newest ∙ sym (ap (λ (s : SlotsState). newest_position (live_of s)) c.self.view_is) ∙ linked-newest now xs c.self.invariant in
    newest-stays now xs c.set_live.new.self.items m (m + 1) c.in_ok-set_live.ensures.live c.self.invariant is refl

pub set_older-requires : goal.set_older-requires
set_older-requires c =
    let xs = c.self.inside.slots.items in
    let now = c.self.inside.current in
    let m = c.newest-newest.result in
    let is : m ≡ older_at xs 0 = c.newest-newest.ensures.newest ∙ sym (ap (λ (s : SlotsState). newest_position (live_of s)) c.self.view_is) ∙ linked-newest now xs c.self.invariant in
    let covered = ap (λ (s : SlotVecState). s.items) c.cover.ensures in
    base-stays now xs c.set_live.new.self.items c.cover.new.self.items m (m + 1) c.replace_shared-below.result c.in_ok-set_live.ensures.live covered c.self.invariant is refl

pub invariant_of-self-2 : goal.invariant_of-self-2
invariant_of-self-2 c =
    let xs = c.self.inside.slots.items in
    let now = c.self.inside.current in
    let m = c.newest-newest.result in
    let is : m ≡ older_at xs 0 = c.newest-newest.ensures.newest ∙ sym (ap (λ (s : SlotsState). newest_position (live_of s)) c.self.view_is) ∙ linked-newest now xs c.self.invariant in
    let low : m < last_position = omega (arith, c.requires, c.newest-newest.ensures.newest) in
    let covered = ap (λ (s : SlotVecState). s.items) c.cover.ensures in
    let joined = ap (λ (s : SlotVecState). s.items) c.set_older.ensures in
    push-linked now c.replace_shared-below.new.context xs c.set_live.new.self.items c.cover.new.self.items c.set_older.new.self.items m (m + 1) c.replace_shared-below.result
    c.in_ok-set_live.ensures.live covered joined c.self.invariant is refl low c.replace_shared-below.ensures.given

pub returns-clause-live : goal.returns-clause-live
returns-clause-live c =
    let xs = c.self.inside.slots.items in
    let now = c.self.inside.current in
    let m = c.newest-newest.result in
    let is : m ≡ older_at xs 0 = c.newest-newest.ensures.newest ∙ sym (ap (λ (s : SlotsState). newest_position (live_of s)) c.self.view_is) ∙ linked-newest now xs c.self.invariant in
    let low : m < last_position = omega (arith, c.requires, c.newest-newest.ensures.newest) in
    let covered = ap (λ (s : SlotVecState). s.items) c.cover.ensures in
    let joined = ap (λ (s : SlotVecState). s.items) c.set_older.ensures in
    push-live now c.replace_shared-below.new.context xs c.set_live.new.self.items c.cover.new.self.items c.set_older.new.self.items m (m + 1) c.replace_shared-below.result
    c.in_ok-set_live.ensures.live covered joined c.self.invariant is refl low c.replace_shared-below.ensures.given
    ∙ ap (λ (s : SlotsState). live_of s ++ (m + 1, c.replace_shared-below.new.context) ∷ []) c.self.view_is
    ∙ ap (λ (r : ContextRecord). live_of c.args.self.now ++ (m + 1, r) ∷ []) (c.replace_shared-below.ensures.replaced ∙ c.into_shared.ensures)
    ∙ ap (λ n. live_of c.args.self.now ++ (n + 1, c.args.context) ∷ []) c.newest-newest.ensures.newest
