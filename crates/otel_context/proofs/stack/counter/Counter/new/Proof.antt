-- `new` makes a value of size zero, at count 0.
use Rattle.std.proofs.Common.{◌≡◌, [], ◌∷◌, refl}
use Rattle.std.proofs.raw_atomic.Walks.{proved}
use mir.Val.{vstruct, vnil}
use base.Fml.{ftrue, fsep}
use types.Kit.{‵, raw, ◌$◌, ◌∵◌, !, qed, keep, move, join, fjoin, fpack, suffices, done}
use types.Run.{no_more, returns, enter}
use types.Part.{agg}
use types.ByLocal.{alloc_all, pass_all, free_all, look_at, sets}
use denote.Shadow.{pure_i}
use denote.Steps.{nothing}
use denote.Triple.Entry.{on_entry}
use denote.Triple.Walked.{says, Stays, ends_at}
use Rattle.otel_context.specs.declared.stack.counter.Counter.TheInside.{Inside}
use Rattle.otel_context.specs.contracts.stack.counter.Counter.TheInside as I
use Rattle.otel_context.specs.contracts.stack.counter.Counter as T
use Rattle.otel_context.specs.contracts.stack.counter.Counter.new as f
use Rattle.otel_context.proofs.stack.counter.Counter.new.Statement.{statement}
use Rattle.otel_context.proofs.stack.counter.Counter.new.Code as code

abbrev stayed : Stays f.ended.signature.params f.ended.kept
stayed = tt

pub new_spec : {M : Type 1} → statement M
new_spec 𝓤 𝓛 𝓜 𝓡 wired =
    let c = f.clauses 𝓛 𝓜.mem 𝓡.returns in
    proved 𝓛 f.ended stayed c 𝓜 𝓡 tt
    f.Key.name code.function (code.unfolded 𝓤 𝓛.H 𝓜 𝓡 wired)
    (λ κs. tt) (λ κs. tt) (λ κs qs bounds a _ are.
    qed 𝓛 (raw (on_entry 𝓛 f.signature κs qs a tt) ∷ ‵ ftrue ∷ []) ∵ keep ! [] $ enter ! _ _ _ _ _ $
    alloc_all ! (λ l. pass_all ! refl tt $ sets ! (agg ! (no_more !)) refl (tt, tt) $
    returns ! (look_at ! 0 refl) $ free_all ! refl $
    suffices ! _ (ends_at 𝓛 f.ended stayed c ((κs, qs, bounds, a, tt), tt) (vstruct vnil) 0 tt tt) $ says ! refl $
    pure_i ! (I.the_row.own_val (record { count = 0 }) (vstruct vnil ∷ [])) ((λ vss. (tt, tt)), tt) ((tt, (refl, tt)), tt) $
    nothing ! $ move ! (1 ∷ 0 ∷ []) $ fjoin ! $ fpack ! ((a : Inside) × ((T.the_view a ≡ 0) × T.the_invariant a)) (λ x. fsep (I.the_row.own_val x.0 (vstruct vnil ∷ [])) ftrue) (record { count = 0 }, (refl, tt)) $
    nothing ! $ join ! $ nothing ! $ done !))
