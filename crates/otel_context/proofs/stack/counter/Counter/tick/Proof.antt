-- An empty body. The borrow is opened, and closed with one more.
use Rattle.std.proofs.Common.{◌≡◌, ap, ◌+◌, [], ◌∷◌, refl}
use Rattle.std.proofs.raw_atomic.Walks.{proved}
use base.Logic.{id⊢}
use base.Fml.{fsep, ftrue, flft}
use mir.Syntax.{named}
use mir.Val.{vunit}
use types.Kit.{‵, ◌⊛◌, ◌$◌, ◌∵◌, !, qed, done, move, keep, use1, fsplit, fjoin, fpick, fpack, split, join, fsplit3, feq_i, suffices, frame, group}
use types.Run.{enter, of_opd, unit_lit, returns}
use types.ByLocal.{alloc_all, pass_all, free_all, look_at, sets}
use denote.Ref.{MutRef, mut_vals, mut_Tells}
use denote.Signature.{plain}
use denote.Steps.{nothing, opens, closes}
use denote.Triple.Walked.{Stays, says, stay_ref, Goes-ref, ends_at}
use Rattle.otel_context.specs.declared.stack.counter.Counter.TheInside.{Inside}
use Rattle.otel_context.specs.contracts.stack.counter.Counter.TheInside as I
use Rattle.otel_context.specs.contracts.stack.counter.Counter as T
use Rattle.otel_context.specs.contracts.stack.counter.Counter.{the_row as R}
use Rattle.otel_context.specs.contracts.stack.counter.Counter.tick as f
use Rattle.otel_context.proofs.stack.counter.Counter.tick.Statement.{statement}
use Rattle.otel_context.proofs.stack.counter.Counter.tick.Code as code

abbrev stayed : Stays f.ended.signature.params f.ended.kept
stayed = (stay_ref (0 ∷ []) tt (plain (λ _. R)), tt)

pub tick_spec : {M : Type 1} → statement M
tick_spec 𝓤 𝓛 𝓜 𝓡 wired =
    let c = f.clauses 𝓛 𝓜.mem 𝓡.returns in
    proved 𝓛 f.ended stayed c 𝓜 𝓡 (Goes-ref 𝓛 1 0 tt (plain (λ _. R)), tt)
    f.Key.name code.function (code.unfolded 𝓤 𝓛.H 𝓜 𝓡 wired)
    (λ κs. (mut_vals, tt)) (λ κs. (mut_Tells (named 0) κs.0 R, tt)) (λ κs qs bounds a _ are.
    let b = a.0.ref_ptr.0 in let o = a.0.ref_ptr.1 in let vs = mut_vals a.0 in
    qed 𝓛 (((‵ (flft κs.0 qs.0) ⊛ ‵ ftrue) ⊛ ‵ ((MutRef (named 0) κs.0 R).own_val a.0 vs) ⊛ ‵ ftrue) ∷ ‵ ftrue ∷ []) ∵
    split ! $ split ! $ move ! (2 ∷ []) $ split ! $ keep ! (0 ∷ 2 ∷ []) $
    enter ! _ _ _ _ _ $ alloc_all ! (λ l. pass_all ! refl ((tt, tt), tt) $
    fsplit3 ! $ move ! (1 ∷ 2 ∷ 3 ∷ []) $ opens ! tt R b o (λ us.
    sets ! (of_opd ! (unit_lit !)) refl (tt, tt) $
    move ! (1 ∷ []) $ fpick ! (λ x. fsplit ! $
    let more : Inside = record { count = x.0.count + 1 } in
    use1 𝓛 (‵ (I.the_row.own_val more us)) (id⊢ 𝓤 _) $ fjoin ! $
    fpack ! ((i : Inside) × ((T.the_view i ≡ a.0.now + 1) × T.the_invariant i)) (λ i. fsep (I.the_row.own_val i.0 us) ftrue) (more, (ap (λ n. n + 1) x.1.0, tt)) $
    move ! (1 ∷ 0 ∷ []) $ closes ! tt R (a.0.now + 1) us b o $
    returns ! (look_at ! 0 refl) $ free_all ! refl $ move ! (3 ∷ []) $
    suffices ! _ (ends_at 𝓛 f.ended stayed c ((κs, qs, bounds, a, (vs, tt)), tt) vunit tt (a.0.now + 1, tt) (tt, tt)) $ says ! refl $
    group ! 3 $ nothing ! $ move ! (1 ∷ 0 ∷ []) $ join ! $ nothing ! $ move ! (2 ∷ 0 ∷ []) $ join ! $ frame ! $ frame ! $
    feq_i ! _ (vunit ∷ []) _ refl $ done !))))
