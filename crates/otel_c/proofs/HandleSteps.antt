-- The machine value of a handle, and its ownership. Assumes `Logic`.
use Rattle.std.proofs.Common.{◌≡◌, ℕ, List, [], ◌∷◌, ◌++◌, refl, subst}
use seplogic.Ra.Ura.{Ura}
use mir.Syntax.{impl, tnil, dnil}
use mir.Raw.{raw as bare}
use mir.Val.{Val, vstruct, vcons, vnil, of_list}
use base.Logic.{ent, guard, never, via, fst∗, snd∗, guard_i}
use types.Logic.{Logic, sem}
use types.Kit.{Item, Goal, Seq, Step, step, ‵, given, ◌$◌, drop, fsplit, fjoin, fpick, fpack, feq_i, feq_l, use1, learn}
use contract.Monad.{fact_use}
use denote.RattleType.{RattleType, Valss}
use denote.Signature.{Slot, plain}
use denote.Builtin.{RawPtr}
use denote.Memory.{lone}
use denote.RawPtr.{Ptr, block_ptr, null_ptr, ptr_val, in_a_block, Testable}
use denote.Steps.{nothing}
use denote.Struct.Struct.{within}
use denote.Struct.Owning.{shape}
use Rattle.core.specs.Ptr.{points_to}
use Rattle.core.specs.declared.option.Option.{Option}
use Rattle.core.specs.declared.option.Option.TheVariants.{None, Some}
use Rattle.std_alloc.proofs.BoxSteps.Form.{Bx}
use Rattle.std_alloc.specs.Box.Ownership.{box_owns}
use Rattle.std_heap.specs.declared.Global.{Global}
use Rattle.std_heap.specs.contracts.Global as Heap
use Rattle.std_heap.specs.contracts.GlobalAllocator.TheImpl.{ghosts, dict}
use Rattle.std_heap.proofs.Global.TheLaws as heap
use Rattle.std_heap.proofs.GlobalToken.{dealloc_token-Testable}
use Rattle.otel_c.specs.Handle.{freeable, handle_owns}
use Rattle.otel_c.specs.contracts.object.Object as object
use Rattle.otel_c.proofs.object.Object.TheLaws as laws
use Rattle.otel_c.specs.contracts.handle.Handle as handle
use Rattle.otel_c.specs.contracts.handle.Parts as parts

abbrev pub E : Bx
E = record { row = object.the_row; laws = laws.the_row_laws; al = record { row = Heap.the_row; laws = heap.the_row_laws; g = ghosts; d = dict; drops = impl [] tnil dnil } }

abbrev pub OfParts : RattleType
OfParts = parts.the_row object.the_row Heap.the_row ghosts

abbrev pub FromParts : Slot 0
FromParts = plain (λ _. OfParts)

abbrev pub FromHandle : Slot 0
FromHandle = plain (λ _. handle.the_row)

abbrev pub FromHeap : Slot 0
FromHeap = plain (λ _. Heap.the_row)

abbrev pub handle_val : Ptr → Val
handle_val p = vstruct (vcons (ptr_val p) vnil)

module _ {M : Type 1} {𝓤 : Ura M} (𝓛 : Logic 𝓤) where
  tested : (a : Global) (p : Ptr) (x : (object.the_row).Denot) → ent 𝓤 (sem 𝓛 (box_owns freeable object.the_row p x)) (guard 𝓤 (Testable p) (sem 𝓛 (box_owns freeable object.the_row p x)))
  tested a p x = let τ = bare (lone (object.the_row).mir) in fact_use 𝓤 (Testable p)
      (via 𝓤 _ (snd∗ 𝓤 (sem 𝓛 (points_to object.the_row p x)) (sem 𝓛 (freeable τ p))) (dealloc_token-Testable 𝓛 a τ p)) (guard_i 𝓤 (Testable p) (sem 𝓛 (box_owns freeable object.the_row p x)))

module _ {M : Type 1} {𝓤 : Ura M} {𝓛 : Logic 𝓤} {K : Type 0} {Γ : List (Item 𝓤)} {G : Goal 𝓤 𝓛.H} where
  pub handle_out : K → (d : (handle.the_row).Denot) (vs : List Val)
      → (vs ≡ handle_val d.at ∷ [] → Seq K 𝓛 (‵ (handle_owns d.object d.at) ∷ Γ) G)
      → Seq K 𝓛 (‵ ((handle.the_row).own_val d vs) ∷ Γ) G
  handle_out t d vs k = fsplit t $ fpick t (λ vss. fsplit t $ feq_l t (λ ev. fsplit t $ feq_l t (λ ep. drop t $
      k (subst (λ (ps : List Val). vs ≡ vstruct (of_list (ps ++ [])) ∷ []) ep ev))))

  pub handle_in : K → (p : Ptr) (x : Option (object.the_row).Denot)
      → Step K 𝓛 (‵ ((handle.the_row).own_val (record { at = p; object = x }) (handle_val p ∷ [])) ∷ Γ) G (‵ (handle_owns x p) ∷ Γ) G
  handle_in t p x = step (λ s. let v : Val = handle_val p in
      nothing t $ feq_i t (List Val) (ptr_val p ∷ []) (ptr_val p ∷ []) refl $ fjoin t $ feq_i t (List Val) (v ∷ []) (v ∷ []) refl $ fjoin t $
      fpack t (Valss (RawPtr ∷ [])) (within (shape handle.the_type) (p, tt) (v ∷ [])) (ptr_val p ∷ [], tt) $ fjoin t $ s)

  -- by the object: none, and the pointer is null; or one in a block, and the pointer may be compared with null
  pub either_owned : K → (a : Global) (x : Option (object.the_row).Denot) (p : Ptr)
      → (p ≡ null_ptr → x ≡ None → Seq K 𝓛 Γ G)
      → ((b o : ℕ) (y : (object.the_row).Denot) → p ≡ block_ptr b o → x ≡ Some y → Testable p → Seq K 𝓛 (‵ (box_owns freeable object.the_row (block_ptr b o) y) ∷ Γ) G)
      → Seq K 𝓛 (‵ (handle_owns x p) ∷ Γ) G
  either_owned t a None p k l = feq_l t (λ e. k e refl)
  either_owned t a (Some y) p k l = use1 𝓛 (given (Testable p) (‵ (box_owns freeable object.the_row p y))) (tested 𝓛 a p y) $ learn t (λ ok.
      in_a_block t p (λ q. box_owns freeable object.the_row q y) (fst∗ 𝓤 (never 𝓤) (sem 𝓛 (freeable (bare (lone (object.the_row).mir)) null_ptr))) (λ b o e. l b o y e refl ok))
