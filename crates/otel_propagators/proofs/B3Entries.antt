-- The entries of a context that keep the debug flag and the deferred span of B3.
use Rattle.std.proofs.Common.{◌≡◌, ◌≢◌, ℕ, Bool, true, false, true≢false, List, refl, ap, ◌∙◌, Option, Some, None, if◌then◌else◌}
use Rattle.std.specs.Prelude.{◌||◌}
use Rattle.std.specs.Cmp.Lexicographic.{nat_list_eq_equiv}
use Rattle.std.specs.FinMap.{get-insert}
use Rattle.std.specs.Str.{bytes_eq}
use Rattle.std.proofs.lemmas.Bool.Decides.{not_from_Decides}
use Rattle.std.proofs.lemmas.Cmp.{nat_list_cmp_total}
use Rattle.std.proofs.lemmas.Map.Text.{is_eq-slice_cmp}
use Rattle.std.proofs.lemmas.Slice.Eq.{bytes_eq-Decides}
use Rattle.otel_base.specs.AnyValue.{Tree, integer, text, boolean, bytes, list, map}
use Rattle.otel_base.proofs.shared.Bytes.{differs}
use Rattle.otel_context.specs.Context.{ContextRecord, get, with_value}
use Rattle.otel_propagators.specs.B3.{B3Span, span_with, debug_key, deferred_key, is_debug, is_deferred_state, is_string, is_this_string, is_true, single_text, with_debug, with_deferred}
use Rattle.otel_propagators.specs.declared.b3.sampling.Sampling.TheVariants.{Deferred}

insert_same : (context : ContextRecord) (key : List ℕ) (v : Tree) → get (with_value context key v) key ≡ Some v
insert_same context key v =
    get-insert nat_list_cmp_total context.entries key v key
    ∙ ap (λ (b : Bool). if b then Some v else get context key) (is_eq-slice_cmp key key ∙ nat_list_eq_equiv.refl key)

insert_other : (context : ContextRecord) (key : List ℕ) (v : Tree) (k : List ℕ) → k ≢ key → get (with_value context key v) k ≡ get context k
insert_other context key v k n =
    get-insert nat_list_cmp_total context.entries key v k
    ∙ ap (λ (b : Bool). if b then Some v else get context k) (is_eq-slice_cmp k key ∙ differs k key n)

keys_differ : debug_key ≢ deferred_key
keys_differ = not_from_Decides (bytes_eq debug_key deferred_key) (bytes_eq-Decides debug_key deferred_key) refl

-- ---- the debug flag

pub debug_is : (d : Bool) (context : ContextRecord) → is_debug (with_debug d context) ≡ d
debug_is true context = ap is_true (insert_same context debug_key (boolean true))
debug_is false context =
    elim (is_debug context) as (λ b. is_debug context ≡ b → is_debug (if b then with_value context debug_key (boolean false) else context) ≡ false) [
      | true ↦ λ _. ap is_true (insert_same context debug_key (boolean false))
      | false ↦ λ is. is
    ] refl

debug_entries : (d : Bool) (context : ContextRecord) (k : List ℕ) → k ≢ debug_key → get (with_debug d context) k ≡ get context k
debug_entries d context k n =
    elim (d || is_debug context) as (λ b. get (if b then with_value context debug_key (boolean d) else context) k ≡ get context k) [
      | true ↦ insert_other context debug_key (boolean d) k n
      | false ↦ refl
    ]

debug_alone : (d : Bool) (context : ContextRecord) → with_debug d context ≡ record context { entries = (with_debug d context).entries }
debug_alone d context =
    elim (d || is_debug context) as (λ b. let c = if b then with_value context debug_key (boolean d) else context in c ≡ record context { entries = c.entries }) [
      | true ↦ refl
      | false ↦ refl
    ]

-- ---- the deferred span

-- the context that keeps no span
abbrev without : ContextRecord → ContextRecord
without context = if is_string (get context deferred_key) then with_value context deferred_key (boolean false) else context

abbrev kept_by : Bool → B3Span → ContextRecord → ContextRecord
kept_by b p context = if b then with_value context deferred_key (text (single_text p)) else without context

deferred_entries : (p : B3Span) (context : ContextRecord) (k : List ℕ) → k ≢ deferred_key → get (with_deferred p context) k ≡ get context k
deferred_entries p context k n =
    elim (is_deferred_state p.sampling) as (λ b. get (kept_by b p context) k ≡ get context k) [
      | true ↦ insert_other context deferred_key (text (single_text p)) k n
      | false ↦
          elim (is_string (get context deferred_key)) as (λ b. get (if b then with_value context deferred_key (boolean false) else context) k ≡ get context k) [
            | true ↦ insert_other context deferred_key (boolean false) k n
            | false ↦ refl
          ]
    ]

deferred_alone : (p : B3Span) (context : ContextRecord) → with_deferred p context ≡ record context { entries = (with_deferred p context).entries }
deferred_alone p context =
    elim (is_deferred_state p.sampling) as (λ b. let c = kept_by b p context in c ≡ record context { entries = c.entries }) [
      | true ↦ refl
      | false ↦
          elim (is_string (get context deferred_key)) as (λ b. let c = if b then with_value context deferred_key (boolean false) else context in c ≡ record context { entries = c.entries }) [
            | true ↦ refl
            | false ↦ refl
          ]
    ]

-- a deferred span is kept
pub is_kept : (t i : ℕ) (context : ContextRecord)
    → let p = span_with t i Deferred in is_this_string (single_text p) (get (with_deferred p context) deferred_key) ≡ true
is_kept t i context =
    let x = single_text (span_with t i Deferred) in
    ap (is_this_string x) (insert_same context deferred_key (text x)) ∙ nat_list_eq_equiv.refl x

not_string : (x : List ℕ) (o : Option Tree) → is_string o ≡ false → is_this_string x o ≡ false
not_string x None h = refl
not_string x (Some (integer n)) h = refl
not_string x (Some (text t)) h = absurd (true≢false h)
not_string x (Some (boolean b)) h = refl
not_string x (Some (bytes bs)) h = refl
not_string x (Some (list ts)) h = refl
not_string x (Some (map es)) h = refl

-- another is not
pub none_kept : (x : List ℕ) (context : ContextRecord) → is_this_string x (get (without context) deferred_key) ≡ false
none_kept x context =
    not_string x (get (without context) deferred_key)
    (elim (is_string (get context deferred_key)) as (λ b. is_string (get context deferred_key) ≡ b → is_string (get (if b then with_value context deferred_key (boolean false) else context) deferred_key) ≡ false) [
      | true ↦ λ _. ap is_string (insert_same context deferred_key (boolean false))
      | false ↦ λ is. is
    ] refl)

-- ---- both

-- the context that keeps both for a span
abbrev pub both_kept : Bool → B3Span → ContextRecord → ContextRecord
both_kept d p context = with_deferred p (with_debug d context)

pub both_debug : (d : Bool) (p : B3Span) (context : ContextRecord) → is_debug (both_kept d p context) ≡ d
both_debug d p context = ap is_true (deferred_entries p (with_debug d context) debug_key keys_differ) ∙ debug_is d context

pub both_entries : (d : Bool) (p : B3Span) (context : ContextRecord) (k : List ℕ) → k ≢ debug_key → k ≢ deferred_key → get (both_kept d p context) k ≡ get context k
both_entries d p context k n m = deferred_entries p (with_debug d context) k m ∙ debug_entries d context k n

pub both_alone : (d : Bool) (p : B3Span) (context : ContextRecord) → both_kept d p context ≡ record context { entries = (both_kept d p context).entries }
both_alone d p context =
    deferred_alone p (with_debug d context)
    ∙ ap (λ (c : ContextRecord). record c { entries = (both_kept d p context).entries }) (debug_alone d context)
