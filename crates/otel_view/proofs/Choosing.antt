-- One more trace of a page.
use Rattle.std.proofs.Common.{◌≡◌, ℕ, ◌+◌, ◌<◌, List, [], ◌∷◌, ◌++◌, length, take, get_or, map, sym, ap, ◌∙◌}
use Rattle.std.proofs.lemmas.List.{take_more, map-append}
use Rattle.std.specs.Prelude.{nat_eq}
use Rattle.std.specs.Map.{keys_of}
use Rattle.indexmap.proofs.SetLemmas.{keys_insert_entry, set_all_push}
use Rattle.indexmap.specs.IndexMap.{insert_entry}
use Rattle.indexmap.specs.IndexSet.{insert_all, insert_key}
use Rattle.otel_view.specs.Chosen as spec
use Rattle.otel_view.specs.declared.summary.Summary.{Summary}
use Rattle.otel_waterfall.specs.declared.page.PageTrace.{PageTrace}

pub chosen_more : (records : List Summary) (i : ℕ) (r : Summary) (old new : List (ℕ × PageTrace)) (trace : PageTrace)
    → i < length records
    → r ≡ get_or records i r
    → keys_of old ≡ spec.ids_of (take i records)
    → new ≡ insert_entry nat_eq old r.id trace
    → keys_of new ≡ spec.ids_of (take (i + 1) records)
chosen_more records i r old new trace below is kept grown =
    ap (λ (es : List (ℕ × PageTrace)). keys_of es) grown
    ∙ keys_insert_entry nat_eq old r.id trace
    ∙ ap (λ (ks : List ℕ). insert_key nat_eq ks r.id) kept
    ∙ sym (set_all_push nat_eq [] (map (λ (x : Summary). x.id) (take i records)) r.id)
    ∙ ap (λ (ks : List ℕ). insert_all nat_eq [] ks) (sym (map-append (λ (x : Summary). x.id) (take i records) (r ∷ [])))
    ∙ ap (λ (rs : List Summary). spec.ids_of rs)
    (ap (λ (x : Summary). take i records ++ x ∷ []) is ∙ sym (take_more records i r below))
