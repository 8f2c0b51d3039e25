use Rattle.std.proofs.Common.{◌≡◌, ◌++◌, ◌∙◌, ap, length, min, rules, take, drop}
use Rattle.std.proofs.lemmas.List.{take-append-drop, length-take}
use Rattle.std.proofs.lemmas.List.Sorted.{IsNonDecreasingBy-from_sort_by_key, length_permutation}
use Rattle.std.specs.List.Sorted.{IsNonDecreasingBy}
use Rattle.otel_view.specs.Summary as spec
use Rattle.otel_view.proofs.summary.keep_newest.Goals as goal

pub returns : goal.returns
returns c =
    let sorted = c.in_ok-sort_by_key.ensures.sorted in
    let xs = c.sort_by_key.new.self.items in
    let n = c.args.limit in
    let cut : take n xs ++ drop n xs ≡ xs = take-append-drop n xs in
    let kept : c.truncate.new.self.items ≡ take n xs = search rules in
    let rising : IsNonDecreasingBy spec.age xs =
    IsNonDecreasingBy-from_sort_by_key spec.age _ sorted (λ a r q k. search rules) in
    let same_length : length xs ≡ length c.args.records.now.items =
    length_permutation _ xs c.in_ok-sort_by_key.ensures.permutation in
    record {
      others = drop n xs;
      same = rw (kept, cut) c.in_ok-sort_by_key.ensures.permutation;
      newest_first = rw (kept, cut) rising;
      as_many = rw kept (length-take n xs ∙ ap (min n) same_length);
    }
