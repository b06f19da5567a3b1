-- The sorted samples are what the spread is of.
use Rattle.std.proofs.Common.{ℕ, ◌-◌, ◌/◌, ◌<◌, List, length, arith}
use Rattle.std.proofs.lemmas.Option.{slice_get-get_or}
use Rattle.std.proofs.lemmas.List.Sorted.{IsNonDecreasingBy-from_sort}
use Rattle.srcubench.proofs.spread.Spread.of.Goals as goal

pub returns : goal.returns
returns c =
    let sort = c.in_ok-sort.ensures in
    let is = c.as_slice-sorted.ensures.value in
    let all = c.as_slice-sorted.ensures.len in
    let len = sort.len in
    let given = c.requires in
    let some : 0 < length c.as_slice-sorted.result.now = omega (arith, all, len, given) in
    let sorted : List ℕ = c.as_slice-sorted.result.now in
    record {
      sorted = c.as_slice-sorted.result.now;
      same = rw is sort.permutation;
      order = rw is (IsNonDecreasingBy-from_sort (λ x. x) _ sort.sorted);
      median = slice_get-get_or sorted (length sorted / 2) 0 (omega (arith, some));
      least = slice_get-get_or sorted 0 0 some;
      most = slice_get-get_or sorted (length sorted - 1) 0 (omega (arith, some));
    }
