-- The batches of a domain that are out.
use Rattle.std.specs.Prelude.{◌≡◌, ℕ, ◌<◌, List, [], All, Option, Some, option_map, IfSome, length, map, slice_get, slice_index}
use Rattle.std.specs.Option.{option_map_or}
use Rattle.calls.specs.Views.{BatchView}
use Rattle.solo.specs.Calls.{SoloView, IsBatchOf, AreOut}
use Rattle.session.specs.States.{JobList}

-- a batch of jobs with names
abbrev pub Batch : Type 0
Batch = BatchView (List ℕ)

-- how many jobs are out with it, if it is there
abbrev pub out_of : Option Batch → Option ℕ
out_of kept = option_map (λ b. b.count) kept

-- how many are out of each list
abbrev pub outs_of : List JobList → List (Option ℕ)
outs_of lines = map (λ l. l.out) lines

-- how many jobs these are
abbrev pub count_in : Option Batch → ℕ
count_in kept = option_map_or (λ b. b.count) kept 0

-- how many of the processor are out
abbrev pub count_out : List (Option Batch) → ℕ → ℕ
count_out kept p = slice_index (map count_in kept) p

-- the batch is of this domain. It had jobs, and none is left in it
pub record IsEmptied (d : SoloView (List ℕ)) (b : Batch) : Type 0 where
  pub of_domain : IsBatchOf d b.processor b
  pub some : 0 < b.count
  pub empty : b.entries ≡ []

-- for each processor of the domain the batch that is out of its list, if one is. Each is of this domain and of its processor, and empty; and so many jobs of each processor are queued, and not finished
pub record AreBatchesOf (d : SoloView (List ℕ)) (kept : List (Option Batch)) : Type 0 where
  pub count : length kept ≡ d.course.standing.processors
  pub emptied : All (λ o. IfSome o (IsEmptied d)) kept
  pub here : (p : ℕ) (o : Option Batch) → slice_get kept p ≡ Some o → IfSome o (λ b. b.processor ≡ p)
  pub outs : map out_of kept ≡ outs_of d.lines
  pub unfinished : (p : ℕ) → AreOut p (count_out kept p) d.course
