-- Loads of the counters of a domain, one behind the other.
use Rattle.std.specs.Prelude.{◌≡◌, ℕ, zero, suc, ◌^◌, ◌≤◌, List, length, sum, slice_index}
use Rattle.sseq.specs.declared.index.Index.{Index}
use Rattle.onedom.specs.declared.event.Event.{Event}
use Rattle.onedom.specs.Histories.{IsBeginning}
use Rattle.sections.specs.Words.{locks, unlocks, sum_below}
use Rattle.sections.specs.Shelves.{IsStart}
use Rattle.sections.specs.Views as sections
use Rattle.sections.specs.Calls.{FindsLocks, FindsUnlocks, IsSeenBy, IsSameCpu}
use Rattle.domain.specs.declared.domain.loads.Counter.{Counter}
use Rattle.domain.specs.declared.domain.loads.Counter.TheVariants as counter

-- nothing was done but loads. What is then seen goes on from what was seen before
pub record LoadsCounters (c d : sections.CpuView) : Type 0 where
  pub same : IsSameCpu c d
  pub mine : d.mine ≡ c.mine
  pub since : IsBeginning c.seen d.seen
  pub later : c.changes ≤ d.changes
  pub texts : IsStart c.texts d.texts
  pub history : IsSeenBy d

-- so much was found: no less than was counted in the first history, and no more than in the second
pub record IsBetween (count : List Event → ℕ) (found : ℕ) (seen seen' : List Event) : Type 0 where
  pub no_less : count seen ≤ found
  pub no_more : found ≤ count seen'

-- One kind of counter

-- how much was counted of a processor, with this index
abbrev pub count_of : Counter → Index → ℕ → List Event → ℕ
count_of counter.Unlocks i q h = unlocks q i h
count_of counter.Locks i p h = locks p i h

-- one load found so much of it, as it was in what is then seen
abbrev pub FindsCount : Counter → ℕ → Index → ℕ → sections.CpuView → sections.CpuView → Type 0
FindsCount counter.Unlocks q i found c d = FindsUnlocks q i found c d
FindsCount counter.Locks p i found c d = FindsLocks p i found c d

-- the counters of the first so many processors were loaded, one behind the other, and found so. Nothing else was done
abbrev pub LoadsRow : Counter → Index → List ℕ → ℕ → sections.CpuView → sections.CpuView → Type 0
LoadsRow w i found zero c d = d ≡ c
LoadsRow w i found (suc p) c d = (before : sections.CpuView) × LoadsRow w i found p c before × FindsCount w p i (slice_index found p) before d

-- the counter of each processor was loaded, and this is the sum of what was found
pub record LoadsEach (w : Counter) (i : Index) (found : List ℕ) (total : ℕ) (c d : sections.CpuView) : Type 0 where
  pub row : LoadsRow w i found c.processors c d
  pub loads : LoadsCounters c d
  pub one_each : length found ≡ c.processors
  pub total_is : total ≡ sum found
  pub between : IsBetween (λ h. sum_below (λ p. count_of w i p h) c.processors) total c.seen d.seen
  pub small : total ≤ 2 ^ 60

-- An index

-- all unlock counters of the index were loaded, and then all of its lock counters
pub record LoadsSums (i : Index) (unlocked : List ℕ) (ended : ℕ) (locked : List ℕ) (begun : ℕ) (c d : sections.CpuView) : Type 0 where
  pub middle : sections.CpuView
  pub unlocks : LoadsEach counter.Unlocks i unlocked ended c middle
  pub locks : LoadsEach counter.Locks i locked begun middle d

-- and whatever was found, these are the sums
pub record AddsIndex (i : Index) (c d : sections.CpuView) : Type 0 where
  pub unlocked : List ℕ
  pub ended : ℕ
  pub locked : List ℕ
  pub begun : ℕ
  pub sums : LoadsSums i unlocked ended locked begun c d
