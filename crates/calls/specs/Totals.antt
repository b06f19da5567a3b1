-- How many calls were queued on all processors together, and how many of these are finished.
use Rattle.std.specs.Prelude.{◌≡◌, ℕ, zero, suc, ◌+◌, ◌<◌, ◌≤◌, List, length, sum, slice_index}
use Rattle.calls.specs.declared.view.Deed.{Deed}
use Rattle.calls.specs.Tallies.{most_calls, queued_in, finished_in, AreTakers}
use Rattle.calls.specs.Views.{CallSeatView}
use Rattle.calls.specs.Barriers.{IsCountBetween, Loads, queued_loads, finished_loads}

module _ {J : Type 0} where
  -- the queued words of all processors were loaded, once each and in order. Each number that was found is the queued count at a moment of these loads, none is more than may be queued, and this is their sum
  pub record SumsQueued (s : CallSeatView J) (total : ℕ) (t : CallSeatView J) : Type 0 where
    pub found : List ℕ
    pub one_each : length found ≡ s.processors
    pub loads : Loads (queued_loads 0 found) s t
    pub each : (p : ℕ) → p < s.processors → IsCountBetween (queued_in p) (slice_index found p) s.seen t.seen
    pub few : (p : ℕ) → p < s.processors → slice_index found p ≤ most_calls
    pub total_is : total ≡ sum found

  -- the same of the finished words. Of each processor no more were found than it has queued, and all batches were finished by processors that are there
  pub record SumsFinished (s : CallSeatView J) (total : ℕ) (t : CallSeatView J) : Type 0 where
    pub found : List ℕ
    pub one_each : length found ≡ s.processors
    pub loads : Loads (finished_loads 0 found) s t
    pub each : (p : ℕ) → p < s.processors → IsCountBetween (finished_in p) (slice_index found p) s.seen t.seen
    pub within : (p : ℕ) → p < s.processors → slice_index found p ≤ queued_in p t.seen
    pub takers : AreTakers s.processors t.seen
    pub total_is : total ≡ sum found

  -- first the queued words, and then the finished ones
  pub record AddsUp (s : CallSeatView J) (all done : ℕ) (t : CallSeatView J) : Type 0 where
    pub between : CallSeatView J
    pub queued : SumsQueued s all between
    pub finished : SumsFinished between done t

-- the counts of so many processors, from p on, together
abbrev pub added : (ℕ → ℕ) → ℕ → ℕ → ℕ
added count p zero = 0
added count p (suc n) = count p + added count (p + 1) n

module _ {J : Type 0} where
  -- how many calls so many processors have queued together, and how many of them are finished
  abbrev pub all_queued : ℕ → List (Deed J) → ℕ
  all_queued processors seen = added (λ p. queued_in p seen) 0 processors

  abbrev pub all_finished : ℕ → List (Deed J) → ℕ
  all_finished processors seen = added (λ p. finished_in p seen) 0 processors

  -- the two sums are those of what is then seen
  pub record AreTotals (s : CallSeatView J) (all done : ℕ) (t : CallSeatView J) : Type 0 where
    pub queued : all ≡ all_queued s.processors t.seen
    pub finished : done ≡ all_finished s.processors t.seen
