-- How four segments of one queue stand for a marked list.
use Rattle.std.specs.Prelude.{◌≡◌, ℕ, ◌+◌, ◌<◌, ◌≤◌, List, ◌++◌, take, drop}
use Rattle.segs.specs.declared.segment.Segment.{Segment}
use Rattle.segs.specs.MarkedList.{Mark, Done, At, Next, marked}

-- the first entries are done, then the two segments wait for their numbers, and the others have none
abbrev pub segmented : {T : Type 0} → List T → ℕ → Segment → Segment → List (T × Mark)
segmented entries done wait next_ready =
    let later = drop done entries in
    let last = drop wait.len later in
    marked Done (take done entries) ++ (marked (At wait.number) (take wait.len later) ++ (marked (At next_ready.number) (take next_ready.len last) ++ marked Next (drop next_ready.len last)))

-- segments of a queue of this length: next-ready has entries only if wait has, and then the greater number; an empty segment has no number
pub record AreSegments (entries done : ℕ) (wait next_ready : Segment) : Type 0 where
  pub within : done + wait.len + next_ready.len ≤ entries
  pub wait_first : wait.len ≡ 0 → next_ready.len ≡ 0
  pub no_wait_number : wait.len ≡ 0 → wait.number ≡ 0
  pub no_next_ready_number : next_ready.len ≡ 0 → next_ready.number ≡ 0
  pub rising : 0 < next_ready.len → wait.number < next_ready.number
