-- A load of a counter is a step from a place to the next one.
use Rattle.std.proofs.Common.{◌≡◌, ◌≢◌, ℕ, ◌+◌, ◌<◌, ◌≤◌, refl, sym, ap, ◌∙◌, arith}
use Rattle.sseq.specs.declared.index.Index.{Index}
use Rattle.sections.specs.declared.view.Step.{Step as Load}
use Rattle.sections.specs.Glossary.{EngineView, IsSeenByEngine, TakesStep, CountsUnlocks, CountsLocks}
use Rattle.scan.specs.Glossary.{not_current, InUnlocks, InLocks, Moves}
use Rattle.scan.specs.declared.place.Place.TheVariants.{Unlocks, Locks, Passed}
use Rattle.scan.specs.declared.progress.Progress.TheVariants.{Step, Waiting}
use Rattle.scan.proofs.Scans.{next_unlocks, first_locks, scan_unlocks, scan_last_unlocks, still, next_locks, scan_locks, scan_passed, passed, passed_empty, waits, first_unlocks, moves_by_load}

-- the index that is scanned stays the same
pub scanned_next : (e f : EngineView) (l : Load) (i : Index) → i ≡ not_current e.changes → TakesStep l e.changes e f → i ≡ not_current f.changes
scanned_next e f l i is takes = is ∙ ap not_current (sym takes.changes_are)

module _ (e f : EngineView) (p ended found : ℕ) (i : Index) (seen : IsSeenByEngine e) (here : InUnlocks e p ended) (is : i ≡ not_current e.changes) (counts : CountsUnlocks p i found e f) where
  -- there are more
  pub unlocks_move : p + 1 < f.processors → Moves e (Unlocks p ended) f (Unlocks (p + 1) (ended + found)) Step
  unlocks_move more = let there = here.there in let same = counts.step.same.1 in
      moves_by_load e f _ _ _ Step counts.step (refl, there, is) refl refl (omega (arith, there), omega (arith, there, same)) refl (next_unlocks e f p ended found i seen here is counts more)
      (λ n h. cc) (λ _. scan_unlocks e f p ended found i seen here is counts) (λ all_loaded. absurd (omega (arith, all_loaded, there, more, same))) tt

  -- that was the last one
  pub last_unlocks_move : f.processors ≤ p + 1 → Moves e (Unlocks p ended) f (Locks 0 (ended + found) 0) Step
  last_unlocks_move last = let there = here.there in let same = counts.step.same.1 in
      moves_by_load e f _ _ _ Step counts.step (refl, there, is) refl refl (omega (arith, there), omega (arith, there, same)) (omega (arith, last, there, same))
      (first_locks e f p ended found i seen here is counts last) (λ n h. cc) (λ _. scan_last_unlocks e f p ended found i seen here is counts last) (λ all_loaded. absurd (omega (arith, all_loaded, there, same))) tt

module _ (e f : EngineView) (p ended begun found : ℕ) (i : Index) (seen : IsSeenByEngine e) (here : InLocks e p ended begun) (is : i ≡ not_current e.changes) (counts : CountsLocks p i found e f) where
  -- there are more
  pub locks_move : p + 1 < f.processors → Moves e (Locks p ended begun) f (Locks (p + 1) ended (begun + found)) Step
  locks_move more = let there = here.there in let same = counts.step.same.1 in
      moves_by_load e f _ _ _ Step counts.step (omega arith, there, is) refl refl (omega (arith, there), omega (arith, there, same)) (omega (arith, same))
      (next_locks e f p ended begun found i seen here is counts more) (λ n h. cc) (λ _. scan_locks e f p ended begun found i seen here is counts) (λ all_loaded. absurd (omega (arith, all_loaded, more, same))) tt

  -- that was the last one, and the sums are equal
  pub passed_move : f.processors ≤ p + 1 → ended ≡ begun + found → Moves e (Locks p ended begun) f Passed Step
  passed_move last equal = let there = here.there in let same = counts.step.same.1 in
      moves_by_load e f _ _ _ Step counts.step (omega arith, there, is) refl refl (omega (arith, there), omega (arith, same)) (omega (arith, last, there, same))
      (passed e f p ended begun found i seen here is counts last equal) (λ n h. cc) (λ _. scan_passed e f p ended begun found i seen here is counts last) (λ _. passed_empty e f p ended begun found i seen here is counts last equal) tt

  -- that was the last one, and they are not
  pub waits_move : f.processors ≤ p + 1 → 1 ≤ f.processors → ended ≢ begun + found → Moves e (Locks p ended begun) f (Unlocks 0 0) (Waiting i)
  waits_move last some unequal = let there = here.there in let same = counts.step.same.1 in
      let w = waits e f p ended begun found i seen here is counts last unequal in
      moves_by_load e f _ _ _ (Waiting i) counts.step (omega arith, there, is) refl refl (omega (arith, there), omega arith) (omega (arith, last, there, same), refl)
      (first_unlocks f (still e f p ended begun found i seen here is counts) some) (λ n h. cc) (λ so_far. absurd (omega (arith, so_far))) w.0 w.1
