-- What was done on the tally words of a domain, and what the words then hold.
-- Processor p has word 16 p + 8 as its queued word and word 16 p + 16 as its finished word, so that any two of them are 64 bytes apart. Word 0, which every split and join of seats loads, is nobody's, and nobody writes it.
use Rattle.std.specs.Prelude.{◌≡◌, ℕ, ◌+◌, ◌*◌, ◌<◌, ◌≤◌, ◌==◌, Bool, true, false, List, [], ◌∷◌, ◌++◌, Some, None, length, filter, if◌then◌else◌}
-- a beginning of what was done
pub use Rattle.annals.specs.Logs.{IsBeginning}
use Rattle.calls.specs.declared.view.Act.{Act}
use Rattle.calls.specs.declared.view.Act.TheVariants.{Queue, Take, Finish, LackRoom, LoadQueued, LoadFinished}
use Rattle.calls.specs.declared.view.Deed.{Deed}
use Rattle.calls.specs.Lines.{count_out, line_in}

abbrev pub queued_place : ℕ → ℕ
queued_place p = 16 * p + 8

abbrev pub finished_place : ℕ → ℕ
finished_place p = 16 * p + 16

abbrev pub word_count : ℕ → ℕ
word_count processors = 16 * processors + 8

-- the most calls that a processor ever queues, 2 ^ 54
abbrev pub most_calls : ℕ
most_calls = 18014398509481984

module _ {J : Type 0} where
  abbrev pub deed : ℕ → Act J → Deed J
  deed by act = record { by = by; act = act }

  -- Counts

  abbrev pub is_queue : Act J → Bool
  is_queue (Queue e) = true
  is_queue (Take p n max moved) = false
  is_queue (Finish p n) = false
  is_queue (LackRoom p moved) = false
  is_queue (LoadQueued p n) = false
  is_queue (LoadFinished p n) = false

  -- what the deed adds to the queued word of a processor
  abbrev pub queued_by : ℕ → Deed J → ℕ
  queued_by p d = if is_queue d.act then (if d.by == p then 1 else 0) else 0

  -- how many calls a processor has queued
  abbrev pub queued_in : ℕ → List (Deed J) → ℕ
  queued_in p [] = 0
  queued_in p (d ∷ ds) = queued_by p d + queued_in p ds

  -- what the act adds to the finished word of a processor
  abbrev pub finished_by : ℕ → Act J → ℕ
  finished_by p (Queue e) = 0
  finished_by p (Take q n max moved) = 0
  finished_by p (Finish q n) = if q == p then n else 0
  finished_by p (LackRoom q moved) = 0
  finished_by p (LoadQueued q n) = 0
  finished_by p (LoadFinished q n) = 0

  -- how many calls of a processor are finished
  abbrev pub finished_in : ℕ → List (Deed J) → ℕ
  finished_in p [] = 0
  finished_in p (d ∷ ds) = finished_by p d.act + finished_in p ds

  -- how many were given out
  abbrev pub given_out : ℕ → List (Deed J) → ℕ
  given_out p deeds = finished_in p deeds + count_out (line_in p deeds).out

  -- Whose deeds

  abbrev pub deeds_of : ℕ → List (Deed J) → List (Deed J)
  deeds_of p deeds = filter (λ d. d.by == p) deeds

  -- a batch is taken, and finished, by one of so many processors
  abbrev pub IsTaker : ℕ → ℕ → Act J → Type 0
  IsTaker processors by (Queue e) = Unit {0}
  IsTaker processors by (Take p n max moved) = by < processors
  IsTaker processors by (Finish p n) = by < processors
  IsTaker processors by (LackRoom p moved) = Unit {0}
  IsTaker processors by (LoadQueued p n) = Unit {0}
  IsTaker processors by (LoadFinished p n) = Unit {0}

  -- each batch was taken and finished by one of so many processors
  abbrev pub AreTakers : ℕ → List (Deed J) → Type 0
  AreTakers processors [] = Unit {0}
  AreTakers processors (d ∷ ds) = IsTaker processors d.by d.act × AreTakers processors ds

  -- Deeds that could be done

  -- a load found what the word held, something was taken only where no batch was out, and no more was moved before than had come in, and what was finished is the batch that was out. A call had no room only where not all that had come in were moved
  abbrev pub IsTrueOf : List (Deed J) → Act J → Type 0
  IsTrueOf before (Queue e) = Unit {0}
  IsTrueOf before (Take p n max moved) = ((line_in p before).out ≡ None) × (moved ≤ length (line_in p before).coming)
  IsTrueOf before (Finish p n) = (line_in p before).out ≡ Some n
  IsTrueOf before (LackRoom p moved) = moved < length (line_in p before).coming
  IsTrueOf before (LoadQueued p n) = n ≡ queued_in p before
  IsTrueOf before (LoadFinished p n) = n ≡ finished_in p before

  abbrev pub AreTrueAfter : List (Deed J) → List (Deed J) → Type 0
  AreTrueAfter before [] = Unit {0}
  AreTrueAfter before (d ∷ ds) = IsTrueOf before d.act × AreTrueAfter (before ++ d ∷ []) ds

  -- each deed is so, by those before it
  abbrev pub AreTrue : List (Deed J) → Type 0
  AreTrue deeds = AreTrueAfter [] deeds
