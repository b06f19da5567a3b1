-- Jobs that one processor gives out while others queue them.
use Rattle.std.specs.Prelude.{◌≡◌, ℕ, zero, suc, ◌+◌, ◌*◌, List, [], ◌∷◌, Option, Some, None}
use Rattle.sections.specs.WriterViews.{WriterView}
use Rattle.domain.specs.Views.{DomainView, CpuView}
use Rattle.srcubench.specs.Driving.{TurnsOnce}
use Rattle.srcubench.specs.Calling.{QueuesAll, RunsReady, jobs_of}
use Rattle.srcubench.specs.Founding.{IsNew, EachBecomes}

abbrev pub jobs_in : Option ℕ → ℕ
jobs_in None = 0
jobs_in (Some many) = many

-- of each of the first so many processors, one behind the other, a batch of what was ready was run: so many jobs together
abbrev pub RunsEach : DomainView → ℕ → ℕ → CpuView ℕ → CpuView ℕ → Type 0
RunsEach d zero many c c' = (many ≡ 0) × (c' ≡ c)
RunsEach d (suc p) many c c' = (between : CpuView ℕ) × (before : ℕ) × (more : Option ℕ) × RunsEach d p before c between × RunsReady d p more between c' × (many ≡ before + jobs_in more)

-- the engine had a turn, and then that was done
pub record GivesRound (d : DomainView) (queuers many : ℕ) (c c' : CpuView ℕ) : Type 0 where
  pub turned : CpuView ℕ
  pub turns : TurnsOnce c turned
  pub runs : RunsEach d queuers many turned c'

-- rounds with so many jobs each, the last one's number first
abbrev pub GivesRounds : DomainView → ℕ → List ℕ → CpuView ℕ → CpuView ℕ → Type 0
GivesRounds d queuers [] c c' = c' ≡ c
GivesRounds d queuers (many ∷ others) c c' = (between : CpuView ℕ) × GivesRounds d queuers others c between × GivesRound d queuers many between c'

-- so many jobs of the processors before this one came out
pub record GivesAll (d : DomainView) (jobs : ℕ) (c c' : CpuView ℕ) : Type 0 where
  pub rounds : List ℕ
  pub gives : GivesRounds d c.cpu.processor rounds c c'
  pub came : jobs_of rounds ≡ jobs

-- each of these processors queued so many jobs, and one more gave out so many
pub record AreGiven (d : DomainView) (jobs : ℕ) (queuers : List (CpuView ℕ)) (total : ℕ) (giver : CpuView ℕ) : Type 0 where
  pub queues : EachBecomes (QueuesAll d jobs) queuers
  pub last : CpuView ℕ
  pub gives : GivesAll d total giver last

-- each of so many processors of a new domain queued so many jobs, and one processor more gave out as many as all of them
pub record HaveGiven (threads jobs : ℕ) : Type 0 where
  pub domain : DomainView
  pub queuers : List (CpuView ℕ)
  pub giver : CpuView ℕ
  pub writer : WriterView
  pub new : IsNew threads domain queuers giver writer
  pub given : AreGiven domain jobs queuers (threads * jobs) giver
