-- What a driver counts.
use Rattle.std.specs.Prelude.{◌≡◌, ℕ, ◌<◌, ◌^◌, Bool, true, false, Result, Ok, Err}
use Rattle.scan.specs.declared.progress.Progress.{Progress}
use Rattle.scan.specs.declared.progress.Progress.TheVariants as progress
use Rattle.scan.specs.declared.refusals.AdvanceRefusal.{AdvanceRefusal}

-- how many grace periods ended by an answer of the engine
abbrev pub ended_by : Progress → ℕ
ended_by progress.Idle = 0
ended_by (progress.Started n) = 0
ended_by (progress.Flipped i) = 0
ended_by (progress.Ended n) = 1
ended_by (progress.Waiting i) = 0
ended_by progress.Step = 0

abbrev pub periods_in : Result Progress AdvanceRefusal → ℕ
periods_in (Ok a) = ended_by a
periods_in (Err r) = 0

-- whether an answer of the engine says that it rests, or waits for a section
abbrev pub rests_by : Progress → Bool
rests_by progress.Idle = true
rests_by (progress.Started n) = false
rests_by (progress.Flipped i) = false
rests_by (progress.Ended n) = false
rests_by (progress.Waiting i) = true
rests_by progress.Step = false

-- the same, or that it can't go on here
abbrev pub rests : Result Progress AdvanceRefusal → Bool
rests (Ok a) = rests_by a
rests (Err r) = true

-- as many as that, where so many can be told: 2^64 - 1 stands for more
abbrev pub IsCount : ℕ → ℕ → Type 0
IsCount told n = n < 2 ^ 64 → told ≡ n
