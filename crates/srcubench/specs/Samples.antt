-- What is made of measured times.
use Rattle.std.specs.Prelude.{◌≡◌, ℕ, ◌-◌, ◌*◌, ◌/◌, ◌^◌, List, All, length, map, min}
use Rattle.std.specs.Duration.{as_nanos}
use Rattle.srcubench.specs.declared.work.Timed.{Timed}

-- what one of so many took, in hundredths of a nanosecond; the greatest number that is kept stands for all that are greater
abbrev pub cost_of_one : ℕ → ℕ → ℕ
cost_of_one nanos count = min (nanos * 100 / count) (2 ^ 64 - 1)

-- the samples of so many runs: of each of them it is known how often it did what is measured, and its sample is what one of these took
pub record AreOfRuns (is_done : ℕ → Type 0) (repetitions : ℕ) (samples : List ℕ) : Type 0 where
  pub runs : List Timed
  pub count : length runs ≡ repetitions
  pub each : All (λ t. is_done t.done) runs
  pub costs : samples ≡ map (λ t. cost_of_one (as_nanos t.elapsed) t.done) runs
