-- Waits of several threads at once.
use Rattle.std.specs.Prelude.{ℕ}
use Rattle.srcubench.specs.Calling.{OnEachOfNew}
use Rattle.srcubench.specs.Driving.{WaitsAll}

-- each processor of a new domain of so many waited so many times, one time behind the other
abbrev pub HaveWaitedAtOnce : ℕ → ℕ → Type 0
HaveWaitedAtOnce threads times = OnEachOfNew {J = Unit {0}} threads (λ d. WaitsAll times)
