-- What a domain answers, and what is told of it in one hand.
use Rattle.std.specs.Prelude.{◌≡◌, ℕ, Result, Ok, Err, IsErr}
use Rattle.calls.specs.declared.refusals.CallRefusal.{CallRefusal}
use Rattle.calls.specs.Views.{ReceiptView}
use Rattle.scan.specs.declared.progress.Progress.{Progress}
use Rattle.scan.specs.declared.progress.PeriodsExhausted.{PeriodsExhausted}
use Rattle.scan.specs.declared.progress.NotStarted.{NotStarted}
use Rattle.scan.specs.declared.progress.NotStarted.TheVariants as scan
use Rattle.scan.specs.declared.refusals.AdvanceRefusal.{AdvanceRefusal}
use Rattle.scan.specs.declared.refusals.AdvanceRefusal.TheVariants as advance
use Rattle.scan.specs.declared.refusals.StartRefusal as domain
use Rattle.scan.specs.declared.refusals.StartRefusal.TheVariants as start
use Rattle.solo.specs.declared.queued.Queued.{Queued}

-- nobody else has the engine, so nobody is told so
abbrev pub IsNotBusy : Result Progress AdvanceRefusal → Type 0
IsNotBusy (Err advance.Busy) = ⊥
IsNotBusy answer = Unit {0}

abbrev pub NoneIsBusy : Result ℕ domain.StartRefusal → Type 0
NoneIsBusy (Err start.Busy) = ⊥
NoneIsBusy answer = Unit {0}

-- the same answer, or the same refusal
abbrev pub IsToldAs : Result Progress AdvanceRefusal → Result Progress PeriodsExhausted → Type 0
IsToldAs (Ok a) told = told ≡ Ok a
IsToldAs (Err advance.Busy) told = ⊥
IsToldAs (Err advance.Exhausted) told = IsErr told

abbrev pub IsStartedAs : Result ℕ domain.StartRefusal → Result ℕ NotStarted → Type 0
IsStartedAs (Ok n) told = told ≡ Ok n
IsStartedAs (Err start.Busy) told = ⊥
IsStartedAs (Err start.Running) told = told ≡ Err scan.Running
IsStartedAs (Err start.Exhausted) told = told ≡ Err scan.Exhausted

module _ {J : Type 0} where
  -- the job's number and that of its cookie; or the job comes back, and why it was refused
  abbrev pub IsQueuedAs : Result (ReceiptView J) (J × CallRefusal) → Result Queued (J × CallRefusal) → Type 0
  IsQueuedAs (Ok r) told = told ≡ Ok (record { k = r.k; cookie = r.cookie.number })
  IsQueuedAs (Err refused) told = told ≡ Err refused
