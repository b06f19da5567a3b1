-- The engine in its place: each call that drives it takes it from there by one swap, has it work, ties it, and puts it back by one swap.
use Rattle.std.specs.Prelude.{◌≡◌, ℕ, ◌*◌, ◌≤◌, true, Some, None, IfSome, Result, MatchResult}
use Rattle.sections.specs.Views.{CpuView}
use Rattle.sections.specs.EngineCalls.{IsSameEngine, IsTied, TiesEngine}
use Rattle.desk.specs.BayViews.{BaySeatView}
use Rattle.desk.specs.BayCalls.{holds, MakesSwap, IsLikeFirst, FindsNothing}
use Rattle.scan.specs.declared.progress.Progress.{Progress}
use Rattle.scan.specs.declared.progress.Pace.{Pace}
use Rattle.scan.specs.declared.progress.PeriodsExhausted.{PeriodsExhausted}
use Rattle.scan.specs.declared.progress.NotStarted as engine
use Rattle.scan.specs.declared.progress.NotStarted.TheVariants as refused
use Rattle.scan.specs.declared.refusals.AdvanceRefusal.{AdvanceRefusal}
use Rattle.scan.specs.declared.refusals.AdvanceRefusal.TheVariants as advance
use Rattle.scan.specs.declared.refusals.StartRefusal.{StartRefusal}
use Rattle.scan.specs.declared.refusals.StartRefusal.TheVariants as start
use Rattle.scan.specs.Standings.{IsWithin, number_at_rest}
use Rattle.scan.specs.Progress.{ScanView, at_work, Paces, FindsExhausted, IsNoStart, with_seat}

-- beside one that lay in the place first, another may lie there: of one domain, with as many processors and the same limit of periods, and tied, so some processor has seen all that it made
abbrev pub MayLie : ScanView → ScanView → Type 0
MayLie v w = IsSameEngine v.seat w.seat × IsTied w.seat

-- the engine that lay in the place first is of the same domain, with as many processors and the same limit
abbrev pub IsOfStation : BaySeatView ScanView → ScanView → Type 0
IsOfStation t v = IsLikeFirst (λ x y. IsSameEngine x.seat y.seat) t v

-- a number that an answer tells is at most four times the limit of grace periods that the engine had which lay in the place first
abbrev pub IsWithinLimit : BaySeatView ScanView → Progress → Type 0
IsWithinLimit t answer = IfSome t.first (λ v. IsWithin v.seat.periods answer)

-- Turns

-- one swap found the engine, tied, and the seat has it
pub record Takes (t : BaySeatView ScanView) (found : ScanView) (t' : BaySeatView ScanView) : Type 0 where
  pub swap : MakesSwap t None (Some found) t'
  pub holds_now : holds t' ≡ true
  pub domain : found.seat.domain ≡ t.domain
  pub size : IsOfStation t found
  pub tied : IsTied found.seat

-- one swap found the engine, and the next one of this seat left it there again; that one found nothing
pub record TakesTurn (t : BaySeatView ScanView) (found left : ScanView) (t' : BaySeatView ScanView) : Type 0 where
  pub took : BaySeatView ScanView
  pub takes : MakesSwap t None (Some found) took
  pub puts : MakesSwap took (Some left) None t'

-- one swap found nothing there, as another seat had the engine, and none was made behind it
abbrev pub FindsBusy : BaySeatView ScanView → BaySeatView ScanView → Type 0
FindsBusy t t' = FindsNothing t t'

-- Driving

-- the engine and the processor came to see one history, and one swap left the engine there
pub record GivesBack (t : BaySeatView ScanView) (c : CpuView) (worked : ScanView) (t' : BaySeatView ScanView) (c' : CpuView) : Type 0 where
  pub left : ScanView
  pub ties : TiesEngine worked.seat c left.seat c'
  pub rest : left ≡ with_seat left.seat worked
  pub puts : MakesSwap t (Some left) None t'

-- lent these needs the engine went on at this pace, within its limit, or no period may start; then it and the processor came to see one history
pub record Turns {N : Type 0} (loads : N → ℕ → N → Type 0) (pace : Pace) (v : ScanView) (c : CpuView) (n : N) (r : Result Progress PeriodsExhausted) (left : ScanView) (c' : CpuView) (n' : N) : Type 0 where
  pub worked : ScanView
  pub works : MatchResult r (λ answer. Paces loads pace (at_work n v) answer (at_work n' worked)) (λ _. FindsExhausted loads (at_work n v) (at_work n' worked))
  pub most : number_at_rest worked.seat.seen ≤ 4 * worked.seat.periods
  pub ties : TiesEngine worked.seat c left.seat c'
  pub tied : IsTied left.seat
  pub rest : left ≡ with_seat left.seat worked

-- the engine was found as `found` and has worked; it and the processor came to see one history, and it was left as `left`
pub record Drives (work : ScanView → ScanView → Type 0) (t : BaySeatView ScanView) (c : CpuView) (t' : BaySeatView ScanView) (c' : CpuView) : Type 0 where
  pub found : ScanView
  pub worked : ScanView
  pub left : ScanView
  pub domain : found.seat.domain ≡ c.domain
  pub size : IsOfStation t found
  pub works : work found worked
  pub ties : TiesEngine worked.seat c left.seat c'
  pub rest : left ≡ with_seat left.seat worked
  pub turn : TakesTurn t found left t'

-- another seat had the engine, and nothing was done but the swap that found nothing; or a period is asked for, and as many have ended as there may be
abbrev pub IsNotDriven : {N : Type 0} → (N → ℕ → N → Type 0) → AdvanceRefusal → BaySeatView ScanView → CpuView → N → BaySeatView ScanView → CpuView → N → Type 0
IsNotDriven loads advance.Busy t c n t' c' n' = FindsBusy t t' × (c' ≡ c) × (n' ≡ n)
IsNotDriven loads advance.Exhausted t c n t' c' n' = Drives (λ v w. FindsExhausted loads (at_work n v) (at_work n' w)) t c t' c'

-- the engine started none, and did nothing
abbrev pub StartsNone : engine.NotStarted → BaySeatView ScanView → CpuView → BaySeatView ScanView → CpuView → Type 0
StartsNone why t c t' c' = Drives (λ v w. IsNoStart v why × (w ≡ v)) t c t' c'

abbrev pub IsNotStarted : StartRefusal → BaySeatView ScanView → CpuView → BaySeatView ScanView → CpuView → Type 0
IsNotStarted start.Busy t c t' c' = FindsBusy t t' × (c' ≡ c)
IsNotStarted start.Running t c t' c' = StartsNone refused.Running t c t' c'
IsNotStarted start.Exhausted t c t' c' = StartsNone refused.Exhausted t c t' c'
