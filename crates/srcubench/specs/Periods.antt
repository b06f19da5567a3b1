-- Grace periods that an engine carries one behind the other, with nobody reading.
use Rattle.std.specs.Prelude.{◌≡◌, ℕ, ◌+◌, ◌*◌, ◌<◌, ◌≤◌, ◌⊎◌, Bool, true, false, length, Result, Ok, Err}
use Rattle.atomic_table.specs.Seated.{TableId}
use Rattle.sseq.specs.declared.index.Index.{Index}
use Rattle.onedom.specs.Histories.{ended_in}
use Rattle.sections.specs.EngineCalls.{new_engine as new_seat}
use Rattle.scan.specs.declared.progress.Progress.{Progress}
use Rattle.scan.specs.declared.progress.Progress.TheVariants.{Started, Flipped, Ended}
use Rattle.scan.specs.Progress.{AtWork, AdvancesTo, FindsExhausted}
use Rattle.srcubench.specs.Needed.{LoadsOnce}
use Rattle.srcubench.specs.declared.periods.EveryPeriod.{EveryPeriod}
use Rattle.srcubench.specs.declared.periods.Stop.{Stop}
use Rattle.srcubench.specs.declared.periods.Stop.TheVariants as stop

-- one load of the needs that ask for every period
abbrev pub LoadsNeed : EveryPeriod → ℕ → EveryPeriod → Type 0
LoadsNeed a found b = LoadsOnce found a.cpu b.cpu

abbrev pub View : Type 0
View = AtWork EveryPeriod

-- how many atomic steps were made: events, other steps at the seat, and loads of the need
abbrev pub steps_made : View → ℕ
steps_made v = length v.seat.mine + length v.seat.steps + length v.needs.cpu.steps

-- what the engine answered to one call
abbrev pub AnswersTo : View → Result Progress Stop → View → Type 0
AnswersTo v (Ok a) w = AdvancesTo LoadsNeed v a w
AnswersTo v (Err stop.Exhausted) w = FindsExhausted LoadsNeed v w
AnswersTo v (Err (stop.Answered a)) w = ⊥

-- a period was started, then the index was flipped, then the period ended, at which the number became n; no scan had to be made twice
pub record CarriesPeriod (v : View) (n : ℕ) (w : View) : Type 0 where
  pub started : View
  pub flipped : View
  pub at_start : ℕ
  pub index : Index
  pub starts : AdvancesTo LoadsNeed v (Started at_start) started
  pub flips : AdvancesTo LoadsNeed started (Flipped index) flipped
  pub ends : AdvancesTo LoadsNeed flipped (Ended n) w

abbrev pub is_started : Progress → Bool
is_started (Started n) = true
is_started a = false

abbrev pub is_flipped : Progress → Bool
is_flipped (Flipped i) = true
is_flipped a = false

abbrev pub is_ended : Progress → Bool
is_ended (Ended n) = true
is_ended a = false

-- the engine answered something else than what was expected
abbrev pub AnswersOther : (Progress → Bool) → View → Stop → View → Type 0
AnswersOther expected v stop.Exhausted w = FindsExhausted LoadsNeed v w
AnswersOther expected v (stop.Answered a) w = AdvancesTo LoadsNeed v a w × (expected a ≡ false)

-- of a period's three answers the first, the second or the third was another one
abbrev pub IsHeldUp : View → Stop → View → Type 0
IsHeldUp v s w = AnswersOther is_started v s w
    ⊎ ((started : View) × (n : ℕ) × AdvancesTo LoadsNeed v (Started n) started × AnswersOther is_flipped started s w)
    ⊎ ((started : View) × (n : ℕ) × (flipped : View) × (i : Index) × AdvancesTo LoadsNeed v (Started n) started × AdvancesTo LoadsNeed started (Flipped i) flipped × AnswersOther is_ended flipped s w)

-- how many atomic steps a period takes with nobody reading: a load of the need and the start, a scan and the two steps of the flip, a scan and the end
abbrev pub quiet_steps : ℕ → ℕ
quiet_steps processors = 2 + (2 * processors + 2) + (2 * processors + 1)

-- so many periods went by without a step too many, and just so many have ended in the domain as are counted
pub record CarriesPeriods (periods : ℕ) (v : View) (ended : ℕ) (w : View) : Type 0 where
  pub counted : ended ≡ ended_in w.seat.seen
  pub all : periods ≤ ended
  pub steps : steps_made w ≡ steps_made v + periods * quiet_steps v.seat.processors
  pub done : w.so_far ≡ 0

-- fewer went by, and then one was held up
pub record StopsBefore (periods : ℕ) (v : View) (s : Stop) (w : View) : Type 0 where
  pub made : ℕ
  pub fewer : made < periods
  pub ended : ℕ
  pub between : View
  pub before : CarriesPeriods made v ended between
  pub held_up : IsHeldUp between s w

-- they went by in a new domain of so many processors
pub record HaveEnded (processors periods ended : ℕ) : Type 0 where
  pub domain : TableId
  pub first : View
  pub last : View
  pub new : first.seat ≡ new_seat domain processors periods
  pub carried : CarriesPeriods periods first ended last
