-- What somebody comes to who drives a grace period, turn by turn.
use Rattle.std.specs.Prelude.{◌≡◌, ◌≢◌, ℕ, ◌+◌, ◌*◌, ◌≤◌, ◌⊎◌, List, [], ◌∷◌, ◌++◌, length}
use Rattle.sseq.specs.declared.index.Index.{Index}
use Rattle.onedom.specs.declared.event.Event.{Event}
use Rattle.onedom.specs.Histories.{IsOpen, index_of, IsRunning, IsBeginning}
use Rattle.sections.specs.declared.view.Step.{Step}
use Rattle.sections.specs.Calls.{IsSeenBy}
use Rattle.desk.specs.Swaps as swaps
use Rattle.desk.specs.Swaps.{Swap}
use Rattle.desk.specs.BayViews.{BaySeatView}
use Rattle.desk.specs.BayCalls.{lies}
use Rattle.funnel.specs.Views.{FunnelView}
use Rattle.scan.specs.declared.progress.Progress.{Progress}
use Rattle.scan.specs.declared.progress.Progress.TheVariants.{Idle, Waiting, Ended}
use Rattle.scan.specs.declared.refusals.AdvanceRefusal.{AdvanceRefusal}
use Rattle.scan.specs.Standings.{not_current}
use Rattle.scan.specs.Progress.{Stage, at_work}
use Rattle.scan.specs.Stations.{TakesTurn}
use Rattle.domain.specs.Views.{Engine, Working, DomainView, CpuView, IsOf}
use Rattle.domain.specs.Turns.{AdvancesIn, CarriesOnIn, IsRefused, StartsIn, SaysAtLast}

-- Steps

-- as many atomic steps as a whole period takes: 2 to its start, 2 P + 2 to its flip, 2 P + 1 to its end
abbrev pub whole_period : ℕ → ℕ
whole_period processors = 4 * processors + 5

-- and as many from its start on: two scans, the two steps of the flip between them, and its end
abbrev pub rest_of_period : ℕ → ℕ
rest_of_period processors = 4 * processors + 3

-- the engine made no more atomic steps than these: its events, its other steps, and its loads of the need
pub record MakesAtMost (most : ℕ) (v w : Working) : Type 0 where
  pub events : List Event
  pub made : List Step
  pub loads : List ℕ
  pub mine : w.seat.mine ≡ v.seat.mine ++ events
  pub steps : w.seat.steps ≡ v.seat.steps ++ made
  pub needs : w.needs.loads ≡ v.needs.loads ++ loads
  pub few : length events + length made + length loads ≤ most

-- Company

-- another seat's swap came first after what was seen of the engine's place, and found what lay there
pub record HadCompany (t t' : BaySeatView Engine) : Type 0 where
  pub swap : Swap Engine
  pub other : swap.by ≢ t.number
  pub found : swap.found ≡ lies t
  pub upto : swaps.IsBeginning (t.seen ++ swap ∷ []) t'.seen

-- Turns

-- the engine before the last of its answers
abbrev pub before_last : List (Stage FunnelView) → Working → Working
before_last [] v = v
before_last (s ∷ ss) v = before_last ss s.engine

-- nothing is left to do of a period: it has ended, or there was none
abbrev pub IsOver : Progress → Type 0
IsOver Idle = Unit {0}
IsOver (Ended n) = Unit {0}
IsOver a = ⊥

module _ {J : Type 0} where
  -- the engine as a turn found it, with the processor's needs; and where the last of the turn's answers began
  abbrev pub found_by : (a : Progress) (c c' : CpuView J) → CarriesOnIn c a c' → Working
  found_by a c c' turn = at_work c.needs turn.found

  abbrev pub last_begun : (a : Progress) (c c' : CpuView J) → CarriesOnIn c a c' → Working
  last_begun a c c' turn = before_last turn.works.stages (at_work c.needs turn.found)

  -- one turn of the engine, with this last answer and what that says of the domain, in no more steps than a whole period takes
  pub record HasTurn (d : DomainView) (a : Progress) (c c' : CpuView J) : Type 0 where
    pub turn : CarriesOnIn c a c'
    pub says : SaysAtLast d a c c'
    pub short : MakesAtMost (whole_period d.processors) (found_by a c c' turn) turn.worked

  -- a scan that began with the engine at x, after all that c had seen, found a section of this index open at a moment since. Whoever looked meanwhile got the other index
  pub record IsHeldUp (i : Index) (x : Working) (c c' : CpuView J) : Type 0 where
    pub began : IsBeginning c.cpu.seen x.seat.seen
    pub same_index : x.seat.changes ≡ c'.cpu.changes
    pub not_current : i ≡ not_current c'.cpu.changes
    pub moment : List Event
    pub since : IsBeginning x.seat.seen moment
    pub upto : IsBeginning moment c'.cpu.seen
    pub section : ℕ
    pub is_open : IsOpen moment section
    pub of_index : index_of section moment ≡ i

  -- what a turn comes to that goes on with a running period, whose engine nobody else had: the period has ended, or is held up
  abbrev pub EndsUnlessHeldUp : Progress → Working → CpuView J → CpuView J → Type 0
  EndsUnlessHeldUp (Ended n) x c c' = Unit {0}
  EndsUnlessHeldUp (Waiting i) x c c' = IsHeldUp i x c c'
  EndsUnlessHeldUp a x c c' = ⊥

  -- no answer but a flip came before the last one, in no more steps than there are from a period's start on
  pub record IsTheRest (d : DomainView) (a : Progress) (c c' : CpuView J) (turn : CarriesOnIn c a c') : Type 0 where
    pub few : length turn.works.stages ≤ 1
    pub short : MakesAtMost (rest_of_period d.processors) (found_by a c c' turn) turn.worked

  -- a turn had to wait, and then there was another one
  pub record TurnsAgain (d : DomainView) (a : Progress) (c c' : CpuView J) : Type 0 where
    pub between : CpuView J
    pub waited : Index
    pub first : HasTurn d (Waiting waited) c between
    pub second : HasTurn d a between c'
    pub outcome : (EndsUnlessHeldUp a (last_begun a between c' second.turn) between c' × IsTheRest d a between c' second.turn) ⊎ HadCompany between.turn c'.turn

  -- in one turn there was nothing left to do, or it had to wait and there was another one
  abbrev pub DrivesTo : DomainView → Progress → CpuView J → CpuView J → Type 0
  DrivesTo d a c c' = (IsOver a × HasTurn d a c c') ⊎ TurnsAgain d a c c'

  -- a turn had to wait, and the next one was refused, as another seat had the engine meanwhile
  pub record IsRefusedAgain (d : DomainView) (refusal : AdvanceRefusal) (c c' : CpuView J) : Type 0 where
    pub between : CpuView J
    pub waited : Index
    pub first : HasTurn d (Waiting waited) c between
    pub refused : IsRefused between refusal c'
    pub company : HadCompany between.turn c'.turn

  -- the first turn was refused, or the second
  abbrev pub IsCutShort : DomainView → AdvanceRefusal → CpuView J → CpuView J → Type 0
  IsCutShort d refusal c c' = IsRefused c refusal c' ⊎ IsRefusedAgain d refusal c c'

  -- Turns in a row

  -- the processor had the engine and left it, with nothing half done. Both have then seen one history
  pub record LeavesWhole (c m : CpuView J) : Type 0 where
    pub found : Engine
    pub left : Engine
    pub turn : TakesTurn c.turn found left m.turn
    pub seen : left.seat.seen ≡ m.cpu.seen
    pub changes : left.seat.changes ≡ m.cpu.changes
    pub history : IsSeenBy m.cpu
    pub whole : left.so_far ≡ 0

-- The laws

module _ (J : Type 0) where
  -- each call that drives leaves nothing half done, but `step`
  pub record DrivingLeavesWhole : Type 0 where
    pub advances : (a : Progress) (c m : CpuView J) → AdvancesIn c a m → LeavesWhole c m
    pub drives : (a : Progress) (c m : CpuView J) → CarriesOnIn c a m → LeavesWhole c m
    pub starts : (n : ℕ) (c m : CpuView J) → StartsIn c n m → LeavesWhole c m

  -- no turn makes more steps than a whole period takes
  abbrev pub TurnsAreShort : Type 0
  TurnsAreShort = (d : DomainView) (a : Progress) (c c' : CpuView J) → IsOf d c → (turn : CarriesOnIn c a c') → MakesAtMost (whole_period d.processors) (found_by a c c' turn) turn.worked

  -- a later turn of the processor waits only for a section that was open since, if no other seat had the engine
  abbrev pub LaterTurnsEnd : Type 0
  LaterTurnsEnd = (i : Index) (c m n c' : CpuView J) → LeavesWhole c m → n.turn ≡ m.turn → (turn : CarriesOnIn n (Waiting i) c') → IsHeldUp i (last_begun (Waiting i) n c' turn) m c' ⊎ HadCompany m.turn c'.turn

  -- and if a period runs, that turn goes on with it: there is something to do, nothing in the way, and no more than the rest of the period
  pub record RunningPeriodsEnd : Type 0 where
    pub not_idle : (c m n c' : CpuView J) → LeavesWhole c m → IsRunning m.cpu.seen → n.turn ≡ m.turn → CarriesOnIn n Idle c' → HadCompany m.turn c'.turn
    pub not_refused : (refusal : AdvanceRefusal) (c m n c' : CpuView J) → LeavesWhole c m → IsRunning m.cpu.seen → n.turn ≡ m.turn → IsRefused n refusal c' → HadCompany m.turn c'.turn
    pub the_rest : (d : DomainView) (a : Progress) (c m n c' : CpuView J) → LeavesWhole c m → IsRunning m.cpu.seen → n.turn ≡ m.turn → IsOf d n → (turn : CarriesOnIn n a c') → IsTheRest d a n c' turn ⊎ HadCompany m.turn c'.turn
