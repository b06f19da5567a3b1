-- The laws of turns in a row.
use Rattle.std.proofs.Common.{◌≡◌, ◌≢◌, ◌%◌, ◌<◌, ◌≤◌, ◌⊎◌, inl, inr, false, length, Some, Ok, Err, refl, sym, ap, ◌∙◌, subst, arith}
use Rattle.std.specs.Prelude.{Result, MatchResult}
use Rattle.sseq.specs.declared.index.Index.{Index}
use Rattle.onedom.specs.Histories.{IsRunning, IsBeginning}
use Rattle.onedom.proofs.CallerLemmas.{beginning_refl, beginning_trans}
use Rattle.sections.specs.Words.{Reaches}
use Rattle.sections.specs.Views.{EngineView}
use Rattle.sections.proofs.CallerLemmas.{busy_running}
use Rattle.desk.specs.BayViews.{BaySeatView}
use Rattle.desk.specs.BayCalls.{lies}
use Rattle.funnel.specs.Calls.{LoadsRoot}
use Rattle.scan.specs.declared.progress.Progress.{Progress}
use Rattle.scan.specs.declared.progress.Progress.TheVariants as answer
use Rattle.scan.specs.declared.refusals.AdvanceRefusal.{AdvanceRefusal}
use Rattle.scan.specs.declared.refusals.AdvanceRefusal.TheVariants as refused
use Rattle.scan.specs.Standings.{leads_on, not_current}
use Rattle.scan.specs.Progress.{AdvancesTo, FindsExhausted, at_work}
use Rattle.scan.specs.Stations.{TakesTurn}
use Rattle.domain.specs.Views.{Engine, Working, DomainView, CpuView, IsOf}
use Rattle.domain.specs.Turns.{Lends, CarriesOnIn, IsRefused}
use Rattle.domain.proofs.CallerLemmas.{engine_here, says_carried}
use Rattle.laws.specs.Driving.{whole_period, rest_of_period, MakesAtMost, HadCompany, before_last, IsOver, last_begun, HasTurn, IsHeldUp, EndsUnlessHeldUp, IsTheRest, DrivesTo, IsCutShort, LeavesWhole, DrivingLeavesWhole, TurnsAreShort, LaterTurnsEnd, RunningPeriodsEnd}
use Rattle.laws.proofs.Company.{left_there, next_turn, busy_is_company}
use Rattle.laws.proofs.Counting.{short, shorter}
use Rattle.laws.proofs.Scanning.{done, last, begun_whole, begun_later, no_flip, waited_since, never_idle, never_exhausted, one_flip, waits_busy}

-- Where a call that drives ends

module _ {J : Type 0} (work : Working → Working → Type 0) (c c' : CpuView J) (h : Lends work c c') where
  upto : IsBeginning h.worked.seat.seen c'.cpu.seen
  upto = subst (λ l. IsBeginning h.worked.seat.seen l) (sym (h.ties.accepts.seen ∙ ap (λ (e : EngineView). e.seen) h.ties.notes)) h.ties.covers.step.since

  changes_known : h.worked.seat.changes ≡ c'.cpu.changes
  changes_known = sym (h.ties.accepts.changes ∙ (ap (λ (e : EngineView). e.changes) h.ties.notes ∙ h.ties.covers.step.changes_are))

  leaves : h.worked.so_far ≡ 0 → LeavesWhole c c'
  leaves none = record {
    found = h.found;
    left = h.left;
    turn = h.turn;
    seen = sym h.ties.accepts.seen;
    changes = sym h.ties.accepts.changes;
    history = h.ties.accepts.history;
    whole = ap (λ (e : Engine). e.so_far) h.rest ∙ none;
  }

leaves_driven : {J : Type 0} (a : Progress) (c m : CpuView J) → CarriesOnIn c a m → LeavesWhole c m
leaves_driven a c m turn = leaves _ c m turn (done turn.works.stages (at_work c.needs turn.found) turn.worked a turn.works.through)

pub driving_leaves : {J : Type 0} → DrivingLeavesWhole J
driving_leaves {J} = record {
  advances = λ a c m turn. leaves _ c m turn turn.works.done;
  drives = λ a c m turn. leaves_driven a c m turn;
  starts = λ n c m turn. leaves _ c m turn turn.works.0.starts.done;
}

-- Two turns of one processor, which was not at the engine's place in between

module _ {J : Type 0} (c m n c' : CpuView J) (first : LeavesWhole c m) (same : n.turn ≡ m.turn) where
  there : lies m.turn ≡ Some first.left
  there = left_there c.turn m.turn first.found first.left first.turn

  finds : (work : Working → Working → Type 0) (h : Lends work n c') → (h.found ≡ first.left) ⊎ HadCompany m.turn c'.turn
  finds work h = next_turn m.turn c'.turn first.left h.found h.left there (subst (λ (t : BaySeatView Engine). TakesTurn t h.found h.left c'.turn) same h.turn)

  module _ (found : Engine) (e : found ≡ first.left) where
    nothing_half : found.so_far ≡ 0
    nothing_half = ap (λ (z : Engine). z.so_far) e ∙ first.whole

    seen_there : found.seat.seen ≡ m.cpu.seen
    seen_there = ap (λ (z : Engine). z.seat.seen) e ∙ first.seen

    changed_there : found.seat.changes ≡ m.cpu.changes
    changed_there = ap (λ (z : Engine). z.seat.changes) e ∙ first.changes

    reaches_there : Reaches found.seat.changes found.seat.seen
    reaches_there =
        let from : Reaches found.seat.changes m.cpu.seen = subst (λ k. Reaches k m.cpu.seen) (sym changed_there) first.history.reaches in
        subst (λ l. Reaches found.seat.changes l) (sym seen_there) from

    busy_there : IsRunning m.cpu.seen → 0 < found.seat.changes % 4
    busy_there runs =
        let started = first.history.reaches.started in let ended = first.history.reaches.ended in let is = changed_there in
        omega (arith, runs, started, ended, is)

  held_up : (i : Index) (turn : CarriesOnIn n (answer.Waiting i) c') → turn.found ≡ first.left → IsHeldUp i (last_begun (answer.Waiting i) n c' turn) m c'
  held_up i turn e =
      let v : Working = at_work n.needs turn.found in
      let x : Working = before_last turn.works.stages v in
      let whole : x.so_far ≡ 0 = begun_whole turn.works.stages v turn.worked (answer.Waiting i) turn.works.through (nothing_half turn.found e) in
      let h : AdvancesTo LoadsRoot x (answer.Waiting i) turn.worked = last turn.works.stages v turn.worked (answer.Waiting i) turn.works.through in
      let says = h.answered.says in
      let known : turn.worked.seat.changes ≡ c'.cpu.changes = changes_known _ n c' turn in
      record {
        began = beginning_trans (subst (λ l. IsBeginning m.cpu.seen l) (sym (seen_there turn.found e)) (beginning_refl m.cpu.seen)) (begun_later turn.works.stages v turn.worked (answer.Waiting i) turn.works.through);
        same_index = no_flip x turn.worked i h whole ∙ known;
        not_current = says.index ∙ ap not_current known;
        moment = says.moment;
        since = waited_since x turn.worked i h whole;
        upto = beginning_trans says.upto (upto _ n c' turn);
        section = says.section;
        is_open = says.is_open;
        of_index = says.of_index;
      }

  later : (i : Index) (turn : CarriesOnIn n (answer.Waiting i) c') → (turn.found ≡ first.left) ⊎ HadCompany m.turn c'.turn → IsHeldUp i (last_begun (answer.Waiting i) n c' turn) m c' ⊎ HadCompany m.turn c'.turn
  later i turn (inl e) = inl (held_up i turn e)
  later i turn (inr k) = inr k

  -- A period that runs

  module _ (runs : IsRunning m.cpu.seen) where
    idle : (turn : CarriesOnIn n answer.Idle c') → (turn.found ≡ first.left) ⊎ HadCompany m.turn c'.turn → HadCompany m.turn c'.turn
    idle turn (inl e) = absurd (never_idle turn.works.stages (at_work n.needs turn.found) turn.worked (busy_there turn.found e runs) (reaches_there turn.found e) (nothing_half turn.found e) turn.works.through)
    idle turn (inr k) = k

    exhausted : (h : Lends (λ v w. FindsExhausted LoadsRoot v w) n c') → (h.found ≡ first.left) ⊎ HadCompany m.turn c'.turn → HadCompany m.turn c'.turn
    exhausted h (inl e) = absurd (never_exhausted (at_work n.needs h.found) h.worked (busy_there h.found e runs) (reaches_there h.found e) h.works)
    exhausted h (inr k) = k

    refusals : (refusal : AdvanceRefusal) → IsRefused n refusal c' → HadCompany m.turn c'.turn
    refusals refused.Busy h = subst (λ (t : BaySeatView Engine). HadCompany t c'.turn) same (busy_is_company n.turn c'.turn first.left (ap lies same ∙ there) h.busy)
    refusals refused.Exhausted h = exhausted h (finds _ h)

    rest : (d : DomainView) (a : Progress) (is : IsOf d n) (turn : CarriesOnIn n a c') → (turn.found ≡ first.left) ⊎ HadCompany m.turn c'.turn → IsTheRest d a n c' turn ⊎ HadCompany m.turn c'.turn
    rest d a is turn (inl e) =
        let v : Working = at_work n.needs turn.found in
        let few : length turn.works.stages ≤ 1 = one_flip turn.works.stages v turn.worked a (busy_there turn.found e runs) (reaches_there turn.found e) (nothing_half turn.found e) turn.works.through in
        inl record {
          few = few;
          short = subst (λ k. MakesAtMost (rest_of_period k) v turn.worked) (engine_here d n is turn.found turn.size).1 (shorter turn.works.stages v turn.worked a turn.works.through turn.works.stops few);
        }
    rest d a is turn (inr k) = inr k

pub later_turns : {J : Type 0} → LaterTurnsEnd J
later_turns {J} i c m n c' first same turn = later c m n c' first same i turn (finds c m n c' first same _ turn)

pub running : {J : Type 0} → RunningPeriodsEnd J
running {J} = record {
  not_idle = λ c m n c' first runs same turn. idle c m n c' first same runs turn (finds c m n c' first same _ turn);
  not_refused = λ refusal c m n c' first runs same h. refusals c m n c' first same runs refusal h;
  the_rest = λ d a c m n c' first runs same is turn. rest c m n c' first same runs d a is turn (finds c m n c' first same _ turn);
}

pub turns_short : {J : Type 0} → TurnsAreShort J
turns_short {J} d a c c' is turn =
    let v : Working = at_work c.needs turn.found in
    subst (λ k. MakesAtMost (whole_period k) v turn.worked) (engine_here d c is turn.found turn.size).1 (short turn.works.stages v turn.worked a turn.works.through turn.works.stops turn.works.few)

-- Driving to the end

over : (a : Progress) → leads_on a ≡ false → a ≢ answer.Step → ((i : Index) → a ≢ answer.Waiting i) → IsOver a
over answer.Idle off not_step not_waiting = tt
over (answer.Started n) off not_step not_waiting = absurd cc
over (answer.Flipped i) off not_step not_waiting = absurd cc
over (answer.Ended n) off not_step not_waiting = tt
over (answer.Waiting i) off not_step not_waiting = absurd (not_waiting i refl)
over answer.Step off not_step not_waiting = absurd (not_step refl)

module _ {J : Type 0} (d : DomainView) (c m : CpuView J) (is : IsOf d c) where
  abbrev has_turn : (a : Progress) → CarriesOnIn c a m → HasTurn d a c m
  has_turn a turn = record { turn = turn; says = says_carried d c is m (Ok a) turn; short = turns_short d a c m is turn }

  pub ends_at_once : (a : Progress) → CarriesOnIn c a m → ((i : Index) → a ≢ answer.Waiting i) → DrivesTo d a c m
  ends_at_once a turn not_waiting = inl (over a turn.works.stops (last turn.works.stages (at_work c.needs turn.found) turn.worked a turn.works.through).advances.answer not_waiting, has_turn a turn)

module _ {J : Type 0} (d : DomainView) (c m c' : CpuView J) (is : IsOf d c) (still : IsOf d m) (i : Index) (first : CarriesOnIn c (answer.Waiting i) m) where
  runs_there : IsRunning m.cpu.seen
  runs_there =
      let v : Working = at_work c.needs first.found in
      let h = last first.works.stages v first.worked (answer.Waiting i) first.works.through in
      let busy = waits_busy (before_last first.works.stages v) first.worked i h in
      let known = changes_known _ c m first in
      busy_running m.cpu.changes m.cpu.seen (omega (arith, busy, known)) first.ties.accepts.history.reaches

  whole_there : LeavesWhole c m
  whole_there = leaves_driven (answer.Waiting i) c m first

  with_rest : (a : Progress) (turn : CarriesOnIn m a c') → EndsUnlessHeldUp a (last_begun a m c' turn) m c' ⊎ HadCompany m.turn c'.turn → IsTheRest d a m c' turn ⊎ HadCompany m.turn c'.turn → (EndsUnlessHeldUp a (last_begun a m c' turn) m c' × IsTheRest d a m c' turn) ⊎ HadCompany m.turn c'.turn
  with_rest a turn (inl e) (inl r) = inl (e, r)
  with_rest a turn (inl e) (inr k) = inr k
  with_rest a turn (inr k) r = inr k

  outcome : (a : Progress) (turn : CarriesOnIn m a c') → EndsUnlessHeldUp a (last_begun a m c' turn) m c' ⊎ HadCompany m.turn c'.turn
  outcome answer.Idle turn = inr (running.not_idle c m m c' whole_there runs_there refl turn)
  outcome (answer.Started n) turn = absurd (let off = turn.works.stops in cc)
  outcome (answer.Flipped j) turn = absurd (let off = turn.works.stops in cc)
  outcome (answer.Ended n) turn = inl tt
  outcome (answer.Waiting j) turn = later_turns j c m m c' whole_there refl turn
  outcome answer.Step turn = absurd ((last turn.works.stages (at_work m.needs turn.found) turn.worked answer.Step turn.works.through).advances.answer refl)

  pub ends_later : (r : Result Progress AdvanceRefusal) → MatchResult r (λ a. CarriesOnIn m a c') (λ refusal. IsRefused m refusal c') → MatchResult r (λ a. DrivesTo d a c c') (λ refusal. IsCutShort d refusal c c')
  ends_later (Ok a) turn = inr record {
    between = m;
    waited = i;
    first = has_turn d c m is (answer.Waiting i) first;
    second = has_turn d m c' still a turn;
    outcome = with_rest a turn (outcome a turn) (running.the_rest d a c m m c' whole_there runs_there refl still turn);
  }
  ends_later (Err refusal) h = inr record {
    between = m;
    waited = i;
    first = has_turn d c m is (answer.Waiting i) first;
    refused = h;
    company = running.not_refused refusal c m m c' whole_there runs_there refl h;
  }
