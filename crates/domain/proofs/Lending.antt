-- What a turn with a lent processor does, from what is said of it at the station.
use Rattle.std.proofs.Common.{◌≡◌, ℕ, ◌+◌, List, [], ◌∷◌, refl, sym, ap, ◌∙◌, subst, arith, Some, None, Result, Ok, Err, MatchResult}
use mathlib.Core.Logic.{dite, inl, inr}
use native.Mathlib.Decide.{dec_le, ℕ_discrete}
use Rattle.onedom.specs.Histories.{ended_in, starts_in}
use Rattle.scan.specs.declared.progress.Progress.{Progress}
use Rattle.scan.specs.declared.refusals.AdvanceRefusal.{AdvanceRefusal}
use Rattle.scan.specs.declared.refusals.AdvanceRefusal.TheVariants as advance
use Rattle.scan.specs.declared.refusals.StartRefusal.{StartRefusal}
use Rattle.scan.specs.declared.refusals.StartRefusal.TheVariants as start
use Rattle.scan.specs.Glossary.{Stage, NeedsLoaded, StepsTo, AdvancesTo, AdvancesThrough, CarriesOn, FindsExhausted, StartsTo, at_work, rested, Takes, FindsBusy, Drives, IsNotDriven}
use Rattle.scan.specs.Stations as station
use Rattle.funnel.specs.Glossary.{FunnelView, LoadsRoot, IsSameSeat}
use Rattle.desk.specs.Glossary.{BaySeatView, MakesSwap}
use Rattle.domain.proofs.Staying.{seat_the_same}
use Rattle.domain.specs.Glossary.{Engine, Working, CpuView, IsSameProcessor, Lends, FindsBusyIn, StepsIn, AdvancesIn, CarriesOnIn, IsRefused, StartsIn, IsNotStarted}

-- a swap is made at one seat, so the engine is taken there
pub took_same : (v : BaySeatView Engine) (found : Engine) (took : BaySeatView Engine) → Takes v found took → took ≡ record v { seen = took.seen }
took_same v found took t = t.swap.same

-- a turn is made at one seat
pub turn_same : (v : BaySeatView Engine) (found left : Engine) (took w : BaySeatView Engine) → MakesSwap v None (Some found) took → MakesSwap took (Some left) None w → w ≡ record v { seen = w.seen }
turn_same v found left took w t m = m.same ∙ ap (λ (z : BaySeatView Engine). record z { seen = w.seen }) t.same

module _ {J : Type 0} (c c' : CpuView J) where
  -- the engine worked with the processor's seat at the tree
  pub lends : (did : Engine → Engine → Type 0) (work : Working → Working → Type 0) → ((v w : Engine) → did v w → work (at_work c.needs v) (at_work c'.needs w)) → Drives did c.turn c.cpu c'.turn c'.cpu → c'.calls ≡ c.calls → Lends work c c'
  lends did work says h calls = record {
    found = h.found;
    worked = at_work c'.needs h.worked;
    left = h.left;
    domain = h.domain;
    size = h.size;
    works = says h.found h.worked h.works;
    needs = refl;
    ties = h.ties;
    rest = h.rest;
    turn = h.turn;
    calls = calls;
  }

-- The engine's work is done with one seat at the tree

pub same_loaded : (v w : Working) → NeedsLoaded LoadsRoot v w → IsSameSeat v.needs w.needs
same_loaded v w n =
    let still : w.needs ≡ v.needs → IsSameSeat v.needs w.needs = λ e. record { domain = ap (λ (z : FunnelView). z.domain) e; shape = ap (λ (z : FunnelView). z.shape) e; holder = ap (λ (z : FunnelView). z.holder) e } in
    dite (dec_le (ended_in v.seat.seen + 1) (starts_in v.seat.seen))
    (λ running. still (n.busy (inl (omega (arith, running)))).1)
    (λ resting. dite (ℕ_discrete v.so_far 0) (λ nothing. (n.at_rest (λ r. resting (omega (arith, r))) nothing).1.same) (λ some. still (n.busy (inr (omega (arith, some)))).1))

pub same_stepped : (v w : Working) (a : Progress) → StepsTo LoadsRoot v a w → IsSameSeat v.needs w.needs
same_stepped v w a h = same_loaded v w h.needs

pub same_advanced : (v w : Working) (a : Progress) → AdvancesTo LoadsRoot v a w → IsSameSeat v.needs w.needs
same_advanced v w a h = same_loaded v w h.needs

same_through : (ss : List (Stage FunnelView)) (v w : Working) (a : Progress) → AdvancesThrough LoadsRoot ss v a w → IsSameSeat v.needs w.needs
same_through [] v w a h = same_advanced v w a h
same_through (s ∷ ss) v w a h =
    let first = same_advanced v s.engine s.answer h.0 in let rest = same_through ss s.engine w a h.2 in
    record { domain = rest.domain ∙ first.domain; shape = rest.shape ∙ first.shape; holder = rest.holder ∙ first.holder }

pub same_carried : (v w : Working) (a : Progress) → CarriesOn LoadsRoot v a w → IsSameSeat v.needs w.needs
same_carried v w a h = same_through h.stages v w a h.through

pub same_exhausted : (v w : Working) → FindsExhausted LoadsRoot v w → IsSameSeat v.needs w.needs
same_exhausted v w h = h.load.same

pub same_started : (v w : Working) (n : ℕ) → StartsTo (rested v) n (rested w) × (w.needs ≡ v.needs) → IsSameSeat v.needs w.needs
same_started v w n h = record { domain = ap (λ (z : FunnelView). z.domain) h.1; shape = ap (λ (z : FunnelView). z.shape) h.1; holder = ap (λ (z : FunnelView). z.holder) h.1 }

pub same_still : (v w : Working) → w ≡ v → IsSameSeat v.needs w.needs
same_still v w e = record { domain = ap (λ (z : Working). z.needs.domain) e; shape = ap (λ (z : Working). z.needs.shape) e; holder = ap (λ (z : Working). z.needs.holder) e }

-- and raises nothing there

pub mine_loaded : (v w : Working) → NeedsLoaded LoadsRoot v w → w.needs.mine ≡ v.needs.mine
mine_loaded v w n =
    let still : w.needs ≡ v.needs → w.needs.mine ≡ v.needs.mine = λ e. ap (λ (z : FunnelView). z.mine) e in
    dite (dec_le (ended_in v.seat.seen + 1) (starts_in v.seat.seen))
    (λ running. still (n.busy (inl (omega (arith, running)))).1)
    (λ resting. dite (ℕ_discrete v.so_far 0) (λ nothing. (n.at_rest (λ r. resting (omega (arith, r))) nothing).1.mine) (λ some. still (n.busy (inr (omega (arith, some)))).1))

pub mine_advanced : (v w : Working) (a : Progress) → AdvancesTo LoadsRoot v a w → w.needs.mine ≡ v.needs.mine
mine_advanced v w a h = mine_loaded v w h.needs

mine_through : (ss : List (Stage FunnelView)) (v w : Working) (a : Progress) → AdvancesThrough LoadsRoot ss v a w → w.needs.mine ≡ v.needs.mine
mine_through [] v w a h = mine_advanced v w a h
mine_through (s ∷ ss) v w a h = mine_through ss s.engine w a h.2 ∙ mine_advanced v s.engine s.answer h.0

pub mine_carried : (v w : Working) (a : Progress) → CarriesOn LoadsRoot v a w → w.needs.mine ≡ v.needs.mine
mine_carried v w a h = mine_through h.stages v w a h.through

pub mine_exhausted : (v w : Working) → FindsExhausted LoadsRoot v w → w.needs.mine ≡ v.needs.mine
mine_exhausted v w h = h.load.mine

-- The processor is the same behind a turn

module _ {J : Type 0} (work : Working → Working → Type 0) (c c' : CpuView J) where
  pub same_lent : ((v w : Working) → work v w → IsSameSeat v.needs w.needs) → Lends work c c' → IsSameProcessor c c'
  same_lent keeps h = record {
    cpu = h.ties.accepts.same;
    needs = subst (λ (z : FunnelView). IsSameSeat c.needs z) (sym h.needs) (keeps _ _ h.works);
    turn = turn_same c.turn h.found h.left h.turn.took c'.turn h.turn.takes h.turn.puts;
    calls = seat_the_same _ _ h.calls;
  }

  pub mine_lent : ((v w : Working) → work v w → w.needs.mine ≡ v.needs.mine) → Lends work c c' → c'.needs.mine ≡ c.needs.mine
  mine_lent keeps h = ap (λ (z : FunnelView). z.mine) h.needs ∙ keeps _ _ h.works

-- Answers

module _ {J : Type 0} where
  -- nothing was done but a swap
  pub same_busy : (c c' : CpuView J) → FindsBusyIn c c' → IsSameProcessor c c'
  same_busy c c' h = record {
    cpu = (ap (λ (z : CpuView J). z.cpu.domain) h.rest, ap (λ (z : CpuView J). z.cpu.processors) h.rest, ap (λ (z : CpuView J). z.cpu.sections) h.rest, ap (λ (z : CpuView J). z.cpu.processor) h.rest);
    needs = record { domain = ap (λ (z : CpuView J). z.needs.domain) h.rest; shape = ap (λ (z : CpuView J). z.needs.shape) h.rest; holder = ap (λ (z : CpuView J). z.needs.holder) h.rest };
    turn = h.busy.swap.same;
    calls = seat_the_same _ _ (ap (λ (z : CpuView J). z.calls) h.rest);
  }

module _ {J : Type 0} (c c' : CpuView J) (calls : c'.calls ≡ c.calls) where
  busy : FindsBusy c.turn c'.turn → c'.cpu ≡ c.cpu → c'.needs ≡ c.needs → FindsBusyIn c c'
  busy h cpu needs = record { busy = h; rest = λ i. record { cpu = cpu i; needs = needs i; turn = c'.turn; calls = calls i } }

  not_driven : (why : AdvanceRefusal) → IsNotDriven LoadsRoot why c.turn c.cpu c.needs c'.turn c'.cpu c'.needs → IsRefused c why c'
  not_driven advance.Busy h = busy h.0 h.1 h.2
  not_driven advance.Exhausted h = lends c c' _ _ (λ v w did. did) h calls

  -- what the station answers, the domain does
  pub stepped : (r : Result Progress AdvanceRefusal) → MatchResult r (λ a. Drives (λ v w. StepsTo LoadsRoot (at_work c.needs v) a (at_work c'.needs w)) c.turn c.cpu c'.turn c'.cpu) (λ why. IsNotDriven LoadsRoot why c.turn c.cpu c.needs c'.turn c'.cpu c'.needs)
      → MatchResult r (λ a. StepsIn c a c') (λ why. IsRefused c why c')
  stepped (Ok a) h = lends c c' _ _ (λ v w did. did) h calls
  stepped (Err why) h = not_driven why h

  pub advanced : (r : Result Progress AdvanceRefusal) → MatchResult r (λ a. Drives (λ v w. AdvancesTo LoadsRoot (at_work c.needs v) a (at_work c'.needs w)) c.turn c.cpu c'.turn c'.cpu) (λ why. IsNotDriven LoadsRoot why c.turn c.cpu c.needs c'.turn c'.cpu c'.needs)
      → MatchResult r (λ a. AdvancesIn c a c') (λ why. IsRefused c why c')
  advanced (Ok a) h = lends c c' _ _ (λ v w did. did) h calls
  advanced (Err why) h = not_driven why h

  pub carried : (r : Result Progress AdvanceRefusal) → MatchResult r (λ a. Drives (λ v w. CarriesOn LoadsRoot (at_work c.needs v) a (at_work c'.needs w)) c.turn c.cpu c'.turn c'.cpu) (λ why. IsNotDriven LoadsRoot why c.turn c.cpu c.needs c'.turn c'.cpu c'.needs)
      → MatchResult r (λ a. CarriesOnIn c a c') (λ why. IsRefused c why c')
  carried (Ok a) h = lends c c' _ _ (λ v w did. did) h calls
  carried (Err why) h = not_driven why h

  pub started : c'.needs ≡ c.needs → (r : Result ℕ StartRefusal) → MatchResult r (λ n. Drives (λ v w. StartsTo v n w) c.turn c.cpu c'.turn c'.cpu) (λ why. station.IsNotStarted why c.turn c.cpu c'.turn c'.cpu)
      → MatchResult r (λ n. StartsIn c n c') (λ why. IsNotStarted c why c')
  started needs (Ok n) h = lends c c' _ _ (λ v w did. (did, needs)) h calls
  started needs (Err start.Busy) h = busy h.0 h.1 needs
  started needs (Err start.Running) h = lends c c' _ _ (λ v w did. (did.0, λ i. at_work (needs i) (did.1 i))) h calls
  started needs (Err start.Exhausted) h = lends c c' _ _ (λ v w did. (did.0, λ i. at_work (needs i) (did.1 i))) h calls
