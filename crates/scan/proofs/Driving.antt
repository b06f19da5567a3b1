-- What a call that drives the engine does, from the steps that it is made of.
use Rattle.std.proofs.Common.{◌≡◌, ℕ, true, Option, None, Some, IfSome, MatchOption, Result, Ok, Err, MatchResult, refl, sym, ap, ◌∙◌}
use Rattle.std.specs.Prelude.{is_some}
use Rattle.sections.specs.Glossary.{CpuView, EngineView, IsSameEngine, IsTied, TiesEngine}
use Rattle.desk.specs.Glossary.{BaySeatView, holds, MakesSwap, IsHeldElsewhere, IsLikeFirst, MayLieThere, Works}
use Rattle.scan.specs.Glossary.{Progress, Pace, PeriodsExhausted, ScanView, at_work, Paces, FindsExhausted, with_seat, refusal_of, MayLie, IsOfStation, Takes, FindsBusy, GivesBack, Turns, Drives, StartsNone, IsNotStarted}
use Rattle.scan.specs.declared.progress.Pace.TheVariants as pace
use Rattle.scan.specs.declared.progress.NotStarted as engine
use Rattle.scan.specs.declared.progress.NotStarted.TheVariants as refused

-- What may lie in the place

pub of_station : (first : Option ScanView) (e : ScanView) → IfSome first (λ y. MayLie y e) → IfSome first (λ y. IsSameEngine y.seat e.seat)
of_station None e h = tt
of_station (Some y) e h = h.0

tied : (first : Option ScanView) (value e : ScanView) → first ≡ Some value → IfSome first (λ y. MayLie y e) → IsTied e.seat
tied None value e is h = absurd cc
tied (Some y) value e is h = h.1

may_lie_beside : (first : Option ScanView) (e : ScanView) → IfSome first (λ y. IsSameEngine y.seat e.seat) → IsTied e.seat → IfSome first (λ y. MayLie y e)
may_lie_beside None e size ties = tt
may_lie_beside (Some y) e size ties = (size, ties)

pub may_lie : (t : BaySeatView ScanView) (e : ScanView) → IsOfStation t e → IsTied e.seat → IsLikeFirst MayLie t e
may_lie t e size ties = may_lie_beside t.first e size ties

-- what a swap found is the place's engine, tied
pub takes : (t t' : BaySeatView ScanView) (found : Option ScanView) → MakesSwap t None found t' → holds t' ≡ is_some found → (found ≡ None → IsHeldElsewhere t')
    → IfSome found (λ x. x.seat.domain ≡ t.domain) → IfSome found (λ x. IsLikeFirst MayLie t x) → MatchOption found (FindsBusy t t') (λ e. Takes t e t')
takes t t' None swap holding elsewhere domain alike = record { swap = swap; elsewhere = elsewhere refl }
takes t t' (Some e) swap holding elsewhere domain alike = record {
  swap = swap;
  holds_now = holding;
  domain = domain;
  size = of_station t.first e alike;
  tied = tied t.first swap.history.value e (sym (ap (λ (z : BaySeatView ScanView). z.first) swap.same) ∙ swap.history.lay) alike;
}

module _ (work : ScanView → ScanView → Type 0) (t took t' : BaySeatView ScanView) (c c' : CpuView) (found worked : ScanView) where
  -- the engine was taken, worked and was given back
  pub drives : c.domain ≡ t.domain → Takes t found took → work found worked → GivesBack took c worked t' c' → Drives work t c t' c'
  drives here takes works back = record {
    found = found;
    worked = worked;
    left = back.left;
    domain = takes.domain ∙ sym here;
    size = takes.size;
    works = works;
    ties = back.ties;
    rest = back.rest;
    turn = record { took = took; takes = takes.swap; puts = back.puts };
  }

-- the engine worked where it lay
pub drives_there : (work task : ScanView → ScanView → Type 0) (t t' : BaySeatView ScanView) (c c' : CpuView) (w : Works (λ (e : ScanView). e.seat.domain) MayLie t task t') (worked : ScanView)
    → c.domain ≡ t.domain → work w.found worked → TiesEngine worked.seat c w.left.seat c' → w.left ≡ with_seat w.left.seat worked → Drives work t c t' c'
drives_there work task t t' c c' w worked here works ties rest = record {
  found = w.found;
  worked = worked;
  left = w.left;
  domain = w.may.0 ∙ sym here;
  size = of_station t.first w.found w.may.1;
  works = works;
  ties = ties;
  rest = rest;
  turn = record { took = w.took; takes = w.takes; puts = w.puts };
}

-- and what a turn leaves may lie there as what it found
module _ {N : Type 0} (loads : N → ℕ → N → Type 0) (n n' : N) (v w : ScanView) where
  same_engine : (p : Pace) (r : Result Progress PeriodsExhausted) → MatchResult r (λ a. Paces loads p (at_work n v) a (at_work n' w)) (λ _. FindsExhausted loads (at_work n v) (at_work n' w)) → IsSameEngine v.seat w.seat
  same_engine pace.Step (Ok a) h = h.goes_on.same
  same_engine pace.Answer (Ok a) h = h.goes_on.same
  same_engine pace.Period (Ok a) h = h.same
  same_engine p (Err e) h = (ap (λ (z : EngineView). z.domain) h.seat, ap (λ (z : EngineView). z.processors) h.seat, ap (λ (z : EngineView). z.periods) h.seat)

still : (first : Option ScanView) (v w : ScanView) → IfSome first (λ y. MayLie y v) → IsSameEngine v.seat w.seat → IsTied w.seat → IfSome first (λ y. MayLie y w)
still None v w h same ties = tt
still (Some y) v w h same ties = ((same.0 ∙ h.0.0, same.1 ∙ h.0.1, same.2 ∙ h.0.2), ties)

pub may_stay : {N : Type 0} (loads : N → ℕ → N → Type 0) (t : BaySeatView ScanView) (p : Pace) (v w : ScanView) (c c' : CpuView) (n n' : N) (r : Result Progress PeriodsExhausted)
    → MayLieThere (λ (e : ScanView). e.seat.domain) MayLie t v → Turns loads p v c n r w c' n' → MayLieThere (λ (e : ScanView). e.seat.domain) MayLie t w
may_stay loads t p v w c c' n n' r may turn =
    let first = same_engine loads n n' v turn.worked p r turn.works in
    let covered = turn.ties.covers.step.same in
    let noted = turn.ties.notes in
    let same : IsSameEngine v.seat w.seat = (
      ap (λ (z : EngineView). z.domain) noted ∙ (covered.0 ∙ first.0),
      ap (λ (z : EngineView). z.processors) noted ∙ (covered.1 ∙ first.1),
      ap (λ (z : EngineView). z.periods) noted ∙ (covered.2 ∙ first.2),
    ) in
    (same.0 ∙ may.0, still t.first v w may.1 same turn.tied)

-- where the engine started none, the station says so
pub not_started : (why : engine.NotStarted) (t : BaySeatView ScanView) (c : CpuView) (t' : BaySeatView ScanView) (c' : CpuView) → StartsNone why t c t' c' → IsNotStarted (refusal_of why) t c t' c'
not_started refused.Running t c t' c' h = h
not_started refused.Exhausted t c t' c' h = h
