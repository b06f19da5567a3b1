use Rattle.std.proofs.Common.{◌≡◌, List, sym, ap, ◌∙◌, subst}
use Rattle.calls.specs.Tallies as deeds
use Rattle.calls.specs.Views.{CallSeatView}
use Rattle.calls.proofs.CallerLemmas.{begins_on}
use Rattle.domain.specs.Glossary.{CpuView, Each, EachBecomes, IsHeard}
use Rattle.domain.proofs.Counted.{accepts_own}
use Rattle.domain.proofs.domain.tallies.meet_calls.Goals as goal

pub cover_calls-requires : goal.cover_calls-requires
cover_calls-requires g c = c.requires

pub admit_calls-requires-clause-tallies : goal.admit_calls-requires-clause-tallies
admit_calls-requires-clause-tallies g c =
    let same = ap (λ (z : CallSeatView _). z.tallies) (accepts_own _ _ _ _ c.cover_calls.ensures.seat c.catch_up.ensures).is in
    subst (λ (l : List (CpuView _)). Each (λ x. x.calls.tallies ≡ c.catch_up.new.self.tallies) l) (sym c.cover_calls.ensures.others) (λ k x lt. c.requires k x lt ∙ sym same)

pub admit_calls-requires-clause-covered : goal.admit_calls-requires-clause-covered
admit_calls-requires-clause-covered g c =
    subst (λ (l : List (CpuView _)). Each (λ x. deeds.IsBeginning x.calls.seen c.catch_up.new.self.seen) l) (sym c.cover_calls.ensures.others)
    (λ k x lt. begins_on (c.cover_calls.ensures.seat.covers k x lt) c.catch_up.ensures.since)

pub returns-clause-seat : goal.returns-clause-seat
returns-clause-seat g c = rw (c.admit_calls.ensures.seat) (accepts_own _ _ _ _ c.cover_calls.ensures.seat c.catch_up.ensures)

pub returns-clause-others : goal.returns-clause-others
returns-clause-others g c = rw (c.admit_calls.ensures.seat) (subst (λ (l : List (CpuView _)). EachBecomes (IsHeard c.catch_up.new.self) l c.admit_calls.new.others) c.cover_calls.ensures.others c.admit_calls.ensures.others)
