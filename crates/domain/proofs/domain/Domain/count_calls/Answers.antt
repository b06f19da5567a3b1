use Rattle.std.proofs.Common.{◌≡◌, ◌∷◌, List, sym, ap, ◌∙◌, subst}
use Rattle.calls.specs.Tallies as deeds
use Rattle.calls.specs.Views.{CallSeatView}
use Rattle.calls.proofs.CallerLemmas.{begins_on}
use Rattle.domain.specs.Glossary.{CpuView, IsOf, Each, EachBecomes, IsHeard, AreAllThere, CountsCalls}
use Rattle.domain.proofs.Counted.{calls_of_domain, calls_counted, seat_of_loads}
use Rattle.domain.proofs.domain.Domain.count_calls.Goals as goal

pub cover_calls-requires : goal.cover_calls-requires
cover_calls-requires g c =
    let here = subst (λ (z : CpuView _). Each (IsOf c.args.self.now) (z ∷ c.args.others.now)) (sym c.first.view_is) c.requires.here in
    calls_of_domain _ _ _ here

pub admit_calls-requires-clause-tallies : goal.admit_calls-requires-clause-tallies
admit_calls-requires-clause-tallies g c =
    let here = subst (λ (z : CpuView _). Each (IsOf c.args.self.now) (z ∷ c.args.others.now)) (sym c.first.view_is) c.requires.here in
    let same = ap (λ (z : CallSeatView _). z.tallies) (seat_of_loads _ _ c.totals-totals.ensures ∙ ap (λ (z : CallSeatView _). record z { seen = c.totals-totals.new.self.seen }) c.cover_calls.ensures.seat.same) in
    subst (λ (l : List (CpuView _)). Each (λ x. x.calls.tallies ≡ c.totals-totals.new.self.tallies) l) (sym c.cover_calls.ensures.others) (λ k x lt. calls_of_domain _ _ _ here k x lt ∙ sym same)

pub admit_calls-requires-clause-covered : goal.admit_calls-requires-clause-covered
admit_calls-requires-clause-covered g c =
    let adds = c.totals-totals.ensures in
    subst (λ (l : List (CpuView _)). Each (λ x. deeds.IsBeginning x.calls.seen c.totals-totals.new.self.seen) l) (sym c.cover_calls.ensures.others)
    (λ k x lt. begins_on (c.cover_calls.ensures.seat.covers k x lt) (begins_on adds.queued.loads.since adds.finished.loads.since))

pub returns : goal.returns
returns g c =
    let here = subst (λ (z : CpuView _). Each (IsOf c.args.self.now) (z ∷ c.args.others.now)) (sym c.first.view_is) c.requires.here in
    let there = subst (λ (z : CpuView _). AreAllThere c.args.self.now (z ∷ c.args.others.now)) (sym c.first.view_is) c.requires.all in
    let heard = subst (λ (l : List (CpuView _)). EachBecomes (IsHeard c.totals-totals.new.self) l c.admit_calls.new.others) c.cover_calls.ensures.others c.admit_calls.ensures.others in
    let done = calls_counted _ _ _ _ here there _ c.totals-totals.new.self _ _ c.cover_calls.ensures.seat c.totals-totals.ensures heard in
    rw (← c.first.view_is) (subst (λ (z : CallSeatView _).
    CountsCalls c.args.self.now (record { cpu = c.first.inside.cpu; needs = c.first.inside.needs; turn = c.first.inside.turn; calls = c.first.inside.calls } ∷ c.args.others.now) c.totals-totals.result.queued c.totals-totals.result.finished
    (record { cpu = c.first.inside.cpu; needs = c.first.inside.needs; turn = c.first.inside.turn; calls = z } ∷ c.admit_calls.new.others)) (sym c.admit_calls.ensures.seat) done)
