use Rattle.std.proofs.Common.{arith}
use Rattle.scan.proofs.PlaceKept.{OnlySees, ties_only, at_still, rests_still}
use Rattle.scan.proofs.grace_periods.GracePeriods.tie.Goals as goal

pub invariant_of-self : goal.invariant_of-self
invariant_of-self g c =
    let h : OnlySees c.self.inside.seat c.tie.new.self = ties_only _ _ _ _ c.self.invariant.history c.tie.ensures.ties in
    let some = c.self.invariant.some in
    let same = h.same.1 in record {
      history = h.history;
      some = omega (arith, some, same);
      place_is = at_still _ _ h c.self.inside.place c.self.invariant.place_is;
    }

pub returns-clause-rest : goal.returns-clause-rest
returns-clause-rest g c =
    let h : OnlySees c.self.inside.seat c.tie.new.self = ties_only _ _ _ _ c.self.invariant.history c.tie.ensures.ties in
    rw (← c.self.view_is) (rests_still _ _ h c.self.inside.place)
