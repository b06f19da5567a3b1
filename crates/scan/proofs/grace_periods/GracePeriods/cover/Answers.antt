use Rattle.std.proofs.Common.{[], ◌∷◌, refl, arith}
use Rattle.sections.specs.declared.view.Step.TheVariants.{LoadIndex}
use Rattle.scan.proofs.PlaceKept.{OnlySees, at_still, rests_still}
use Rattle.scan.proofs.grace_periods.GracePeriods.cover.Goals as goal

pub invariant_of-self : goal.invariant_of-self
invariant_of-self g c =
    let h : OnlySees c.self.inside.seat c.cover.new.self = record {
      same = c.cover.ensures.engine.step.same;
      seen = c.self.invariant.history;
      history = c.cover.ensures.engine.step.history;
      since = c.cover.ensures.engine.step.since;
      changes = c.cover.ensures.engine.step.changes_are;
      extra = LoadIndex c.cover.ensures.engine.value ∷ [];
      steps = c.cover.ensures.engine.step.steps;
      none = refl;
    } in
    let some = c.self.invariant.some in
    let same = h.same.1 in record {
      history = h.history;
      some = omega (arith, some, same);
      place_is = at_still _ _ h c.self.inside.place c.self.invariant.place_is;
    }

pub returns-clause-rest : goal.returns-clause-rest
returns-clause-rest g c =
    let h : OnlySees c.self.inside.seat c.cover.new.self = record {
      same = c.cover.ensures.engine.step.same;
      seen = c.self.invariant.history;
      history = c.cover.ensures.engine.step.history;
      since = c.cover.ensures.engine.step.since;
      changes = c.cover.ensures.engine.step.changes_are;
      extra = LoadIndex c.cover.ensures.engine.value ∷ [];
      steps = c.cover.ensures.engine.step.steps;
      none = refl;
    } in
    rw (← c.self.view_is) (rests_still _ _ h c.self.inside.place)
