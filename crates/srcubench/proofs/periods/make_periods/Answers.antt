-- A period more, or the one that was held up.
use Rattle.std.proofs.Common.{◌≡◌, ◌+◌, ◌∙◌, refl, sym, subst, rules, arith}
use Rattle.scan.specs.Progress.{at_work}
use Rattle.srcubench.specs.Periods.{CarriesPeriods, StopsBefore}
use Rattle.srcubench.proofs.Carrying.{none_carried, carried_on, same_after}
use Rattle.srcubench.proofs.periods.make_periods.Goals as goal

pub loop-init : goal.loop-init
loop-init g c = record { carried = none_carried _ c.requires.rests c.requires.new; same = refl }

pub loop-preserved : goal.loop-preserved
loop-preserved g c =
    let one = c.in_ok-make_period.ensures in
    record {
      carried = subst (λ ended. CarriesPeriods (c.loop.counter + 1) (at_work c.args.needs.now c.args.engine.now) ended (at_work c.make_period.new.needs c.make_period.new.engine)) (sym c.completed-ended.ensures)
          (carried_on _ _ _ _ _ _ c.loop.invariant.carried c.loop.invariant.same one);
      same = same_after _ _ _ one ∙ c.loop.invariant.same;
    }

pub returns-in_err-make_period : goal.returns-in_err-make_period
returns-in_err-make_period g c =
    let stops : StopsBefore c.args.periods (at_work c.args.needs.now c.args.engine.now) c.in_err-make_period.field-0.0 (at_work c.make_period.new.needs c.make_period.new.engine) = record {
      made = c.loop.counter;
      fewer = c.loop-test.true;
      ended = c.loop.ended;
      between = at_work c.loop.needs c.loop.engine;
      before = c.loop.invariant.carried;
      held_up = c.in_err-make_period.ensures;
    } in search (rules, stops)

pub returns : goal.returns
returns g c =
    let test = c.loop-test.false in
    let end = c.loop.auto.counter-end in
    let all : c.loop.counter ≡ c.args.periods = omega (arith, test, end) in
    subst (λ n. CarriesPeriods n (at_work c.args.needs.now c.args.engine.now) c.loop.ended (at_work c.loop.needs c.loop.engine)) all c.loop.invariant.carried
