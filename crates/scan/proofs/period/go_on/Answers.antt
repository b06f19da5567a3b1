use Rattle.std.proofs.Common.{arith}
use Rattle.scan.proofs.RowsOfSteps.{goes, until_same}
use Rattle.scan.proofs.Asked.{goes_idle, goes_wanted, goes_started}
use Rattle.scan.proofs.period.go_on.Goals as goal

pub returns-in_default-2-clause-goes : goal.returns-in_default-2-clause-goes
returns-in_default-2-clause-goes g c =
    let own = c.requires in
    goes_idle g.N.Needs.loads c.args.seat.now own.some own.history c.args.place.now c.in-Idle.is own.place_is _ _ c.in_ok-need-in-Idle.field-0 c.in_ok-need-in-Idle.ensures c.args.once c.in_default-2.is

pub returns-then-once-clause-goes : goal.returns-then-once-clause-goes
returns-then-once-clause-goes g c =
    let own = c.requires in
    goes_wanted g.N.Needs.loads c.args.seat.now own.some own.history c.args.place.now c.in-Idle.is own.place_is _ _ c.in_ok-need-in-Idle.field-0 c.in_ok-need-in-Idle.ensures c.args.once c.in-Some.need c.if-once.true c.in-Some.is

pub returns-else-once-clause-goes : goal.returns-else-once-clause-goes
returns-else-once-clause-goes g c =
    let own = c.requires in
    goes_started g.N.Needs.loads c.args.seat.now own.some own.history c.args.place.now c.in-Idle.is own.place_is _ _ c.in_ok-need-in-Idle.field-0
    c.in_ok-need-in-Idle.ensures c.args.once c.in-Some.need _ _ c.if-once.false c.in-Some.is c.add_start-started.ensures.event c.add_start-started.ensures.number

pub returns-in_default : goal.returns-in_default
returns-in_default g c =
    let m = c.move_on-next.ensures in
    let some = c.requires.some in
    let same = until_same _ _ _ _ _ _ m in record {
      ready = record { history = m.answers.history; some = omega (arith, some, same); place_is = m.answers.place_is };
      goes = goes g.N.Needs.loads c.args.needs.now _ _ _ _ _ _ some c.in_default.not-Idle c.requires.history c.requires.place_is m;
    }
