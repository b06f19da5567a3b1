use Rattle.std.proofs.Common.{arith}
use Rattle.scan.proofs.PlaceKept.{untouched}
use Rattle.scan.proofs.grace_periods.GracePeriods.new.Goals as goal

pub invariant_of-result : goal.invariant_of-result
invariant_of-result g c =
    let all = c.processors-processors.ensures in
    let some = all.some in
    let count = all.count in record {
      history = all.history;
      some = omega (arith, some, count);
      place_is = untouched c.args.seat all.history c.requires;
    }
