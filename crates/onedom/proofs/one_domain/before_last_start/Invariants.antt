use Rattle.onedom.proofs.Periods.{IsLastStart}
use Rattle.onedom.proofs.one_domain.before_last_start.Given as goal

abbrev pub invariant-loop-i : goal.invariant-loop-i
invariant-loop-i l = IsLastStart l.start l.i l.history
