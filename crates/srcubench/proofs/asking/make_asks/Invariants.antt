-- So far as many calls were made as there were rounds.
use Rattle.funnel.specs.Calls.{IsOfProcessor}
use Rattle.srcubench.specs.Asking.{AsksAll}
use Rattle.srcubench.proofs.asking.make_asks.Given as goal

abbrev pub invariant-loop-asked : goal.invariant-loop-asked
invariant-loop-asked g l = record {
  calls : AsksAll l.new l.asked l.initial.needs l.needs;
  seat : IsOfProcessor l.needs;
}
