-- So far as many sections were as there were rounds, on the same processor.
use Rattle.sections.specs.Calls.{IsSameCpu}
use Rattle.srcubench.specs.Finding.{FindsOften}
use Rattle.srcubench.proofs.finding.find_often.Given as goal

abbrev pub invariant-loop-found : goal.invariant-loop-found
invariant-loop-found g l = record {
  finds : FindsOften l.fn.words l.found l.initial.cpu l.cpu;
  same : IsSameCpu l.initial.cpu l.cpu;
}
