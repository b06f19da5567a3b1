-- So far as many jobs were queued as there were rounds.
use Rattle.domain.specs.Views.{IsOf}
use Rattle.srcubench.specs.Calling.{QueuesAll}
use Rattle.srcubench.proofs.calling.queue_all.Given as goal

abbrev pub invariant-loop-job : goal.invariant-loop-job
invariant-loop-job g l = record {
  queues : QueuesAll l.domain l.job l.initial.cpu l.cpu;
  here : IsOf l.domain l.cpu;
}
