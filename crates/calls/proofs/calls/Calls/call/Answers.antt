use Rattle.calls.proofs.Handing.{queued_in_calls, same_pushed}
use Rattle.std.proofs.Common.{sym, ◌∙◌}
use Rattle.calls.proofs.calls.Calls.call.Goals as goal

pub queue-requires : goal.queue-requires
queue-requires g c = record { domain = c.requires.domain ∙ sym c.requires.seat; cpu = c.requires.cpu }

pub returns-clause-queues : goal.returns-clause-queues
returns-clause-queues g c = queued_in_calls c.args.self.now _ _ _ c.queue.result _ _ c.requires.tallies c.queue.ensures

pub returns-clause-same : goal.returns-clause-same
returns-clause-same g c = same_pushed _ _ _ c.queue.result _ _ c.queue.ensures
