use Rattle.calls.proofs.Once.{waits_in_order, gives_once, keeps_calls}
use Rattle.calls.proofs.laws.jobs_of_callbacks.Goals as goal

pub returns : goal.returns
returns g c = record { order = waits_in_order; once = gives_once; calls = keeps_calls }
