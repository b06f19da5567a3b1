use Rattle.calls.proofs.Forging.{stays_queued, stays_finished, barriers_cover}
use Rattle.calls.proofs.laws.barriers_of_callbacks.Goals as goal

pub returns : goal.returns
returns g c = record { queued = stays_queued; finished = stays_finished; covers = barriers_cover }
