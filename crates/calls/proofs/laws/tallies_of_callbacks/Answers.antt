use Rattle.calls.proofs.Forging.{one_history, never_forged}
use Rattle.calls.proofs.laws.tallies_of_callbacks.Goals as goal

pub returns : goal.returns
returns g c = record { history = one_history; forged = never_forged }
