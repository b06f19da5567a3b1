use Rattle.funnel.proofs.Forging.{one_history, never_forged}
use Rattle.funnel.proofs.laws.tree_of_a_funnel.Goals as goal

pub returns : goal.returns
returns c = record { history = one_history; forged = never_forged }
