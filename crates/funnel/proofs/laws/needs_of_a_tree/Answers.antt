use Rattle.funnel.proofs.Climbing.{needs_climb}
use Rattle.funnel.proofs.Asked.{holds_what_was_asked, root_has_greatest}
use Rattle.funnel.proofs.laws.needs_of_a_tree.Goals as goal

pub returns : goal.returns
returns c = record { climb = needs_climb; root = root_has_greatest; asked = holds_what_was_asked }
