-- The chain was changed, and a period driven.
use Rattle.std.proofs.Common.{◌∙◌}
use Rattle.srcubench.proofs.registering.unregister_one.Goals as goal

pub returns-clause-same : goal.returns-clause-same
returns-clause-same c = (c.unregister.ensures.same.domain ∙ c.requires.chain, c.unregister.ensures.same.ids)

pub returns-clause-unregisters : goal.returns-clause-unregisters
returns-clause-unregisters c = record { unregistered = c.unregister.new.cpu; unregisters = c.in_ok-unregister.ensures.unregisters; drives = c.in_ok-drive_one.ensures.drives }
