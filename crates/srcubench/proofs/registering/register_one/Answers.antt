-- The chain was changed, and a period driven.
use Rattle.std.proofs.Common.{◌∙◌}
use Rattle.srcubench.proofs.registering.register_one.Goals as goal

pub returns-clause-same : goal.returns-clause-same
returns-clause-same c = (c.register.ensures.same.domain ∙ c.requires.chain, c.register.ensures.same.ids)

pub returns-clause-registers : goal.returns-clause-registers
returns-clause-registers c = record { registered = c.register.new.cpu; registers = c.in_ok-register.ensures.registers; drives = c.in_ok-drive_one.ensures.drives }
