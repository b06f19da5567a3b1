-- The plug was installed, and a period driven.
use Rattle.std.proofs.Common.{◌∙◌}
use Rattle.srcubench.proofs.installing.install_one.Goals as goal

pub returns-clause-same : goal.returns-clause-same
returns-clause-same c = c.install.ensures.same.0 ∙ c.requires.table

pub returns-clause-installs : goal.returns-clause-installs
returns-clause-installs c = record { version = _; installed = c.install.new.cpu; installs = c.in_ok-install.ensures.installs; drives = c.in_ok-drive_one.ensures.drives }
