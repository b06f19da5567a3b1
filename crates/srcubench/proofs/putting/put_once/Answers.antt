-- The value was put, and a period driven.
use Rattle.std.proofs.Common.{◌∙◌}
use Rattle.srcubench.proofs.putting.put_once.Goals as goal

pub returns-clause-shelf : goal.returns-clause-shelf
returns-clause-shelf g c = c.replace.ensures.same.0 ∙ c.requires.shelf

pub returns-clause-puts : goal.returns-clause-puts
returns-clause-puts g c = record { put = c.replace.new.cpu; cookie = _; replaces = c.in_ok-replace.ensures.replaces; drives = c.in_ok-drive_period.ensures.drives }
