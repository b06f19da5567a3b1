use Rattle.std.proofs.Common.{sym, ◌∙◌}
use Rattle.domain.proofs.domain.loads.load_sums.Goals as goal

pub load_row-begun-requires-clause-all : goal.load_row-begun-requires-clause-all
load_row-begun-requires-clause-all g c = c.requires.all ∙ sym c.load_row-ended.ensures.loads.same.1

pub returns : goal.returns
returns g c = record { middle = c.load_row-ended.new.cpu; unlocks = c.load_row-ended.ensures; locks = c.load_row-begun.ensures }
