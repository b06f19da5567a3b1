-- The section was held, so its end closes no reading. The processor is the same.
use Rattle.std.proofs.Common.{subst}
use Rattle.sections.specs.Views.{ReadingView}
use Rattle.sections.specs.Calls.{Unlocks}
use Rattle.registry.proofs.Closing.{none_given}
use Rattle.registry.proofs.Staying.{cell_given}
use Rattle.registry.proofs.users.Users.give_back.Goals as goal

pub returns-clause-gives : goal.returns-clause-gives
returns-clause-gives g c = record {
  released = c.release-held.new.cpu.cpu;
  catches = c.release-held.ensures.catches;
  ends = subst (λ (r : ReadingView). Unlocks r c.release-held.new.cpu.cpu c.up_read.new.self.cpu) c.release-held.ensures.section c.up_read.ensures.ends;
}

pub returns-clause-cell : goal.returns-clause-cell
returns-clause-cell g c = cell_given c.args.self.now.boxes c.args.used.pin c.args.cpu.now.cpu c.up_read.new.self.cpu (returns-clause-gives g c) c.requires.cell

pub returns-clause-still_none : goal.returns-clause-still_none
returns-clause-still_none g c = none_given c.args.used.pin c.args.cpu.now c.up_read.new.self (returns-clause-gives g c)
