-- The chain has four ids still.
use Rattle.std.proofs.Common.{◌∙◌, arith}
use Rattle.srcubench.proofs.registering.time_changes.Goals as goal

pub register_all-requires-clause-ids : goal.register_all-requires-clause-ids
register_all-requires-clause-ids g c = let ids = c.requires.ids in omega (arith, ids)

pub change_often-requires-clause-ids : goal.change_often-requires-clause-ids
change_often-requires-clause-ids g c = c.register_all.ensures.same.1 ∙ c.requires.ids

pub returns-clause-changes : goal.returns-clause-changes
returns-clause-changes g c = record {
  chain = c.register_all.new.chain;
  cpu = c.register_all.new.cpu;
  registers = c.in_ok-register_all.ensures.registers;
  changes = c.in_ok-change_often.ensures;
}
