-- The block at the place is gone.
use Rattle.std.proofs.Common.{List, sym, subst}
use Rattle.notify.specs.declared.block.Block.{Block}
use Rattle.notify.specs.Blocks.{Removes}
use Rattle.notify.specs.Insides.{IsKept}
use Rattle.notify.proofs.Inserting.{removed, kept_removed}
use Rattle.notify.proofs.blocks.leave.Goals as goal

pub returns : goal.returns
returns c = record {
  removes = λ id there. subst (λ (l : List Block). Removes id c.args.blocks.now.items l) (sym c.remove.ensures.items) (removed id c.args.place c.args.blocks.now.items there);
  kept = λ ids kept. subst (λ (l : List Block). IsKept ids l) (sym c.remove.ensures.items) (kept_removed ids c.args.place c.args.blocks.now.items c.requires kept);
}
