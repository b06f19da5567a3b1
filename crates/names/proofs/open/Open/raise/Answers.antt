use Rattle.std.proofs.Common.{arith}
use Rattle.sseq.specs.declared.index.Index.TheVariants.{Zero, One}
use Rattle.names.proofs.open.Open.raise.Goals as goal

pub overflow_add-self : goal.overflow_add-self
overflow_add-self c = let small = c.requires Zero in omega (arith, small)

pub overflow_add-self-in-One : goal.overflow_add-self-in-One
overflow_add-self-in-One c = let small = c.requires One in omega (arith, small)
