use Rattle.std.proofs.Common.{arith}
use Rattle.sseq.specs.declared.index.Index.TheVariants.{Zero, One}
use Rattle.sections.proofs.cpu.Cpu.open_here.Goals as goal

pub overflow_add-result : goal.overflow_add-result
overflow_add-result g c = let a = c.self.invariant.limited Zero in let b = c.self.invariant.limited One in let small = c.self.invariant.small in omega (arith, a, b, small)
