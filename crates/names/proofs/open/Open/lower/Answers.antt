use Rattle.std.proofs.Common.{ap, ◌∙◌, arith}
use Rattle.sseq.specs.declared.index.Index.TheVariants.{Zero, One}
use Rattle.sseq.specs.Indexes.{same_index}
use Rattle.names.specs.OpenSections.{is_index}
use Rattle.names.proofs.open.Open.lower.Goals as goal

pub overflow_sub-self : goal.overflow_sub-self
overflow_sub-self c = let some = c.requires Zero (ap (is_index Zero) c.in-Some.is ∙ ap (λ j. same_index j Zero) c.in-Zero.is) in omega (arith, some)

pub overflow_sub-self-in-One : goal.overflow_sub-self-in-One
overflow_sub-self-in-One c = let some = c.requires One (ap (is_index One) c.in-Some.is ∙ ap (λ j. same_index j One) c.in-One.is) in omega (arith, some)
