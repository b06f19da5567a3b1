-- Eight leave, since eight are done.
use Rattle.std.proofs.Common.{◌∙◌}
use Rattle.srcubench.proofs.Passing.{eight_taken}
use Rattle.srcubench.proofs.lists.take_batch.Goals as goal

pub returns : goal.returns
returns c = λ n enough m.
    let eight = eight_taken n _ _ _ c.take_done.ensures.in_order c.take_done.ensures.many enough m in
    (c.len-2.ensures.value ∙ eight.0, eight.1)
