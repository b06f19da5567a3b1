use Rattle.onedom.proofs.Lawful.{each_may_follow, one_more, beginnings_are_legal}
use Rattle.onedom.proofs.laws.legality_of_histories.Goals as goal

pub returns : goal.returns
returns c = record { each = each_may_follow; one_more = one_more; beginnings = beginnings_are_legal }
