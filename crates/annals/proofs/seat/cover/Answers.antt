use Rattle.std.proofs.Common.{◌∙◌}
use Rattle.annals.proofs.Steps.{finds_all}
use Rattle.annals.proofs.seat.cover.Goals as goal

pub load-requires : goal.load-requires
load-requires g c = (c.tell.ensures.table ∙ c.requires.first.seated, c.requires.word, finds_all g.P.Chronicle.client c.args.top.now.key _ _ _ _)
