use Rattle.std.proofs.Common.{◌∙◌}
use Rattle.annals.proofs.Steps.{admits}
use Rattle.annals.proofs.seat.admit.Goals as goal

pub load-requires : goal.load-requires
load-requires g c = (
  c.tell.ensures.table ∙ c.requires.first.seated,
  c.requires.word,
  admits g.P.Chronicle.client c.args.top.now.key _ _ _ _ (rw c.tell.ensures.told c.requires.covered),
)
