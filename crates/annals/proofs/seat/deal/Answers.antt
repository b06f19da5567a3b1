use Rattle.annals.proofs.Sharing.{deals}
use Rattle.annals.proofs.seat.deal.Goals as goal

pub split_seat-requires : goal.split_seat-requires
split_seat-requires g c = (c.requires.seat.seated, c.requires.seat.some, deals g.P.Chronicle.client c.args.top.now.key _ _ _ c.requires.dealer c.requires.may)
