-- One who comes has nothing, and takes the slot where the word is the one that was asked for.
use Rattle.std.proofs.Common.{arith}
use Rattle.mailbox.proofs.Keeping.{enters, claims}
use Rattle.mailbox.proofs.mailbox.take_slot.Goals as goal

pub load_new_seat-seat-requires : goal.load_new_seat-seat-requires
load_new_seat-seat-requires g c = let one = c.requires.top.0 in (omega (arith, one), enters g.T.Posted.fits c.args.top.now.key.key _)

pub compare_exchange-found-requires : goal.compare_exchange-found-requires
compare_exchange-found-requires g c =
    let one = c.requires.top.0 in
    let e = c.load_new_seat-seat.ensures in (
      e.0,
      omega (arith, one),
      claims g.T.Posted.fits c.args.top.now.key.key _ _ _ c.args.from e.1 e.2.0 e.2.1 c.requires.from,
    )
