-- All are made, since there is room for all.
use Rattle.srcubench.proofs.Rooms.{all_made}
use Rattle.srcubench.proofs.pairs.make_all_pairs.Goals as goal

pub returns : goal.returns
returns c =
    let made = c.make_pairs-made.ensures.made in
    let all = all_made _ _ _ _ c.requires made c.make_pairs-made.ensures.all in
    record { all = all; pairs_made = rw all.all at made }
