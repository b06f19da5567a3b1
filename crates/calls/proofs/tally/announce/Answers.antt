use Rattle.calls.proofs.Seating.{some_words}
use Rattle.calls.proofs.Sharing.{announces}
use Rattle.calls.proofs.tally.announce.Goals as goal

pub split_seat-requires : goal.split_seat-requires
split_seat-requires g c = (c.requires.placed.seated, some_words _ _ _ c.requires.placed.wide c.requires.rests.there, announces _ _ _ c.args.processor _ g.N.Calling.call c.requires.call c.requires.rests.who c.requires.rests.no_list)
