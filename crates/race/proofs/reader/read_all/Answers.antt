-- One round more was made.
use Rattle.std.proofs.Common.{◌∙◌}
use Rattle.race.proofs.Rounds.{one_read}
use Rattle.race.proofs.reader.read_all.Goals as goal

pub loop-round-preserved : goal.loop-round-preserved
loop-round-preserved g c =
    let so_far = c.loop-round.invariant in record {
      made = c.make_round.ensures.made;
      rounds = one_read c.args.course.now c.loop-round.round c.args.reader c.loop-round.reader c.make_round.new.reader so_far.rounds c.make_round.ensures.round;
      same = c.make_round.ensures.same ∙ so_far.same;
    }
