-- One more.
use Rattle.std.proofs.Common.{sym, ◌∙◌, arith}
use Rattle.srcubench.proofs.Rooms.{held_domain, one_load, another_held}
use Rattle.srcubench.proofs.held.make_held_pairs.Goals as goal

pub up_read-requires : goal.up_read-requires
up_read-requires g c =
    let inv = c.loop-made.invariant.pairs in
    held_domain c.loop-made.first c.loop-made.second c.down_read.new.self c.loop-made.second c.in-Ok.held c.in-Ok.ensures ∙ (inv.first.0 ∙ (sym c.requires ∙ sym inv.second.0))

pub loop-made-preserved : goal.loop-made-preserved
loop-made-preserved g c =
    let before = c.loop-made.invariant.steps in
    let one = one_load c.loop-made.first c.loop-made.second c.down_read.new.self c.up_read.new.self c.in-Ok.held c.in-Ok.ensures in record {
      pairs = another_held c.loop-made.first c.loop-made.second c.down_read.new.self c.up_read.new.self c.in-Ok.held c.in-Ok.ensures c.loop-made.made c.args.first.now c.args.second.now c.up_read.ensures.ends c.loop-made.invariant.pairs;
      steps = omega (arith, before, one);
    }
