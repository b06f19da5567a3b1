-- A write adds the next bytes to those that are written.
use Rattle.std.proofs.Common.{rules}
use Rattle.lines.proofs.Writing.{Appends-next}
use Rattle.lines.proofs.output.write_all.Goals as goal

pub loop-done-preserved : goal.loop-done-preserved
loop-done-preserved g c = record {
  within = search rules;
  wrote = Appends-next _ _ _ _ _ _ c.loop-done.invariant.wrote c.in-Ok.ensures.bytes;
}
