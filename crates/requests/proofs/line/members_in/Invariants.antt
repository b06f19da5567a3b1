use Rattle.std.proofs.Common.{length}
use Rattle.requests.specs.Faults.{texts}
use Rattle.requests.proofs.Joining.{AreReadSoFar}
use Rattle.requests.proofs.line.members_in.Given as goal

abbrev pub invariant-loop-left : goal.invariant-loop-left
invariant-loop-left g l = AreReadSoFar (g.S.Scene.scene l.scene) (texts l.fn.words) l.members (texts l.left)

abbrev pub decreases-loop-left : goal.decreases-loop-left
decreases-loop-left g l = length l.left
