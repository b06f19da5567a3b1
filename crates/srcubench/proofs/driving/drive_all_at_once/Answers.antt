-- One more.
use Rattle.srcubench.proofs.Drives.{one_drive}
use Rattle.srcubench.proofs.driving.drive_all_at_once.Goals as goal

pub loop-preserved : goal.loop-preserved
loop-preserved g c = record {
  drives = one_drive _ _ _ _ c.loop.invariant.drives c.in_ok-drive_at_once.ensures.drives;
  here = c.drive_at_once.ensures.here;
}
