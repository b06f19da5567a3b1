-- One more.
use Rattle.srcubench.proofs.Drives.{one_period}
use Rattle.srcubench.proofs.driving.drive_periods.Goals as goal

pub loop-preserved : goal.loop-preserved
loop-preserved g c = record {
  drives = one_period _ _ _ _ c.loop.invariant.drives c.in_ok-drive_period.ensures.drives;
  here = c.drive_period.ensures.here;
}
