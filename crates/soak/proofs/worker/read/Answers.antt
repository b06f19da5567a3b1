-- Each call leaves the processor in its domain.
use Rattle.soak.proofs.worker.read.Goals as goal

pub returns : goal.returns
returns c = record {
  here = c.read_unlock.ensures.stays _ (c.look_at-sight.ensures.stays _ (c.read_lock.ensures.stays _ c.requires.here));
  cell = c.requires.cell;
  boxes = c.requires.boxes;
  users = c.requires.users;
}
