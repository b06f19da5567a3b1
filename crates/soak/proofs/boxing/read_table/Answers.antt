-- Each call leaves the processor in its domain, and the boxes are the same.
use Rattle.soak.proofs.boxing.read_table.Goals as goal

pub returns : goal.returns
returns c = record {
  here = c.read_unlock.ensures.stays _ (c.find_table-reading.ensures.stays _ (c.read_lock.ensures.stays _ c.requires.here));
  cell = c.requires.cell;
  boxes = rw c.find_table-reading.ensures.boxes c.requires.boxes;
  users = c.requires.users;
}
