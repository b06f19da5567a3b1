-- Its section is closed again.
use Rattle.srcu.proofs.Keeping.{none_read}
use Rattle.srcu.proofs.worker.Worker.get.Goals as goal

pub invariant_of-self-2 : goal.invariant_of-self-2
invariant_of-self-2 g c = record {
  here = c.read_unlock.ensures.stays _ (c.read-value.ensures.stays _ (c.in_ok-reading.ensures.stays _ c.self.invariant.here));
  closed = none_read _ _ c.self.inside.cpu c.read_lock.new.self c.read-value.new.cpu c.read_unlock.new.self _ _ _ c.in_ok-reading.ensures.locks c.read-value.ensures.reads c.read-value.ensures.reading c.read_unlock.ensures.ends c.self.invariant.closed;
}
