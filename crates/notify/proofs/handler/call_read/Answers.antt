-- No block has another id than those of the handlers.
use Rattle.notify.proofs.Reading.{known_ids}
use Rattle.notify.proofs.handler.call_read.Goals as goal

pub call_all-requires : goal.call_all-requires
call_all-requires g c = known_ids _ _ _ _ c.requires.handlers c.read.ensures
