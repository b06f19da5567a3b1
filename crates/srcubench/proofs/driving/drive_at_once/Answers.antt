-- One turn, with the answer that comes last.
use Rattle.srcubench.proofs.driving.drive_at_once.Goals as goal

pub returns-in-Ok-Ended-clause-drives : goal.returns-in-Ok-Ended-clause-drives
returns-in-Ok-Ended-clause-drives g c =
    let ends = rw c.in-Ok-Ended.field-0-is at c.in-Ok-Ended.ensures.drives in record {
      asked = c.start_poll.new.cpu;
      cookie = c.start_poll.result;
      at_end = _;
      asks = c.start_poll.ensures.starts;
      ends = ends;
    }
