-- The new version has the words of the number.
use Rattle.tour.proofs.updaters.replace.Goals as goal

pub returns : goal.returns
returns g c = record {
  between = c.replace.new.self.cpu;
  cookie = c.in_ok-replace.field-0;
  replaces = rw c.new.ensures at c.in_ok-replace.ensures.replaces;
  waits = c.in_ok-synchronize.ensures.closed;
}
