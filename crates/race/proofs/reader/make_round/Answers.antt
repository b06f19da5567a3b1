-- The lease was asked, and that very one was laid down.
use Rattle.std.proofs.Common.{Some, subst}
use Rattle.race.proofs.Words.{Swaps, LeaseView}
use Rattle.race.proofs.reader.make_round.Goals as goal

pub returns-clause-round : goal.returns-clause-round
returns-clause-round g c = record {
  lease = c.open-lease.result;
  leased = c.open-lease.new.reader;
  leases = c.open-lease.ensures.leases;
  asked = c.read.new.reader;
  asks = c.read.ensures.asks;
  found = c.hand_on-found.result;
  handed = c.hand_on-found.new.reader;
  lays = subst (λ (l : LeaseView). Swaps c.read.new.reader.seat (Some l) c.hand_on-found.result c.hand_on-found.new.reader.seat) c.read.ensures.lease c.hand_on-found.ensures.lays;
  releases = c.close.ensures;
}
