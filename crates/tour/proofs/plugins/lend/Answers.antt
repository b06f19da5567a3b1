-- The lease answers what it did where it was taken.
use Rattle.std.proofs.Common.{rules}
use Rattle.srcu.proofs.CallerLemmas.{one_plug}
use Rattle.tour.proofs.plugins.lend.Goals as goal

pub returns : goal.returns
returns g c = one_plug c.in_ok-lease.lease.found 7 c.read_and_release-behind.result c.in_ok-lease.before c.read_and_release-behind.ensures.reads (search rules)
