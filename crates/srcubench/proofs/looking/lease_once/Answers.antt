-- The lease was taken here, read and released.
use Rattle.std.proofs.Common.{ap, ◌∙◌, subst}
use Rattle.sections.specs.Calls.{Unlocks}
use Rattle.plugs.specs.Views.{LeaseView}
use Rattle.srcubench.proofs.Tabled.{lease_here, still_there}
use Rattle.srcubench.proofs.looking.lease_once.Goals as goal

pub get-plug-requires : goal.get-plug-requires
get-plug-requires c = record { here = lease_here _ _ _ _ c.in_ok-lease.ensures.leases }

pub release-requires : goal.release-requires
release-requires c = ap (λ (l : LeaseView). l.held.domain) c.get-plug.ensures.same ∙ still_there _ _ _ _ _ _ _ c.in_ok-lease.ensures.leases c.get-plug.ensures.gets

pub returns : goal.returns
returns c = record {
  lease = c.in_ok-lease.lease;
  leased = c.lease.new.cpu;
  read = c.get-plug.new.cpu;
  leases = c.in_ok-lease.ensures.leases;
  gets = c.get-plug.ensures.gets;
  ends = subst (λ (l : LeaseView). Unlocks l.held c.get-plug.new.cpu.cpu c.release.new.cpu.cpu) c.get-plug.ensures.same c.release.ensures.ends;
}
