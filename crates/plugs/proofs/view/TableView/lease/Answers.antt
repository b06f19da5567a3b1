-- The section began, and found the version.
use Rattle.std.proofs.Common.{true, refl}
use Rattle.sections.specs.Reads.{Finds}
use Rattle.domain.specs.Views.{with_cpu}
use Rattle.domain.proofs.CallerLemmas.{find_acts}
use Rattle.plugs.proofs.Fresh.{not_older_than_seen}
use Rattle.plugs.proofs.view.TableView.lease.Goals as goal

pub returns-clause-leases : goal.returns-clause-leases
returns-clause-leases g c =
    let held = c.find_held.ensures.section in
    let downs = c.in-Ok.ensures.downs in
    let finds : Finds c.args.self.now.cell c.in-Ok.held c.down_read.new.self.cpu c.find_held.new.self c.find_held.result.found = rw (← c.self.view_is) (rw c.deref_mut.ensures.shows at c.find_held.ensures.finds) in
    rw (c.of_pin.ensures, held) (record {
      begun = c.down_read.new.self;
      downs = downs;
      acts = c.in-Ok.ensures.acts;
      finds = finds;
      looks = find_acts c.down_read.new.self (with_cpu c.find_held.new.self c.down_read.new.self) refl finds;
      not_older = not_older_than_seen true c.args.self.now.cell _ _ _ c.in-Ok.held c.find_held.result.found downs finds;
    })
