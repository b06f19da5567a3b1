use Rattle.std.proofs.Common.{◌≡◌, refl, ap, ◌∙◌}
use Rattle.solo.proofs.Calling.{Hand, hand_of, in_items, all_stay, lent, of_table, by_lease, lease_says, in_its_cell}
use Rattle.solo.proofs.Words.{cell_of, CellView, TableState}
use Rattle.solo.proofs.solo.Solo.lease.Goals as goal

abbrev view_here : (g : _) (c : goal.After-settle g) → c.board.inside.view.cell ≡ c.args.board.now.writer.cell
view_here g c = ap (λ (v : CellView). v.cell) c.board.invariant ∙ ap (λ (s : TableState). s.writer.cell) c.board.view_is

abbrev hand : (g : _) → goal.After-settle g → Hand g.row.J.Denot
hand g c = hand_of c.args.processor c.lease-lease.new.cpu c.self.invariant.met c.self.view_is c.requires.processor c.index_mut-cpu.ensures.value c.settle.ensures.all c.settle.ensures.meets

pub index_mut-cpu-requires : goal.index_mut-cpu-requires
index_mut-cpu-requires g c = in_items c.self.invariant.met c.self.view_is c.requires.processor _ c.self.inside.members.cpus.ok.0

pub lease-lease-requires : goal.lease-lease-requires
lease-lease-requires g c = record { cell = in_its_cell c.args.board.now.writer (of_table c.self.invariant.met c.self.view_is c.requires.processor c.index_mut-cpu.ensures.value c.args.self.now.table refl) (c.board.invariant ∙ ap (λ (s : TableState). cell_of s.writer) c.board.view_is) c.requires.current.here c.requires.current.cell.0 }

pub settle-requires : goal.settle-requires
settle-requires g c =
    let kept = by_lease c.board.inside.view.cell c.index_mut-cpu.result.now c.lease-lease.new.cpu c.lease-lease.result c.lease-lease.ensures.leases c.lease-lease.ensures.refused in
    all_stay c.self.invariant.met c.self.view_is c.requires.processor c.index_mut-cpu.ensures.value (c.lease-lease.ensures.stays _ (lent c.self.invariant.met c.self.view_is c.requires.processor c.index_mut-cpu.ensures.value)) kept.cpu kept.needs

pub invariant_of-self : goal.invariant_of-self
invariant_of-self g c = record { engine = c.settle.ensures.meets.left; met = (lease_says (hand g c) c.args.board.now c.board.inside.view.cell (view_here g c) c.requires.current c.lease-lease.result c.lease-lease.ensures.leases c.lease-lease.ensures.refused).met }

pub returns : goal.returns
returns g c = let it = lease_says (hand g c) c.args.board.now c.board.inside.view.cell (view_here g c) c.requires.current c.lease-lease.result c.lease-lease.ensures.leases c.lease-lease.ensures.refused in record { same = it.same; leases = it.what.0; rows = it.what.1 }
