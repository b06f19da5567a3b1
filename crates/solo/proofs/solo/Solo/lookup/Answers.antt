use Rattle.std.proofs.Common.{◌≡◌, refl, ap, ◌∙◌}
use Rattle.solo.proofs.Calling.{Hand, hand_of, in_items, all_stay, lent, of_table, by_lookup, lookup_says, in_its_cell}
use Rattle.solo.proofs.Words.{cell_of, CellView, TableState}
use Rattle.solo.proofs.solo.Solo.lookup.Goals as goal

abbrev view_here : (g : _) (c : goal.After-settle g) → c.board.inside.view.cell ≡ c.args.board.now.writer.cell
view_here g c = ap (λ (v : CellView). v.cell) c.board.invariant ∙ ap (λ (s : TableState). s.writer.cell) c.board.view_is

abbrev hand : (g : _) → goal.After-settle g → Hand g.row.J.Denot
hand g c = hand_of c.args.processor c.lookup-plug.new.cpu c.self.invariant.met c.self.view_is c.requires.processor c.index_mut-cpu.ensures.value c.settle.ensures.all c.settle.ensures.meets

pub index_mut-cpu-requires : goal.index_mut-cpu-requires
index_mut-cpu-requires g c = in_items c.self.invariant.met c.self.view_is c.requires.processor _ c.self.inside.members.cpus.ok.0

pub lookup-plug-requires : goal.lookup-plug-requires
lookup-plug-requires g c = record { cell = in_its_cell c.args.board.now.writer (of_table c.self.invariant.met c.self.view_is c.requires.processor c.index_mut-cpu.ensures.value c.args.self.now.table refl) (c.board.invariant ∙ ap (λ (s : TableState). cell_of s.writer) c.board.view_is) c.requires.current.here c.requires.current.cell.0 }

pub settle-requires : goal.settle-requires
settle-requires g c =
    let kept = by_lookup c.board.inside.view.cell c.args.key c.index_mut-cpu.result.now c.lookup-plug.new.cpu c.lookup-plug.result c.lookup-plug.ensures.looks_up c.lookup-plug.ensures.refused in
    all_stay c.self.invariant.met c.self.view_is c.requires.processor c.index_mut-cpu.ensures.value (c.lookup-plug.ensures.stays _ (lent c.self.invariant.met c.self.view_is c.requires.processor c.index_mut-cpu.ensures.value)) kept.cpu kept.needs

pub invariant_of-self : goal.invariant_of-self
invariant_of-self g c = record { engine = c.settle.ensures.meets.left; met = (lookup_says (hand g c) c.args.board.now c.board.inside.view.cell (view_here g c) c.requires.current c.args.key c.lookup-plug.result c.lookup-plug.ensures.looks_up c.lookup-plug.ensures.refused).met }

pub returns : goal.returns
returns g c = let it = lookup_says (hand g c) c.args.board.now c.board.inside.view.cell (view_here g c) c.requires.current c.args.key c.lookup-plug.result c.lookup-plug.ensures.looks_up c.lookup-plug.ensures.refused in record { same = it.same; visits = it.what.0; plug = it.what.1 }
