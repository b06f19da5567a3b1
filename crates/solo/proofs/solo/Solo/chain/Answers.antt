use Rattle.std.proofs.Common.{◌≡◌, refl, ap, ◌∙◌}
use Rattle.solo.proofs.Calling.{Hand, hand_of, in_items, all_stay, lent, of_table, by_ids, ids_says, in_its_cell}
use Rattle.solo.proofs.Words.{cell_of, ChainState, ChainCell}
use Rattle.solo.proofs.solo.Solo.chain.Goals as goal

abbrev view_here : (g : _) (c : goal.After-settle g) → c.notifier.inside.view ≡ record { place = cell_of c.args.notifier.now.writer; ids = c.args.notifier.now.ids }
view_here g c = c.notifier.invariant ∙ (λ i. record { place = cell_of (c.notifier.view_is i).writer; ids = (c.notifier.view_is i).ids })

abbrev hand : (g : _) → goal.After-settle g → Hand g.row.J.Denot
hand g c = hand_of c.args.processor c.ids-ids.new.cpu c.self.invariant.met c.self.view_is c.requires.processor c.index_mut-cpu.ensures.value c.settle.ensures.all c.settle.ensures.meets

pub index_mut-cpu-requires : goal.index_mut-cpu-requires
index_mut-cpu-requires g c = in_items c.self.invariant.met c.self.view_is c.requires.processor _ c.self.inside.members.cpus.ok.0

pub ids-ids-requires : goal.ids-ids-requires
ids-ids-requires g c = in_its_cell c.args.notifier.now.writer (of_table c.self.invariant.met c.self.view_is c.requires.processor c.index_mut-cpu.ensures.value c.args.self.now.table refl) (ap (λ (v : ChainCell). v.place) c.notifier.invariant ∙ ap (λ (s : ChainState). cell_of s.writer) c.notifier.view_is) c.requires.current.here c.requires.current.cell.0

pub settle-requires : goal.settle-requires
settle-requires g c =
    let kept = by_ids c.notifier.inside.view c.index_mut-cpu.result.now c.ids-ids.new.cpu c.ids-ids.result c.ids-ids.ensures.lists in
    all_stay c.self.invariant.met c.self.view_is c.requires.processor c.index_mut-cpu.ensures.value (c.ids-ids.ensures.stays _ (lent c.self.invariant.met c.self.view_is c.requires.processor c.index_mut-cpu.ensures.value)) kept.cpu kept.needs

pub invariant_of-self : goal.invariant_of-self
invariant_of-self g c = record { engine = c.settle.ensures.meets.left; met = (ids_says (hand g c) c.args.notifier.now c.notifier.inside.view (view_here g c) c.requires.current c.ids-ids.result c.ids-ids.ensures.lists).met }

pub returns : goal.returns
returns g c = let it = ids_says (hand g c) c.args.notifier.now c.notifier.inside.view (view_here g c) c.requires.current c.ids-ids.result c.ids-ids.ensures.lists in record { same = it.same; visits = it.what.0; lists = it.what.1 }
