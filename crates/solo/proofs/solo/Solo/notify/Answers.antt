use Rattle.std.proofs.Common.{◌≡◌, refl, ap, ◌∙◌, arith}
use Rattle.solo.proofs.Calling.{Hand, hand_of, in_items, all_stay, lent, of_table, by_calling, call_says as handlers_say, in_its_cell}
use Rattle.solo.proofs.Words.{cell_of, ChainState, ChainCell}
use Rattle.solo.proofs.solo.Solo.notify.Goals as goal

abbrev view_here : (g : _) (c : goal.After-settle g) → c.notifier.inside.view ≡ record { place = cell_of c.args.notifier.now.writer; ids = c.args.notifier.now.ids }
view_here g c = c.notifier.invariant ∙ (λ i. record { place = cell_of (c.notifier.view_is i).writer; ids = (c.notifier.view_is i).ids })

abbrev hand : (g : _) → goal.After-settle g → Hand g.row.J.Denot
hand g c = hand_of c.args.processor c.call_chain-answer.new.cpu c.self.invariant.met c.self.view_is c.requires.processor c.index_mut-cpu.ensures.value c.settle.ensures.all c.settle.ensures.meets

pub index_mut-cpu-requires : goal.index_mut-cpu-requires
index_mut-cpu-requires g c = in_items c.self.invariant.met c.self.view_is c.requires.processor _ c.self.inside.members.cpus.ok.0

pub call_chain-answer-requires-clause-cell : goal.call_chain-answer-requires-clause-cell
call_chain-answer-requires-clause-cell g c = in_its_cell c.args.notifier.now.writer (of_table c.self.invariant.met c.self.view_is c.requires.processor c.index_mut-cpu.ensures.value c.args.self.now.table refl) (ap (λ (v : ChainCell). v.place) c.notifier.invariant ∙ ap (λ (s : ChainState). cell_of s.writer) c.notifier.view_is) c.requires.current.here c.requires.current.cell.0

pub call_chain-answer-requires-clause-handlers : goal.call_chain-answer-requires-clause-handlers
call_chain-answer-requires-clause-handlers g c =
    let enough = c.requires.handlers in
    let is = ap (λ (v : ChainCell). v.ids) c.notifier.invariant in
    let ids = ap (λ (s : ChainState). s.ids) c.notifier.view_is in omega (arith, enough, is, ids)

pub settle-requires : goal.settle-requires
settle-requires g c =
    let kept = by_calling _ c.notifier.inside.view c.index_mut-cpu.result.now c.call_chain-answer.new.cpu c.call_chain-answer.result c.call_chain-answer.ensures.calls in
    all_stay c.self.invariant.met c.self.view_is c.requires.processor c.index_mut-cpu.ensures.value (c.call_chain-answer.ensures.stays _ (lent c.self.invariant.met c.self.view_is c.requires.processor c.index_mut-cpu.ensures.value)) kept.cpu kept.needs

pub invariant_of-self : goal.invariant_of-self
invariant_of-self g c = record { engine = c.settle.ensures.meets.left; met = (handlers_say (hand g c) c.args.notifier.now c.notifier.inside.view (view_here g c) c.requires.current _ c.call_chain-answer.result c.call_chain-answer.ensures.calls).met }

pub returns : goal.returns
returns g c = let it = handlers_say (hand g c) c.args.notifier.now c.notifier.inside.view (view_here g c) c.requires.current _ c.call_chain-answer.result c.call_chain-answer.ensures.calls in record { same = it.same; visits = it.what.0; answers = it.what.1 }
