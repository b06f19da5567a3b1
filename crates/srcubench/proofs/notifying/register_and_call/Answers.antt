-- The chain was registered in the writer's cell.
use Rattle.std.proofs.Common.{All, sym, ap, ◌∙◌, subst, arith}
use Rattle.std.proofs.lemmas.Result.{IfOk-weaker}
use Rattle.domain.specs.Views.{CpuView}
use Rattle.shelf.specs.Cells.{CellView, IsCellIn}
use Rattle.notify.specs.Chains.{ChainState, ChainCell}
use Rattle.srcubench.proofs.Chained.{registers_and_calls}
use Rattle.srcubench.proofs.notifying.register_and_call.Goals as goal

pub register_all-requires-clause-chain : goal.register_all-requires-clause-chain
register_all-requires-clause-chain g c = ap (λ (s : ChainState). s.writer.domain) c.new-chain.ensures.chain ∙ c.requires.writer

pub register_all-requires-clause-ids : goal.register_all-requires-clause-ids
register_all-requires-clause-ids g c = let ids = ap (λ (s : ChainState). s.ids) c.new-chain.ensures.chain in omega (arith, ids)

pub time_calls-requires-clause-cell : goal.time_calls-requires-clause-cell
time_calls-requires-clause-cell g c κs lives =
    let place = ap (λ (v : ChainCell). v.place) c.new-chain.ensures.view in
    subst (λ (z : CellView). All (λ (x : CpuView (Unit {0})). IsCellIn x.cpu.domain z) c.args.cpus.items) (sym place) c.requires.cell

pub time_calls-requires-clause-ids : goal.time_calls-requires-clause-ids
time_calls-requires-clause-ids g c κs lives = ap (λ (v : ChainCell). v.ids) c.new-chain.ensures.view

pub returns-clause-called : goal.returns-clause-called
returns-clause-called g c = IfOk-weaker c.time_calls.result _ _ (λ _ each. registers_and_calls _ _ _ _ _ _ _ _ _ c.new-chain.ensures.chain c.in_ok-register_all.ensures.registers c.new-chain.ensures.view each) c.time_calls.ensures.called
