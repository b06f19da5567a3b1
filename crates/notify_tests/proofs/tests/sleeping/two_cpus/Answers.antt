-- The chain has the writer, and its view that writer's cell.
use Rattle.std.proofs.Common.{◌≡◌, sym, ap, ◌∙◌, subst}
use Rattle.atomic_table.specs.Seated.{TableId}
use Rattle.shelf.specs.Cells.{IsCellIn}
use Rattle.notify.specs.Chains.{ChainState, ChainCell}
use Rattle.notify_tests.proofs.tests.sleeping.two_cpus.Goals as goal

pub returns-clause-chain : goal.returns-clause-chain
returns-clause-chain c = (ap (λ (s : ChainState). s.writer.domain) c.new-chain.ensures.chain ∙ c.in_ok-domain.ensures.writer.0, ap (λ (s : ChainState). s.ids) c.new-chain.ensures.chain)

pub returns-clause-view : goal.returns-clause-view
returns-clause-view c =
    let There : TableId → Type 0 = λ t. IsCellIn t c.new-chain.result.1.place in
    let there : There c.in_ok-domain.domain.domain = subst (IsCellIn c.in_ok-domain.domain.domain) (sym (ap (λ (v : ChainCell). v.place) c.new-chain.ensures.view)) c.in_ok-domain.ensures.writer in
    (subst There (sym c.in_ok-domain.ensures.first.domain) there, ap (λ (v : ChainCell). v.ids) c.new-chain.ensures.view)
