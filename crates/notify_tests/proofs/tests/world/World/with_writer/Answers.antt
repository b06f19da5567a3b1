-- The chain has the writer, and its view that writer's cell.
use Rattle.std.proofs.Common.{◌≡◌, ap, ◌∙◌, subst, sym}
use Rattle.shelf.specs.Cells.{IsCellIn}
use Rattle.notify.specs.Chains.{ChainState, ChainCell}
use Rattle.notify_tests.proofs.tests.world.World.with_writer.Goals as goal

pub invariant_of-result : goal.invariant_of-result
invariant_of-result c =
    let chain = c.new-chain.ensures.chain in
    let view = c.new-chain.ensures.view in (
      c.requires.here,
      ap (λ (s : ChainState). s.writer.domain) chain ∙ c.requires.writer.0,
      ap (λ (s : ChainState). s.ids) chain,
      subst (IsCellIn c.args.domain.domain) (sym (ap (λ (v : ChainCell). v.place) view)) c.requires.writer,
      ap (λ (v : ChainCell). v.ids) view,
    )
