-- The chain was registered in a new domain.
use Rattle.std.proofs.Common.{ap, ◌∙◌}
use Rattle.std.proofs.lemmas.Result.{IfOk-weaker}
use Rattle.sections.specs.WriterViews.{WriterView}
use Rattle.notify.specs.Chains.{ChainState}
use Rattle.srcubench.proofs.Chained.{have_changed}
use Rattle.srcubench.proofs.registering.run.Goals as goal

pub time_changes-requires-clause-chain : goal.time_changes-requires-clause-chain
time_changes-requires-clause-chain g c = ap (λ (s : ChainState). s.writer.domain) c.new-chain.ensures.chain ∙ ap (λ (w : WriterView). w.domain) c.in_ok-domain.ensures.new.pen

pub time_changes-requires-clause-ids : goal.time_changes-requires-clause-ids
time_changes-requires-clause-ids g c = ap (λ (s : ChainState). s.ids) c.new-chain.ensures.chain

pub returns-clause-changed : goal.returns-clause-changed
returns-clause-changed g c = IfOk-weaker c.time_changes.result _ _ (λ _ changes. have_changed _ _ _ _ _ _ _ _ c.in_ok-domain.ensures.new c.new-chain.ensures.chain changes) c.time_changes.ensures.changes
