-- The table was filled in a new domain.
use Rattle.std.proofs.Common.{ap, ◌∙◌}
use Rattle.std.proofs.lemmas.Result.{IfOk-weaker}
use Rattle.sections.specs.WriterViews.{WriterView}
use Rattle.srcubench.proofs.Tabled.{have_installed}
use Rattle.srcubench.proofs.installing.run.Goals as goal

pub time_installs-requires-clause-table : goal.time_installs-requires-clause-table
time_installs-requires-clause-table g c = ap (λ (w : WriterView). w.domain) (c.new-table.ensures.writer ∙ c.in_ok-domain.ensures.new.pen)

pub returns-clause-installed : goal.returns-clause-installed
returns-clause-installed g c = IfOk-weaker c.time_installs.result _ _ (λ _ installs. have_installed _ _ _ _ _ _ _ _ c.in_ok-domain.ensures.new c.new-table.ensures.writer c.new-table.ensures.empty installs) c.time_installs.ensures.installs
