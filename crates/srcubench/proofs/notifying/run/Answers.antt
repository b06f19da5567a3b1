-- The chain was registered in a new domain.
use Rattle.std.proofs.Common.{refl, ap}
use Rattle.std.proofs.lemmas.Result.{IfOk-weaker}
use Rattle.sections.specs.WriterViews.{WriterView}
use Rattle.srcubench.proofs.Chained.{have_called}
use Rattle.srcubench.proofs.Founded.{reads_cell}
use Rattle.srcubench.proofs.notifying.run.Goals as goal

pub register_and_call-requires-clause-writer : goal.register_and_call-requires-clause-writer
register_and_call-requires-clause-writer g c κs lives = ap (λ (w : WriterView). w.domain) c.in_ok-domain.ensures.new.pen

pub register_and_call-requires-clause-cell : goal.register_and_call-requires-clause-cell
register_and_call-requires-clause-cell g c κs lives = reads_cell _ _ _ _ _ _ c.in_ok-domain.ensures.new c.in_ok-domain.ensures.cell refl

pub returns-clause-called : goal.returns-clause-called
returns-clause-called g c = IfOk-weaker c.register_and_call.result _ _ (λ _ called. have_called _ _ _ _ _ _ _ c.in_ok-domain.ensures.new called) c.register_and_call.ensures.called
