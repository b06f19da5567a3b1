use Rattle.sections.proofs.EventForging.{never_forged, texts_never_forged}
use Rattle.sections.proofs.laws.steps_of_a_domain.Goals as goal

pub returns-clause-steps : goal.returns-clause-steps
returns-clause-steps c = never_forged

pub returns-clause-texts : goal.returns-clause-texts
returns-clause-texts c = texts_never_forged
