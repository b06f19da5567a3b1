-- A turn that waits is followed by another one.
use Rattle.std.proofs.Common.{subst}
use Rattle.scan.specs.declared.progress.Progress.{Progress}
use Rattle.domain.specs.Turns.{CarriesOnIn}
use Rattle.domain.proofs.CallerLemmas.{same_trans, same_carried_in}
use Rattle.laws.proofs.Turns.{ends_at_once, ends_later}
use Rattle.laws.proofs.driving.drive_to_the_end.Goals as goal

pub returns-in-Waiting-clause-same : goal.returns-in-Waiting-clause-same
returns-in-Waiting-clause-same g c = same_trans _ _ _ (same_carried_in _ _ c.drive.result c.drive.ensures.drives) (same_carried_in _ _ c.drive-in-Waiting.result c.drive-in-Waiting.ensures.drives)

pub returns-in-Waiting-clause-ends : goal.returns-in-Waiting-clause-ends
returns-in-Waiting-clause-ends g c =
    ends_later c.args.domain.now _ _ _ c.requires c.drive.ensures.here c.in-Waiting.field-0
    (subst (λ (a : Progress). CarriesOnIn c.args.cpu.now a c.drive.new.cpu) c.in-Waiting.is c.in_ok-answer.ensures.drives)
    c.drive-in-Waiting.result c.drive-in-Waiting.ensures.drives

pub returns-in_default-clause-same : goal.returns-in_default-clause-same
returns-in_default-clause-same g c = same_carried_in _ _ c.drive.result c.drive.ensures.drives

pub returns-in_default-clause-ends : goal.returns-in_default-clause-ends
returns-in_default-clause-ends g c = ends_at_once c.args.domain.now _ _ c.requires c.in_ok-answer.answer c.in_ok-answer.ensures.drives c.in_default.not-Waiting
