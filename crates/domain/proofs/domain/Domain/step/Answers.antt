use Rattle.std.proofs.Common.{refl}
use Rattle.domain.proofs.Answering.{within, says_stepped}
use Rattle.domain.proofs.Lending.{stepped}
use Rattle.domain.proofs.Sameness.{same_stepped_in}
use Rattle.domain.proofs.Staying.{still_of}
use Rattle.domain.proofs.domain.Domain.step.Goals as goal

pub returns-clause-steps : goal.returns-clause-steps
returns-clause-steps g c = rw (← c.cpu.view_is) (stepped _ _ refl c.drive.result c.drive.ensures.drives)

pub returns-clause-here : goal.returns-clause-here
returns-clause-here g c = still_of _ _ _ c.requires (same_stepped_in _ _ _ (returns-clause-steps g c)) c.drive.ensures.free

pub returns-clause-says : goal.returns-clause-says
returns-clause-says g c = says_stepped _ _ c.requires _ _ (returns-clause-steps g c)

pub returns-clause-within : goal.returns-clause-within
returns-clause-within g c = within _ _ (rw (← c.cpu.view_is) at c.requires) _ c.drive.ensures.within
