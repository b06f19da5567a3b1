use Rattle.std.proofs.Common.{refl}
use Rattle.domain.proofs.Answering.{within, says_carried}
use Rattle.domain.proofs.Lending.{carried}
use Rattle.domain.proofs.Sameness.{same_carried_in}
use Rattle.domain.proofs.Staying.{still_of}
use Rattle.domain.proofs.domain.Domain.drive.Goals as goal

pub returns-clause-drives : goal.returns-clause-drives
returns-clause-drives g c = rw (← c.cpu.view_is) (carried _ _ refl c.drive.result c.drive.ensures.drives)

pub returns-clause-here : goal.returns-clause-here
returns-clause-here g c = still_of _ _ _ c.requires (same_carried_in _ _ _ (returns-clause-drives g c)) c.drive.ensures.free

pub returns-clause-says : goal.returns-clause-says
returns-clause-says g c = says_carried _ _ c.requires _ _ (returns-clause-drives g c)

pub returns-clause-within : goal.returns-clause-within
returns-clause-within g c = within _ _ (rw (← c.cpu.view_is) at c.requires) _ c.drive.ensures.within
