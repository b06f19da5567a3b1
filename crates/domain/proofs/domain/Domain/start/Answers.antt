use Rattle.std.proofs.Common.{refl}
use Rattle.domain.proofs.Answering.{says_started}
use Rattle.domain.proofs.Lending.{started}
use Rattle.domain.proofs.Sameness.{same_started_in}
use Rattle.domain.proofs.Staying.{still_of}
use Rattle.domain.proofs.domain.Domain.start.Goals as goal

pub returns-clause-starts : goal.returns-clause-starts
returns-clause-starts g c = rw (← c.cpu.view_is) (started _ _ refl refl c.start-started.result c.start-started.ensures.starts)

pub returns-clause-here : goal.returns-clause-here
returns-clause-here g c = still_of _ _ _ c.requires (same_started_in _ _ _ (returns-clause-starts g c)) c.start-started.ensures.free

pub returns-clause-says : goal.returns-clause-says
returns-clause-says g c = says_started _ _ c.requires _ _ (returns-clause-starts g c)
