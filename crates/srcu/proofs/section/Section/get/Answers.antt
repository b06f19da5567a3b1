-- Reading a value begins and ends no section.
use Rattle.std.proofs.Common.{rules}
use Rattle.srcu.proofs.CallerLemmas.{kept_read}
use Rattle.srcu.proofs.section.Section.get.Goals as goal

pub returns-clause-stays : goal.returns-clause-stays
returns-clause-stays g c = let kept = kept_read _ _ _ _ _ _ c.read.ensures.reads c.read.ensures.stays in search (rules, kept)
