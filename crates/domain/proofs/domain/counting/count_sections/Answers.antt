use Rattle.domain.proofs.Counting.{sections_counted}
use Rattle.domain.proofs.domain.counting.count_sections.Goals as goal

pub returns : goal.returns
returns g c = sections_counted _ _ _ _ _ _ _ _ _ _ _ c.requires.history c.load_sums-ended.ensures c.load_sums-ended_too.ensures
