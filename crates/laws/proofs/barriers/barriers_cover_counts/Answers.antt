use Rattle.laws.proofs.Counts.{looks_count, starts_count, hearing_counts, counts_stay, covered, finished}
use Rattle.laws.proofs.barriers.barriers_cover_counts.Goals as goal

pub returns : goal.returns
returns g c = record { looks = looks_count; starts = starts_count; hears = hearing_counts; stays = counts_stay; covers = covered; finished = finished }
