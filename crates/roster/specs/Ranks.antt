-- In which order handlers are called.
use Rattle.std.specs.declared.cmp.Ordering.{Ordering}
use Rattle.std.specs.Ordering.{flip_args, int_cmp, nat_cmp, on, then_cmp}
use Rattle.roster.specs.declared.rank.Rank.{Rank}

-- the higher priority first, and of one priority the lower id
abbrev pub rank_cmp : Rank → Rank → Ordering
rank_cmp = then_cmp (flip_args (on (λ (r : Rank). r.priority) int_cmp)) (on (λ (r : Rank). r.id) nat_cmp)
