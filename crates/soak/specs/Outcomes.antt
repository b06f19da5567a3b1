-- When a run came out as it should.
use Rattle.std.specs.Prelude.{◌≡◌, Ok}
use Rattle.domain.specs.declared.domain.cleanup.Totals.{Totals}
use Rattle.soak.specs.declared.counts.Counts.{Counts}
use Rattle.soak.specs.declared.outcome.Outcome.{Outcome}

-- what was counted is what the domain tells, seven workers were at it at once, all of it came to its end, and nothing went wrong
pub record Agree (t : Totals) (c : Counts) : Type 0 where
  pub all_met : c.met ≡ 7
  pub opened : t.opened ≡ c.opened
  pub closed : t.closed ≡ c.closed
  pub queued : t.queued ≡ c.queued
  pub finished : t.finished ≡ c.run
  pub all_closed : c.opened ≡ c.closed
  pub all_run : c.queued ≡ c.run
  pub none_left : c.left ≡ 0
  pub none_refused : c.refused ≡ 0
  pub none_misplaced : c.misplaced ≡ 0
  pub none_early : c.early ≡ 0
  pub none_stale : c.stale ≡ 0
  pub none_torn : c.torn ≡ 0
  pub none_lost : c.lost ≡ 0
  pub all_back : c.devices ≡ c.back
  pub all_counted : c.used ≡ c.counted

-- the domain was taken down, and what it told agrees with what was counted
pub record IsExact (o : Outcome) : Type 0 where
  pub totals : Totals
  pub told : o.totals ≡ Ok totals
  pub agree : Agree totals o.counts
