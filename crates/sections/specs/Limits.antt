-- The ranges of a domain's limits.
use Rattle.std.specs.Prelude.{ℕ, ◌-◌, ◌<◌, ◌≤◌, ◌^◌}
use Rattle.sections.specs.declared.limits.Limits.{Limits}

-- the most processors that a domain may have, and the most sections of one index that each of them may begin: together they begin no more than 2 ^ 60
abbrev pub most_processors : ℕ
most_processors = 256

abbrev pub most_sections : ℕ
most_sections = 2 ^ 52

pub record AreInRange (limits : Limits) : Type 0 where
  pub some_sections : 1 ≤ limits.sections
  pub sections : limits.sections ≤ most_sections
  pub some_periods : 1 ≤ limits.periods
  pub periods : limits.periods < 2 ^ 59
  pub cells : limits.cells ≤ 4
  pub some_slots : 2 ≤ limits.slots
  pub slots : limits.slots ≤ 8

-- no cells, of which each would take memory. The counts of sections and periods take none
abbrev pub least_limits : Limits
least_limits = record { sections = most_sections; periods = 2 ^ 59 - 1; cells = 0; slots = 2 }
