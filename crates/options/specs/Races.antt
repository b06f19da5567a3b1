-- How large a race may be.
use Rattle.std.specs.Prelude.{◌<◌, ◌≤◌}
use Rattle.sections.specs.Limits.{most_processors}
use Rattle.options.specs.declared.size.Size.{Size}

-- there are 1 to 255 readers, and 1 to 1000 rounds
pub record IsInRange (s : Size) : Type 0 where
  pub readers : (1 ≤ s.readers) × (s.readers < most_processors)
  pub rounds : (1 ≤ s.rounds) × (s.rounds ≤ 1000)
