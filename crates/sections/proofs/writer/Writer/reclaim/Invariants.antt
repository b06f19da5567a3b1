-- The slots before this one are reclaimed, and the others are as they were.
use Rattle.std.proofs.Common.{◌≡◌, ℕ, ◌≤◌}
use Rattle.sections.specs.Writers.{standing_of, ReclaimsBelow}
use Rattle.sections.proofs.writer.Writer.reclaim.Given as goal

abbrev pub invariant-loop-slot : goal.invariant-loop-slot
invariant-loop-slot g l = record {
  so_far : ReclaimsBelow l.slot l.initial.self l.initial.cpu l.self l.cpu;
  still : (x : ℕ) → l.slot ≤ x → standing_of l.self x ≡ standing_of l.initial.self x;
}
