use Rattle.std.proofs.Common.{◌≡◌, ℕ, take}
use Rattle.onedom.specs.Histories.{begins_of, IsOpen}
use Rattle.onedom.proofs.one_domain.is_still_open.Given as goal

abbrev pub invariant-loop-event : goal.invariant-loop-event
invariant-loop-event l = (s : ℕ) → IsOpen l.before s → IsOpen l.history s → begins_of s (take l.event-index l.before) ≡ 0
