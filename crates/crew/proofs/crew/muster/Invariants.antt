-- Those that are left, and the others with their parts, the last one first.
use Rattle.std.proofs.Common.{◌≡◌, ◌≤◌, ◌+◌, ◌++◌, length, vec_len, vec_capacity}
use mathlib.Core.List.{List}
use Rattle.crew.specs.Parts.{IsMustered}
use Rattle.crew.proofs.crew.muster.Given as goal

abbrev pub invariant-loop-part : goal.invariant-loop-part
invariant-loop-part g l =
    (ws : List g.row.W.Denot) × (ps : List g.row.P.Denot) × (l.fn.workers.items ≡ l.workers.items ++ ws) × (l.fn.parts.items ≡ l.parts.items ++ ps) × IsMustered ws ps l.members.items
    × (vec_len l.workers ≡ vec_len l.parts) × (length ws ≡ length ps) × (vec_len l.members + vec_len l.parts ≤ vec_capacity l.members) × (vec_capacity l.workers ≡ vec_capacity l.fn.workers) × (vec_len l.members + vec_len l.parts ≡ vec_len l.fn.parts)

abbrev pub decreases-loop-part : goal.decreases-loop-part
decreases-loop-part g l = length l.parts.items
