-- Those that are left, the last one first, and the others with what they gave.
use Rattle.std.proofs.Common.{◌≡◌, ◌≤◌, ◌+◌, ◌++◌, All, length, vec_len, vec_capacity}
use mathlib.Core.List.{List, reverse}
use Rattle.crew.specs.declared.member.Member.{Member}
use Rattle.crew.specs.Parts.{HasWorked, AreThose}
use Rattle.crew.proofs.crew.dismiss.Given as goal

abbrev pub invariant-loop-member : goal.invariant-loop-member
invariant-loop-member g l =
    (row : List (Member g.row.W.Denot g.row.P.Denot g.row.T.Denot)) × (l.fn.members.items ≡ l.members.items ++ reverse row) × AreThose row l.workers.items l.given.items × All HasWorked l.members.items
    × (vec_len l.members + vec_len l.workers ≤ vec_capacity l.workers) × (vec_len l.members + vec_len l.given ≤ vec_capacity l.given)

abbrev pub decreases-loop-member : goal.decreases-loop-member
decreases-loop-member g l = length l.members.items
