-- A tree that is too small, but for the last.
use Rattle.std.proofs.Common.{◌≡◌, ◌-◌, ◌^◌, ◌≤◌, ℕ, suc}
use Rattle.funnel.specs.Tree.{room, nodes_of}
use Rattle.funnel.proofs.making.nodes_for.Given as goal

abbrev pub invariant-loop-room : goal.invariant-loop-room
invariant-loop-room l = record {
  below : ℕ;
  nodes_are : l.nodes ≡ nodes_of (suc below);
  room_is : l.room ≡ room (suc below);
  small : l.room ≤ 2 ^ 18;
  least : (h : ℕ) → 1 ≤ h → l.processors ≤ room h → suc below ≤ h;
}

abbrev pub decreases-loop-room : goal.decreases-loop-room
decreases-loop-room l = l.processors - l.room
