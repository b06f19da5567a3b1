-- So many nodes have been raised, and none of them is the root; the next one is their parent.
use Rattle.std.proofs.Common.{◌≡◌, ◌≢◌, ℕ, ◌+◌, ◌<◌, ◌≤◌}
use Rattle.funnel.specs.Glossary.{up, leaf_of, MayRaise, IsPlaced}
use Rattle.funnel.proofs.Asking.{HasClimbed}
use Rattle.funnel.proofs.seat.climb.climb.Given as goal

abbrev pub invariant-climb : goal.invariant-climb
invariant-climb l = record {
  placed : IsPlaced l.top.key l.top.table_id l.seat;
  there : l.node < l.top.key.nodes;
  node_is : l.node ≡ up l.nodes l.leaf;
  next : MayRaise (leaf_of l.top.key.nodes l.processor) l.seat.me.0.client.call l.node l.number;
  climbed : HasClimbed l.processor l.leaf l.number l.nodes l.initial.seat.me.0 l.seat.me.0;
  inner : (m : ℕ) → m < l.nodes → up m l.leaf ≢ 0;
  few : l.nodes + l.node ≤ l.leaf;
}

abbrev pub decreases-climb : goal.decreases-climb
decreases-climb l = l.node
