use Rattle.std.proofs.Common.{◌∙◌, sym, subst, inl, arith, refl, ◌<◌}
use Rattle.funnel.proofs.Asking.{climbed_none, climbs_here, one_more, inner_more, next_step, next_node, stops_found, stops_at_root}
use Rattle.funnel.proofs.seat.climb.climb.Goals as goal

pub climb-init : goal.climb-init
climb-init c = record {
  placed = c.requires.placed;
  there = subst (λ z. z < c.args.top.now.key.nodes) (sym c.requires.leaf) c.requires.role.1.leaf;
  node_is = refl;
  next = inl (c.requires.idle, c.requires.leaf);
  climbed = climbed_none _ _ _ c.args.seat.now.me.0;
  inner = λ m lt. absurd (omega (arith, lt));
  few = omega arith;
}

pub overflow_add-nodes : goal.overflow_add-nodes
overflow_add-nodes c = let few = c.climb.invariant.few in let there = c.requires.role.1.leaf in let small = c.requires.role.1.few in let is = c.requires.leaf in omega (arith, few, small, there, is)

pub raise-requires-clause-there : goal.raise-requires-clause-there
raise-requires-clause-there c = let there = c.climb.invariant.there in let small = c.requires.role.1.few in (there, omega (arith, there, small))

pub raise-requires-clause-role : goal.raise-requires-clause-role
raise-requires-clause-role c = (c.climb.invariant.climbed.role ∙ c.requires.role.0, c.requires.role.1.processor)

pub returns-then-raise-number-clause-climbs : goal.returns-then-raise-number-clause-climbs
returns-then-raise-number-clause-climbs c = let v = c.climb.invariant in let enough = c.if-raise-number.true in
    climbs_here _ _ _ c.climb.nodes c.climb.node _ c.args.seat.now.me.0 c.climb.seat.me.0 _ _ v.climbed v.inner v.node_is c.raise.ensures.raised ((λ _. enough), (λ _. refl)) (λ no. absurd (no refl)) (stops_found c.climb.node _ _ enough)

pub returns-then-node-eq0-clause-climbs : goal.returns-then-node-eq0-clause-climbs
returns-then-node-eq0-clause-climbs c = let v = c.climb.invariant in let less = c.if-raise-number.false in
    climbs_here _ _ _ c.climb.nodes c.climb.node _ c.args.seat.now.me.0 c.climb.seat.me.0 _ _ v.climbed v.inner v.node_is c.raise.ensures.raised ((λ t. absurd cc), (λ le. absurd (omega (arith, less, le)))) (λ _. c.if-node-eq0.true) (stops_at_root c.climb.node _ _ c.if-node-eq0.true)

pub climb-preserved : goal.climb-preserved
climb-preserved c =
    let v = c.climb.invariant in
    let r = c.raise.ensures.raised in
    let less = c.if-raise-number.false in
    let inner = c.if-node-eq0.false in
    let there = v.there in
    let few = v.few in record {
      placed = c.raise.ensures.placed;
      there = omega (arith, there);
      node_is = next_node _ c.climb.nodes _ v.node_is;
      next = next_step _ c.climb.seat.me.0 _ _ _ _ _ r (omega (arith, less)) inner;
      climbed = one_more _ _ _ c.climb.nodes _ _ c.args.seat.now.me.0 c.climb.seat.me.0 _ v.climbed v.node_is r;
      inner = inner_more _ c.climb.nodes _ v.inner v.node_is inner;
      few = omega (arith, few, inner);
    }
