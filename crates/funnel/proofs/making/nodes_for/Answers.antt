use Rattle.std.proofs.Common.{◌*◌, ◌+◌, suc, ap, arith}
use Rattle.funnel.proofs.Shaping.{sizes, least_next, leaves_there}
use Rattle.funnel.proofs.making.nodes_for.Goals as goal

pub overflow_mul-nodes : goal.overflow_mul-nodes
overflow_mul-nodes c = let v = c.loop-room.invariant in let s = sizes (suc v.below) in let n = v.nodes_are in let r = v.room_is in let m = v.small in omega (arith, s, n, r, m)

pub overflow_add-nodes : goal.overflow_add-nodes
overflow_add-nodes c = let v = c.loop-room.invariant in let s = sizes (suc v.below) in let n = v.nodes_are in let r = v.room_is in let m = v.small in omega (arith, s, n, r, m)

pub loop-room-smaller : goal.loop-room-smaller
loop-room-smaller c = let v = c.loop-room.invariant in let t = c.loop-room-test.true in let s = sizes (suc v.below) in let r = v.room_is in omega (arith, t, s, r)

pub loop-room-preserved : goal.loop-room-preserved
loop-room-preserved c = let v = c.loop-room.invariant in let less = c.loop-room-test.true in let few = c.requires in let r = v.room_is in record {
  below = suc v.below;
  nodes_are = ap (λ n. 4 * n + 1) v.nodes_are;
  room_is = ap (λ n. 4 * n) v.room_is;
  small = omega (arith, less, few);
  least = least_next c.args.processors (suc v.below) (omega (arith, less, r));
}

pub returns-clause-least : goal.returns-clause-least
returns-clause-least c = let v = c.loop-room.invariant in let enough = c.loop-room-test.false in let r = v.room_is in record {
  height = suc v.below;
  some = omega arith;
  nodes_are = v.nodes_are;
  enough = omega (arith, enough, r);
  least = v.least;
}

pub returns-clause-leaves : goal.returns-clause-leaves
returns-clause-leaves c = let v = c.loop-room.invariant in let enough = c.loop-room-test.false in let r = v.room_is in leaves_there c.args.processors v.below c.loop-room.nodes v.nodes_are (omega (arith, enough, r))

pub returns-clause-few : goal.returns-clause-few
returns-clause-few c = let v = c.loop-room.invariant in let s = sizes (suc v.below) in let n = v.nodes_are in let r = v.room_is in let m = v.small in omega (arith, s, n, r, m)
