use Rattle.std.proofs.Common.{rules, List, [], refl, ap, sym, ◌∙◌, subst, arith}
use Rattle.desk.specs.Glossary.{SeatView}
use Rattle.desk.specs.declared.view.Plan.{Plan}
use Rattle.desk.specs.Rule.{founder}
use Rattle.desk.proofs.Dealing.{AreNewSoFar, new_so_far}
use Rattle.desk.proofs.Sitting.{opens}
use Rattle.desk.proofs.desk.Desk.new.Goals as goal

pub vacant-requires : goal.vacant-requires
vacant-requires g c = opens g.T.Token.domain _ _ _ refl (search rules)

pub loop-number-init : goal.loop-number-init
loop-number-init g c = let t = c.in-Ok.ensures in record {
  dealer = record { wide = t.0; seated = t.2; me = t.4 ∙ (λ q. (founder (sym t.5 q), [])) };
  long = c.in_ok-dealt.ensures.len;
  room = c.in_ok-dealt.ensures.exact;
  count = search rules;
  dealt = subst (λ (xs : List (SeatView g.row.T.Denot)). AreNewSoFar record { desk = c.in-Ok.table.shared.table_id; domain = c.in-Ok.table.shared.key.home; seats = c.in-Ok.table.shared.key.seats } xs) (sym c.in_ok-dealt.ensures.items) (λ k v lt. absurd (omega (arith, lt)));
}

pub deal-requires : goal.deal-requires
deal-requires g c = let t = c.in-Ok.ensures in let key = ap (λ (p : Plan). p.seats) t.5 in let lt = c.loop-number-test.true in let few = c.ranges.seats.fits in record {
  there = (omega (arith, key, lt), omega (arith, key, few));
  dealer = c.loop-number.invariant.dealer;
}

pub push_reserved-requires : goal.push_reserved-requires
push_reserved-requires g c = let v = c.loop-number.invariant in let long = v.long in let room = v.room in let lt = c.loop-number-test.true in omega (arith, long, room, lt)

pub loop-number-preserved : goal.loop-number-preserved
loop-number-preserved g c = let v = c.loop-number.invariant in let p = c.push_reserved.ensures in record {
  dealer = c.deal.ensures.dealer;
  long = (let a = p.len in let b = v.long in omega (arith, a, b));
  room = p.capacity ∙ v.room;
  count = search rules;
  dealt = subst (λ (xs : List (SeatView g.row.T.Denot)). AreNewSoFar record { desk = c.in-Ok.table.shared.table_id; domain = c.in-Ok.table.shared.key.home; seats = c.in-Ok.table.shared.key.seats } xs) (sym p.items) (new_so_far _ _ _ _ v.count c.deal.ensures.dealt v.dealt);
}

pub returns-clause-seats : goal.returns-clause-seats
returns-clause-seats g c = let v = c.loop-number.invariant in let key = ap (λ (p : Plan). p.seats) c.in-Ok.ensures.5 in let done = c.loop-number-test.false in let n = c.loop-number.auto.number-end in let count = v.count in record {
  count = omega (arith, count, done, n, key);
  each = v.dealt;
}
