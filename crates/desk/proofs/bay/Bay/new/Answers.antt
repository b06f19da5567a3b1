use Rattle.std.proofs.Common.{rules, List, [], ◌∷◌, ◌++◌, Option, Some, refl, ap, sym, ◌∙◌, subst, arith}
use Rattle.desk.specs.Glossary.{BaySeatView}
use Rattle.desk.specs.declared.bay.view.Plan.{Plan}
use Rattle.desk.specs.BayRule.{founder}
use Rattle.desk.proofs.BayDealing.{AreNewSoFar, bay_of, new_so_far}
use Rattle.desk.proofs.BaySharing.{opens}
use Rattle.desk.proofs.bay.Bay.new.Goals as goal

pub new-requires : goal.new-requires
new-requires g c = opens g.T.Token.domain g.T.Alike.like _ _ _ c.args.value refl (c.push_reserved.ensures.items ∙ ap (λ (l : List (Option g.row.T.Denot)). l ++ Some c.args.value ∷ []) c.in_ok-slots.ensures.items) c.of-first.ensures c.requires.there c.requires.alike

pub loop-number-init : goal.loop-number-init
loop-number-init g c = let t = c.in-Ok.ensures.ok in record {
  dealer = record { wide = t.0; seated = t.2; me = t.4 ∙ (λ q. (founder (sym t.5 q), [])) };
  long = c.in_ok-dealt.ensures.len;
  room = c.in_ok-dealt.ensures.exact;
  count = search rules;
  dealt = subst (λ (xs : List (BaySeatView g.row.T.Denot)). AreNewSoFar (bay_of c.in-Ok.table.shared.table_id c.in-Ok.table.shared.key) xs) (sym c.in_ok-dealt.ensures.items) (λ k v lt. absurd (omega (arith, lt)));
}

pub deal-requires : goal.deal-requires
deal-requires g c = let t = c.in-Ok.ensures.ok in let key = ap (λ (p : Plan g.row.T.Denot). p.seats) t.5 in let lt = c.loop-number-test.true in (omega arith, (omega (arith, key, lt), c.loop-number.invariant.dealer))

pub push_reserved-requires-in-loop-number : goal.push_reserved-requires-in-loop-number
push_reserved-requires-in-loop-number g c = let v = c.loop-number.invariant in let long = v.long in let room = v.room in let lt = c.loop-number-test.true in omega (arith, long, room, lt)

pub loop-number-preserved : goal.loop-number-preserved
loop-number-preserved g c = let v = c.loop-number.invariant in let p = c.push_reserved-in-loop-number.ensures in record {
  dealer = c.deal.ensures.dealer;
  long = (let a = p.len in let b = v.long in omega (arith, a, b));
  room = p.capacity ∙ v.room;
  count = search rules;
  dealt = subst (λ (xs : List (BaySeatView g.row.T.Denot)). AreNewSoFar (bay_of c.in-Ok.table.shared.table_id c.in-Ok.table.shared.key) xs) (sym p.items) (new_so_far _ _ _ _ v.count c.deal.ensures.dealt v.dealt);
}

pub returns-clause-seats : goal.returns-clause-seats
returns-clause-seats g c = let v = c.loop-number.invariant in let key = ap (λ (p : Plan g.row.T.Denot). p.seats) c.in-Ok.ensures.ok.5 in let done = c.loop-number-test.false in let n = c.loop-number.auto.number-end in let count = v.count in record {
  count = omega (arith, count, done, n, key);
  each = v.dealt;
}
