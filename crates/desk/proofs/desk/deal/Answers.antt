use Rattle.std.proofs.Common.{◌+◌, ap, ◌∙◌, arith}
use Rattle.desk.specs.Rule.{next, dealer}
use Rattle.desk.proofs.Sitting.{deals, picks_up_as, sits_so, dealt_so}
use Rattle.desk.proofs.desk.deal.Goals as goal

pub split_seat-seat-requires : goal.split_seat-seat-requires
split_seat-seat-requires g c = let d = c.requires.dealer in let one = d.wide in
    (d.seated, omega (arith, one), deals g.T.Token.domain c.args.top.now.key _ _ c.args.number (ap (λ m. m.0.role) d.me) c.requires.there.0)

pub load-requires : goal.load-requires
load-requires g c = let d = c.requires.dealer in let s = c.split_seat-seat.ensures in let one = d.wide in
    (s.3 ∙ d.seated, omega (arith, one), picks_up_as g.T.Token.domain c.args.top.now.key _ _ _ _ c.args.number (c.args.number + 1) s.4 (ap (λ m. next m.0.role) d.me))

pub invariant_of-result : goal.invariant_of-result
invariant_of-result g c =
    let has = c.load.ensures.2 c.args.number (c.args.number + 1) (ap (λ m. m.0.role) c.split_seat-seat.ensures.4 ∙ ap (λ m. next m.0.role) c.requires.dealer.me) in
    sits_so _ c.split_seat-seat.result.me.0 _ _ _ has

pub returns-clause-dealer : goal.returns-clause-dealer
returns-clause-dealer g c = let d = c.requires.dealer in let s = c.split_seat-seat.ensures in record {
  wide = d.wide;
  seated = s.0 ∙ d.seated;
  me = s.2 ∙ (λ q. (dealer (d.me q).0, (d.me q).1));
}

pub returns-clause-dealt : goal.returns-clause-dealt
returns-clause-dealt g c =
    let d = c.requires.dealer in
    let s = c.split_seat-seat.ensures in
    let l = c.load.ensures in
    let has = l.2 c.args.number (c.args.number + 1) (ap (λ m. m.0.role) s.4 ∙ ap (λ m. next m.0.role) d.me) in
    dealt_so c.args.top.now.key _ c.args.top.now.table_id c.args.number _ _ _ (l.0 ∙ (s.3 ∙ d.seated)) d.me s.4 has
