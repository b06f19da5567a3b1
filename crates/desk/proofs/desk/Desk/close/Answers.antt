use Rattle.std.proofs.Common.{rules, ◌≡◌, ◌++◌, List, [], ◌∷◌, All, Option, IfSome, length, map, ap, sym, ◌∙◌, subst, append_assoc, arith}
use mathlib.Core.Option.{some-injective}
use Rattle.desk.specs.Glossary.{lies_behind, DeskView, SeatView, account}
use Rattle.desk.proofs.Sitting.{gathers}
use Rattle.desk.proofs.Closing.{within, Ends, ends_all, closes_of, sole}
use Rattle.desk.proofs.desk.Desk.close.Goals as goal

pub load_new_seat-keeper-requires : goal.load_new_seat-keeper-requires
load_new_seat-keeper-requires g c = let one = c.self.invariant in (omega (arith, one), gathers g.T.Token.domain c.self.inside.table.shared.key _)

-- all seats are those left, this one, and those that are over
whole : {V : Type 0} (all old new over : List V) (seat : V) → all ≡ old ++ over → old ≡ new ++ seat ∷ [] → all ≡ new ++ seat ∷ over
whole all old new over seat e p = e ∙ (ap (λ l. l ++ over) p ∙ append_assoc new (seat ∷ []) over)

pub take_back-requires-clause-desk : goal.take_back-requires-clause-desk
take_back-requires-clause-desk g c =
    let v = c.loop-seat.invariant in
    let P : SeatView g.row.T.Denot → Type 0 = λ s. s.desk ≡ c.args.self.desk in
    within P c.pop.new.self.items c.in-Some.seat v.0 (subst (All P) (whole _ _ _ _ c.in-Some.seat v.1 c.in-Some.ensures.items) c.requires.seats.of_desk)
    ∙ sym (ap (λ (d : DeskView). d.desk) c.self.view_is)

pub loop-seat-preserved : goal.loop-seat-preserved
loop-seat-preserved g c = let v = c.loop-seat.invariant in (c.in-Some.seat ∷ v.0, whole _ _ _ _ c.in-Some.seat v.1 c.in-Some.ensures.items, c.take_back.ensures (map account v.0) v.2)

pub empty-requires : goal.empty-requires
empty-requires g c =
    let v = c.loop-seat.invariant in
    let few = ap (λ (d : DeskView). d.seats) c.self.view_is in
    let none : length c.loop-seat.seats.items ≡ 0 = search rules in
    (ends_all g.T.Token.domain c.self.inside.table.shared.key _ _ _ _ v.0 _ v.1 none (ap (λ m. m.0.role) v.2.me) (c.close_with.ensures.counts.0 ∙ c.self.invariant) c.close_with.ensures.values (λ n lt. c.requires.seats.each n (omega (arith, lt, few)))).alone

pub returns : goal.returns
returns g c =
    let v = c.loop-seat.invariant in
    let few = ap (λ (d : DeskView). d.seats) c.self.view_is in
    let none : length c.loop-seat.seats.items ≡ 0 = search rules in
    let e : Ends g.T.Token.domain c.self.inside.table.shared.key c.args.seats.items c.close_with.result =
    ends_all g.T.Token.domain c.self.inside.table.shared.key _ _ _ _ v.0 _ v.1 none (ap (λ m. m.0.role) v.2.me) (c.close_with.ensures.counts.0 ∙ c.self.invariant) c.close_with.ensures.values (λ n lt. c.requires.seats.each n (omega (arith, lt, few))) in
    let answers : c.empty.result ≡ lies_behind e.swaps = some-injective _ _ (sym c.empty.ensures ∙ e.value) in
    rw (← c.self.view_is) (record {
      closes = closes_of g.T.Token.domain c.self.inside.table.shared.key _ _ e c.self.inside.table.shared.table_id _ answers;
      domain = subst (λ (x : Option g.row.T.Denot). IfSome x (λ y. g.T.Token.domain y ≡ c.self.inside.table.shared.key.home)) (sym answers) e.of_domain;
      alone = λ one. sole g.T.Token.domain c.self.inside.table.shared.key _ _ e one _ answers;
    })
