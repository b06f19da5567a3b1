use Rattle.std.proofs.Common.{◌≡◌, ◌/◌, ◌%◌, inl, inr, refl, sym, ap, ◌∙◌, subst, arith}
use Rattle.sections.specs.Glossary.{View, In, hand_in, units_in, lacking, bearer, informed, regaining, moment_of, Catches, KnowsFound}
use Rattle.sections.proofs.Banking.{free_nothing, free_section}
use Rattle.sections.proofs.Sharing.{gives_token, takes_token, regains}
use Rattle.sections.proofs.Seating.{some_words, cells_are}
use Rattle.sections.proofs.cpu.drawing.pay_in.Goals as goal

pub split_seat-told-requires : goal.split_seat-told-requires
split_seat-told-requires g c = (c.requires.found.seated, some_words _ _ _ c.requires.placed.0.wide, gives_token _ _ _ (free_nothing _ c.requires.found.free))

pub join_seat-requires : goal.join_seat-requires
join_seat-requires g c = (
  c.requires.placed.0.seated,
  c.split_seat-told.ensures.3 ∙ c.requires.found.seated,
  ap (λ m. m.1) c.split_seat-told.ensures.4,
  some_words _ _ _ c.requires.placed.0.wide,
  takes_token _ _ _ _ _ (free_nothing _ c.requires.placed.1.free) (free_nothing _ (ap (λ m. m.0.right) c.split_seat-told.ensures.4 ∙ c.requires.found.free)),
)

pub split_seat-right-requires : goal.split_seat-right-requires
split_seat-right-requires g c = (c.requires.lender.seated, some_words _ _ _ c.requires.placed.0.wide, gives_token _ _ _ (free_section _ _ _ _ _ c.requires.lender.right))

pub join_seat-requires-2 : goal.join_seat-requires-2
join_seat-requires-2 g c = (
  c.join_seat.ensures.0 ∙ c.requires.placed.0.seated,
  c.split_seat-right.ensures.3 ∙ c.requires.lender.seated,
  ap (λ m. m.1) c.split_seat-right.ensures.4,
  some_words _ _ _ c.requires.placed.0.wide,
  takes_token _ _ _ _ _ (free_nothing _ (ap (λ m. m.0.right) c.join_seat.ensures.2 ∙ (ap (λ m. m.0.right) c.split_seat-told.ensures.4 ∙ c.requires.found.free))) (free_section _ _ _ _ _ (ap (λ m. m.0.right) c.split_seat-right.ensures.4 ∙ c.requires.lender.right)),
)

pub pay_part-requires-clause-seat : goal.pay_part-requires-clause-seat
pay_part-requires-clause-seat g c = let v : View = c.args.seat.now.me.0 in let t : View = c.args.lender.now.me.0 in let o : View = c.args.found.now.me.0 in
    let one : c.join_seat.new.seat.me.0 ≡ informed v (bearer o) = ap (λ m. m.0) c.join_seat.ensures.2 ∙ ap (λ m. informed v m.0) c.split_seat-told.ensures.4 in
    let into : c.join_seat-2.new.seat.me.0 ≡ informed (informed v (bearer o)) (bearer t) = ap (λ m. m.0) c.join_seat-2.ensures.2 ∙ (λ k. informed (one k) (ap (λ m. m.0) c.split_seat-right.ensures.4 k)) in (
      record {
        seated = c.join_seat-2.ensures.0 ∙ (c.join_seat.ensures.0 ∙ c.requires.placed.0.seated);
        some = let wide = c.requires.placed.0.wide in let low = c.requires.slot.1 in omega (arith, wide, low);
        bare = ap (λ m. m.1) c.join_seat-2.ensures.2 ∙ (ap (λ m. m.1) c.join_seat.ensures.2 ∙ c.requires.placed.0.bare);
        sized = ap (λ z. z.processors) into ∙ c.requires.placed.0.sized;
        role = ap (λ z. z.role) into ∙ c.requires.role.0;
        there = c.requires.role.1;
        cell = let h = cells_are _ _ c.requires.placed.0.wide c.requires.placed.0.cells in let i = c.requires.slot.0 in omega (arith, h, i);
        low = c.requires.slot.1;
        section = c.requires.lender.section;
        begun_on = c.requires.lender.processor;
        index = c.requires.lender.index;
        units = c.requires.lender.units;
        right = ap (λ z. z.right) into ∙ c.requires.lender.right;
        version = c.requires.found.version;
        offer = c.requires.found.offer;
        found = subst (λ (z : View). KnowsFound z c.requires.lender.section (c.args.slot / 8) (c.args.slot % 8) c.requires.found.version c.requires.found.offer) (sym into)
            record { moment = moment_of (bearer o); among = inr (inr (inl refl)); met = c.requires.found.met _ _ _ _ c.requires.lender.right; known = c.requires.found.known; offer = c.requires.found.offer_is };
        all_keys = c.requires.found.all_keys;
      },
      c.requires.found.vault_is,
    )

pub pay_part-requires-clause-unit : goal.pay_part-requires-clause-unit
pay_part-requires-clause-unit g c = let v : View = c.args.seat.now.me.0 in let t : View = c.args.lender.now.me.0 in let o : View = c.args.found.now.me.0 in
    let one : c.join_seat.new.seat.me.0 ≡ informed v (bearer o) = ap (λ m. m.0) c.join_seat.ensures.2 ∙ ap (λ m. informed v m.0) c.split_seat-told.ensures.4 in
    let into : c.join_seat-2.new.seat.me.0 ≡ informed (informed v (bearer o)) (bearer t) = ap (λ m. m.0) c.join_seat-2.ensures.2 ∙ (λ k. informed (one k) (ap (λ m. m.0) c.split_seat-right.ensures.4 k)) in
    let u = c.requires.unit in (u.0, subst (In u.0) (sym (ap (λ z. units_in z.right) into)) u.1, u.2, u.3)

pub split_seat-right-requires-2 : goal.split_seat-right-requires-2
split_seat-right-requires-2 g c = (c.pay_part.ensures.same_table ∙ (c.join_seat-2.ensures.0 ∙ (c.join_seat.ensures.0 ∙ c.requires.placed.0.seated)), some_words _ _ _ c.requires.placed.0.wide, gives_token _ _ _ c.pay_part.ensures.free)

pub join_seat-requires-3 : goal.join_seat-requires-3
join_seat-requires-3 g c = (
  c.split_seat-right.ensures.0 ∙ c.requires.lender.seated,
  c.split_seat-right-2.ensures.3 ∙ (c.pay_part.ensures.same_table ∙ (c.join_seat-2.ensures.0 ∙ (c.join_seat.ensures.0 ∙ c.requires.placed.0.seated))),
  ap (λ m. m.1) c.split_seat-right-2.ensures.4,
  some_words _ _ _ c.requires.placed.0.wide,
  regains _ _ _ _ _ (free_nothing _ (ap (λ m. m.0.right) c.split_seat-right.ensures.2)) (ap (λ m. hand_in m.0.right) c.split_seat-right-2.ensures.4 ∙ c.pay_part.ensures.free),
)

pub returns-clause-pays : goal.returns-clause-pays
returns-clause-pays g c = let v : View = c.args.seat.now.me.0 in let t : View = c.args.lender.now.me.0 in let o : View = c.args.found.now.me.0 in
    let one : c.join_seat.new.seat.me.0 ≡ informed v (bearer o) = ap (λ m. m.0) c.join_seat.ensures.2 ∙ ap (λ m. informed v m.0) c.split_seat-told.ensures.4 in
    let into : c.join_seat-2.new.seat.me.0 ≡ informed (informed v (bearer o)) (bearer t) = ap (λ m. m.0) c.join_seat-2.ensures.2 ∙ (λ k. informed (one k) (ap (λ m. m.0) c.split_seat-right.ensures.4 k)) in
    let w : View = c.pay_part.new.seat.me.0 in let back = c.join_seat-3.ensures.2 ∙ (λ k. (regaining (ap (λ m. m.0) c.split_seat-right.ensures.2 k) (ap (λ m. m.0) c.split_seat-right-2.ensures.4 k), ap (λ m. m.1) c.split_seat-right.ensures.2 k)) in
    record {
      covers = record {
        after = w;
        catches = subst (λ (z : View). Catches z w) into c.pay_part.ensures.catches;
        same_table = (c.split_seat-right-2.ensures.0 ∙ (c.pay_part.ensures.same_table ∙ (c.join_seat-2.ensures.0 ∙ c.join_seat.ensures.0)), c.join_seat-3.ensures.0 ∙ c.split_seat-right.ensures.0);
        stays = c.split_seat-right-2.ensures.2 ∙ ap (λ l. (lacking w, l)) c.pay_part.ensures.bare;
        returned = back;
      };
      pays = λ s q i us right. ap (λ m. m.0.right) back ∙ c.pay_part.ensures.pays s q i us (ap (λ z. z.right) into ∙ right);
    }
