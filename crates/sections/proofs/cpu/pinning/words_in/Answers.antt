use Rattle.std.proofs.Common.{rules}
use Rattle.sections.specs.Glossary.{hand_in, View, word_place, lacking, bearer, informed, regaining, moment_of, Sees}
use Rattle.sections.proofs.Banking.{free_nothing, free_section, free_shelf}
use Rattle.std.proofs.Common.{arith, sym, ◌≡◌, ◌+◌, ◌∷◌, refl, ap, ◌∙◌, subst}
use Rattle.std.proofs.lemmas.List.{length-set}
use Rattle.onedom.specs.declared.event.Maker.TheVariants.{Processor}
use Rattle.sections.specs.declared.view.Step.TheVariants.{LoadWord}
use Rattle.sections.proofs.Sharing.{gives_token, takes_token, regains}
use Rattle.sections.proofs.Seating.{some_words, cells_are}
use Rattle.sections.proofs.Deeds.{cpu_makes}
use Rattle.sections.proofs.Finding.{loads_word_here, word_there}
use Rattle.sections.proofs.Wholes.{Gives, has_met, met_there, so_far_first, so_far_more, so_far_all, loads_next_here}
use Rattle.sections.proofs.cpu.pinning.words_in.Goals as goal

pub split_seat-told-requires : goal.split_seat-told-requires
split_seat-told-requires g c = (c.requires.found.seated, some_words _ _ _ c.requires.placed.0.wide, gives_token _ _ _ (search (rules, free_nothing, free_section, free_shelf)))

pub join_seat-requires : goal.join_seat-requires
join_seat-requires g c = (
  c.requires.placed.0.seated,
  c.split_seat-told.ensures.3
      ∙ c.requires.found.seated,
  ap (λ m. m.1) c.split_seat-told.ensures.4,
  some_words _ _ _ c.requires.placed.0.wide,
  takes_token _ _ _ _ _ (search (rules, free_nothing, free_section, free_shelf)) (search (rules, free_nothing, free_section, free_shelf)),
)

pub split_seat-right-requires : goal.split_seat-right-requires
split_seat-right-requires g c = (c.requires.lender.seated, some_words _ _ _ c.requires.placed.0.wide, gives_token _ _ _ (search (rules, free_nothing, free_section, free_shelf)))

pub join_seat-requires-2 : goal.join_seat-requires-2
join_seat-requires-2 g c = (
  c.join_seat.ensures.0 ∙ c.requires.placed.0.seated,
  c.split_seat-right.ensures.3
      ∙ c.requires.lender.seated,
  ap (λ m. m.1) c.split_seat-right.ensures.4,
  some_words _ _ _ c.requires.placed.0.wide,
  takes_token _ _ _ _ _ (search (rules, free_nothing, free_section, free_shelf)) (search (rules, free_nothing, free_section, free_shelf)),
)

pub load-requires : goal.load-requires
load-requires g c =
    let v : View = c.args.seat.now.me.0 in
    let t : View = c.args.lender.now.me.0 in
    let o : View = c.args.found.now.me.0 in
    let one : c.join_seat.new.seat.me.0 ≡ informed v (bearer o) = ap (λ m. m.0) c.join_seat.ensures.2 ∙ ap (λ m. informed v m.0) c.split_seat-told.ensures.4 in
    let into : c.join_seat-2.new.seat.me.0 ≡ informed (informed v (bearer o)) (bearer t) = ap (λ m. m.0) c.join_seat-2.ensures.2 ∙ (λ k. informed (one k) (ap (λ m. m.0) c.split_seat-right.ensures.4 k)) in (
      c.join_seat-2.ensures.0 ∙ (c.join_seat.ensures.0 ∙ c.requires.placed.0.seated),
      word_there _ _ _ _ _ _ (let h = cells_are _ _ c.requires.placed.0.wide c.requires.placed.0.cells in let i = c.requires.place.0 in omega (arith, h, i)) c.requires.place.1 (omega arith) c.requires.placed.0.wide c.place_of_word-first.ensures,
      loads_word_here c.args.table.now.shared.key _ _ _ c.join_seat-2.new.seat.me (Processor c.requires.role.0) c.requires.lender.section c.requires.lender.processor c.args.cell c.args.slot c.requires.found.version 0 c.requires.lender.index (moment_of (bearer t)) (moment_of (bearer o))
          (cpu_makes c.requires.role.0 _ (ap (λ z. z.role) into ∙ c.requires.role.1)) (ap (λ z. z.processors) into ∙ c.requires.placed.0.sized) (ap (λ z. z.right) into ∙ c.requires.lender.right)
          (ap (λ z. z.told) into ∙ ap (λ l. moment_of (bearer t) ∷ moment_of (bearer o) ∷ l) c.requires.placed.1.told)
          (c.requires.found.met _ _ _ c.requires.lender.right) (let h = cells_are _ _ c.requires.placed.0.wide c.requires.placed.0.cells in let i = c.requires.place.0 in omega (arith, h, i)) c.requires.place.1 (omega arith) c.place_of_word-first.ensures,
    )

pub loop-place-init : goal.loop-place-init
loop-place-init g c =
    let v : View = c.args.seat.now.me.0 in
    let t : View = c.args.lender.now.me.0 in
    let o : View = c.args.found.now.me.0 in
    let one : c.join_seat.new.seat.me.0 ≡ informed v (bearer o) = ap (λ m. m.0) c.join_seat.ensures.2 ∙ ap (λ m. informed v m.0) c.split_seat-told.ensures.4 in
    let into : c.join_seat-2.new.seat.me.0 ≡ informed (informed v (bearer o)) (bearer t) = ap (λ m. m.0) c.join_seat-2.ensures.2 ∙ (λ k. informed (one k) (ap (λ m. m.0) c.split_seat-right.ensures.4 k)) in
    let w : View = c.load.new.seat.me.0 in
    let gives : Gives c.args.cell c.args.slot v (bearer o) (bearer t) 0 c.load.result (informed (informed v (bearer o)) (bearer t)) w = λ s q n i right met. let f = c.load.ensures.2.2 s q c.args.cell c.args.slot n 0 i (moment_of (bearer t)) (moment_of (bearer o)) (ap (λ z. z.right) into ∙ right)
    (ap (λ z. z.told) into ∙ ap (λ l. moment_of (bearer t) ∷ moment_of (bearer o) ∷ l) c.requires.placed.1.told) met c.requires.place.1 (omega arith) (c.place_of_word-first.ensures ∙ ap (λ n. word_place n c.args.cell c.args.slot 0) (sym (ap (λ z. z.processors) into ∙ c.requires.placed.0.sized))) in
    (subst (λ (z : View). Sees (LoadWord c.args.cell n 0 c.load.result) z w) into f.0, f.1) in record {
      same_table = c.load.ensures.0 ∙ (c.join_seat-2.ensures.0 ∙ c.join_seat.ensures.0);
      bare = c.load.ensures.2.0 ∙ (ap (λ m. m.1) c.join_seat-2.ensures.2 ∙ (ap (λ m. m.1) c.join_seat.ensures.2 ∙ c.requires.placed.0.bare));
      long = refl;
      so_far = so_far_first c.args.cell c.args.slot v (bearer o) (bearer t) c.load.result w gives;
    }

pub load-requires-in-loop-place : goal.load-requires-in-loop-place
load-requires-in-loop-place g c =
    let inv = c.loop-place.invariant in
    let so = inv.so_far in
    let met = c.requires.found.met _ _ _ c.requires.lender.right in
    let all = so.some.sees _ _ c.requires.found.version _ c.requires.lender.right met in
    let at : c.place_of_word-first.result + c.loop-place.place ≡ word_place c.args.table.now.shared.key.processors c.args.cell c.args.slot c.loop-place.place = (let e = c.place_of_word-first.ensures in omega (arith, e)) in (
      inv.same_table ∙ c.requires.placed.0.seated,
      word_there _ _ _ _ _ _ (let h = cells_are _ _ c.requires.placed.0.wide c.requires.placed.0.cells in let i = c.requires.place.0 in omega (arith, h, i)) c.requires.place.1 c.loop-place-test.true c.requires.placed.0.wide at,
      loads_next_here c.args.table.now.shared.key _ _ _ c.loop-place.seat.me (Processor c.requires.role.0) c.args.cell c.args.slot c.loop-place.place
          (cpu_makes c.requires.role.0 _ (all.role ∙ c.requires.role.1)) (all.processors ∙ c.requires.placed.0.sized)
          (has_met c.args.cell c.args.slot c.args.seat.now.me.0 (bearer c.args.found.now.me.0) (bearer c.args.lender.now.me.0) _ _ c.requires.found.version _ so.got c.loop-place.seat.me.0 so.some c.requires.lender.right met)
          (let h = cells_are _ _ c.requires.placed.0.wide c.requires.placed.0.cells in let i = c.requires.place.0 in omega (arith, h, i)) c.requires.place.1 c.loop-place-test.true at,
    )

pub loop-place-preserved : goal.loop-place-preserved
loop-place-preserved g c =
    let inv = c.loop-place.invariant in
    let so = inv.so_far in
    let v : View = c.args.seat.now.me.0 in
    let o : View = bearer c.args.found.now.me.0 in
    let t : View = bearer c.args.lender.now.me.0 in
    let w : View = c.load-in-loop-place.new.seat.me.0 in
    let gives : Gives c.args.cell c.args.slot v o t c.loop-place.place c.load-in-loop-place.result c.loop-place.seat.me.0 w = λ s q n i right met.
    let all = so.some.sees s q n i right met in
    let has = met_there c.args.cell c.args.slot v o t s q n i so.got c.loop-place.seat.me.0 so.some right met in
    c.load-in-loop-place.ensures.2.2 s q c.args.cell c.args.slot n c.loop-place.place i has.0 has.1 c.requires.place.1 c.loop-place-test.true
    (let e = c.place_of_word-first.ensures in let n = all.processors ∙ c.requires.placed.0.sized in omega (arith, e, n)) in record {
      same_table = c.load-in-loop-place.ensures.0 ∙ inv.same_table;
      bare = c.load-in-loop-place.ensures.2.0 ∙ inv.bare;
      long = length-set c.loop-place.words c.loop-place.place c.load-in-loop-place.result ∙ inv.long;
      so_far = so_far_more c.args.cell c.args.slot v o t c.loop-place.place c.load-in-loop-place.result c.loop-place.words c.loop-place.seat.me.0 w c.loop-place-test.true so gives;
    }

pub split_seat-right-requires-2 : goal.split_seat-right-requires-2
split_seat-right-requires-2 g c = (
  c.loop-place.invariant.same_table ∙ c.requires.placed.0.seated,
  some_words _ _ _ c.requires.placed.0.wide,
  gives_token _ _ _
      (let so = c.loop-place.invariant.so_far in let l = c.requires.lender in
      free_section _ _ _ _ _ (met_there c.args.cell c.args.slot c.args.seat.now.me.0 (bearer c.args.found.now.me.0) (bearer c.args.lender.now.me.0) l.section l.processor c.requires.found.version l.index so.got c.loop-place.seat.me.0 so.some l.right (c.requires.found.met _ _ _ l.right)).0),
)

pub join_seat-requires-3 : goal.join_seat-requires-3
join_seat-requires-3 g c = (
  c.split_seat-right.ensures.0 ∙ c.requires.lender.seated,
  c.split_seat-right-2.ensures.3 ∙ (c.loop-place.invariant.same_table ∙ c.requires.placed.0.seated),
  ap (λ m. m.1) c.split_seat-right-2.ensures.4,
  some_words _ _ _ c.requires.placed.0.wide,
  regains _ _ _ _ _ (search (rules, free_nothing, free_section, free_shelf))
      (ap (λ m. hand_in m.0.right) c.split_seat-right-2.ensures.4
      ∙ (let so = c.loop-place.invariant.so_far in let l = c.requires.lender in
      free_section _ _ _ _ _ (met_there c.args.cell c.args.slot c.args.seat.now.me.0 (bearer c.args.found.now.me.0) (bearer c.args.lender.now.me.0) l.section l.processor c.requires.found.version l.index so.got c.loop-place.seat.me.0 so.some l.right (c.requires.found.met _ _ _ l.right)).0)),
)

pub returns-clause-loads : goal.returns-clause-loads
returns-clause-loads g c =
    let inv = c.loop-place.invariant in
    let done = c.loop-place-test.false in
    let upto = c.loop-place.auto.place-end in
    let w : View = c.loop-place.seat.me.0 in record {
      after = w;
      long = inv.long;
      loads = so_far_all c.args.cell c.args.slot c.args.seat.now.me.0 (bearer c.args.found.now.me.0) (bearer c.args.lender.now.me.0) c.loop-place.place c.loop-place.words w (omega (arith, done, upto)) inv.so_far;
      same_table = c.split_seat-right-2.ensures.0 ∙ inv.same_table;
      stays = c.split_seat-right-2.ensures.2 ∙ ap (λ l. (lacking w, l)) inv.bare;
    }

pub returns-clause-lender : goal.returns-clause-lender
returns-clause-lender g c =
    let t : View = c.args.lender.now.me.0 in
    let all = c.loop-place.invariant.so_far.some.sees _ _ c.requires.found.version _ c.requires.lender.right (c.requires.found.met _ _ _ c.requires.lender.right) in (
      c.join_seat-3.ensures.0 ∙ c.split_seat-right.ensures.0,
      c.join_seat-3.ensures.2
          ∙ ((λ k. (regaining (ap (λ m. m.0) c.split_seat-right.ensures.2 k) (ap (λ m. m.0) c.split_seat-right-2.ensures.4 k), ap (λ m. m.1) c.split_seat-right.ensures.2 k))
          ∙ ap (λ r. (record t { right = r }, c.args.lender.now.me.1)) all.right),
    )
