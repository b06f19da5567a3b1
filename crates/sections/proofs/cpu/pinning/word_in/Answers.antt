use Rattle.std.proofs.Common.{rules}
use Rattle.sections.proofs.Banking.{free_nothing, free_section, free_shelf}
use Rattle.std.proofs.Common.{arith, sym, ◌≡◌, ◌∷◌, ap, ◌∙◌, subst}
use Rattle.onedom.specs.declared.event.Maker.TheVariants.{Processor}
use Rattle.sections.specs.Glossary.{View, word_place, lacking, bearer, informed, moment_of, Sees}
use Rattle.sections.specs.declared.view.Step.TheVariants.{LoadWord}
use Rattle.sections.proofs.Sharing.{gives_token, takes_token, regains}
use Rattle.sections.proofs.Seating.{some_words, cells_are}
use Rattle.sections.proofs.Deeds.{cpu_makes}
use Rattle.sections.proofs.Finding.{loads_word_here, word_there}
use Rattle.sections.proofs.cpu.pinning.word_in.Goals as goal

pub split_seat-told-requires : goal.split_seat-told-requires
split_seat-told-requires g c = (c.requires.found.seated, some_words _ _ _ c.requires.placed.0.wide, gives_token _ _ _ (search (rules, free_nothing, free_section, free_shelf)))

pub join_seat-requires : goal.join_seat-requires
join_seat-requires g c = (
  c.requires.placed.0.seated,
  c.split_seat-told.ensures.3
      ∙ c.requires.found.seated,
  ap (λ m. m.1) c.split_seat-told.ensures.4,
  some_words _ _ _ c.requires.placed.0.wide,
  takes_token _ _ _ _ _ (search (rules, free_nothing, free_section, free_shelf)) (search (rules, free_nothing, free_section, free_shelf)),
)

pub split_seat-right-requires : goal.split_seat-right-requires
split_seat-right-requires g c = (c.requires.lender.seated, some_words _ _ _ c.requires.placed.0.wide, gives_token _ _ _ (search (rules, free_nothing, free_section, free_shelf)))

pub join_seat-requires-2 : goal.join_seat-requires-2
join_seat-requires-2 g c = (
  c.join_seat.ensures.0 ∙ c.requires.placed.0.seated,
  c.split_seat-right.ensures.3
      ∙ c.requires.lender.seated,
  ap (λ m. m.1) c.split_seat-right.ensures.4,
  some_words _ _ _ c.requires.placed.0.wide,
  takes_token _ _ _ _ _ (search (rules, free_nothing, free_section, free_shelf)) (search (rules, free_nothing, free_section, free_shelf)),
)

pub load-word-requires : goal.load-word-requires
load-word-requires g c =
    let v : View = c.args.seat.now.me.0 in
    let t : View = c.args.lender.now.me.0 in
    let o : View = c.args.found.now.me.0 in
    let one : c.join_seat.new.seat.me.0 ≡ informed v (bearer o) = ap (λ m. m.0) c.join_seat.ensures.2 ∙ ap (λ m. informed v m.0) c.split_seat-told.ensures.4 in
    let into : c.join_seat-2.new.seat.me.0 ≡ informed (informed v (bearer o)) (bearer t) = ap (λ m. m.0) c.join_seat-2.ensures.2 ∙ (λ k. informed (one k) (ap (λ m. m.0) c.split_seat-right.ensures.4 k)) in (
      c.join_seat-2.ensures.0 ∙ (c.join_seat.ensures.0 ∙ c.requires.placed.0.seated),
      word_there _ _ _ _ _ _ (let h = cells_are _ _ c.requires.placed.0.wide c.requires.placed.0.cells in let i = c.requires.place.0 in omega (arith, h, i)) c.requires.place.1 c.requires.place.2 c.requires.placed.0.wide c.place_of_word.ensures,
      loads_word_here c.args.table.now.shared.key _ _ _ c.join_seat-2.new.seat.me (Processor c.requires.role.0) c.requires.lender.section c.requires.lender.processor c.args.cell c.args.slot c.requires.found.version c.args.place c.requires.lender.index (moment_of (bearer t)) (moment_of (bearer o))
          (cpu_makes c.requires.role.0 _ (ap (λ z. z.role) into ∙ c.requires.role.1)) (ap (λ z. z.processors) into ∙ c.requires.placed.0.sized) (ap (λ z. z.right) into ∙ c.requires.lender.right)
          (ap (λ z. z.told) into ∙ ap (λ l. moment_of (bearer t) ∷ moment_of (bearer o) ∷ l) c.requires.placed.1.told)
          (c.requires.found.met _ _ _ c.requires.lender.right) (let h = cells_are _ _ c.requires.placed.0.wide c.requires.placed.0.cells in let i = c.requires.place.0 in omega (arith, h, i)) c.requires.place.1 c.requires.place.2 c.place_of_word.ensures,
    )

pub split_seat-right-requires-2 : goal.split_seat-right-requires-2
split_seat-right-requires-2 g c = (c.load-word.ensures.0 ∙ (c.join_seat-2.ensures.0 ∙ (c.join_seat.ensures.0 ∙ c.requires.placed.0.seated)), some_words _ _ _ c.requires.placed.0.wide, gives_token _ _ _ (search (rules, free_nothing, free_section, free_shelf)))

pub join_seat-requires-3 : goal.join_seat-requires-3
join_seat-requires-3 g c = (
  c.split_seat-right.ensures.0 ∙ c.requires.lender.seated,
  c.split_seat-right-2.ensures.3 ∙ (c.load-word.ensures.0 ∙ (c.join_seat-2.ensures.0 ∙ (c.join_seat.ensures.0 ∙ c.requires.placed.0.seated))),
  ap (λ m. m.1) c.split_seat-right-2.ensures.4,
  some_words _ _ _ c.requires.placed.0.wide,
  regains _ _ _ _ _ (search (rules, free_nothing, free_section, free_shelf)) (search (rules, free_nothing, free_section, free_shelf)),
)

pub returns-clause-loads : goal.returns-clause-loads
returns-clause-loads g c =
    let v : View = c.args.seat.now.me.0 in
    let t : View = c.args.lender.now.me.0 in
    let o : View = c.args.found.now.me.0 in
    let w : View = c.load-word.new.seat.me.0 in
    let one : c.join_seat.new.seat.me.0 ≡ informed v (bearer o) = ap (λ m. m.0) c.join_seat.ensures.2 ∙ ap (λ m. informed v m.0) c.split_seat-told.ensures.4 in
    let into : c.join_seat-2.new.seat.me.0 ≡ informed (informed v (bearer o)) (bearer t) = ap (λ m. m.0) c.join_seat-2.ensures.2 ∙ (λ k. informed (one k) (ap (λ m. m.0) c.split_seat-right.ensures.4 k)) in
    let bare = c.load-word.ensures.2.0 ∙ (ap (λ m. m.1) c.join_seat-2.ensures.2 ∙ (ap (λ m. m.1) c.join_seat.ensures.2 ∙ c.requires.placed.0.bare)) in record {
      after = w;
      sees = λ s q n i right met. let f = c.load-word.ensures.2.2 s q c.args.cell c.args.slot n c.args.place i (moment_of (bearer t)) (moment_of (bearer o)) (ap (λ z. z.right) into ∙ right)
          (ap (λ z. z.told) into ∙ ap (λ l. moment_of (bearer t) ∷ moment_of (bearer o) ∷ l) c.requires.placed.1.told) met c.requires.place.1 c.requires.place.2
          (c.place_of_word.ensures ∙ ap (λ n. word_place n c.args.cell c.args.slot c.args.place) (sym (ap (λ z. z.processors) into ∙ c.requires.placed.0.sized))) in
          (subst (λ (z : View). Sees (LoadWord c.args.cell n c.args.place c.load-word.result) z w) into f.0, f.1);
      same_table = c.split_seat-right-2.ensures.0 ∙ (c.load-word.ensures.0 ∙ (c.join_seat-2.ensures.0 ∙ c.join_seat.ensures.0));
      stays = c.split_seat-right-2.ensures.2 ∙ ap (λ l. (lacking w, l)) bare;
    }
