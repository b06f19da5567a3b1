use Rattle.std.proofs.Common.{rules}
use Rattle.sections.proofs.Banking.{free_nothing, free_section, free_shelf}
use Rattle.std.proofs.Common.{arith, sym, ◌≡◌, ◌/◌, ◌%◌, [], ap, ◌∙◌, subst}
use Rattle.onedom.specs.declared.event.Maker.TheVariants.{Processor}
use Rattle.onedom.specs.declared.event.Event.TheVariants.{Find}
use Rattle.sections.specs.Glossary.{View, cell_place, lacking, bearer, informed, Adds}
use Rattle.sections.proofs.Sharing.{gives_token, takes_token, regains}
use Rattle.sections.proofs.Seating.{some_words, cells_are}
use Rattle.sections.proofs.Finding.{finds_here, cell_there}
use Rattle.sections.proofs.cpu.pinning.find_in.Goals as goal

pub split_seat-right-requires : goal.split_seat-right-requires
split_seat-right-requires g c = (c.requires.lender.seated, some_words _ _ _ c.requires.placed.0.wide, gives_token _ _ _ (search (rules, free_nothing, free_section, free_shelf)))

pub join_seat-requires : goal.join_seat-requires
join_seat-requires g c = (
  c.requires.placed.0.seated,
  c.split_seat-right.ensures.3
      ∙ c.requires.lender.seated,
  ap (λ m. m.1) c.split_seat-right.ensures.4,
  some_words _ _ _ c.requires.placed.0.wide,
  takes_token _ _ _ _ _ (search (rules, free_nothing, free_section, free_shelf)) (search (rules, free_nothing, free_section, free_shelf)),
)

pub load-word-requires : goal.load-word-requires
load-word-requires g c = let joined = c.join_seat.ensures.2 in (
  c.join_seat.ensures.0 ∙ c.requires.placed.0.seated,
  cell_there _ _ _ _ (let h = cells_are _ _ c.requires.placed.0.wide c.requires.placed.0.cells in let i = c.requires.cell in omega (arith, h, i)) c.requires.placed.0.wide c.place_of_cell.ensures,
  finds_here c.args.table.now.shared.key _ _ _ c.join_seat.new.seat.me c.requires.lender.section c.requires.role.0 c.requires.lender.processor c.args.cell c.requires.lender.index c.requires.lender.units
      (ap (λ m. m.0.processors) joined ∙ c.requires.placed.0.sized) (ap (λ m. m.0.role) joined ∙ c.requires.role.1) c.requires.role.2
      (ap (λ m. m.0.right) joined ∙ (ap (λ m. m.0.right) c.split_seat-right.ensures.4 ∙ c.requires.lender.right)) (let h = cells_are _ _ c.requires.placed.0.wide c.requires.placed.0.cells in let i = c.requires.cell in omega (arith, h, i)) c.place_of_cell.ensures,
)

pub split_seat-right-requires-2 : goal.split_seat-right-requires-2
split_seat-right-requires-2 g c = (c.load-word.ensures.0 ∙ (c.join_seat.ensures.0 ∙ c.requires.placed.0.seated), some_words _ _ _ c.requires.placed.0.wide, gives_token _ _ _ (search (rules, free_nothing, free_section, free_shelf)))

pub join_seat-requires-2 : goal.join_seat-requires-2
join_seat-requires-2 g c = (
  c.split_seat-right.ensures.0 ∙ c.requires.lender.seated,
  c.split_seat-right-2.ensures.3 ∙ (c.load-word.ensures.0 ∙ (c.join_seat.ensures.0 ∙ c.requires.placed.0.seated)),
  ap (λ m. m.1) c.split_seat-right-2.ensures.4,
  some_words _ _ _ c.requires.placed.0.wide,
  regains _ _ _ _ _ (search (rules, free_nothing, free_section, free_shelf)) (search (rules, free_nothing, free_section, free_shelf)),
)

pub split_seat-found-requires : goal.split_seat-found-requires
split_seat-found-requires g c = (c.split_seat-right-2.ensures.0 ∙ (c.load-word.ensures.0 ∙ (c.join_seat.ensures.0 ∙ c.requires.placed.0.seated)), some_words _ _ _ c.requires.placed.0.wide, gives_token _ _ _ (search (rules, free_nothing, free_section, free_shelf)))

pub returns-clause-finds : goal.returns-clause-finds
returns-clause-finds g c =
    let joined = c.join_seat.ensures.2 in
    let v : View = c.args.seat.now.me.0 in
    let t : View = c.args.lender.now.me.0 in
    let w : View = c.load-word.new.seat.me.0 in
    let into : c.join_seat.new.seat.me.0 ≡ informed v (bearer t) = ap (λ m. m.0) joined ∙ ap (λ m. informed v m.0) c.split_seat-right.ensures.4 in
    let bare = c.load-word.ensures.2.0 ∙ (ap (λ m. m.1) joined ∙ c.requires.placed.0.bare) in
    let cut : c.split_seat-right-2.new.seat.me ≡ (lacking w, []) = c.split_seat-right-2.ensures.2 ∙ ap (λ l. (lacking w, l)) bare in
    let same = c.split_seat-right-2.ensures.0 ∙ (c.load-word.ensures.0 ∙ c.join_seat.ensures.0) in record {
      after = w;
      adds = λ s q p i us is right. let f = c.load-word.ensures.2.2 s p q c.args.cell i us (ap (λ z. z.role) into ∙ is) (ap (λ z. z.right) into ∙ right) (c.place_of_cell.ensures ∙ ap (λ n. cell_place n c.args.cell) (sym (ap (λ z. z.processors) into ∙ c.requires.placed.0.sized))) in
          (subst (λ (z : View). Adds z (Find s c.args.cell (c.load-word.result % 16) (c.load-word.result / 16) (Processor p)) w) into f.0, f.1, f.2);
      same_table = (c.split_seat-found.ensures.0 ∙ same, c.split_seat-found.ensures.3 ∙ same);
      stays = c.split_seat-found.ensures.2 ∙ ap (λ m. (lacking m.0, m.1)) cut;
      given = c.split_seat-found.ensures.4 ∙ ap (λ m. (bearer m.0, [])) cut;
    }
