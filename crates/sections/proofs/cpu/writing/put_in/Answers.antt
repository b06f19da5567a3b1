use Rattle.std.proofs.Common.{rules}
use Rattle.sections.proofs.Banking.{free_nothing, free_section, free_shelf}
use Rattle.std.proofs.Common.{arith, refl, sym, ◌≡◌, ◌+◌, ap, ◌∙◌, subst}
use Rattle.onedom.specs.declared.event.Maker.TheVariants.{Processor}
use Rattle.onedom.specs.declared.event.Event.TheVariants.{Put}
use Rattle.onedom.specs.Histories.{version_of}
use Rattle.sections.specs.Glossary.{View, cell_place, lacking, bearer, informed, Adds}
use Rattle.sections.proofs.Sharing.{gives_token, takes_token}
use Rattle.sections.proofs.Seating.{some_words, cells_are}
use Rattle.sections.proofs.Finding.{cell_there}
use Rattle.sections.proofs.Writing.{puts_here}
use Rattle.sections.proofs.cpu.writing.put_in.Goals as goal

pub split_seat-right-requires : goal.split_seat-right-requires
split_seat-right-requires g c = (c.requires.pen.0.seated, some_words _ _ _ c.requires.placed.0.wide, gives_token _ _ _ (search (rules, free_nothing, free_section, free_shelf)))

pub join_seat-requires : goal.join_seat-requires
join_seat-requires g c = (
  c.requires.placed.0.seated,
  c.split_seat-right.ensures.3
      ∙ c.requires.pen.0.seated,
  ap (λ m. m.1) c.split_seat-right.ensures.4,
  some_words _ _ _ c.requires.placed.0.wide,
  takes_token _ _ _ _ _ (search (rules, free_nothing, free_section, free_shelf)) (search (rules, free_nothing, free_section, free_shelf)),
)

pub store-requires : goal.store-requires
store-requires g c = let joined = c.join_seat.ensures.2 in (
  c.join_seat.ensures.0 ∙ c.requires.placed.0.seated,
  cell_there _ _ _ _ (let h = cells_are _ _ c.requires.placed.0.wide c.requires.placed.0.cells in let i = c.requires.pen.0.inside in omega (arith, h, i)) c.requires.placed.0.wide c.place_of_cell.ensures,
  puts_here c.args.table.now.shared.key _ _ _ c.args.word c.join_seat.new.seat.me c.requires.role.0 c.args.cell c.args.slot c.requires.pen.0.own c.requires.pen.0.upto c.requires.pen.0.plan
      (ap (λ m. m.0.processors) joined ∙ c.requires.placed.0.sized) (ap (λ m. m.0.role) joined ∙ c.requires.role.1) c.requires.role.2
      (ap (λ m. m.0.right) joined ∙ (ap (λ m. m.0.right) c.split_seat-right.ensures.4 ∙ c.requires.pen.0.right)) c.requires.pen.0.free (c.requires.pen.1 _ _ _ c.requires.pen.0.right) c.requires.word.0 c.place_of_cell.ensures (c.requires.word.1 _ _ _ c.requires.pen.0.right),
)

pub split_seat-requires : goal.split_seat-requires
split_seat-requires g c = (
  c.store.ensures.0 ∙ (c.join_seat.ensures.0 ∙ c.requires.placed.0.seated),
  some_words _ _ _ c.requires.placed.0.wide,
  gives_token _ _ _ (let into : c.join_seat.new.seat.me.0 ≡ informed c.args.seat.now.me.0 (bearer c.args.pen.now.me.0) = ap (λ m. m.0) c.join_seat.ensures.2 ∙ ap (λ m. informed c.args.seat.now.me.0 m.0) c.split_seat-right.ensures.4 in let pen = c.requires.pen.0 in
      free_shelf _ _ _ _ _ (c.store.ensures.2.1 c.requires.role.0 c.args.cell c.args.slot pen.own pen.upto pen.plan (ap (λ z. z.role) into ∙ c.requires.role.1)
      (ap (λ z. z.right) into ∙ pen.right) c.requires.word.0 (c.place_of_cell.ensures ∙ ap (λ n. cell_place n c.args.cell) (sym (ap (λ z. z.processors) into ∙ c.requires.placed.0.sized))) (c.requires.word.1 pen.own pen.upto pen.plan pen.right)).1 refl),
)

pub returns : goal.returns
returns g c =
    let v : View = c.args.seat.now.me.0 in
    let t : View = c.args.pen.now.me.0 in
    let w : View = c.store.new.seat.me.0 in
    let joined = c.join_seat.ensures.2 in
    let into : c.join_seat.new.seat.me.0 ≡ informed v (bearer t) = ap (λ m. m.0) joined ∙ ap (λ m. informed v m.0) c.split_seat-right.ensures.4 in
    let bare = c.store.ensures.2.0 ∙ (ap (λ m. m.1) joined ∙ c.requires.placed.0.bare) in
    let same = c.store.ensures.0 ∙ c.join_seat.ensures.0 in record {
      after = w;
      adds = λ p own h q is right. let f = c.store.ensures.2.1 p c.args.cell c.args.slot own h q (ap (λ z. z.role) into ∙ is) (ap (λ z. z.right) into ∙ right) c.requires.word.0
          (c.place_of_cell.ensures ∙ ap (λ n. cell_place n c.args.cell) (sym (ap (λ z. z.processors) into ∙ c.requires.placed.0.sized))) (c.requires.word.1 own h q right) in
          (subst (λ (z : View). Adds z (Put c.args.cell c.args.slot (version_of c.args.cell h + 1) (Processor p)) w) into f.0, f.1, f.2, f.3, f.4);
      same_table = (c.split_seat.ensures.0 ∙ same, c.split_seat.ensures.3 ∙ same);
      stays = c.split_seat.ensures.2 ∙ ap (λ l. (lacking w, l)) bare;
      given = c.split_seat.ensures.4;
    }
