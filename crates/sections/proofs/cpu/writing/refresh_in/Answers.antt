use Rattle.std.proofs.Common.{rules}
use Rattle.sections.proofs.Banking.{free_nothing, free_section, free_shelf}
use Rattle.std.proofs.Common.{arith, ◌≡◌, ap, ◌∙◌, subst}
use Rattle.sections.specs.Glossary.{View, bearer, informed, Keeps}
use Rattle.sections.proofs.Sharing.{gives_token, takes_token}
use Rattle.sections.proofs.Seating.{some_words, cells_are}
use Rattle.sections.proofs.Finding.{cell_there}
use Rattle.sections.proofs.Writing.{refreshes_here}
use Rattle.sections.proofs.cpu.writing.refresh_in.Goals as goal

pub split_seat-fresh-requires : goal.split_seat-fresh-requires
split_seat-fresh-requires g c = (c.requires.placed.0.seated, some_words _ _ _ c.requires.placed.0.wide, gives_token _ _ _ (search (rules, free_nothing, free_section, free_shelf)))

pub split_seat-right-requires : goal.split_seat-right-requires
split_seat-right-requires g c = (c.requires.pen.seated, some_words _ _ _ c.requires.placed.0.wide, gives_token _ _ _ (search (rules, free_nothing, free_section, free_shelf)))

pub join_seat-requires : goal.join_seat-requires
join_seat-requires g c = (
  c.split_seat-fresh.ensures.3 ∙ c.requires.placed.0.seated,
  c.split_seat-right.ensures.3
      ∙ c.requires.pen.seated,
  ap (λ m. m.1) c.split_seat-right.ensures.4,
  some_words _ _ _ c.requires.placed.0.wide,
  takes_token _ _ _ _ _ (search (rules, free_nothing, free_section, free_shelf)) (search (rules, free_nothing, free_section, free_shelf)),
)

pub load-requires : goal.load-requires
load-requires g c = (
  c.join_seat.ensures.0 ∙ (c.split_seat-fresh.ensures.3 ∙ c.requires.placed.0.seated),
  cell_there _ _ _ _ (let h = cells_are _ _ c.requires.placed.0.wide c.requires.placed.0.cells in let i = c.requires.pen.inside in omega (arith, h, i)) c.requires.placed.0.wide c.place_of_cell.ensures,
  refreshes_here c.args.table.now.shared.key _ _ _ c.join_seat.new.seat.me c.args.cell c.requires.pen.own c.requires.pen.upto c.requires.pen.plan (ap (λ m. m.0.right) c.join_seat.ensures.2 ∙ (ap (λ m. m.0.right) c.split_seat-right.ensures.4 ∙ c.requires.pen.right)),
)

pub returns-clause-pen : goal.returns-clause-pen
returns-clause-pen g c =
    let v : View = c.args.seat.now.me.0 in
    let t : View = c.args.pen.now.me.0 in
    let into : c.join_seat.new.seat.me.0 ≡ informed (bearer v) (bearer t) = ap (λ m. m.0) c.join_seat.ensures.2 ∙ (λ k. informed (ap (λ m. m.0) c.split_seat-fresh.ensures.4 k) (ap (λ m. m.0) c.split_seat-right.ensures.4 k)) in record {
      same_table = c.load.ensures.0 ∙ (c.join_seat.ensures.0 ∙ c.split_seat-fresh.ensures.3);
      bare = c.load.ensures.2.0 ∙ (ap (λ m. m.1) c.join_seat.ensures.2 ∙ ap (λ m. m.1) c.split_seat-fresh.ensures.4);
      keeps = λ own h q right. let f = c.load.ensures.2.1 c.args.cell own h q (ap (λ z. z.right) into ∙ right) in (subst (λ (z : View). Keeps c.args.cell h z c.load.new.seat.me.0) into f.0, f.1);
    }
