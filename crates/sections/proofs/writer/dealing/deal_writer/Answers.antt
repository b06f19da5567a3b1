use Rattle.std.proofs.lemmas.List.{get_or-replicate}
use Rattle.atomic_table.specs.Seated.{TableId}
use Rattle.std.proofs.Common.{◌<◌, List, Option, Some, None, length, get_or, sym, ap, ◌∙◌, subst, arith}
use Rattle.onedom.specs.declared.event.Event.{Event}
use Rattle.onedom.specs.Histories.{slot_of, version_of, IsLegal}
use Rattle.sections.specs.Glossary.{cells_in, next_cell, without_cell, words_with, plan_with, Stands}
use Rattle.sections.specs.declared.view.Right.TheVariants.{Shelf}
use Rattle.sections.specs.declared.writer.Standing.TheVariants.{Blank}
use Rattle.sections.proofs.Seating.{cells_are}
use Rattle.sections.proofs.Sharing.{deals_pen}
use Rattle.sections.proofs.Standings.{new_standings, new_stands}
use Rattle.sections.proofs.writer.dealing.deal_writer.Goals as goal

pub split_seat-pen-requires : goal.split_seat-pen-requires
split_seat-pen-requires c = (c.requires.seat.seated, c.requires.seat.some, deals_pen _ _ _ c.args.cell c.requires.seat.right (let h = cells_are _ _ c.requires.wide.0 c.requires.wide.1 in let i = c.requires.cell in omega (arith, h, i)))

pub invariant_of-result : goal.invariant_of-result
invariant_of-result c =
    let me = c.homes_of-homes.ensures.seat.1 ∙ c.split_seat-pen.ensures.4 in
    let right = ap (λ m. m.0.right) me ∙ ap next_cell c.requires.seat.right in
    let seen = ap (λ m. m.0.seen) me ∙ c.requires.seat.nothing in record {
      bare = ap (λ m. m.1) me;
      right = right ∙ (λ k. Shelf c.args.cell (ap words_with (sym right) k) (sym seen k) (ap plan_with (sym right) k));
      free = ap (λ y. (plan_with y).hand) right;
      long = ap length (ap words_with right);
      legal = subst (λ (l : List Event). IsLegal l) (sym seen) tt;
      inside = subst (λ (t : TableId). c.args.cell < cells_in t) (sym (c.homes_of-homes.ensures.seat.0 ∙ (c.split_seat-pen.ensures.3 ∙ c.requires.seat.seated))) c.requires.cell;
      some = c.requires.slots.0;
      most = c.requires.slots.1;
      version = ap (version_of c.args.cell) (sym seen);
      current = ap (slot_of c.args.cell) seen;
      low = (let two = c.requires.slots.0 in omega (arith, two));
      small = omega arith;
      homes = λ x lx _. ap (λ (l : List (Option TableId)). get_or l x None) c.homes_of-homes.ensures.homes ∙ (get_or-replicate 8 x (Some c.split_seat-pen.result.table_id) None (let most = c.requires.slots.1 in omega (arith, lx, most)) ∙ ap Some (sym c.homes_of-homes.ensures.seat.0));
      stands = λ x lx. subst (λ (l : List Event). Stands l c.args.cell x (get_or new_standings x Blank)) (sym seen) (new_stands c.args.cell x (let most = c.requires.slots.1 in omega (arith, lx, most)));
    }

pub returns-clause-seat : goal.returns-clause-seat
returns-clause-seat c = record {
  same_table = c.split_seat-pen.ensures.0;
  me = c.split_seat-pen.ensures.2 ∙ ap (λ t. (record c.args.seat.now.me.0 { right = without_cell t }, c.args.seat.now.me.1)) c.requires.seat.right;
}

pub returns-clause-writer : goal.returns-clause-writer
returns-clause-writer c = let me = c.homes_of-homes.ensures.seat.1 ∙ c.split_seat-pen.ensures.4 in λ k. record {
  domain = (c.homes_of-homes.ensures.seat.0 ∙ c.split_seat-pen.ensures.3) k;
  cell = c.args.cell;
  slots = c.args.slots;
  version = 0;
  current = 0;
  standings = new_standings;
  words = ap words_with (ap (λ m. m.0.right) me ∙ ap next_cell c.requires.seat.right) k;
  plan = ap plan_with (ap (λ m. m.0.right) me ∙ ap next_cell c.requires.seat.right) k;
  seen = (ap (λ m. m.0.seen) me ∙ c.requires.seat.nothing) k;
  changes = (ap (λ m. m.0.changes) me ∙ c.requires.seat.still) k;
  texts = (ap (λ m. m.0.texts) me ∙ c.requires.seat.untold) k;
}
