use Rattle.std.proofs.Common.{◌+◌, ◌*◌, ◌<◌, subst, ℕ, List, Some, length, sym, ap, ◌∙◌, length-set}
use Rattle.onedom.specs.declared.event.Event.{Event}
use Rattle.atomic_table.specs.Seated.{TableId}
use Rattle.sections.specs.Glossary.{cells_in, words_with, plan_with}
use Rattle.sections.proofs.Writing.{as_shelf, slot_quiet}
use Rattle.sections.proofs.Standings.{stands_quiet}
use Rattle.sections.proofs.writer.Writer.set.Goals as goal

pub invariant_of-self : goal.invariant_of-self
invariant_of-self g c =
    let i = c.self.invariant in
    let old : List Event = c.self.inside.seat.me.0.seen in
    let new : List Event = c.store_in.new.pen.me.0.seen in
    let cell : ℕ = c.self.inside.cell in
    let k = c.store_in.ensures.keeps (words_with c.self.inside.seat.me.0.right) old (plan_with c.self.inside.seat.me.0.right) i.right in record {
      bare = c.store_in.ensures.bare;
      right = as_shelf _ cell _ new _ k.1;
      free = ap (λ y. (plan_with y).hand) k.1 ∙ i.free;
      long = ap length (ap words_with k.1) ∙ (length-set (words_with c.self.inside.seat.me.0.right) (16 * c.slot.inside.slot + c.args.place) c.args.value ∙ i.long);
      legal = k.0.legal;
      inside = subst (λ (t : TableId). cell < cells_in t) (sym c.store_in.ensures.same_table) i.inside;
      some = i.some;
      most = i.most;
      version = i.version ∙ sym k.0.same;
      current = slot_quiet cell old new k.0.goes_on k.0.legal k.0.same ∙ i.current;
      low = i.low;
      small = i.small;
      homes = λ x lx there. i.homes x lx there ∙ ap Some (sym c.store_in.ensures.same_table);
      stands = λ x lx. stands_quiet cell x old new k.0.goes_on k.0.legal k.0.same _ (i.stands x lx);
    }

pub returns-clause-sets : goal.returns-clause-sets
returns-clause-sets g c =
    let i = c.self.invariant in
    let k = c.store_in.ensures.keeps (words_with c.self.inside.seat.me.0.right) c.self.inside.seat.me.0.seen (plan_with c.self.inside.seat.me.0.right) i.right in
    rw (← c.self.view_is, ← c.slot.view_is) (record {
      same = record { domain = c.store_in.ensures.same_table; cell = λ _. c.self.inside.cell; slots = λ _. c.self.inside.slots; version = λ _. c.self.inside.version; current = λ _. c.self.inside.current };
      standings = λ _. c.self.inside.standings;
      words = ap words_with k.1;
      plan = ap plan_with k.1;
      since = k.0.goes_on;
      clear = k.2;
    })
