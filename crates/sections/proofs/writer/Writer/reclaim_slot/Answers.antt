use Rattle.sections.proofs.Banking.{free_nothing, free_section, free_shelf}
use Rattle.std.proofs.Common.{rules, ◌≡◌, ◌<◌, true, false, length, get_or, inr, refl, sym, ap, ◌∙◌, subst}
use Rattle.sections.specs.Glossary.{Standing, cells_in, words_with, plan_with, WriterView, IsRetired, Stands, standing_of}
use Rattle.sections.specs.declared.writer.Standing.TheVariants.{Blank, Retired}
use Rattle.sections.proofs.Sharing.{shows, takes_token}
use Rattle.sections.proofs.Seating.{some_words}
use Rattle.atomic_table.specs.Seated.{TableId}
use Rattle.sections.proofs.Asking.{asks_cpu, writer_waits, writer_blanks, reclaims}
use Rattle.sections.proofs.writer.Writer.reclaim_slot.Goals as goal

pub split_seat-told-requires : goal.split_seat-told-requires
split_seat-told-requires g c = rw c.deref-table.ensures (ap (λ z. z.domain) c.self.view_is ∙ (sym c.requires.here ∙ (ap (λ z. z.domain) (sym c.cpu.view_is) ∙ c.cpu.invariant.placed.seated)), some_words _ _ _ c.cpu.invariant.placed.wide, shows _ _ _)

pub join_seat-requires : goal.join_seat-requires
join_seat-requires g c = rw c.deref-table.ensures (
  c.cpu.invariant.placed.seated,
  c.split_seat-told.ensures.3 ∙ (ap (λ z. z.domain) c.self.view_is ∙ (sym c.requires.here ∙ (ap (λ z. z.domain) (sym c.cpu.view_is) ∙ c.cpu.invariant.placed.seated))),
  ap (λ m. m.1) c.split_seat-told.ensures.4,
  some_words _ _ _ c.cpu.invariant.placed.wide,
  takes_token _ _ _ _ _ (search (rules, free_nothing, free_section, free_shelf)) (search (rules, free_nothing, free_section, free_shelf)),
)

pub ask_number-done-requires-clause-cookie : goal.ask_number-done-requires-clause-cookie
ask_number-done-requires-clause-cookie g c =
    let at : (c.args.slot < c.self.inside.slots) × (get_or c.self.inside.standings c.args.slot Blank ≡ Retired c.args.number) = subst (λ (z : WriterView). (c.args.slot < z.slots) × (standing_of z c.args.slot ≡ Retired c.args.number)) (sym c.self.view_is) c.requires.slot in
    let r : IsRetired c.self.inside.seat.me.0.seen c.self.inside.cell c.args.slot c.args.number = subst (λ (t : Standing). Stands c.self.inside.seat.me.0.seen c.self.inside.cell c.args.slot t) at.1 (c.self.invariant.stands c.args.slot at.0) in (refl, inr r.multiple)

pub ask_number-done-requires-clause-role : goal.ask_number-done-requires-clause-role
ask_number-done-requires-clause-role g c = rw c.deref-table.ensures (c.cpu.inside.processor, ap (λ m. m.0.role) c.join_seat.ensures.2 ∙ c.cpu.invariant.role, c.cpu.invariant.there)

pub refresh_in-requires-clause-placed : goal.refresh_in-requires-clause-placed
refresh_in-requires-clause-placed g c =
    let N = c.ask_number-done.ensures in
    let J = c.join_seat.ensures in
    let b = N.adds c.cpu.inside.processor (ap (λ m. m.0.role) J.2 ∙ c.cpu.invariant.role) in
    rw c.deref-table.ensures (
      record {
        seated = N.same_table ∙ (J.0 ∙ c.cpu.invariant.placed.seated);
        wide = c.cpu.invariant.placed.wide;
        cells = c.cpu.invariant.placed.cells;
        bare = N.bare ∙ (ap (λ m. m.1) J.2 ∙ c.cpu.invariant.placed.bare);
        sized = b.processors ∙ (ap (λ m. m.0.processors) J.2 ∙ c.cpu.invariant.placed.sized);
      },
      record { free = N.right ∙ (ap (λ m. m.0.right) J.2 ∙ ap (λ m. m.0.right) c.split_seat-told.ensures.4); told = b.told; sound = b.sound },
    )

pub refresh_in-requires-clause-pen : goal.refresh_in-requires-clause-pen
refresh_in-requires-clause-pen g c = rw c.deref-table.ensures (record {
  seated = c.split_seat-told.ensures.0 ∙ (ap (λ z. z.domain) c.self.view_is ∙ (sym c.requires.here ∙ (ap (λ z. z.domain) (sym c.cpu.view_is) ∙ c.cpu.invariant.placed.seated)));
  bare = ap (λ m. m.1) c.split_seat-told.ensures.2 ∙ c.self.invariant.bare;
  own = words_with c.self.inside.seat.me.0.right;
  upto = c.self.inside.seat.me.0.seen;
  plan = plan_with c.self.inside.seat.me.0.right;
  free = c.self.invariant.free;
  right = ap (λ m. m.0.right) c.split_seat-told.ensures.2 ∙ c.self.invariant.right;
  inside = subst (λ (t : TableId). c.self.inside.cell < cells_in t) (ap (λ z. z.domain) c.self.view_is ∙ (sym c.requires.here ∙ (ap (λ z. z.domain) (sym c.cpu.view_is) ∙ c.cpu.invariant.placed.seated))) c.self.invariant.inside;
})

pub invariant_of-self : goal.invariant_of-self
invariant_of-self g c =
    let at : (c.args.slot < c.self.inside.slots) × (get_or c.self.inside.standings c.args.slot Blank ≡ Retired c.args.number) = subst (λ (z : WriterView). (c.args.slot < z.slots) × (standing_of z c.args.slot ≡ Retired c.args.number)) (sym c.self.view_is) c.requires.slot in
    let eight : length c.self.inside.standings ≡ 8 = search rules in
    writer_blanks c.cpu.invariant c.self.invariant c.split_seat-told.result (ap (λ z. z.domain) c.cpu.view_is ∙ (c.requires.here ∙ ap (λ z. z.domain) (sym c.self.view_is))) c.join_seat.ensures.0 c.join_seat.ensures.2 c.split_seat-told.ensures.4
    c.ask_number-done.ensures (ap (λ m. m.0.right) c.split_seat-told.ensures.2) c.refresh_in.ensures.pen c.if-done.true at.0 at.1 eight

pub invariant_of-cpu : goal.invariant_of-cpu
invariant_of-cpu g c = asks_cpu c.cpu.invariant c.refresh_in.new.seat c.split_seat-told.result _ c.join_seat.ensures.0 c.join_seat.ensures.2 c.split_seat-told.ensures.4 c.ask_number-done.ensures c.refresh_in.ensures.seat refl

pub invariant_of-self-else-done : goal.invariant_of-self-else-done
invariant_of-self-else-done g c =
    writer_waits c.cpu.invariant c.self.invariant c.split_seat-told.result (ap (λ z. z.domain) c.cpu.view_is ∙ (c.requires.here ∙ ap (λ z. z.domain) (sym c.self.view_is))) c.join_seat.ensures.0 c.join_seat.ensures.2 c.split_seat-told.ensures.4
    c.ask_number-done.ensures (ap (λ m. m.0.right) c.split_seat-told.ensures.2) c.refresh_in.ensures.pen

pub invariant_of-cpu-else-done : goal.invariant_of-cpu-else-done
invariant_of-cpu-else-done g c = asks_cpu c.cpu.invariant c.refresh_in.new.seat c.split_seat-told.result _ c.join_seat.ensures.0 c.join_seat.ensures.2 c.split_seat-told.ensures.4 c.ask_number-done.ensures c.refresh_in.ensures.seat refl

pub returns-then-done : goal.returns-then-done
returns-then-done g c =
    let is : c.ask_number-done.result ≡ true = c.if-done.true in
    rw (← c.self.view_is, ← c.cpu.view_is) (reclaims c.cpu.invariant c.self.invariant c.split_seat-told.result (ap (λ z. z.domain) c.cpu.view_is ∙ (c.requires.here ∙ ap (λ z. z.domain) (sym c.self.view_is))) c.join_seat.ensures.0 c.join_seat.ensures.2 c.split_seat-told.ensures.4
    c.ask_number-done.ensures (ap (λ m. m.0.right) c.split_seat-told.ensures.2) c.refresh_in.ensures.pen c.refresh_in.new.seat c.refresh_in.ensures.seat _ (λ _. refl) (λ no_. absurd cc))

pub returns-else-done : goal.returns-else-done
returns-else-done g c =
    let is : c.ask_number-done.result ≡ false = c.if-done.false in
    rw (← c.self.view_is, ← c.cpu.view_is) (reclaims c.cpu.invariant c.self.invariant c.split_seat-told.result (ap (λ z. z.domain) c.cpu.view_is ∙ (c.requires.here ∙ ap (λ z. z.domain) (sym c.self.view_is))) c.join_seat.ensures.0 c.join_seat.ensures.2 c.split_seat-told.ensures.4
    c.ask_number-done.ensures (ap (λ m. m.0.right) c.split_seat-told.ensures.2) c.refresh_in.ensures.pen c.refresh_in.new.seat c.refresh_in.ensures.seat _ (λ yes_. absurd cc) (λ _. refl))
