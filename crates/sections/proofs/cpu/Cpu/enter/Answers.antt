use Rattle.sections.proofs.Banking.{free_nothing, free_section, free_shelf}
use Rattle.std.proofs.Common.{rules, ◌≡◌, ℕ, ◌≢◌, length, get_or, refl, ap, ◌∙◌, sym}
use Rattle.sseq.specs.Indexes.{index_number}
use Rattle.onedom.specs.Histories.{begins_of}
use Rattle.sections.specs.Insides.{section_of}
use Rattle.sections.proofs.Sharing.{takes_token}
use Rattle.sections.proofs.CpuViews.{adds_cut, fresh_section, has_room}
use Rattle.sections.proofs.Entering.{enters_reading}
use Rattle.sections.proofs.cpu.Cpu.enter.Goals as goal

pub join_seat-requires : goal.join_seat-requires
join_seat-requires g c = (search rules, search rules, search rules, search rules, takes_token _ _ _ _ _ (search (rules, free_nothing, free_section, free_shelf)) (search (rules, free_nothing, free_section, free_shelf)))

pub invariant_of-self : goal.invariant_of-self
invariant_of-self g c =
    let joined = c.join_seat.ensures.2 in
    let full : get_or c.self.inside.begun (index_number c.look.inside.index) 0 ≢ c.self.inside.limit = rw (← c.place.ensures) c.if-self-place.false in
    let two : length c.self.inside.begun ≡ 2 = search rules in
    rw c.place-2.ensures (enters_reading c.self.invariant two full c.begin_section-seat.ensures c.join_seat.ensures.0 (ap (λ m. m.0.processors) joined) (ap (λ m. m.0.role) joined) (ap (λ m. m.0.mine) joined) refl)

pub returns : goal.returns
returns g c =
    let b = c.begin_section-seat.ensures in
    let joined = c.join_seat.ensures.2 in
    let i = c.look.inside.index in
    let p : ℕ = c.self.inside.processor in
    let right = ap (λ m. m.0.right) b.given ∙ b.right in
    let full : get_or c.self.inside.begun (index_number i) 0 ≢ c.self.inside.limit = rw (← c.place.ensures) c.if-self-place.false in
    let same = b.same_table.0 ∙ c.join_seat.ensures.0 in
    rw (← c.self.view_is, ← c.look.view_is) (record {
      section = b.section;
      room = has_room _ _ _ (c.self.invariant.begun i) (c.self.invariant.limited i) full;
      fresh = ap (λ m. begins_of b.section m.0.seen) (sym joined) ∙ fresh_section _ _ _ _ _ _ b.adds;
      kind = b.kind;
      adds = adds_cut _ _ _ _ _ _ c.self.inside.seat.me.0 c.look.inside.seat.me.0 _ _ _ same c.self.invariant.placed.sized c.self.invariant.role (ap (λ m. m.0) joined) (ap (λ m. m.0) b.stays) b.adds;
      reading = λ k. record { domain = (b.same_table.1 ∙ c.join_seat.ensures.0) k; section = section_of (right k); processor = p; index = i; seen = (ap (λ m. m.0.seen) b.given ∙ sym (ap (λ m. m.0.seen) b.stays)) k; changes = (ap (λ m. m.0.changes) b.given ∙ sym (ap (λ m. m.0.changes) b.stays)) k };
    })
