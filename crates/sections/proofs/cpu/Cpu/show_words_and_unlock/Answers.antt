use Rattle.std.proofs.Common.{rules, ◌<◌, ℕ, subst, ap, ◌∙◌, sym, arith}
use Rattle.sseq.specs.declared.index.Index.TheVariants.{Zero, One}
use Rattle.sections.specs.Insides.{section_of}
use Rattle.sections.proofs.Agreement.{unlock_there}
use Rattle.sections.proofs.Banking.{free_nothing, free_section, free_shelf}
use Rattle.sections.proofs.Ending.{sized, role, settles}
use Rattle.sections.proofs.Readings.{found_read, reads_and_ends}
use Rattle.sections.proofs.Sharing.{takes_token}
use Rattle.sections.proofs.Steps.{ends_here}
use Rattle.sections.proofs.cpu.Cpu.show_words_and_unlock.Goals as goal

pub join_seat-requires : goal.join_seat-requires
join_seat-requires g c = (search rules, search rules, search rules, search rules, takes_token _ _ _ _ _ (search (rules, free_nothing, free_section, free_shelf)) (search (rules, free_nothing, free_section, free_shelf)))

pub words_here-words-requires-clause-section : goal.words_here-words-requires-clause-section
words_here-words-requires-clause-section g c = record { section = section_of c.reading.inside.seat.me.0.right; begun_on = c.reading.inside.processor; index = c.reading.inside.index; right = ap (λ m. m.0.right) c.join_seat.ensures.2 ∙ c.reading.invariant.right }

pub words_here-words-requires-clause-role : goal.words_here-words-requires-clause-role
words_here-words-requires-clause-role g c = (c.self.inside.processor, ap (λ m. m.0.role) c.join_seat.ensures.2 ∙ c.self.invariant.role, subst (λ (n : ℕ). c.self.inside.processor < n) (ap (λ t. t.shared.key.processors) (sym c.deref-2.ensures)) c.self.invariant.there)

pub fetch_add-requires : goal.fetch_add-requires
fetch_add-requires g c =
    let joined = c.join_seat.ensures.2 in let h = c.words_here-words.ensures in
    let f = found_read c.reading.inside.seat c.join_seat.new.seat c.words_here-words.new.seat c.self.invariant c.reading.invariant.right (ap (λ m. m.0) joined) h in
    let key = ap (λ t. t.shared.key.processors) (sym c.deref.ensures) in (
      h.same_table ∙ (c.join_seat.ensures.0 ∙ (c.self.invariant.placed.seated ∙ ap (λ t. t.shared.table_id) (sym c.deref.ensures))),
      rw c.place_of_unlock.ensures (search (rules, unlock_there)),
      ends_here _ _ _ _ c.words_here-words.new.seat.me (section_of c.reading.inside.seat.me.0.right) c.reading.inside.processor c.self.inside.processor c.reading.inside.index
          (sized f ∙ key) (role f) (h.right ∙ (ap (λ m. m.0.right) joined ∙ c.reading.invariant.right)) (search rules) c.place_of_unlock.ensures,
    )

pub overflow_add-self : goal.overflow_add-self
overflow_add-self g c = let was = c.self.invariant.settled in let a = c.self.invariant.limited Zero in let b = c.self.invariant.limited One in let small = c.self.invariant.small in omega (arith, was, a, b, small)

pub invariant_of-self : goal.invariant_of-self
invariant_of-self g c =
    let joined = c.join_seat.ensures.2 in let h = c.words_here-words.ensures in
    let f = found_read c.reading.inside.seat c.join_seat.new.seat c.words_here-words.new.seat c.self.invariant c.reading.invariant.right (ap (λ m. m.0) joined) h in
    let told = c.fetch_add.ensures.2.2 (section_of c.reading.inside.seat.me.0.right) c.reading.inside.processor c.self.inside.processor c.reading.inside.index (role f) (h.right ∙ (ap (λ m. m.0.right) joined ∙ c.reading.invariant.right)) in
    let here = ap (λ z. z.processor) c.reading.view_is ∙ (c.requires.here.1 ∙ sym (ap (λ z. z.processor) c.self.view_is)) in
    settles f c.fetch_add.new.seat (c.fetch_add.ensures.0 ∙ (h.same_table ∙ c.join_seat.ensures.0)) c.fetch_add.ensures.2.1 told.0 (c.fetch_add.ensures.2.0 ∙ h.bare) here c.reading.invariant.kind told.1

pub returns : goal.returns
returns g c =
    let joined = c.join_seat.ensures.2 in let h = c.words_here-words.ensures in
    let f = found_read c.reading.inside.seat c.join_seat.new.seat c.words_here-words.new.seat c.self.invariant c.reading.invariant.right (ap (λ m. m.0) joined) h in
    let told = c.fetch_add.ensures.2.2 (section_of c.reading.inside.seat.me.0.right) c.reading.inside.processor c.self.inside.processor c.reading.inside.index (role f) (h.right ∙ (ap (λ m. m.0.right) joined ∙ c.reading.invariant.right)) in (
      c.words_here-words.result,
      rw (← c.self.view_is, ← c.reading.view_is) (reads_and_ends c.reading.inside.seat c.join_seat.new.seat c.words_here-words.new.seat c.self.invariant c.reading.invariant.right
          (ap (λ m. m.0) joined) h c.fetch_add.new.seat (c.fetch_add.ensures.0 ∙ (h.same_table ∙ c.join_seat.ensures.0)) c.fetch_add.ensures.2.1 told.0),
      (_, c.show-shown.ensures, λ i. c.words_here-words.result),
    )
