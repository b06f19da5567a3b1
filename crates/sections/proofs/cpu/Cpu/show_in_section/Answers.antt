use Rattle.std.proofs.Common.{rules, ◌≡◌, ◌≢◌, ℕ, ◌*◌, ◌<◌, ◌≤◌, List, get_or, ap, ◌∙◌, sym, subst, arith}
use Rattle.sseq.specs.Indexes.{index_number}
use Rattle.sseq.specs.declared.index.Index.TheVariants.{Zero, One}
use Rattle.onedom.specs.declared.event.Maker.TheVariants.{Processor}
use Rattle.sections.specs.Glossary.{Offer, Text, hand_in, KnowsVault, locks}
use Rattle.sections.proofs.Agreement.{lock_there, unlock_there}
use Rattle.sections.proofs.CpuViews.{has_room}
use Rattle.sections.proofs.Deeds.{cpu_makes}
use Rattle.sections.proofs.Drawing.{match_map}
use Rattle.sections.proofs.Ending.{sized, role}
use Rattle.sections.proofs.Entering.{looks_in_vain}
use Rattle.sections.proofs.OneCall.{sees_covered, index_found, BeganHere, began_here, s, right_here, placed_here, role_here, knows_here, found_here, finds_in_section, settled_here}
use Rattle.sections.proofs.Steps.{begins_here, ends_here}
use Rattle.sections.proofs.cpu.Cpu.show_in_section.Goals as goal

pub cover-requires-clause-maker : goal.cover-requires-clause-maker
cover-requires-clause-maker g c = (Processor c.self.inside.processor, cpu_makes _ _ c.self.invariant.role)

pub returns-then-self-place-clause-shows : goal.returns-then-self-place-clause-shows
returns-then-self-place-clause-shows g c =
    let full : get_or c.self.inside.begun (index_number c.of_word-current.result) 0 ≡ c.self.inside.limit = rw (← c.place.ensures) c.if-self-place.true in
    let table : c.cover.new.first.table_id ≡ c.self.inside.seat.table_id = c.cover.ensures.placed.seated ∙ (ap (λ t. t.shared.table_id) c.deref-table.ensures ∙ sym c.self.invariant.placed.seated) in
    let looks = c.cover.ensures.first in
    rw (← c.self.view_is) (looks_in_vain c.self.invariant c.cover.new.first table (sees_covered c.self.invariant.rests looks) looks.current (index_found looks c.of_word-current.ensures c.cover.ensures.word) full)

pub place_of_cell-there-requires-clause-wide : goal.place_of_cell-there-requires-clause-wide
place_of_cell-there-requires-clause-wide g c = rw c.deref-table.ensures (c.self.invariant.placed.wide, c.self.invariant.placed.cells)

pub fetch_add-requires : goal.fetch_add-requires
fetch_add-requires g c =
    let full : get_or c.self.inside.begun (index_number c.of_word-current.result) 0 ≢ c.self.inside.limit = rw (← c.place.ensures) c.if-self-place.false in
    let there : c.self.inside.processor < c.deref-table.result.now.shared.key.processors = subst (λ (n : ℕ). c.self.inside.processor < n) (ap (λ t. t.shared.key.processors) (sym c.deref-table.ensures)) c.self.invariant.there in
    let placed = c.cover.ensures.placed in let looks = c.cover.ensures.first in
    let room : locks c.self.inside.processor c.of_word-current.result c.cover.new.first.me.0.mine < c.deref-table.result.now.shared.key.sections =
    subst (λ (n : ℕ). locks c.self.inside.processor c.of_word-current.result c.cover.new.first.me.0.mine < n) (c.self.invariant.limit ∙ ap (λ t. t.shared.key.sections) (sym c.deref-table.ensures))
    (has_room _ _ _ (c.self.invariant.begun c.of_word-current.result ∙ ap (locks c.self.inside.processor c.of_word-current.result) (sym looks.mine)) (c.self.invariant.limited c.of_word-current.result) full) in (
      placed.seated,
      rw (c.place_of_lock.ensures, placed.wide) (lock_there _ _ _ _ there),
      begins_here _ _ _ _ _ _ c.self.inside.processor c.of_word-current.result placed.sized (looks.role ∙ c.self.invariant.role) there c.place_of_lock.ensures room (ap hand_in looks.right),
    )

pub show_here-shown-requires-clause-placed : goal.show_here-shown-requires-clause-placed
show_here-shown-requires-clause-placed g c =
    let full : get_or c.self.inside.begun (index_number c.of_word-current.result) 0 ≢ c.self.inside.limit = rw (← c.place.ensures) c.if-self-place.false in
    let table : c.cover.new.first.table_id ≡ c.self.inside.seat.table_id = c.cover.ensures.placed.seated ∙ (ap (λ t. t.shared.table_id) c.deref-table.ensures ∙ sym c.self.invariant.placed.seated) in
    let b : BeganHere c.self.inside c.known.inside.seat.me.0 c.of_word-current.result c.cover.new.first c.fetch_add.new.seat =
    began_here c.self.invariant (search rules) full table c.cover.ensures.first c.of_word-current.ensures c.cover.ensures.word (c.fetch_add.ensures.2.1 c.self.inside.processor c.of_word-current.result (c.cover.ensures.first.role ∙ c.self.invariant.role) c.place_of_lock.ensures) in
    rw c.deref-table.ensures (placed_here c.known.inside b c.fetch_add.ensures.0 (c.fetch_add.ensures.2.0 ∙ c.cover.ensures.placed.bare))

pub show_here-shown-requires-clause-role : goal.show_here-shown-requires-clause-role
show_here-shown-requires-clause-role g c =
    let full : get_or c.self.inside.begun (index_number c.of_word-current.result) 0 ≢ c.self.inside.limit = rw (← c.place.ensures) c.if-self-place.false in
    let table : c.cover.new.first.table_id ≡ c.self.inside.seat.table_id = c.cover.ensures.placed.seated ∙ (ap (λ t. t.shared.table_id) c.deref-table.ensures ∙ sym c.self.invariant.placed.seated) in
    let b : BeganHere c.self.inside c.known.inside.seat.me.0 c.of_word-current.result c.cover.new.first c.fetch_add.new.seat =
    began_here c.self.invariant (search rules) full table c.cover.ensures.first c.of_word-current.ensures c.cover.ensures.word (c.fetch_add.ensures.2.1 c.self.inside.processor c.of_word-current.result (c.cover.ensures.first.role ∙ c.self.invariant.role) c.place_of_lock.ensures) in
    let there : c.self.inside.processor < c.deref-table.result.now.shared.key.processors = subst (λ (n : ℕ). c.self.inside.processor < n) (ap (λ t. t.shared.key.processors) (sym c.deref-table.ensures)) c.self.invariant.there in
    (role_here c.known.inside b, there)

pub show_here-shown-requires-clause-section : goal.show_here-shown-requires-clause-section
show_here-shown-requires-clause-section g c =
    let full : get_or c.self.inside.begun (index_number c.of_word-current.result) 0 ≢ c.self.inside.limit = rw (← c.place.ensures) c.if-self-place.false in
    let table : c.cover.new.first.table_id ≡ c.self.inside.seat.table_id = c.cover.ensures.placed.seated ∙ (ap (λ t. t.shared.table_id) c.deref-table.ensures ∙ sym c.self.invariant.placed.seated) in
    let b : BeganHere c.self.inside c.known.inside.seat.me.0 c.of_word-current.result c.cover.new.first c.fetch_add.new.seat =
    began_here c.self.invariant (search rules) full table c.cover.ensures.first c.of_word-current.ensures c.cover.ensures.word (c.fetch_add.ensures.2.1 c.self.inside.processor c.of_word-current.result (c.cover.ensures.first.role ∙ c.self.invariant.role) c.place_of_lock.ensures) in
    record { section = s c.known.inside b; begun_on = c.self.inside.processor; index = c.of_word-current.result; right = right_here c.known.inside b }

pub show_here-shown-requires-clause-vault : goal.show_here-shown-requires-clause-vault
show_here-shown-requires-clause-vault g c =
    let full : get_or c.self.inside.begun (index_number c.of_word-current.result) 0 ≢ c.self.inside.limit = rw (← c.place.ensures) c.if-self-place.false in
    let table : c.cover.new.first.table_id ≡ c.self.inside.seat.table_id = c.cover.ensures.placed.seated ∙ (ap (λ t. t.shared.table_id) c.deref-table.ensures ∙ sym c.self.invariant.placed.seated) in
    let b : BeganHere c.self.inside c.known.inside.seat.me.0 c.of_word-current.result c.cover.new.first c.fetch_add.new.seat =
    began_here c.self.invariant (search rules) full table c.cover.ensures.first c.of_word-current.ensures c.cover.ensures.word (c.fetch_add.ensures.2.1 c.self.inside.processor c.of_word-current.result (c.cover.ensures.first.role ∙ c.self.invariant.role) c.place_of_lock.ensures) in
    let count = sym (ap (λ z. z.processors) c.self.view_is) ∙ ap (λ t. t.shared.key.processors) (sym c.deref-table.ensures) in
    let knew = subst (λ (l : List Text). KnowsVault c.args.cell (8 * c.args.self.now.processors) c.args.vault.now l) (sym (ap (λ z. z.texts) c.known.view_is)) c.requires.vault in
    subst (λ (n : ℕ). KnowsVault c.args.cell (8 * n) c.args.vault.now c.fetch_add.new.seat.me.0.texts) count (knows_here c.known.inside b c.args.cell (8 * c.args.self.now.processors) c.args.vault.now knew)

pub fetch_add-self-inside-requires : goal.fetch_add-self-inside-requires
fetch_add-self-inside-requires g c =
    let full : get_or c.self.inside.begun (index_number c.of_word-current.result) 0 ≢ c.self.inside.limit = rw (← c.place.ensures) c.if-self-place.false in
    let table : c.cover.new.first.table_id ≡ c.self.inside.seat.table_id = c.cover.ensures.placed.seated ∙ (ap (λ t. t.shared.table_id) c.deref-table.ensures ∙ sym c.self.invariant.placed.seated) in
    let b : BeganHere c.self.inside c.known.inside.seat.me.0 c.of_word-current.result c.cover.new.first c.fetch_add.new.seat =
    began_here c.self.invariant (search rules) full table c.cover.ensures.first c.of_word-current.ensures c.cover.ensures.word (c.fetch_add.ensures.2.1 c.self.inside.processor c.of_word-current.result (c.cover.ensures.first.role ∙ c.self.invariant.role) c.place_of_lock.ensures) in
    let there : c.self.inside.processor < c.deref-table.result.now.shared.key.processors = subst (λ (n : ℕ). c.self.inside.processor < n) (ap (λ t. t.shared.key.processors) (sym c.deref-table.ensures)) c.self.invariant.there in
    let h = c.show_here-shown.ensures.0 in
    let f = found_here c.known.inside b h in (
      h.same_table ∙ (c.fetch_add.ensures.0 ∙ c.cover.ensures.placed.seated),
      rw (c.place_of_unlock.ensures, c.cover.ensures.placed.wide) (unlock_there _ _ _ _ there),
      ends_here _ _ _ _ c.show_here-shown.new.seat.me (s c.known.inside b) c.self.inside.processor c.self.inside.processor c.of_word-current.result (sized f ∙ ap (λ t. t.shared.key.processors) (sym c.deref-table.ensures)) (role f) (h.right ∙ right_here c.known.inside b) there c.place_of_unlock.ensures,
    )

pub overflow_add-self-2 : goal.overflow_add-self-2
overflow_add-self-2 g c = let was = c.self.invariant.settled in let a = c.self.invariant.limited Zero in let b = c.self.invariant.limited One in let small = c.self.invariant.small in omega (arith, was, a, b, small)

pub invariant_of-self-2 : goal.invariant_of-self-2
invariant_of-self-2 g c =
    let full : get_or c.self.inside.begun (index_number c.of_word-current.result) 0 ≢ c.self.inside.limit = rw (← c.place.ensures) c.if-self-place.false in
    let table : c.cover.new.first.table_id ≡ c.self.inside.seat.table_id = c.cover.ensures.placed.seated ∙ (ap (λ t. t.shared.table_id) c.deref-table.ensures ∙ sym c.self.invariant.placed.seated) in
    let b : BeganHere c.self.inside c.known.inside.seat.me.0 c.of_word-current.result c.cover.new.first c.fetch_add.new.seat =
    began_here c.self.invariant (search rules) full table c.cover.ensures.first c.of_word-current.ensures c.cover.ensures.word (c.fetch_add.ensures.2.1 c.self.inside.processor c.of_word-current.result (c.cover.ensures.first.role ∙ c.self.invariant.role) c.place_of_lock.ensures) in
    let h = c.show_here-shown.ensures.0 in
    let f = found_here c.known.inside b h in
    let told = c.fetch_add-self-inside.ensures.2.2 (s c.known.inside b) c.self.inside.processor c.self.inside.processor c.of_word-current.result (role f) (h.right ∙ right_here c.known.inside b) in
    let last = c.fetch_add-self-inside.ensures.0 ∙ (h.same_table ∙ (c.fetch_add.ensures.0 ∙ table)) in
    rw c.place-2.ensures (settled_here c.known.inside b h c.fetch_add-self-inside.new.seat last c.fetch_add-self-inside.ensures.2.1 told.0 (c.fetch_add-self-inside.ensures.2.0 ∙ h.bare) told.1)

pub returns-clause-shows : goal.returns-clause-shows
returns-clause-shows g c =
    let full : get_or c.self.inside.begun (index_number c.of_word-current.result) 0 ≢ c.self.inside.limit = rw (← c.place.ensures) c.if-self-place.false in
    let table : c.cover.new.first.table_id ≡ c.self.inside.seat.table_id = c.cover.ensures.placed.seated ∙ (ap (λ t. t.shared.table_id) c.deref-table.ensures ∙ sym c.self.invariant.placed.seated) in
    let b : BeganHere c.self.inside c.known.inside.seat.me.0 c.of_word-current.result c.cover.new.first c.fetch_add.new.seat =
    began_here c.self.invariant (search rules) full table c.cover.ensures.first c.of_word-current.ensures c.cover.ensures.word (c.fetch_add.ensures.2.1 c.self.inside.processor c.of_word-current.result (c.cover.ensures.first.role ∙ c.self.invariant.role) c.place_of_lock.ensures) in
    let h = c.show_here-shown.ensures.0 in
    let f = found_here c.known.inside b h in
    let told = c.fetch_add-self-inside.ensures.2.2 (s c.known.inside b) c.self.inside.processor c.self.inside.processor c.of_word-current.result (role f) (h.right ∙ right_here c.known.inside b) in
    let last = c.fetch_add-self-inside.ensures.0 ∙ (h.same_table ∙ (c.fetch_add.ensures.0 ∙ table)) in
    let reads = finds_in_section c.known.inside b h c.fetch_add-self-inside.new.seat last c.fetch_add-self-inside.ensures.2.1 told.0 in
    rw (← c.self.view_is, ← c.known.view_is) (reads.0, match_map c.show_here-shown.result (λ none. subst (λ (o : Offer). o.each ≤ c.self.inside.processor) (sym reads.1) none) (λ u s. (s.0, s.1 ∙ sym (ap (λ (o : Offer). o.round) reads.1), s.2)) c.show_here-shown.ensures.1)
