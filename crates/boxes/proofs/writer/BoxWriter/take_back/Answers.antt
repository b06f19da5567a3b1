-- All parts of the slot's box came together.
use Rattle.std.proofs.Common.{◌≡◌, ℕ, List, Option, Some, None, length, map, get_or, set, rules, sym, ap, ◌∙◌, subst}
use Rattle.std.specs.Arc.{arc_value}
use Rattle.std.proofs.lemmas.List.{length-set}
use Rattle.onedom.specs.declared.event.Event.{Event}
use Rattle.onedom.specs.Histories.{IsClear}
use Rattle.sections.specs.declared.writer.Standing.TheVariants.{Blank, Out}
use Rattle.sections.specs.WriterViews.{WriterView}
use Rattle.sections.specs.Writers.{standing_of}
use Rattle.boxes.specs.declared.rest.Rest.{Rest}
use Rattle.boxes.specs.Insides.{stored_of, AreLaid, IsBoxWriter}
use Rattle.boxes.proofs.Keeping.{stored_is, stored_set, set_nothing}
use Rattle.boxes.proofs.Slots.{back_keeps, back_asks}
use Rattle.boxes.proofs.Putting.{same_trans, same_writer, same_standings}
use Rattle.boxes.proofs.writer.BoxWriter.take_back.Goals as goal

pub unwrap-deed-requires : goal.unwrap-deed-requires
unwrap-deed-requires g c = let e = c.take_at.ensures.value c.index-self-slot.result in search rules

pub collect_all-all-requires-clause-new : goal.collect_all-all-requires-clause-new
collect_all-all-requires-clause-new g c =
    let i = c.self.invariant in
    let eight = i.eight in
    let some : get_or c.self.inside.rests c.in_ok-given.given.slot None ≡ Some c.unwrap-deed.result = ap (λ (x : ℕ). get_or c.self.inside.rests x None) c.in_ok-given.ensures.0 ∙ (sym (c.take_at.ensures.value None) ∙ c.unwrap-deed.ensures) in
    (back_asks c.in_ok-given.given.slot c.self.inside.writer c.blank_at.new.self c.self.inside.rests c.unwrap-deed.result c.in_ok-given.ensures.1.low i.laid some c.in_ok-given.ensures.1.plan).0

pub collect_all-all-requires-clause-round : goal.collect_all-all-requires-clause-round
collect_all-all-requires-clause-round g c =
    let i = c.self.invariant in
    let eight = i.eight in
    let some : get_or c.self.inside.rests c.in_ok-given.given.slot None ≡ Some c.unwrap-deed.result = ap (λ (x : ℕ). get_or c.self.inside.rests x None) c.in_ok-given.ensures.0 ∙ (sym (c.take_at.ensures.value None) ∙ c.unwrap-deed.ensures) in
    (back_asks c.in_ok-given.given.slot c.self.inside.writer c.blank_at.new.self c.self.inside.rests c.unwrap-deed.result c.in_ok-given.ensures.1.low i.laid some c.in_ok-given.ensures.1.plan).1

pub thaw-requires-clause-round : goal.thaw-requires-clause-round
thaw-requires-clause-round g c =
    let i = c.self.invariant in
    let eight = i.eight in
    let some : get_or c.self.inside.rests c.in_ok-given.given.slot None ≡ Some c.unwrap-deed.result = ap (λ (x : ℕ). get_or c.self.inside.rests x None) c.in_ok-given.ensures.0 ∙ (sym (c.take_at.ensures.value None) ∙ c.unwrap-deed.ensures) in
    (back_keeps c.in_ok-given.given.slot c.self.inside.processors _ c.self.inside.writer c.blank_at.new.self c.collect_all-all.new.writer c.give_back.new.self c.self.inside.rests
    c.unwrap-deed.result c.collect_all-all.result eight c.in_ok-given.ensures.1.low i.keys i.laid some c.in_ok-given.ensures.1.plan c.collect_all-all.ensures.collects c.give_back.ensures.back.plan).2
    ∙ ap (λ z. z.round) (sym c.into_deed.ensures)

pub thaw-requires-clause-whole : goal.thaw-requires-clause-whole
thaw-requires-clause-whole g c =
    let i = c.self.invariant in
    let eight = i.eight in
    let some : get_or c.self.inside.rests c.in_ok-given.given.slot None ≡ Some c.unwrap-deed.result = ap (λ (x : ℕ). get_or c.self.inside.rests x None) c.in_ok-given.ensures.0 ∙ (sym (c.take_at.ensures.value None) ∙ c.unwrap-deed.ensures) in
    (back_keeps c.in_ok-given.given.slot c.self.inside.processors _ c.self.inside.writer c.blank_at.new.self c.collect_all-all.new.writer c.give_back.new.self c.self.inside.rests
    c.unwrap-deed.result c.collect_all-all.result eight c.in_ok-given.ensures.1.low i.keys i.laid some c.in_ok-given.ensures.1.plan c.collect_all-all.ensures.collects c.give_back.ensures.back.plan).3

pub invariant_of-self : goal.invariant_of-self
invariant_of-self g c = subst (λ (w : WriterView). IsBoxWriter record { writer = w; vault = c.self.inside.vault; processors = c.self.inside.processors; rests = c.self.inside.rests }) (sym c.in_err-given.ensures.same) c.self.invariant

pub invariant_of-self-2 : goal.invariant_of-self-2
invariant_of-self-2 g c =
    let i = c.self.invariant in
    let eight = i.eight in
    let some : get_or c.self.inside.rests c.in_ok-given.given.slot None ≡ Some c.unwrap-deed.result = ap (λ (x : ℕ). get_or c.self.inside.rests x None) c.in_ok-given.ensures.0 ∙ (sym (c.take_at.ensures.value None) ∙ c.unwrap-deed.ensures) in
    let k = back_keeps c.in_ok-given.given.slot c.self.inside.processors _ c.self.inside.writer c.blank_at.new.self c.collect_all-all.new.writer c.give_back.new.self
    c.self.inside.rests c.unwrap-deed.result c.collect_all-all.result eight c.in_ok-given.ensures.1.low i.keys i.laid some c.in_ok-given.ensures.1.plan c.collect_all-all.ensures.collects c.give_back.ensures.back.plan in record {
      eight = ap length c.take_at.ensures.row ∙ (length-set c.self.inside.rests c.args.slot None ∙ eight);
      keys = k.0;
      laid = subst (λ (l : List (Option (Rest _ _))). AreLaid c.give_back.new.self l) (sym (c.take_at.ensures.row ∙ ap (λ (x : ℕ). set c.self.inside.rests x None) (sym c.in_ok-given.ensures.0))) k.1;
    }

pub returns : goal.returns
returns g c =
    let i = c.self.invariant in
    let eight = i.eight in
    let some : get_or c.self.inside.rests c.args.slot None ≡ Some c.unwrap-deed.result = sym (c.take_at.ensures.value None) ∙ c.unwrap-deed.ensures in
    let gives = c.in_ok-given.ensures.1 in
    let same = same_trans _ _ _ gives.same (same_trans _ _ _ (same_writer _ _ _ c.collect_all-all.ensures.collects.same) c.give_back.ensures.back.same) in
    let seen = sym (c.give_back.ensures.back.seen ∙ ap (λ (z : WriterView). z.seen) c.collect_all-all.ensures.collects.same.rest) in
    rw (← c.self.view_is) (
      record { value = c.unwrap-deed.result.deed.deed.value; heap = c.unwrap-deed.result.deed.deed.heap; round = c.unwrap-deed.result.deed.deed.round },
      c.thaw.ensures.deed.0 ∙ ap (λ z. z.value) c.into_deed.ensures,
      c.thaw.ensures.deed.1 ∙ ap (λ z. z.heap) c.into_deed.ensures,
      record {
        room = gives.room;
        blank = subst (λ (x : ℕ). standing_of c.self.inside.writer x ≡ Blank) c.in_ok-given.ensures.0 gives.blank;
        clear = subst (λ (z : List Event × ℕ × ℕ). IsClear z.0 z.1 z.2) (λ i. (seen i, c.self.inside.writer.cell, c.in_ok-given.ensures.0 i)) gives.clear;
        was = stored_is c.self.inside.rests c.args.slot ∙ ap stored_of some;
        stored = ap (map stored_of) c.take_at.ensures.row ∙ stored_set c.self.inside.rests c.args.slot None;
        free = subst (λ (x : ℕ). standing_of c.give_back.new.self x ≡ Blank) c.in_ok-given.ensures.0 (ap (λ l. get_or l c.in_ok-given.given.slot Blank) c.give_back.ensures.back.standings ∙ set_nothing _ c.in_ok-given.given.slot Blank);
        standings = subst (λ (x : ℕ). c.give_back.new.self.standings ≡ set (set c.self.inside.writer.standings x Out) x Blank) c.in_ok-given.ensures.0
            (c.give_back.ensures.back.standings ∙ ap (λ l. set l c.in_ok-given.given.slot Blank) (same_standings _ _ _ c.collect_all-all.ensures.collects.same ∙ gives.standings));
        cell = λ n. record { domain = same.domain n; cell = same.cell n; processors = c.self.inside.processors; vault = arc_value c.self.inside.vault };
        same = same;
      },
    )
