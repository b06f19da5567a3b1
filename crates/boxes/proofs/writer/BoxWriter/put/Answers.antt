-- The parts of a box were laid in a slot with no box, and that was put.
use Rattle.std.proofs.Common.{◌≡◌, ℕ, ◌*◌, List, Option, Some, None, length, map, get_or, set, sym, ap, ◌∙◌, subst, arith}
use Rattle.std.proofs.lemmas.List.{length-set, get_or-set_same}
use Rattle.parts.specs.declared.part.Part.{Part}
use Rattle.sections.specs.declared.writer.Standing.{Standing}
use Rattle.sections.specs.declared.writer.Standing.TheVariants.{Blank}
use Rattle.boxes.specs.declared.rest.Rest.{Rest}
use Rattle.boxes.specs.Insides.{stored_of, AreLaid}
use Rattle.boxes.specs.Laying.{share}
use Rattle.boxes.proofs.Keeping.{none_there, stored_is, stored_set}
use Rattle.boxes.proofs.Slots.{put_keeps, bare_slot}
use Rattle.boxes.proofs.Putting.{put_stands, same_trans, same_writer, same_standings, puts_version, offer_put, taken_same, taken_out, taken_words}
use Rattle.boxes.proofs.writer.BoxWriter.put.Goals as goal

pub lay_all-part-requires-clause-empty : goal.lay_all-part-requires-clause-empty
lay_all-part-requires-clause-empty g c =
    let none = none_there c.self.inside.rests c.in-Some.slot.slot c.args.self.now c.free_slot.new.self c.in-Some.slot (ap (λ z. z.stored) c.self.view_is) c.in-Some.ensures in
    bare_slot c.in-Some.slot.slot c.self.inside.writer c.self.inside.rests c.in-Some.ensures.gives.1.low c.self.invariant.laid none

pub keep_at-requires : goal.keep_at-requires
keep_at-requires g c = let low = c.in-Some.ensures.gives.1.low in let is = c.number.ensures in omega (arith, low, is)

pub invariant_of-self : goal.invariant_of-self
invariant_of-self g c =
    let i = c.self.invariant in
    let part = c.freeze-deed.ensures.part in
    let deed = ap (λ z. z.round) c.new.ensures ∙ sym part.0 in
    let k = put_keeps c.in-Some.slot.slot c.self.inside.processors c.freeze-deed.result.1.round _ c.self.inside.writer c.lay_all-part.new.writer c.put_and_ask.new.writer c.self.inside.rests
    (record { deed = c.new.result; part = c.lay_all-part.result }) i.eight c.in-Some.ensures.gives.1.low i.keys i.laid c.lay_all-part.ensures.lays c.put_and_ask.ensures.puts.puts.plan
    (ap (λ (z : Part _). z.count) c.lay_all-part.ensures.rest) (ap (λ (z : Part _). z.round) c.lay_all-part.ensures.rest) deed in record {
      eight = ap length c.keep_at.ensures ∙ (length-set c.self.inside.rests c.number.result (Some (record { deed = c.new.result; part = c.lay_all-part.result })) ∙ i.eight);
      keys = k.0;
      laid = subst (λ (l : List (Option (Rest _ _))). AreLaid c.put_and_ask.new.writer l) (sym (c.keep_at.ensures ∙ ap (λ (x : ℕ). set c.self.inside.rests x (Some (record { deed = c.new.result; part = c.lay_all-part.result }))) c.number.ensures)) k.1;
    }

pub returns-clause-puts : goal.returns-clause-puts
returns-clause-puts g c =
    let part = c.freeze-deed.ensures.part in
    let lays = c.lay_all-part.ensures.lays in
    let some = c.self.invariant.keys.some in
    let same = same_trans _ _ _ (taken_same _ _ _ _ _ c.in-Some.ensures (ap (λ z. z.writer) c.self.view_is)) (same_writer _ _ _ lays.same) in
    let still = taken_words _ _ _ _ _ c.in-Some.ensures (ap (λ z. z.writer) c.self.view_is) in
    let stored = ap (λ z. z.stored) c.self.view_is ∙ ap (λ z. z.stored) c.in-Some.ensures.rest in
    let many = ap (λ z. z.processors) c.self.view_is ∙ ap (λ z. z.processors) c.in-Some.ensures.rest in
    let offers = offer_put c.put_and_ask.result c.in-Some.slot.slot c.args.self.now c.lay_all-part.new.writer c.put_and_ask.new.writer c.args.cpu.now c.put_and_ask.new.cpu same c.put_and_ask.ensures.puts in (
      record { value = c.new.result.deed.value; heap = c.new.result.deed.heap; round = c.new.result.deed.round },
      ap (λ z. z.value) c.new.ensures ∙ c.freeze-deed.ensures.deed.0,
      ap (λ z. z.heap) c.new.ensures ∙ c.freeze-deed.ensures.deed.1,
      record {
        version = puts_version c.put_and_ask.result c.in-Some.slot c.args.self.now c.free_slot.new.self _ c.lay_all-part.new.writer c.args.cpu.now c.put_and_ask.new.cpu c.in-Some.ensures same
            (same_standings _ _ _ lays.same ∙ taken_out _ _ _ _ _ c.in-Some.ensures (ap (λ z. z.writer) c.self.view_is))
            (ap (λ z. z.words) lays.same.rest ∙ still.0, ap (λ z. z.seen) lays.same.rest ∙ still.1) c.put_and_ask.ensures.puts many (ap (λ z. z.vault) c.self.view_is ∙ ap (λ z. z.vault) c.in-Some.ensures.rest);
        stored =
            ap (map stored_of) c.keep_at.ensures ∙ (stored_set c.self.inside.rests c.number.result (Some (record { deed = c.new.result; part = c.lay_all-part.result }))
            ∙ (λ i. set (stored i) (c.number.ensures i) (Some (record { value = c.new.result.deed.value; heap = c.new.result.deed.heap; round = c.new.result.deed.round }))));
        there = (let low = c.in-Some.ensures.gives.1.low in let eight = c.self.invariant.eight in let number = c.number.ensures in
            subst (λ (k : ℕ). get_or (map stored_of c.keep_at.new.row) k None ≡ Some (record { value = c.new.result.deed.value; heap = c.new.result.deed.heap; round = c.new.result.deed.round })) (number ∙ sym c.put_and_ask.ensures.puts.puts.current)
            (stored_is c.keep_at.new.row c.number.result ∙ ap stored_of
            (ap (λ (l : List (Option (Rest _ _))). get_or l c.number.result None) c.keep_at.ensures ∙ get_or-set_same c.self.inside.rests c.number.result (Some (record { deed = c.new.result; part = c.lay_all-part.result })) None (omega (arith, low, eight, number)))));
        stands = put_stands c.in-Some.slot.slot c.put_and_ask.result c.lay_all-part.new.writer c.put_and_ask.new.writer _ _
            (ap (λ (l : List Standing). get_or l c.in-Some.slot.slot Blank) (same_standings _ _ _ lays.same ∙ ap (λ z. z.writer.standings) c.self.view_is) ∙ c.in-Some.ensures.gives.1.own.out) c.put_and_ask.ensures.puts.puts;
        round = ap (λ o. o.round) offers ∙ (lays.round_is (omega (arith, some)) ∙ (part.0 ∙ sym (ap (λ z. z.round) c.new.ensures)));
        laid = ap (λ o. o.laid) offers ∙ (lays.laid ∙ ap (λ (n : ℕ). n * share) many);
        each = ap (λ o. o.each) offers ∙ (lays.each ∙ many);
      },
    )
