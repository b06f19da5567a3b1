-- The part that is left here reads what the deed has.
use Rattle.std.proofs.Common.{◌≡◌, ℕ, ◌<◌, Some, None, length, get_or, sym, ap, ◌∙◌, arith}
use Rattle.std.proofs.lemmas.List.{get_or_default}
use Rattle.boxes.specs.Insides.{stored_of}
use Rattle.boxes.proofs.Keeping.{stored_is, one_round}
use Rattle.boxes.proofs.writer.BoxWriter.current.Goals as goal

pub agree-requires : goal.agree-requires
agree-requires g c =
    let low = c.current_slot-slot.ensures.1 in
    let eight = c.self.invariant.eight in
    let lt : c.current_slot-slot.result < length c.self.inside.rests = omega (arith, low, eight) in
    one_round c.current_slot-slot.result c.self.inside.writer c.self.inside.rests c.in-Some.rest low c.self.invariant.laid (get_or_default c.self.inside.rests c.current_slot-slot.result None c.index-self-slot.result lt ∙ c.in-Some.is)

pub returns-in-Some : goal.returns-in-Some
returns-in-Some g c =
    let low = c.current_slot-slot.ensures.1 in
    let eight = c.self.invariant.eight in
    let lt : c.current_slot-slot.result < length c.self.inside.rests = omega (arith, low, eight) in
    let some : get_or c.self.inside.rests c.self.inside.writer.current None ≡ Some c.in-Some.rest = ap (λ (k : ℕ). get_or c.self.inside.rests k None) (sym c.current_slot-slot.ensures.0)
    ∙ (get_or_default c.self.inside.rests c.current_slot-slot.result None c.index-self-slot.result lt ∙ c.in-Some.is) in
    rw (← c.self.view_is) (record { value = c.in-Some.rest.deed.deed.value; heap = c.in-Some.rest.deed.deed.heap; round = c.in-Some.rest.deed.deed.round }, stored_is c.self.inside.rests c.self.inside.writer.current ∙ ap stored_of some, c.get.ensures ∙ c.agree.ensures)
