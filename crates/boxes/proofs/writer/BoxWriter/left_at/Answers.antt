-- What is kept of the slot is a box, or nothing.
use Rattle.std.proofs.Common.{◌<◌, None, length, sym, ap, ◌∙◌, arith}
use Rattle.std.proofs.lemmas.List.{get_or_default, length-map}
use Rattle.boxes.specs.Boxes.{one_of}
use Rattle.boxes.specs.Insides.{stored_of}
use Rattle.boxes.proofs.Keeping.{stored_is}
use Rattle.boxes.proofs.writer.BoxWriter.left_at.Goals as goal

pub returns-in-Some : goal.returns-in-Some
returns-in-Some g c =
    let low = c.requires in
    let eight = c.self.invariant.eight in
    let lt : c.args.slot < length c.self.inside.rests = omega (arith, low, eight) in
    rw (← c.self.view_is) (sym (ap one_of (stored_is c.self.inside.rests c.args.slot ∙ ap stored_of (get_or_default c.self.inside.rests c.args.slot None c.index-self-slot.result lt ∙ c.in-Some.is))), omega arith, length-map c.self.inside.rests stored_of ∙ eight)

pub returns-in-None : goal.returns-in-None
returns-in-None g c =
    let low = c.requires in
    let eight = c.self.invariant.eight in
    let lt : c.args.slot < length c.self.inside.rests = omega (arith, low, eight) in
    rw (← c.self.view_is) (sym (ap one_of (stored_is c.self.inside.rests c.args.slot ∙ ap stored_of (get_or_default c.self.inside.rests c.args.slot None c.index-self-slot.result lt ∙ c.in-None.is))), omega arith, length-map c.self.inside.rests stored_of ∙ eight)
