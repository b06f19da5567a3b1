-- One slot more is not free.
use Rattle.std.proofs.Common.{◌≡◌, ◌^◌, ◌≤◌, ◌⊎◌, inl, inr, ⊎_elim, ap, ◌∙◌, subst, arith}
use Rattle.boxes.specs.Boxes.{BoxWriterView}
use Rattle.boxes.specs.Laying.{IsNotFree}
use Rattle.boxes.proofs.Keeping.{one_more}
use Rattle.boxes.proofs.writer.BoxWriter.free_slot.Goals as goal

pub loop-slot-preserved : goal.loop-slot-preserved
loop-slot-preserved g c =
    let v = c.loop-slot.invariant in
    let h : ((2 ^ 54 ≤ c.loop-slot.self.writer.version) ⊎ IsNotFree c.loop-slot.self c.loop-slot.slot) × (c.free_at.new.self ≡ c.loop-slot.self) = c.in-None.ensures in record {
      same = h.1 ∙ v.same;
      none = one_more {P = λ x. IsNotFree c.args.self.now x} c.loop-slot.slot v.none (subst (λ (z : BoxWriterView _ _). (2 ^ 54 ≤ z.writer.version) ⊎ IsNotFree z c.loop-slot.slot) v.same h.0);
    }

pub returns : goal.returns
returns g c =
    let v = c.loop-slot.invariant in
    let done = c.loop-slot-test.false in
    let many = c.slots-slot-end.ensures.0 in
    let same = ap (λ z. z.writer.slots) c.self.view_is in
    (⊎_elim inl (λ f. inr (λ x lt. f x (omega (arith, lt, done, many, same)))) v.none, v.same)
