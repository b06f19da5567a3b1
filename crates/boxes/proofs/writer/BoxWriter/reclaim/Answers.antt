-- One slot more has no box that can come back, or it came.
use Rattle.std.proofs.Common.{◌≡◌, ◌^◌, ◌≤◌, ◌⊎◌, inl, inr, ⊎_elim, refl, ◌∙◌, subst, arith}
use Rattle.boxes.specs.Boxes.{BoxWriterView}
use Rattle.boxes.specs.Writing.{TakesBack, IsNotBack}
use Rattle.boxes.proofs.Keeping.{one_more}
use Rattle.boxes.proofs.writer.BoxWriter.reclaim.Goals as goal

pub returns-in-Some-clause-back : goal.returns-in-Some-clause-back
returns-in-Some-clause-back g c =
    let lt = c.loop-slot-test.true in
    let many = c.slots-slot-end.ensures.0 in
    let same = (rw c.deref_mut.ensures.shows at c.reclaim.ensures).same.0.slots in
    let b = c.in-Some.ensures in
    rw (← c.self.view_is) (
      b.0,
      (b.1, b.2),
      record {
        asked = c.reclaim.new.self;
        reclaims = (rw c.deref_mut.ensures.shows at c.reclaim.ensures);
        slot = c.loop-slot.slot;
        inside = omega (arith, lt, many, same);
        takes = subst (λ (z : BoxWriterView _ _). TakesBack b.0 c.loop-slot.slot z c.take_back.new.self) c.loop-slot.invariant.same b.3;
      },
    )

pub loop-slot-preserved : goal.loop-slot-preserved
loop-slot-preserved g c =
    let v = c.loop-slot.invariant in
    let h : ((2 ^ 54 ≤ c.loop-slot.self.writer.version) ⊎ IsNotBack c.loop-slot.self c.loop-slot.slot) × (c.take_back.new.self ≡ c.loop-slot.self) = c.in-None.ensures in record {
      same = h.1 ∙ v.same;
      none = one_more c.loop-slot.slot v.none (subst (λ (z : BoxWriterView _ _). (2 ^ 54 ≤ z.writer.version) ⊎ IsNotBack z c.loop-slot.slot) v.same h.0);
    }

pub returns-clause-back : goal.returns-clause-back
returns-clause-back g c =
    let v = c.loop-slot.invariant in
    let done = c.loop-slot-test.false in
    let many = c.slots-slot-end.ensures.0 in
    let same = (rw c.deref_mut.ensures.shows at c.reclaim.ensures).same.0.slots in
    rw (v.same, ← c.self.view_is) (record {
      reclaims = (rw c.deref_mut.ensures.shows at c.reclaim.ensures);
      none = ⊎_elim inl (λ f. inr (λ x lt. f x (omega (arith, lt, done, many, same)))) v.none;
      rest = refl;
    })
