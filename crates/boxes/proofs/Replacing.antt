-- Where no slot is free, no box came back.
use Rattle.std.proofs.Common.{◌≡◌, ℕ, ◌^◌, ◌<◌, ◌≤◌, ◌⊎◌, inl, inr, ⊎_elim, Option, Some, None, List, get_or, ap, ◌∙◌, arith}
use Rattle.std.specs.Prelude.{Box}
use Rattle.sections.specs.Views.{CpuView}
use Rattle.boxes.specs.Boxes.{Stored, BoxWriterView}
use Rattle.boxes.specs.Writing.{NoneFree, ComesBack, NoneComesBack, BringsBack}
use Rattle.boxes.proofs.Keeping.{set_nothing}

module _ {V A : Type 0} where
  -- the slot of a box that came back is free
  not_both : (s : Stored V A) (w freed : BoxWriterView V A) (c c' : CpuView) → ComesBack s w c freed c' → NoneFree freed → ⊥
  not_both s w freed c c' h (inl full) =
      let room = h.takes.room in
      let same = h.takes.same.version in
      absurd (omega (arith, full, room, same))
  not_both s w freed c c' h (inr none) =
      let inside = h.inside in
      let first = h.reclaims.same.0.slots in
      let second = h.takes.same.slots in
      let lt : h.slot < freed.writer.slots = omega (arith, inside, first, second) in
      ⊎_elim
      (λ has. has (ap (λ (l : List (Option (Stored V A))). get_or l h.slot None) h.takes.stored ∙ set_nothing w.stored h.slot None))
      (λ out. out h.takes.free)
      (none h.slot lt)

  pub none_back : (old : Option (Box V A)) (w freed : BoxWriterView V A) (c c' : CpuView) → BringsBack old w c freed c' → NoneFree freed → NoneComesBack w c freed c'
  none_back None w freed c c' h none = h
  none_back (Some b) w freed c c' h none = absurd (not_both h.0 w freed c c' h.2 none)
