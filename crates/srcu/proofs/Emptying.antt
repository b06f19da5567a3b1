-- A box came back from its slot, or none has one.
use Rattle.std.proofs.Common.{◌≡◌, ℕ, List, Option, Some, None, Result, Ok, Err, MatchOption, sym, ap, subst}
use Rattle.std.specs.Prelude.{Box}
use Rattle.sections.specs.Views.{CpuView}
use Rattle.domain.specs.Views as domain
use Rattle.boxes.specs.Boxes.{BoxWriterView, Stored}
use Rattle.boxes.specs.Writing.{ComesBack, NoneFree, PutsNone, IsBoxOf}
use Rattle.srcu.specs.declared.worker.emptying.EmptyRefusal.{EmptyRefusal}
use Rattle.srcu.specs.declared.worker.emptying.EmptyRefusal.TheVariants.{TimedOut, Periods, Spent}
use Rattle.onedom.specs.Histories.{IsBeginning, IsClear}
use Rattle.onedom.proofs.CallerLemmas.{beginning_trans}
use Rattle.srcu.specs.Emptying.{Empties, EndsEmptying}
use Rattle.srcu.proofs.Since.{vain_since}

module _ {V A : Type 0} where
  -- a version with no box leaves each box where it is
  pub stored_put_none : {J : Type 0} (w w' : BoxWriterView V A) (c c' : domain.CpuView J) (r : Option ℕ) → MatchOption r (NoneFree w × (w' ≡ w) × (c' ≡ c)) (λ cookie. PutsNone cookie w c w' c') → w'.stored ≡ w.stored
  stored_put_none w w' c c' None h = ap (λ (z : BoxWriterView V A). z.stored) h.1
  stored_put_none w w' c c' (Some cookie) h = h.stored

  pub came_back : (b : Box V A) (w w' : BoxWriterView V A) (c c' : CpuView) → (s : Stored V A) × IsBoxOf b s × ComesBack s w c w' c' → Empties (Some b) w.stored w'
  came_back b w w' c c' h = (h.0, h.1, h.2.slot, h.2.takes.was, h.2.takes.stored, subst (λ (k : ℕ). IsClear w'.writer.seen k h.2.slot) (sym h.2.takes.same.cell) h.2.takes.clear)

  -- what was stored when it began is what is stored
  pub ends_from : {J : Type 0} (r : Result (Option (Box V A)) EmptyRefusal) (l m : List (Option (Stored V A))) (c d : domain.CpuView J) (w' : BoxWriterView V A) (c' : domain.CpuView J) → m ≡ l → IsBeginning c.cpu.seen d.cpu.seen → EndsEmptying r m d w' c' → EndsEmptying r l c w' c'
  ends_from r l m c d w' c' is since h = later r (subst (λ (z : List (Option (Stored V A))). EndsEmptying r z d w' c') is h)
    where
      later : (r : Result (Option (Box V A)) EmptyRefusal) → EndsEmptying r l d w' c' → EndsEmptying r l c w' c'
      later (Ok back) h = h
      later (Err (TimedOut left)) h = (h.0, h.1, h.2, beginning_trans since h.3, h.4, h.5)
      later (Err Periods) h = (h.0, vain_since c d c' since h.1)
      later (Err Spent) h = h
