-- How the fields of a pin, of what reads boxes and of their writer are seen, and what is always true of them.
use Rattle.std.specs.Prelude.{◌≡◌, ℕ, ◌+◌, ◌*◌, ◌^◌, ◌<◌, List, Option, Some, None, length, map, slice_index_or}
use Rattle.std.specs.Arc.{arc_value}
use Rattle.sections.specs.declared.view.Bank.{Bank}
use Rattle.sections.specs.Words.{cells_in}
use Rattle.sections.specs.WriterViews.{WriterView}
use Rattle.sections.specs.Boxes.{bank_in, KnowsVault}
use Rattle.sections.specs.Loans.{IsPartOf}
use Rattle.boxes.specs.declared.pin.BoxPin.TheInside as pin
use Rattle.boxes.specs.declared.readers.Boxes.TheInside as readers
use Rattle.boxes.specs.declared.writer.BoxWriter.TheInside as writer
use Rattle.boxes.specs.declared.rest.Rest.{Rest}
use Rattle.boxes.specs.Boxes.{BoxesView, PinView, Stored, BoxWriterView}
use Rattle.boxes.specs.Laying.{HasKeys}

module _ {V R : Type 0} where
  abbrev pub view_of_pin : pin.Inside V R → PinView V
  view_of_pin p = record { section = p.loan.section; found = p.loan.found; value = p.part.value }

  -- its part is one of the box of the version
  abbrev pub IsPin : pin.Inside V R → Type 0
  IsPin p = IsPartOf p.part p.loan.found

module _ {V A : Type 0} where
  abbrev pub view_of_boxes : readers.Inside V A → BoxesView
  view_of_boxes b = record { domain = b.first.domain; cell = b.cell; processors = b.processors; vault = arc_value b.vault }

  -- who has seen as much as it knows that all keys of the vault were laid in the cell
  pub record IsBoxes (b : readers.Inside V A) : Type 0 where
    pub inside : b.cell < cells_in b.first.domain
    pub knows : KnowsVault b.cell (8 * b.processors) (arc_value b.vault) b.first.texts

  -- what is left of a box that was put
  abbrev pub stored_of : Option (Rest V A) → Option (Stored V A)
  stored_of None = None
  stored_of (Some r) = Some (record { value = r.deed.deed.value; heap = r.deed.deed.heap; round = r.deed.deed.round })

  abbrev pub view_of_writer : writer.Inside V A → BoxWriterView V A
  view_of_writer w = record { writer = w.writer; processors = w.processors; vault = arc_value w.vault; stored = map stored_of w.rests }

  -- all parts of the box lie in its slot, but for those that are left here. A slot with no box has none
  abbrev pub IsLaid : Bank → Option (Rest V A) → Type 0
  IsLaid b None = (b.laid ≡ 0) × (b.each ≡ 0)
  IsLaid b (Some r) = (b.laid + r.part.count ≡ 2 ^ 63) × (b.round ≡ r.deed.deed.round) × (r.part.round ≡ r.deed.deed.round) × (b.emptied ≡ 0)

  -- so it is in each slot
  abbrev pub AreLaid : WriterView → List (Option (Rest V A)) → Type 0
  AreLaid w rests = (x : ℕ) → x < 8 → IsLaid (bank_in w x) (slice_index_or rests x None)

  pub record IsBoxWriter (w : writer.Inside V A) : Type 0 where
    pub eight : length w.rests ≡ 8
    pub keys : HasKeys w.processors (arc_value w.vault) w.writer
    pub laid : AreLaid w.writer w.rests
