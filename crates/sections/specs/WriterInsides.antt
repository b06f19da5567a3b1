-- How the fields of the writer of a cell and of a slot are seen, and what is always true of them.
use Rattle.std.specs.Prelude.{◌≡◌, ◌≢◌, Some, None, ℕ, ◌+◌, ◌^◌, ◌<◌, ◌≤◌, List, [], length, count_by, slice_index_or}
use Rattle.onedom.specs.Histories.{slot_of, version_of, IsLegal}
use Rattle.sections.specs.declared.view.Plan.{Plan}
use Rattle.sections.specs.declared.view.Right.{Right}
use Rattle.sections.specs.declared.view.Right.TheVariants.{Nothing, Section, Shelf, Undealt}
use Rattle.sections.specs.declared.writer.Writer.TheInside as writer
use Rattle.sections.specs.declared.writer.Slot.TheInside as slot
use Rattle.sections.specs.declared.writer.Standing.TheVariants.{Blank, Out}
use Rattle.sections.specs.Words.{cells_in}
use Rattle.sections.specs.Banks.{no_plan}
use Rattle.sections.specs.WriterViews.{WriterView, SlotView}
use Rattle.sections.specs.Writers.{is_out, Stands}

-- the words that go with a right to a cell
abbrev pub words_with : Right → List ℕ
words_with Nothing = []
words_with (Section s p i us hand) = []
words_with (Shelf c own h q) = own
words_with (Undealt k) = []

-- and what is known of its keys
abbrev pub plan_with : Right → Plan
plan_with Nothing = no_plan
plan_with (Section s p i us hand) = no_plan
plan_with (Shelf c own h q) = q
plan_with (Undealt k) = no_plan

abbrev pub view_of_writer : writer.Inside → WriterView
view_of_writer w = record {
  domain = w.seat.table_id;
  cell = w.cell;
  slots = w.slots;
  version = w.version;
  current = w.current;
  standings = w.standings;
  words = words_with w.seat.me.0.right;
  plan = plan_with w.seat.me.0.right;
  seen = w.seat.me.0.seen;
  changes = w.seat.me.0.changes;
  texts = w.seat.me.0.texts;
}

pub record IsWriter (w : writer.Inside) : Type 0 where
  pub bare : w.seat.me.1 ≡ []
  pub right : w.seat.me.0.right ≡ Shelf w.cell (words_with w.seat.me.0.right) w.seat.me.0.seen (plan_with w.seat.me.0.right)
  pub free : (plan_with w.seat.me.0.right).hand ≡ None
  pub long : length (words_with w.seat.me.0.right) ≡ 128
  pub legal : IsLegal w.seat.me.0.seen
  pub inside : w.cell < cells_in w.seat.table_id
  pub some : 2 ≤ w.slots
  pub most : w.slots ≤ 8
  pub version : w.version ≡ version_of w.cell w.seat.me.0.seen
  pub current : slot_of w.cell w.seat.me.0.seen ≡ w.current
  pub low : w.current < w.slots
  pub small : w.version + count_by is_out w.standings ≤ 2 ^ 54 + 7
  pub homes : (x : ℕ) → x < w.slots → slice_index_or w.standings x Blank ≢ Out → slice_index_or w.homes x None ≡ Some w.seat.table_id
  pub stands : (x : ℕ) → x < w.slots → Stands w.seat.me.0.seen w.cell x (slice_index_or w.standings x Blank)

abbrev pub view_of_slot : slot.Inside → SlotView
view_of_slot s = record { domain = s.home; cell = s.cell; slot = s.slot }

pub record IsSlot (s : slot.Inside) : Type 0 where
  pub low : s.slot < 8
