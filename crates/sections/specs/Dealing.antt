-- A new writer.
use Rattle.std.specs.Prelude.{◌≡◌, ℕ, ◌<◌, List, [], ◌∷◌, length, replicate, slice_index_or}
use Rattle.atomic_table.specs.Seated.{TableId}
use Rattle.sections.specs.declared.writer.Standing.TheVariants.{Blank, Current}
use Rattle.sections.specs.Banks.{no_plan}
use Rattle.sections.specs.WriterViews.{WriterView}

abbrev pub new_writer : TableId → ℕ → ℕ → WriterView
new_writer domain cell slots = record {
  domain = domain;
  cell = cell;
  slots = slots;
  version = 0;
  current = 0;
  standings = Current ∷ Blank ∷ Blank ∷ Blank ∷ Blank ∷ Blank ∷ Blank ∷ Blank ∷ [];
  words = replicate 128 0;
  plan = no_plan;
  seen = [];
  changes = 0;
  texts = [];
}

-- one for each cell, in their order, each with so many slots
pub record AreNewWriters (domain : TableId) (cells slots : ℕ) (writers : List WriterView) : Type 0 where
  pub count : length writers ≡ cells
  pub each : (k : ℕ) (d : WriterView) → k < cells → slice_index_or writers k d ≡ new_writer domain k slots
