-- Processors that make pairs side by side.
use Rattle.std.specs.Prelude.{◌≡◌, ℕ, ◌<◌, List, length, slice_index_or}
use Rattle.atomic_table.specs.Seated.{TableId}
use Rattle.sections.specs.Views.{CpuView}
use Rattle.sections.specs.Calls.{new_cpu}
use Rattle.srcubench.specs.declared.pairs.Reader.{Reader}
use Rattle.srcubench.specs.Pairs.{MakesPairs, AllMade}

-- the processor made so many pairs, with one load of the index word for each, and counted them
pub record HasMadeAll (pairs : ℕ) (c : CpuView) (reader : Reader) : Type 0 where
  pub all : AllMade pairs reader.made c reader.cpu
  pub pairs_made : MakesPairs pairs c reader.cpu

-- each of these processors did so
pub record HaveMadeAll (pairs : ℕ) (cpus : List CpuView) (readers : List Reader) : Type 0 where
  pub count : length readers ≡ length cpus
  pub each : (k : ℕ) (c : CpuView) (r : Reader) → k < length cpus → HasMadeAll pairs (slice_index_or cpus k c) (slice_index_or readers k r)

-- so did each processor of a new domain with so many of them
pub record AreReadersOfOne (threads pairs : ℕ) (readers : List Reader) : Type 0 where
  pub domain : TableId
  pub count : length readers ≡ threads
  pub each : (k : ℕ) (r : Reader) → k < threads → HasMadeAll pairs (new_cpu domain threads pairs k) (slice_index_or readers k r)
