-- How many sections are open.
use Rattle.std.specs.Prelude.{ℕ, Bool, false, List, Option, Some, None, count_by}
use Rattle.sseq.specs.declared.index.Index.{Index}
use Rattle.sseq.specs.declared.index.Index.TheVariants.{Zero, One}
use Rattle.sseq.specs.Indexes.{same_index}
use Rattle.onedom.specs.declared.event.Event.{Event}
use Rattle.onedom.specs.Histories.{index_of, open_sections}
use Rattle.names.specs.declared.open.Open.{Open}

-- how many sections of this index are open
abbrev pub open_of : Index → List Event → ℕ
open_of i history = count_by (λ s. same_index (index_of s history) i) (open_sections history)

-- how many of this index are counted
abbrev pub count_of : Index → Open → ℕ
count_of Zero o = o.zero
count_of One o = o.one

abbrev pub is_index : Index → Option Index → Bool
is_index i None = false
is_index i (Some j) = same_index j i
