-- Who holds the grace period up that runs.
use Rattle.std.specs.Prelude.{◌≡◌, List}
use Rattle.sseq.specs.declared.index.Index.{Index}
use Rattle.sseq.specs.Indexes.{other_index}
use Rattle.sections.specs.Views as sections
use Rattle.sections.specs.Calls.{Looks}
use Rattle.glance.specs.declared.counters.Holder.{Holder}
use Rattle.domain.specs.Watching.{NamesHolders}

-- the index word was loaded, and then these were named, of the index that isn't current
pub record NamesOthers (i : Index) (named : List Holder) (c d : sections.CpuView) : Type 0 where
  pub looked : sections.CpuView
  pub look : sections.LookView
  pub looks : Looks c looked look
  pub index : i ≡ other_index look.index
  pub names : NamesHolders i named looked d
