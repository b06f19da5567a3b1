-- The batch of a processor that is out.
use Rattle.std.specs.Prelude.{Option}
use Rattle.session.specs.declared.batch_out.Out.TheInside as out
use Rattle.session.specs.Batches.{Batch}

module _ {A : Type 0} where
  abbrev pub view_of_out : out.Inside A → Option Batch
  view_of_out o = o.batch
