-- Some of the entries are still to come home.
use Rattle.std.proofs.Common.{All, length}
use Rattle.registry.specs.Names.{ShowsItsOwn}
use Rattle.registry.specs.Registry.{AreNumbered}
use Rattle.registry.proofs.Parts.{StillOut}
use Rattle.registry.proofs.devices.Devices.take_home.Given as goal

abbrev pub invariant-loop-entry : goal.invariant-loop-entry
invariant-loop-entry g l = record {
  here : StillOut l.initial.entries.items l.entries.items l.initial.self.here.items l.self.here.items;
  leaving : StillOut l.initial.entries.items l.entries.items l.initial.self.leaving.items l.self.leaving.items;
  numbered : (who : _) × All (ShowsItsOwn who) l.entries.items × AreNumbered g.K.Ord.cmp who l.self.here.items l.self.leaving.items;
}

abbrev pub decreases-loop-entry : goal.decreases-loop-entry
decreases-loop-entry g l = length l.entries.items
