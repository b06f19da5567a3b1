-- One entry more came home.
use Rattle.registry.specs.Names.{ShowsItsOwn}
use Rattle.registry.proofs.Parts.{All-front, same_numbered, still_first, still_next}
use Rattle.registry.proofs.devices.Devices.take_home.Goals as goal

pub loop-entry-init : goal.loop-entry-init
loop-entry-init g c = record { here = still_first _ _; leaving = still_first _ _; numbered = c.requires.numbered }

pub loop-entry-preserved : goal.loop-entry-preserved
loop-entry-preserved g c =
    let v = c.loop-entry.invariant in
    let h = c.take_one_home-place.ensures in
    let items = c.in-Some.ensures.items in record {
      here = still_next _ _ _ c.in-Some.entry _ _ _ items v.here h.here;
      leaving = still_next _ _ _ c.in-Some.entry _ _ _ items v.leaving h.leaving;
      numbered = (v.numbered.0, All-front (ShowsItsOwn v.numbered.0) _ _ _ items v.numbered.1, same_numbered g.K.Ord.cmp v.numbered.0 _ _ _ _ h.here.kept h.leaving.kept v.numbered.2);
    }
