-- The device of an entry has its key, so it stands where that is, or nowhere.
use Rattle.std.proofs.Common.{ap, ◌∙◌}
use Rattle.std.proofs.lemmas.List.{get_or_read}
use Rattle.registry.proofs.Parts.{absent, another}
use Rattle.registry.proofs.devices.Devices.place_here.Goals as goal

pub place_of-requires : goal.place_of-requires
place_of-requires g c = c.requires.numbered.2.ordered

pub returns-in-Err : goal.returns-in-Err
returns-in-Err g c =
    let h = c.requires.numbered in
    absent g.met.K.Ord.total h.0 c.args.entry.now c.args.self.now.here.items c.in-Err.field-0 h.1 h.2.here_are c.in-Err.ensures.1 c.in-Err.ensures.2

pub returns-else-index-entry : goal.returns-else-index-entry
returns-else-index-entry g c =
    let h = c.requires.numbered in
    let ds = c.args.self.now.here.items in
    let e = c.in-Ok.ensures in
    another g.met.K.Ord.total h.0 c.args.entry.now ds c.in-Ok.place h.1 h.2.here_are h.2.ordered e.0 e.1 (λ x q. c.if-index-entry.false (ap (λ z. z.number) (get_or_read ds c.in-Ok.place c.index.result.now e.0 c.index.ensures x) ∙ q))
