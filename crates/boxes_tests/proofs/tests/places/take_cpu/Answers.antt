-- All are of the domain, and so are the one that was taken out and the others.
use Rattle.std.proofs.lemmas.List.Elements.{All-pop}
use Rattle.domain.specs.Views.{CpuView, IsOf}
use Rattle.boxes_tests.proofs.tests.places.take_cpu.Goals as goal

pub returns-clause-here : goal.returns-clause-here
returns-clause-here c =
    let P : CpuView _ → Type 0 = IsOf c.args.domain.now in
    let last = All-pop P _ _ _ c.pop.ensures.items c.requires.here in
    rw c.unwrap.ensures at last.1

pub returns-clause-others : goal.returns-clause-others
returns-clause-others c =
    let P : CpuView _ → Type 0 = IsOf c.args.domain.now in
    let last = All-pop P _ _ _ c.pop.ensures.items c.requires.here in
    last.0
