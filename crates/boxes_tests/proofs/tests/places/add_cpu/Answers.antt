-- All are of the domain, with the one that was pushed.
use Rattle.std.proofs.Common.{All, sym, subst}
use Rattle.std.proofs.lemmas.List.Elements.{All-push}
use Rattle.domain.specs.Views.{CpuView, IsOf}
use Rattle.boxes_tests.proofs.tests.places.add_cpu.Goals as goal

pub returns : goal.returns
returns c =
    let P : CpuView _ → Type 0 = IsOf c.args.domain.now in
    subst (All P) (sym c.in_ok-push.ensures.items) (All-push P _ _ c.requires.others c.requires.here)
