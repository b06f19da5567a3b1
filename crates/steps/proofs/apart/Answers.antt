-- What was popped was among those of the domain.
use Rattle.std.proofs.Common.{All, arith}
use Rattle.std.proofs.lemmas.List.Elements.{All-pop}
use Rattle.domain.specs.Views.{CpuView, IsOf}
use Rattle.steps.proofs.apart.Goals as goal

pub returns : goal.returns
returns c =
    let P : CpuView _ → Type 0 = IsOf c.args.domain.now in
    let second = All-pop P _ _ _ c.pop.ensures.items c.requires.all in
    let first = All-pop P _ _ _ c.pop-2.ensures.items second.0 in
    (rw c.unwrap-first.ensures at first.1, rw c.unwrap-second.ensures at second.1)

pub unwrap-second-requires : goal.unwrap-second-requires
unwrap-second-requires c =
    let two = c.requires.two in
    c.pop.ensures.variant.1 (omega (arith, two))

pub unwrap-first-requires : goal.unwrap-first-requires
unwrap-first-requires c =
    let two = c.requires.two in
    let one = rw c.unwrap-second.ensures at c.pop.ensures.len in
    c.pop-2.ensures.variant.1 (omega (arith, two, one))
