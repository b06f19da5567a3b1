-- Once more.
use Rattle.std.proofs.Common.{◌≡◌, refl, sym, ◌∙◌, subst, arith}
use Rattle.atomic_table.specs.Seated.{TableId}
use Rattle.shelf.specs.Cells.{IsCellIn}
use Rattle.srcubench.specs.Tabling.{LooksOften}
use Rattle.srcubench.proofs.Tabled.{one_looked, same_looked}
use Rattle.srcubench.proofs.looking.look_often.Goals as goal

pub loop-init : goal.loop-init
loop-init c = record { looks = refl; domain = refl }

pub look_once-requires : goal.look_once-requires
look_once-requires c = subst (λ (t : TableId). IsCellIn t c.args.view.now) (sym c.loop.invariant.domain) c.requires

pub loop-preserved : goal.loop-preserved
loop-preserved c = record {
  looks = one_looked c.args.leased c.args.view.now.cell c.loop.counter c.args.cpu.now c.loop.cpu c.look_once.new.cpu c.loop.invariant.looks c.in_ok-look_once.ensures;
  domain = same_looked c.args.leased c.args.view.now.cell _ c.loop.cpu c.look_once.new.cpu c.in_ok-look_once.ensures ∙ c.loop.invariant.domain;
}

pub returns : goal.returns
returns c =
    let test = c.loop-test.false in
    let end = c.loop.auto.counter-end in
    let all : c.loop.counter ≡ c.args.times = omega (arith, test, end) in
    subst (λ n. LooksOften c.args.leased c.args.view.now.cell n c.args.cpu.now c.loop.cpu) all c.loop.invariant.looks
