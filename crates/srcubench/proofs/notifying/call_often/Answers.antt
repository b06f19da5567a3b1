-- One call more.
use Rattle.std.proofs.Common.{◌≡◌, refl, sym, ◌∙◌, subst, arith}
use Rattle.atomic_table.specs.Seated.{TableId}
use Rattle.shelf.specs.Cells.{IsCellIn}
use Rattle.srcubench.specs.Chaining.{CallsOften}
use Rattle.srcubench.proofs.Chained.{one_called, same_called}
use Rattle.srcubench.proofs.notifying.call_often.Goals as goal

pub loop-init : goal.loop-init
loop-init g c = record { calls = refl; domain = refl }

pub call_once-requires-clause-cell : goal.call_once-requires-clause-cell
call_once-requires-clause-cell g c = subst (λ (t : TableId). IsCellIn t c.args.view.now.place) (sym c.loop.invariant.domain) c.requires.cell

pub loop-preserved : goal.loop-preserved
loop-preserved g c = record {
  calls = one_called c.args.blocks c.args.view.now c.loop.counter c.args.cpu.now c.loop.cpu c.call_once.new.cpu c.loop.invariant.calls c.in_ok-call_once.ensures;
  domain = same_called c.args.blocks c.args.view.now c.loop.cpu c.call_once.new.cpu c.in_ok-call_once.ensures ∙ c.loop.invariant.domain;
}

pub returns : goal.returns
returns g c =
    let test = c.loop-test.false in
    let end = c.loop.auto.counter-end in
    let all : c.loop.counter ≡ c.args.times = omega (arith, test, end) in
    subst (λ n. CallsOften c.args.blocks c.args.view.now n c.args.cpu.now c.loop.cpu) all c.loop.invariant.calls
