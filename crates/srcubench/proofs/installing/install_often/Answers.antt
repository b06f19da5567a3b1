-- Once more.
use Rattle.std.proofs.Common.{◌≡◌, refl, subst, arith}
use Rattle.srcubench.specs.Tabling.{InstallsAll}
use Rattle.srcubench.proofs.Tabled.{one_installed}
use Rattle.srcubench.proofs.installing.install_often.Goals as goal

pub loop-init : goal.loop-init
loop-init c = record { installs = (refl, refl); here = c.requires.here; table = c.requires.table }

pub loop-preserved : goal.loop-preserved
loop-preserved c = record {
  installs = one_installed (λ n. 7) c.loop.counter c.args.table.now c.args.cpu.now c.loop.table c.loop.cpu c.install_one.new.table c.install_one.new.cpu c.loop.invariant.installs c.in_ok-install_one.ensures.installs;
  here = c.install_one.ensures.here;
  table = c.install_one.ensures.same;
}

pub returns : goal.returns
returns c =
    let test = c.loop-test.false in
    let end = c.loop.auto.counter-end in
    let all : c.loop.counter ≡ c.args.times = omega (arith, test, end) in
    subst (λ n. InstallsAll (λ k. 7) n c.args.table.now c.args.cpu.now c.loop.table c.loop.cpu) all c.loop.invariant.installs
