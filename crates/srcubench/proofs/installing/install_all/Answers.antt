-- One key more.
use Rattle.std.proofs.Common.{◌≡◌, refl, subst, arith}
use Rattle.srcubench.specs.Tabling.{InstallsAll}
use Rattle.srcubench.proofs.Tabled.{one_installed}
use Rattle.srcubench.proofs.installing.install_all.Goals as goal

pub loop-key-init : goal.loop-key-init
loop-key-init c = record { installs = (refl, refl); here = c.requires.here; table = c.requires.table }

pub loop-key-preserved : goal.loop-key-preserved
loop-key-preserved c = record {
  installs = one_installed (λ n. n) c.loop-key.key c.args.table.now c.args.cpu.now c.loop-key.table c.loop-key.cpu c.install_one.new.table c.install_one.new.cpu c.loop-key.invariant.installs c.in_ok-install_one.ensures.installs;
  here = c.install_one.ensures.here;
  table = c.install_one.ensures.same;
}

pub returns-clause-installs : goal.returns-clause-installs
returns-clause-installs c =
    let test = c.loop-key-test.false in
    let end = c.loop-key.auto.key-end in
    let all : c.loop-key.key ≡ 15 = omega (arith, test, end) in
    subst (λ n. InstallsAll (λ k. k) n c.args.table.now c.args.cpu.now c.loop-key.table c.loop-key.cpu) all c.loop-key.invariant.installs
