-- One value more.
use Rattle.std.proofs.Common.{◌≡◌, refl, subst, arith}
use Rattle.srcubench.specs.Putting.{PutsOften}
use Rattle.srcubench.proofs.Puts.{one_put}
use Rattle.srcubench.proofs.putting.put_often.Goals as goal

pub loop-number-init : goal.loop-number-init
loop-number-init g c = record { puts = (refl, refl); here = c.requires.here; shelf = c.requires.shelf }

pub loop-number-preserved : goal.loop-number-preserved
loop-number-preserved g c =
    let v = c.loop-number.invariant in record {
      puts = one_put c.loop-number.number c.args.shelf.now c.args.cpu.now c.loop-number.shelf c.loop-number.cpu c.put_once.new.shelf c.put_once.new.cpu v.puts c.in_ok-put_once.ensures.puts;
      here = c.put_once.ensures.here;
      shelf = c.put_once.ensures.shelf;
    }

pub returns : goal.returns
returns g c =
    let test = c.loop-number-test.false in
    let end = c.loop-number.auto.number-end in
    let all : c.loop-number.number ≡ c.args.times = omega (arith, test, end) in
    subst (λ n. PutsOften n c.args.shelf.now c.args.cpu.now c.loop-number.shelf c.loop-number.cpu) all c.loop-number.invariant.puts
