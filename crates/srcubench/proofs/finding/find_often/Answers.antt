-- One section more.
use Rattle.std.proofs.Common.{◌≡◌, inl, inr, refl, subst, arith}
use Rattle.srcubench.specs.Finding.{FindsOften}
use Rattle.srcubench.proofs.Finds.{same_then, same_once, one_find}
use Rattle.srcubench.proofs.finding.find_often.Goals as goal

pub loop-found-preserved : goal.loop-found-preserved
loop-found-preserved g c =
    let v = c.loop-found.invariant in record {
      finds = one_find c.args.words c.loop-found.found c.args.cpu.now c.loop-found.cpu c.find_once.new.cpu v.finds c.in-Ok.ensures;
      same = same_then c.args.cpu.now c.loop-found.cpu c.find_once.new.cpu v.same (same_once c.args.words c.loop-found.cpu c.find_once.new.cpu c.in-Ok.ensures);
    }

pub returns-in-Err : goal.returns-in-Err
returns-in-Err g c = inr (record { fewer = c.loop-found-test.true; between = c.loop-found.cpu; finds = c.loop-found.invariant.finds; vain = c.in-Err.ensures })

pub returns : goal.returns
returns g c =
    let test = c.loop-found-test.false in
    let end = c.loop-found.auto.found-end in
    let all : c.loop-found.found ≡ c.args.times = omega (arith, test, end) in
    inl (record { all = refl; finds = subst (λ n. FindsOften c.args.words n c.args.cpu.now c.loop-found.cpu) all c.loop-found.invariant.finds })
