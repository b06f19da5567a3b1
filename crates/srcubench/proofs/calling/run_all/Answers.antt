-- A batch more in each round.
use Rattle.std.proofs.Common.{◌≡◌, subst, arith}
use Rattle.srcubench.specs.Calling.{RunsAll}
use Rattle.srcubench.proofs.Passes.{no_batch, one_batch}
use Rattle.srcubench.proofs.calling.run_all.Goals as goal

pub loop-came-init : goal.loop-came-init
loop-came-init g c = record { here = c.requires.domain; runs = no_batch _ _ }

pub run_batch-requires : goal.run_batch-requires
run_batch-requires g c = c.loop-came.invariant.here

pub loop-came-preserved : goal.loop-came-preserved
loop-came-preserved g c = record {
  here = c.run_batch.ensures.here;
  runs = one_batch _ _ _ _ _ _ c.loop-came.invariant.runs c.in_ok-more.ensures.runs;
}

pub returns-then-came-jobs-clause-here : goal.returns-then-came-jobs-clause-here
returns-then-came-jobs-clause-here g c = c.loop-came.invariant.here

pub returns-clause-here : goal.returns-clause-here
returns-clause-here g c = c.loop-came.invariant.here

pub returns-clause-runs : goal.returns-clause-runs
returns-clause-runs g c =
    let test = c.loop-came-test.false in
    let more = c.if-came-jobs.false in
    let all : c.loop-came.came ≡ c.args.jobs = omega (arith, test, more) in
    subst (λ n. RunsAll c.args.domain.now n c.args.cpu.now c.loop-came.cpu) all c.loop-came.invariant.runs
