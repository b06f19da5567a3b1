-- One run more in each round.
use Rattle.std.proofs.Common.{◌≡◌, ℕ, List, [], ◌∷◌, ◌++◌, ◌+◌, sym, ap, ◌∙◌, subst, arith}
use Rattle.srcubench.specs.Done.{IsDone}
use Rattle.srcubench.specs.Samples.{AreOfRuns}
use Rattle.srcubench.proofs.Sampling.{no_runs, one_run}
use Rattle.srcubench.proofs.work.samples.Goals as goal

pub loop-init : goal.loop-init
loop-init g c = subst (λ (samples : List ℕ). AreOfRuns (IsDone c.args.work) 0 samples) (sym c.new-samples.ensures.items) (no_runs (IsDone c.args.work))

pub loop-preserved : goal.loop-preserved
loop-preserved g c =
    let sample = c.cost_of_one.ensures in
    subst (λ (samples : List ℕ). AreOfRuns (IsDone c.args.work) (c.loop.counter + 1) samples) (sym (c.in_ok-push.ensures.items ∙ ap (λ (n : ℕ). c.loop.samples.items ++ n ∷ []) sample))
    (one_run (IsDone c.args.work) c.loop.counter c.loop.samples.items c.in_ok-timed.timed c.in_ok-timed.ensures.done c.loop.invariant)

pub returns : goal.returns
returns g c =
    let test = c.loop-test.false in
    let end = c.loop.auto.counter-end in
    let all : c.loop.counter ≡ c.args.repetitions = omega (arith, test, end) in
    subst (λ n. AreOfRuns (IsDone c.args.work) n c.loop.samples.items) all c.loop.invariant
