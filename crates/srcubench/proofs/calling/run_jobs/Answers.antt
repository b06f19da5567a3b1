-- One more came out, and is in the batch no more.
use Rattle.std.proofs.Common.{◌≡◌, ℕ, ◌+◌, List, length, refl, sym, ap, ◌∙◌, add-one, arith}
use Rattle.calls.specs.declared.entry.Entry.{Entry}
use Rattle.calls.specs.Views.{BatchView}
use Rattle.srcubench.proofs.calling.run_jobs.Goals as goal

pub loop-job-init : goal.loop-job-init
loop-job-init c = record { came = omega arith; same = refl }

pub overflow_add-came : goal.overflow_add-came
overflow_add-came c = let came = c.loop-job.invariant.came in let few = c.requires in omega (arith, came, few)

pub loop-job-smaller : goal.loop-job-smaller
loop-job-smaller c =
    let one : length c.loop-job.batch.entries ≡ length c.next.new.self.entries + 1 = ap length c.in-Some.ensures.1.1 ∙ sym (add-one _) in
    omega (arith, one)

pub loop-job-preserved : goal.loop-job-preserved
loop-job-preserved c =
    let one : length c.loop-job.batch.entries ≡ length c.next.new.self.entries + 1 = ap length c.in-Some.ensures.1.1 ∙ sym (add-one _) in
    let came = c.loop-job.invariant.came in record {
      came = omega (arith, one, came);
      same = c.in-Some.ensures.0 ∙ ap (λ (z : BatchView ℕ). record z { entries = c.next.new.self.entries }) c.loop-job.invariant.same;
    }

pub returns-clause-all : goal.returns-clause-all
returns-clause-all c =
    let none : length c.loop-job.batch.entries ≡ 0 = ap length c.in_default.ensures.1.0 in
    let came = c.loop-job.invariant.came in
    omega (arith, none, came)

pub returns-clause-empty : goal.returns-clause-empty
returns-clause-empty c =
    c.in_default.ensures.0
    ∙ (ap (λ (z : BatchView ℕ). record z { entries = c.next.new.self.entries }) c.loop-job.invariant.same
    ∙ ap (λ (es : List (Entry ℕ)). record c.args.batch.now { entries = es }) c.in_default.ensures.1.1)
