-- The batch was taken from this domain, and is empty at the end.
use Rattle.std.proofs.Common.{◌≡◌, ℕ, ◌+◌, length, sym, ap, ◌∙◌, add-one, arith}
use Rattle.calls.specs.Views.{BatchView}
use Rattle.steps.proofs.jobs.run_ready.Goals as goal

pub loop-job-init : goal.loop-job-init
loop-job-init g c =
    let taken = rw c.in-Some.is at c.in_ok-batch.ensures.batch in
    let processor = taken.1 in
    let there = c.requires.processor in record {
      tallies = taken.0;
      there = omega (arith, processor, there);
    }

pub loop-job-preserved : goal.loop-job-preserved
loop-job-preserved g c =
    let same = c.in-Some-next.ensures.0 in
    let processor = ap (λ (z : BatchView ℕ). z.processor) same in
    let there = c.loop-job.invariant.there in record {
      tallies = ap (λ (z : BatchView ℕ). z.tallies) same ∙ c.loop-job.invariant.tallies;
      there = omega (arith, processor, there);
    }

pub loop-job-smaller : goal.loop-job-smaller
loop-job-smaller g c =
    let one : length c.loop-job.batch.entries ≡ length c.next.new.self.entries + 1 = ap length c.in-Some-next.ensures.1.1 ∙ sym (add-one _) in
    omega (arith, one)

pub finish-requires : goal.finish-requires
finish-requires g c =
    let same = c.in_default-next.ensures.0 in
    let processor = ap (λ (z : BatchView ℕ). z.processor) same in
    let there = c.loop-job.invariant.there in (
      omega arith,
      (
        c.take_ready.ensures.here,
        record {
          empty = c.in_default-next.ensures.1.1;
          tallies = ap (λ (z : BatchView ℕ). z.tallies) same ∙ c.loop-job.invariant.tallies;
          there = omega (arith, processor, there);
        },
      ),
    )

pub returns : goal.returns
returns g c = c.finish.ensures.here
