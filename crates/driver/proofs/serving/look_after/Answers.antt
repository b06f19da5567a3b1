-- What was taken is of this processor, and no reading is opened by it.
use Rattle.std.proofs.Common.{◌<◌, [], inl, inr, refl, sym, ◌∙◌, subst, arith}
use Rattle.calls.proofs.CallerLemmas.{begins_on}
use Rattle.domain.proofs.CallerLemmas.{none_at_tallies, same_trans}
use Rattle.driver.specs.Serving.{jobs_of}
use Rattle.driver.proofs.Rows.{none_taken, same_taken, as_many, at_most_eight}
use Rattle.driver.proofs.serving.look_after.Goals as goal

pub take_ready-requires : goal.take_ready-requires
take_ready-requires g c = (c.know_that_batches_fit.ensures, (c.requires.here, c.requires.processor))

pub run_batch-requires : goal.run_batch-requires
run_batch-requires g c =
    let of = rw c.in-Ok-Some.field-0-is at c.in-Ok-Some.ensures.batch in
    (c.know_that_batches_fit.ensures, (c.take_ready.ensures.here, (record { tallies = of.0; there = subst (λ n. n < c.args.domain.now.processors) (sym of.1) c.requires.processor }, c.requires.work)))

pub returns-in-Ok-Some-clause-none : goal.returns-in-Ok-Some-clause-none
returns-in-Ok-Some-clause-none g c = none_at_tallies c.take_ready.new.cpu c.run_batch.new.cpu (none_taken c.args.domain.now c.args.processor c.args.cpu.now c.take_ready.new.cpu c.in-Ok-Some.field-0 c.in-Ok-Some.ensures.takes c.requires.none) c.run_batch.ensures.runs.rest

pub returns-in-Ok-Some-clause-later : goal.returns-in-Ok-Some-clause-later
returns-in-Ok-Some-clause-later g c = begins_on c.in-Ok-Some.ensures.acts.adds.since c.run_batch.ensures.later

pub returns-in-Ok-Some-clause-looks : goal.returns-in-Ok-Some-clause-looks
returns-in-Ok-Some-clause-looks g c =
    let takes = rw c.in-Ok-Some.field-0-is at c.in-Ok-Some.ensures.takes in (
      jobs_of c.in-Ok-Some.batch.entries,
      as_many c.args.domain.now c.args.processor c.args.cpu.now c.take_ready.new.cpu c.in-Ok-Some.batch takes ∙ sym c.count-count.ensures,
      inl record {
        batch = c.in-Ok-Some.batch;
        taken = c.take_ready.new.cpu;
        takes = takes;
        handed = rw c.in-Ok-Some.field-0-is at c.in-Ok-Some.ensures.handed;
        closed = rw c.in-Ok-Some.field-0-is at c.in-Ok-Some.ensures.closed;
        jobs_are = refl;
        runs = c.run_batch.ensures.runs;
      },
    )

pub returns-in-Ok-Some-clause-few : goal.returns-in-Ok-Some-clause-few
returns-in-Ok-Some-clause-few g c =
    let few = at_most_eight c.args.domain.now c.args.processor c.args.cpu.now c.take_ready.new.cpu c.in-Ok-Some.batch (rw c.in-Ok-Some.field-0-is at c.in-Ok-Some.ensures.takes) in
    let is = c.count-count.ensures in
    omega (arith, few, is)

pub count-count-requires : goal.count-count-requires
count-count-requires g c = c.know_that_batches_fit.ensures

pub returns-in-Ok-None-clause-none : goal.returns-in-Ok-None-clause-none
returns-in-Ok-None-clause-none g c = none_taken c.args.domain.now c.args.processor c.args.cpu.now c.take_ready.new.cpu c.in-Ok-None.field-0 c.in-Ok-None.ensures.takes c.requires.none

pub returns-in-Ok-None-clause-looks : goal.returns-in-Ok-None-clause-looks
returns-in-Ok-None-clause-looks g c = ([], refl, inr record { found = inl (rw c.in-Ok-None.field-0-is at c.in-Ok-None.ensures.takes); jobs_are = refl; same = refl })

pub returns-in-Err-clause-looks : goal.returns-in-Err-clause-looks
returns-in-Err-clause-looks g c = ([], refl, inr record { found = inr (c.in-Err.field-0, c.in-Err.ensures.takes); jobs_are = refl; same = refl })

pub returns-in-Ok-Some-clause-same : goal.returns-in-Ok-Some-clause-same
returns-in-Ok-Some-clause-same g c = same_trans c.args.cpu.now c.take_ready.new.cpu c.run_batch.new.cpu (same_taken c.args.cpu.now c.take_ready.new.cpu c.take_ready.ensures.same.0 c.take_ready.ensures.same.1 c.take_ready.ensures.rest) c.run_batch.ensures.same

pub returns-in-Ok-None-clause-same : goal.returns-in-Ok-None-clause-same
returns-in-Ok-None-clause-same g c = same_taken c.args.cpu.now c.take_ready.new.cpu c.take_ready.ensures.same.0 c.take_ready.ensures.same.1 c.take_ready.ensures.rest

pub returns-in-Err-clause-same : goal.returns-in-Err-clause-same
returns-in-Err-clause-same g c = same_taken c.args.cpu.now c.take_ready.new.cpu c.take_ready.ensures.same.0 c.take_ready.ensures.same.1 c.take_ready.ensures.rest
