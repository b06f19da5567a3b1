-- Each job leaves the batch as it is run, so at the end the batch is empty.
use Rattle.std.proofs.Common.{of_calls, ◌≡◌, ◌+◌, List, [], length, refl, sym, ap, ◌∙◌, subst, add-one, arith}
use Rattle.calls.specs.declared.entry.Entry.{Entry}
use Rattle.calls.specs.Glossary.{BatchView, FinishesIn}
use Rattle.domain.specs.Views.{callbacks_of}
use Rattle.driver.proofs.Rows.{ran_one}
use Rattle.domain.proofs.CallerLemmas.{same_finished}
use Rattle.driver.proofs.serving.run_batch.Goals as goal

pub loop-job-init : goal.loop-job-init
loop-job-init g c = (c.requires.work, record { same = refl; left = λ last h. h })

pub loop-job-smaller : goal.loop-job-smaller
loop-job-smaller g c =
    let one : length c.loop-job.batch.entries ≡ length c.next.new.self.entries + 1 = ap length c.in-Some.ensures.1.1 ∙ sym (add-one _) in
    omega (arith, one)

pub loop-job-preserved : goal.loop-job-preserved
loop-job-preserved g c = (
  search of_calls,
  record {
    same = c.in-Some.ensures.0 ∙ ap (λ (z : BatchView g.row.J.Denot). record z { entries = c.next.new.self.entries }) c.loop-job.invariant.1.same;
    left = λ last h. c.loop-job.invariant.1.left last (ran_one _ _ _ c.in-Some.ensures.1.0 c.in-Some.job _ c.work.new.self last c.in-Some.ensures.1.1 c.in-Some.ensures.1.2 c.work.ensures h);
  },
)

pub returns-clause-runs : goal.returns-clause-runs
returns-clause-runs g c =
    let empty : c.next.new.self ≡ record c.args.batch { entries = [] } =
    c.in_default.ensures.0
    ∙ (ap (λ (z : BatchView g.row.J.Denot). record z { entries = c.next.new.self.entries }) c.loop-job.invariant.1.same
    ∙ ap (λ (es : List (Entry g.row.J.Denot)). record c.args.batch { entries = es }) c.in_default.ensures.1.1) in record {
      runs = c.loop-job.invariant.1.left c.loop-job.work (rw c.in_default.ensures.1.0 (refl));
      finishes = subst (λ (b : BatchView g.row.J.Denot). FinishesIn (callbacks_of c.args.domain.now) c.args.cpu.now.calls b c.finish.new.cpu.calls) empty c.finish.ensures.finishes;
      rest = c.finish.ensures.rest;
    }

pub returns-clause-same : goal.returns-clause-same
returns-clause-same g c = same_finished c.args.cpu.now c.finish.new.cpu c.finish.ensures.same c.finish.ensures.rest
