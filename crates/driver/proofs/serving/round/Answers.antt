-- A turn, and then a look at each list. The processor is the same behind both.
use Rattle.std.proofs.Common.{ℕ, subst}
use Rattle.domain.proofs.CallerLemmas.{same_trans, same_carried_in}
use Rattle.driver.specs.Serving.{LooksAfterAll}
use Rattle.driver.proofs.serving.round.Goals as goal

pub returns-clause-same : goal.returns-clause-same
returns-clause-same g c = same_trans c.args.cpu.now c.drive-answer.new.cpu c.look_after_all-jobs.new.cpu (same_carried_in c.args.cpu.now c.drive-answer.new.cpu c.drive-answer.result c.drive-answer.ensures.drives) c.look_after_all-jobs.ensures.same

pub returns-clause-round : goal.returns-clause-round
returns-clause-round g c = let l = c.look_after_all-jobs.ensures.looks in (
  l.0,
  l.1,
  record {
    turned = c.drive-answer.new.cpu;
    turns = c.drive-answer.ensures.drives;
    looks = subst (λ (k : ℕ). LooksAfterAll (λ p x q. goal.F-step g p x tt q) c.args.domain.now k c.args.work.now c.drive-answer.new.cpu l.0 c.look_after_all-jobs.new.work c.look_after_all-jobs.new.cpu) c.requires.processors l.2;
  },
)
