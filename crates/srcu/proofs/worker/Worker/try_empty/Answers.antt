-- A box came back from its slot, which puts nothing.
use Rattle.onedom.proofs.CallerLemmas.{beginning_trans}
use Rattle.srcu.proofs.Emptying.{came_back}
use Rattle.srcu.proofs.Putting.{behind_at_last, behind_reclaimed, puts_reclaimed, version_reclaimed}
use Rattle.srcu.proofs.Since.{since_reclaimed}
use Rattle.srcu.proofs.worker.Worker.try_empty.Goals as goal

pub returns-in-Some-clause-tries : goal.returns-in-Some-clause-tries
returns-in-Some-clause-tries g c = came_back c.in-Some.back c.args.writer.now c.reclaim.new.writer _ _ c.in-Some.ensures.back

pub returns-in-Some-clause-only : goal.returns-in-Some-clause-only
returns-in-Some-clause-only g c = behind_reclaimed c.args.writer.now c.reclaim.new.writer c.args.self.now.cpu c.reclaim.new.self.cpu c.reclaim.result c.reclaim.ensures.back

pub returns-then-left-eq0-clause-only : goal.returns-then-left-eq0-clause-only
returns-then-left-eq0-clause-only g c = behind_reclaimed c.args.writer.now c.reclaim.new.writer c.args.self.now.cpu c.reclaim.new.self.cpu c.reclaim.result c.reclaim.ensures.back

pub returns-then-is_spent-clause-only : goal.returns-then-is_spent-clause-only
returns-then-is_spent-clause-only g c = behind_reclaimed c.args.writer.now c.reclaim.new.writer c.args.self.now.cpu c.reclaim.new.self.cpu c.reclaim.result c.reclaim.ensures.back

pub returns-clause-since : goal.returns-clause-since
returns-clause-since g c = beginning_trans (since_reclaimed c.args.writer.now c.reclaim.new.writer c.args.self.now.cpu.cpu c.reclaim.new.self.cpu.cpu c.reclaim.result c.reclaim.ensures.back) c.uncover.ensures.since

pub returns-clause-only : goal.returns-clause-only
returns-clause-only g c =
    let r = c.reclaim.ensures in
    behind_at_last c.args.writer.now c.reclaim.new.writer c.args.self.now.cpu c.reclaim.new.self.cpu c.uncover.new.self.cpu r.writer (version_reclaimed c.args.writer.now c.reclaim.new.writer c.args.self.now.cpu c.reclaim.new.self.cpu c.reclaim.result r.back)
    (puts_reclaimed (λ cell version. ⊥) c.args.writer.now c.reclaim.new.writer c.args.self.now.cpu c.reclaim.new.self.cpu c.reclaim.result r.back) c.uncover.ensures.only
