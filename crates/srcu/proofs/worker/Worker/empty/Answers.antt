-- A look at what was stored when it began, or the last wait was in vain.
use Rattle.std.proofs.Common.{arith, ◌∙◌}
use Rattle.onedom.proofs.CallerLemmas.{beginning_trans}
use Rattle.srcu.proofs.Emptying.{ends_from}
use Rattle.srcu.proofs.Putting.{behind_both, behind_synchronized}
use Rattle.srcu.proofs.Since.{since_waited}
use Rattle.srcu.proofs.worker.Worker.empty.Goals as goal

pub returns-in-Some-try_empty-clause-empties : goal.returns-in-Some-try_empty-clause-empties
returns-in-Some-try_empty-clause-empties g c = ends_from c.in-Some-try_empty.answer c.args.writer.now.stored c.loop.writer.stored c.args.self.now.cpu c.loop.self.cpu c.try_empty.new.writer c.try_empty.new.self.cpu c.loop.invariant.stored c.loop.invariant.since c.in-Some-try_empty.ensures.tries

pub returns-in-Err-clause-empties : goal.returns-in-Err-clause-empties
returns-in-Err-clause-empties g c = (
  c.in-None-try_empty.ensures.tries ∙ c.loop.invariant.stored,
  (c.try_empty.new.self.cpu, beginning_trans c.loop.invariant.since c.try_empty.ensures.since, c.in-Err.ensures.waits),
)

pub returns-in-Some-try_empty-clause-only : goal.returns-in-Some-try_empty-clause-only
returns-in-Some-try_empty-clause-only g c = let v = c.loop.invariant in behind_both c.args.writer.now c.loop.writer c.args.self.now.cpu c.loop.self.cpu c.try_empty.new.self.cpu v.cell v.version v.only c.try_empty.ensures.only

pub returns-in-Err-clause-only : goal.returns-in-Err-clause-only
returns-in-Err-clause-only g c =
    let v = c.loop.invariant in
    behind_synchronized c.args.writer.now c.args.self.now.cpu c.try_empty.new.self.cpu c.synchronize.new.self.cpu c.synchronize.result
    (behind_both c.args.writer.now c.loop.writer c.args.self.now.cpu c.loop.self.cpu c.try_empty.new.self.cpu v.cell v.version v.only c.try_empty.ensures.only)
    c.synchronize.ensures.waits

pub loop-preserved : goal.loop-preserved
loop-preserved g c =
    let v = c.loop.invariant in
    let t = c.try_empty.ensures in
    let tried = behind_both c.args.writer.now c.loop.writer c.args.self.now.cpu c.loop.self.cpu c.try_empty.new.self.cpu v.cell v.version v.only t.only in
    let s = c.synchronize.ensures.same in record {
      same = (s.0 ∙ (t.same.0 ∙ v.same.0), s.1 ∙ (t.same.1 ∙ v.same.1));
      cell = t.writer ∙ v.cell;
      stored = c.in-None-try_empty.ensures.tries ∙ v.stored;
      version = (let upto = v.version in let more = t.version in omega (arith, upto, more));
      only = behind_synchronized c.args.writer.now c.args.self.now.cpu c.try_empty.new.self.cpu c.synchronize.new.self.cpu c.synchronize.result tried c.synchronize.ensures.waits;
      since = beginning_trans (beginning_trans v.since t.since) (since_waited c.try_empty.new.self.cpu c.synchronize.new.self.cpu c.in-Ok.ensures.closed);
    }
