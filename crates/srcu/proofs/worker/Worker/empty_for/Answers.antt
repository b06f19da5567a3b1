-- A look at what was stored when it began, or the last wait was in vain.
use Rattle.std.proofs.Common.{ap, arith, ◌∙◌, subst}
use Rattle.domain.specs.declared.domain.waiting.limited.WaitRefusal.{WaitRefusal}
use Rattle.domain.specs.Limited.{IsCutShort}
use Rattle.boxes.specs.Boxes.{left_in}
use Rattle.onedom.proofs.CallerLemmas.{beginning_trans}
use Rattle.srcu.proofs.Emptying.{ends_from}
use Rattle.srcu.proofs.Putting.{behind_both, behind_limited}
use Rattle.srcu.proofs.Since.{since_waited}
use Rattle.srcu.proofs.worker.Worker.empty_for.Goals as goal

pub returns-in-Some-try_empty-clause-empties : goal.returns-in-Some-try_empty-clause-empties
returns-in-Some-try_empty-clause-empties g c = ends_from c.in-Some-try_empty.answer c.args.writer.now.stored c.loop.writer.stored c.args.self.now.cpu c.loop.self.cpu c.try_empty.new.writer c.try_empty.new.self.cpu c.loop.invariant.stored c.loop.invariant.since c.in-Some-try_empty.ensures.tries

pub returns-in-Err-TimedOut-clause-empties : goal.returns-in-Err-TimedOut-clause-empties
returns-in-Err-TimedOut-clause-empties g c =
    let still = c.in-None-try_empty.ensures.tries ∙ c.loop.invariant.stored in
    let cut = subst (λ (r : WaitRefusal). IsCutShort r c.try_empty.new.self.cpu c.synchronize_for.new.self.cpu) c.in-Err-TimedOut.field-0-is c.in-Err-TimedOut.ensures.waits in
    (still, c.left.ensures ∙ ap left_in still, c.try_empty.new.self.cpu, beginning_trans c.loop.invariant.since c.try_empty.ensures.since, _, cut)

pub returns-in-Err-Exhausted-clause-empties : goal.returns-in-Err-Exhausted-clause-empties
returns-in-Err-Exhausted-clause-empties g c = (
  c.in-None-try_empty.ensures.tries ∙ c.loop.invariant.stored,
  (
    c.try_empty.new.self.cpu,
    beginning_trans c.loop.invariant.since c.try_empty.ensures.since,
    subst (λ (r : WaitRefusal). IsCutShort r c.try_empty.new.self.cpu c.synchronize_for.new.self.cpu) c.in-Err-Exhausted.field-0-is c.in-Err-Exhausted.ensures.waits,
  ),
)

pub returns-in-Some-try_empty-clause-only : goal.returns-in-Some-try_empty-clause-only
returns-in-Some-try_empty-clause-only g c = let v = c.loop.invariant in behind_both c.args.writer.now c.loop.writer c.args.self.now.cpu c.loop.self.cpu c.try_empty.new.self.cpu v.cell v.version v.only c.try_empty.ensures.only

pub returns-in-Err-TimedOut-clause-only : goal.returns-in-Err-TimedOut-clause-only
returns-in-Err-TimedOut-clause-only g c =
    let v = c.loop.invariant in
    behind_limited c.args.writer.now c.args.self.now.cpu c.try_empty.new.self.cpu c.synchronize_for.new.self.cpu c.synchronize_for.result
    (behind_both c.args.writer.now c.loop.writer c.args.self.now.cpu c.loop.self.cpu c.try_empty.new.self.cpu v.cell v.version v.only c.try_empty.ensures.only)
    c.synchronize_for.ensures.waits

pub returns-in-Err-Exhausted-clause-only : goal.returns-in-Err-Exhausted-clause-only
returns-in-Err-Exhausted-clause-only g c =
    let v = c.loop.invariant in
    behind_limited c.args.writer.now c.args.self.now.cpu c.try_empty.new.self.cpu c.synchronize_for.new.self.cpu c.synchronize_for.result
    (behind_both c.args.writer.now c.loop.writer c.args.self.now.cpu c.loop.self.cpu c.try_empty.new.self.cpu v.cell v.version v.only c.try_empty.ensures.only)
    c.synchronize_for.ensures.waits

pub loop-preserved : goal.loop-preserved
loop-preserved g c =
    let v = c.loop.invariant in
    let t = c.try_empty.ensures in
    let tried = behind_both c.args.writer.now c.loop.writer c.args.self.now.cpu c.loop.self.cpu c.try_empty.new.self.cpu v.cell v.version v.only t.only in
    let s = c.synchronize_for.ensures.same in record {
      same = (s.0 ∙ (t.same.0 ∙ v.same.0), s.1 ∙ (t.same.1 ∙ v.same.1));
      cell = t.writer ∙ v.cell;
      stored = c.in-None-try_empty.ensures.tries ∙ v.stored;
      version = (let upto = v.version in let more = t.version in omega (arith, upto, more));
      only = behind_limited c.args.writer.now c.args.self.now.cpu c.try_empty.new.self.cpu c.synchronize_for.new.self.cpu c.synchronize_for.result tried c.synchronize_for.ensures.waits;
      since = beginning_trans (beginning_trans v.since t.since) (since_waited c.try_empty.new.self.cpu c.synchronize_for.new.self.cpu c.in-Ok.ensures.closed);
    }
