-- What came back was not the current version's box.
use Rattle.std.proofs.Common.{arith, ◌∙◌}
use Rattle.onedom.proofs.CallerLemmas.{beginning_trans}
use Rattle.srcu.proofs.Lasting.{there_since, last_of}
use Rattle.srcu.proofs.Putting.{puts_both, puts_reclaimed, puts_synchronized, version_reclaimed}
use Rattle.srcu.proofs.Since.{since_reclaimed, since_waited}
use Rattle.srcu.proofs.worker.Worker.drop_older.Goals as goal

pub loop-preserved : goal.loop-preserved
loop-preserved g c =
    let v = c.loop.invariant in
    let r = c.reclaim.ensures in
    let k = there_since c.args.writer.now c.loop.writer c.reclaim.new.writer _ _ c.reclaim.result r.back v.stands v.current v.there in
    let asked = puts_both (λ cell version. ⊥) c.args.self.now.cpu c.loop.self.cpu c.reclaim.new.self.cpu v.puts (puts_reclaimed (λ cell version. ⊥) c.loop.writer c.reclaim.new.writer c.loop.self.cpu c.reclaim.new.self.cpu c.reclaim.result r.back) in
    let s = c.synchronize.ensures.same in record {
      same = (s.0 ∙ (r.same.0 ∙ v.same.0), s.1 ∙ (r.same.1 ∙ v.same.1));
      cell = r.writer ∙ v.cell;
      current = k.2;
      there = k.0;
      stands = k.1;
      version = version_reclaimed c.loop.writer c.reclaim.new.writer c.loop.self.cpu c.reclaim.new.self.cpu c.reclaim.result r.back ∙ v.version;
      puts = puts_both (λ cell version. ⊥) c.args.self.now.cpu c.reclaim.new.self.cpu c.synchronize.new.self.cpu asked (puts_synchronized (λ cell version. ⊥) c.reclaim.new.self.cpu c.synchronize.new.self.cpu c.synchronize.result c.synchronize.ensures.waits);
      since = beginning_trans (beginning_trans v.since (since_reclaimed c.loop.writer c.reclaim.new.writer c.loop.self.cpu.cpu c.reclaim.new.self.cpu.cpu c.reclaim.result r.back)) (since_waited c.reclaim.new.self.cpu c.synchronize.new.self.cpu c.in-Ok.ensures.closed);
    }

pub returns-in-Some-current-clause-only : goal.returns-in-Some-current-clause-only
returns-in-Some-current-clause-only g c =
    let v = c.loop.invariant in
    let r = c.reclaim.ensures in
    let k = there_since c.args.writer.now c.loop.writer c.reclaim.new.writer _ _ c.reclaim.result r.back v.stands v.current v.there in
    let shown = c.in-Some-current.ensures in
    let left = c.left.ensures in
    let few = c.if-left-lt2.true in
    last_of c.args.writer.now c.reclaim.new.writer shown.0 k.2 k.0 shown.1 (omega (arith, left, few))

pub returns-in-Err-clause-only : goal.returns-in-Err-clause-only
returns-in-Err-clause-only g c =
    let v = c.loop.invariant in
    (there_since c.args.writer.now c.loop.writer c.reclaim.new.writer _ _ c.reclaim.result c.reclaim.ensures.back v.stands v.current v.there).0

pub returns-in-Some-current-clause-since : goal.returns-in-Some-current-clause-since
returns-in-Some-current-clause-since g c = let v = c.loop.invariant in let r = c.reclaim.ensures in beginning_trans v.since (since_reclaimed c.loop.writer c.reclaim.new.writer c.loop.self.cpu.cpu c.reclaim.new.self.cpu.cpu c.reclaim.result r.back)

pub returns-in-Err-clause-refused : goal.returns-in-Err-clause-refused
returns-in-Err-clause-refused g c = let v = c.loop.invariant in let r = c.reclaim.ensures in (c.reclaim.new.self.cpu, beginning_trans v.since (since_reclaimed c.loop.writer c.reclaim.new.writer c.loop.self.cpu.cpu c.reclaim.new.self.cpu.cpu c.reclaim.result r.back), c.in-Err.ensures.waits)

pub returns-in-Some-current-clause-puts : goal.returns-in-Some-current-clause-puts
returns-in-Some-current-clause-puts g c =
    puts_both (λ cell version. ⊥) c.args.self.now.cpu c.loop.self.cpu c.reclaim.new.self.cpu c.loop.invariant.puts
    (puts_reclaimed (λ cell version. ⊥) c.loop.writer c.reclaim.new.writer c.loop.self.cpu c.reclaim.new.self.cpu c.reclaim.result c.reclaim.ensures.back)

pub returns-then-is_spent-clause-puts : goal.returns-then-is_spent-clause-puts
returns-then-is_spent-clause-puts g c =
    puts_both (λ cell version. ⊥) c.args.self.now.cpu c.loop.self.cpu c.reclaim.new.self.cpu c.loop.invariant.puts
    (puts_reclaimed (λ cell version. ⊥) c.loop.writer c.reclaim.new.writer c.loop.self.cpu c.reclaim.new.self.cpu c.reclaim.result c.reclaim.ensures.back)

pub returns-in-Err-clause-version : goal.returns-in-Err-clause-version
returns-in-Err-clause-version g c = version_reclaimed c.loop.writer c.reclaim.new.writer c.loop.self.cpu c.reclaim.new.self.cpu c.reclaim.result c.reclaim.ensures.back ∙ c.loop.invariant.version

pub returns-in-Err-clause-puts : goal.returns-in-Err-clause-puts
returns-in-Err-clause-puts g c =
    let asked = puts_both (λ cell version. ⊥) c.args.self.now.cpu c.loop.self.cpu c.reclaim.new.self.cpu c.loop.invariant.puts
    (puts_reclaimed (λ cell version. ⊥) c.loop.writer c.reclaim.new.writer c.loop.self.cpu c.reclaim.new.self.cpu c.reclaim.result c.reclaim.ensures.back) in
    puts_both (λ cell version. ⊥) c.args.self.now.cpu c.reclaim.new.self.cpu c.synchronize.new.self.cpu asked (puts_synchronized (λ cell version. ⊥) c.reclaim.new.self.cpu c.synchronize.new.self.cpu c.synchronize.result c.synchronize.ensures.waits)
