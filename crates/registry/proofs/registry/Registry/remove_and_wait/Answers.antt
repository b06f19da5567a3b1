-- Removing opened no reading, and neither did waiting. The device that comes back is the one that was removed last.
use Rattle.std.proofs.Common.{refl, sym, ◌∙◌, subst, rules}
use Rattle.onedom.proofs.CallerLemmas.{beginning_refl, beginning_trans}
use Rattle.domain.proofs.CallerLemmas.{same_trans}
use Rattle.boxes.specs.Boxes.{IsCellIn, cell_of}
use Rattle.registry.proofs.Keeping.{cell_here}
use Rattle.registry.proofs.Opening.{none_collected, same_collected_in, since_collected, since_waited, waited_on, writer_collected, writer_same, writer_trans}
use Rattle.registry.proofs.registry.Registry.remove_and_wait.Goals as goal

pub loop-init : goal.loop-init
loop-init g c = record {
  here = c.remove_at_last.ensures.here;
  none = c.remove_at_last.ensures.still_none;
  by = c.remove_at_last.ensures.same_cpu;
  names = refl;
  leaving = refl;
  writer = writer_same c.remove_at_last.new.self.writer.writer;
  same = c.remove_at_last.ensures.same;
  after = beginning_refl _;
}

pub regain-requires : goal.regain-requires
regain-requires g c = (search (rules, c.requires-raw), cell_here c.args.domain.now c.synchronize.new.cpu (cell_of c.loop.self.writer) c.synchronize.ensures.here (subst (IsCellIn c.args.domain.now) (sym c.loop.invariant.same) c.requires.cell))

pub loop-preserved : goal.loop-preserved
loop-preserved g c = record {
  here = c.regain.ensures.stays c.args.domain.now c.synchronize.ensures.here;
  none = none_collected c.loop.self.writer c.regain.new.self.writer c.synchronize.new.cpu c.regain.new.cpu c.regain.ensures.collects c.synchronize.ensures.still_none;
  by = same_trans c.args.cpu.now c.loop.cpu c.regain.new.cpu c.loop.invariant.by
      (same_trans c.loop.cpu c.synchronize.new.cpu c.regain.new.cpu c.synchronize.ensures.same (same_collected_in c.loop.self.writer c.regain.new.self.writer c.synchronize.new.cpu c.regain.new.cpu c.regain.ensures.collects c.regain.ensures.rest));
  names = c.regain.ensures.here ∙ c.loop.invariant.names;
  leaving = c.in_default.ensures.returns.0 ∙ c.loop.invariant.leaving;
  writer = writer_trans c.remove_at_last.new.self.writer.writer c.loop.self.writer.writer c.regain.new.self.writer.writer c.loop.invariant.writer (writer_collected c.loop.self.writer c.regain.new.self.writer c.synchronize.new.cpu.cpu c.regain.new.cpu.cpu c.regain.ensures.collects);
  same = c.regain.ensures.same ∙ c.loop.invariant.same;
  after = beginning_trans c.loop.invariant.after (beginning_trans (since_waited c.loop.cpu c.synchronize.new.cpu c.in-Ok-synchronize.ensures.closed) (since_collected c.loop.self.writer c.regain.new.self.writer c.synchronize.new.cpu.cpu c.regain.new.cpu.cpu c.regain.ensures.collects));
}

pub returns-in-Some-regain-clause-regains : goal.returns-in-Some-regain-clause-regains
returns-in-Some-regain-clause-regains g c =
    let v = c.loop.invariant in
    let back = c.in-Some-regain.ensures.returns in
    let collects = c.regain.ensures.collects in record {
      removal = record {
        removed = c.remove_at_last.new.self;
        at = c.remove_at_last.new.cpu;
        removes = c.in-Ok.ensures.removes;
        here = c.regain.ensures.here ∙ v.names;
        writer = writer_trans c.remove_at_last.new.self.writer.writer c.loop.self.writer.writer c.regain.new.self.writer.writer v.writer (writer_collected c.loop.self.writer c.regain.new.self.writer c.synchronize.new.cpu.cpu c.regain.new.cpu.cpu collects);
        asked = c.loop.cpu;
        by = v.by;
        after = v.after;
      };
      own = back.0;
      is = sym v.leaving ∙ back.1;
      closed = waited_on c.loop.cpu c.synchronize.new.cpu c.regain.new.cpu c.in-Ok-synchronize.ensures.closed (since_collected c.loop.self.writer c.regain.new.self.writer c.synchronize.new.cpu.cpu c.regain.new.cpu.cpu collects);
    }

pub returns-in-Some-regain-clause-same_cpu : goal.returns-in-Some-regain-clause-same_cpu
returns-in-Some-regain-clause-same_cpu g c = same_trans c.args.cpu.now c.loop.cpu c.regain.new.cpu c.loop.invariant.by
    (same_trans c.loop.cpu c.synchronize.new.cpu c.regain.new.cpu c.synchronize.ensures.same (same_collected_in c.loop.self.writer c.regain.new.self.writer c.synchronize.new.cpu c.regain.new.cpu c.regain.ensures.collects c.regain.ensures.rest))

pub returns-in-Some-regain-clause-still_none : goal.returns-in-Some-regain-clause-still_none
returns-in-Some-regain-clause-still_none g c = none_collected c.loop.self.writer c.regain.new.self.writer c.synchronize.new.cpu c.regain.new.cpu c.regain.ensures.collects c.synchronize.ensures.still_none

pub returns-in-Err-clause-regains : goal.returns-in-Err-clause-regains
returns-in-Err-clause-regains g c = c.in-Err.ensures.removes

pub returns-in-Err-clause-no_limit : goal.returns-in-Err-clause-no_limit
returns-in-Err-clause-no_limit g c = c.in-Err.ensures.no_limit

pub returns-in-Err-synchronize-clause-same_cpu : goal.returns-in-Err-synchronize-clause-same_cpu
returns-in-Err-synchronize-clause-same_cpu g c = same_trans c.args.cpu.now c.loop.cpu c.synchronize.new.cpu c.loop.invariant.by c.synchronize.ensures.same

pub returns-in-Err-synchronize-clause-regains : goal.returns-in-Err-synchronize-clause-regains
returns-in-Err-synchronize-clause-regains g c =
    let v = c.loop.invariant in record {
      removal = record { removed = c.remove_at_last.new.self; at = c.remove_at_last.new.cpu; removes = c.in-Ok.ensures.removes; here = v.names; writer = v.writer; asked = c.loop.cpu; by = v.by; after = v.after };
      leaving = v.leaving;
      why = c.in-Err-synchronize.ensures.waits;
    }
