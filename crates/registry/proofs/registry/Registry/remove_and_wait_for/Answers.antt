-- The device that comes back is the one that was removed.
use Rattle.std.proofs.Common.{inl, inr, refl, sym, subst, rules}
use Rattle.domain.proofs.CallerLemmas.{same_trans}
use Rattle.boxes.specs.Boxes.{IsCellIn, cell_of}
use Rattle.registry.proofs.Keeping.{cell_here}
use Rattle.registry.proofs.Opening.{asks_and_collects, asks_at_once, none_collected, same_throughout, since_collected, waited_on}
use Rattle.registry.proofs.registry.Registry.remove_and_wait_for.Goals as goal

pub synchronize_for-requires : goal.synchronize_for-requires
synchronize_for-requires g c = record { domain = c.remove_until.ensures.here; none = c.remove_until.ensures.still_none }

pub regain-requires : goal.regain-requires
regain-requires g c = (search (rules, c.requires-raw), cell_here c.args.domain.now c.synchronize_for.new.cpu (cell_of c.remove_until.new.self.writer) c.synchronize_for.ensures.here (subst (IsCellIn c.args.domain.now) (sym c.remove_until.ensures.same) c.requires.cell))

-- Nothing was removed

pub returns-in-Err-clause-regains : goal.returns-in-Err-clause-regains
returns-in-Err-clause-regains g c = c.in-Err.ensures.removes

-- The wait was cut short

pub returns-in-Err-TimedOut-clause-same_cpu : goal.returns-in-Err-TimedOut-clause-same_cpu
returns-in-Err-TimedOut-clause-same_cpu g c = same_trans c.args.cpu.now c.remove_until.new.cpu c.synchronize_for.new.cpu c.remove_until.ensures.same_cpu c.synchronize_for.ensures.same

pub returns-in-Err-TimedOut-clause-regains : goal.returns-in-Err-TimedOut-clause-regains
unfolding asks_at_once
returns-in-Err-TimedOut-clause-regains g c =
    record { removal = asks_at_once g.K.Ord.cmp c.args.key c.args.self.now c.remove_until.new.self c.args.cpu.now c.remove_until.new.cpu c.in-Ok.ensures.removes; leaving = refl; why = inl (_, (rw c.in-Err-TimedOut.field-0-is at c.in-Err-TimedOut.ensures.waits)) }

pub returns-in-Err-Exhausted-clause-same_cpu : goal.returns-in-Err-Exhausted-clause-same_cpu
returns-in-Err-Exhausted-clause-same_cpu g c = same_trans c.args.cpu.now c.remove_until.new.cpu c.synchronize_for.new.cpu c.remove_until.ensures.same_cpu c.synchronize_for.ensures.same

pub returns-in-Err-Exhausted-clause-regains : goal.returns-in-Err-Exhausted-clause-regains
unfolding asks_at_once
returns-in-Err-Exhausted-clause-regains g c =
    record { removal = asks_at_once g.K.Ord.cmp c.args.key c.args.self.now c.remove_until.new.self c.args.cpu.now c.remove_until.new.cpu c.in-Ok.ensures.removes; leaving = refl; why = rw c.in-Err-Exhausted.field-0-is at c.in-Err-Exhausted.ensures.waits }

-- The grace period is over

pub returns-in-Some-clause-same_cpu : goal.returns-in-Some-clause-same_cpu
returns-in-Some-clause-same_cpu g c =
    same_throughout g.K.Ord.cmp c.args.key c.args.self.now c.remove_until.new.self c.regain.new.self c.args.cpu.now c.remove_until.new.cpu c.synchronize_for.new.cpu c.regain.new.cpu c.in-Ok.ensures.removes c.synchronize_for.ensures.same c.regain.ensures.collects c.regain.ensures.rest

pub returns-in-Some-clause-still_none : goal.returns-in-Some-clause-still_none
returns-in-Some-clause-still_none g c = none_collected c.remove_until.new.self.writer c.regain.new.self.writer c.synchronize_for.new.cpu c.regain.new.cpu c.regain.ensures.collects c.synchronize_for.ensures.still_none

pub returns-in-Some-clause-regains : goal.returns-in-Some-clause-regains
unfolding asks_and_collects
returns-in-Some-clause-regains g c =
    let back = c.in-Some.ensures.returns in record {
      removal = asks_and_collects g.K.Ord.cmp c.args.key c.args.self.now c.remove_until.new.self c.regain.new.self c.args.cpu.now c.remove_until.new.cpu c.synchronize_for.new.cpu c.regain.new.cpu c.in-Ok.ensures.removes c.regain.ensures.here c.regain.ensures.collects;
      own = back.0;
      is = back.1;
      closed = waited_on c.remove_until.new.cpu c.synchronize_for.new.cpu c.regain.new.cpu c.in-Ok-synchronize_for.ensures.closed (since_collected c.remove_until.new.self.writer c.regain.new.self.writer c.synchronize_for.new.cpu.cpu c.regain.new.cpu.cpu c.regain.ensures.collects);
    }

pub returns-in-None-clause-same_cpu : goal.returns-in-None-clause-same_cpu
returns-in-None-clause-same_cpu g c =
    same_throughout g.K.Ord.cmp c.args.key c.args.self.now c.remove_until.new.self c.regain.new.self c.args.cpu.now c.remove_until.new.cpu c.synchronize_for.new.cpu c.regain.new.cpu c.in-Ok.ensures.removes c.synchronize_for.ensures.same c.regain.ensures.collects c.regain.ensures.rest

pub returns-in-None-clause-still_none : goal.returns-in-None-clause-still_none
returns-in-None-clause-still_none g c = none_collected c.remove_until.new.self.writer c.regain.new.self.writer c.synchronize_for.new.cpu c.regain.new.cpu c.regain.ensures.collects c.synchronize_for.ensures.still_none

pub returns-in-None-clause-regains : goal.returns-in-None-clause-regains
unfolding asks_and_collects
returns-in-None-clause-regains g c =
    let none = c.in-None.ensures.returns in record {
      removal = asks_and_collects g.K.Ord.cmp c.args.key c.args.self.now c.remove_until.new.self c.regain.new.self c.args.cpu.now c.remove_until.new.cpu c.synchronize_for.new.cpu c.regain.new.cpu c.in-Ok.ensures.removes c.regain.ensures.here c.regain.ensures.collects;
      leaving = none.0;
      why = inr (record {
        waited = c.synchronize_for.new.cpu;
        waits = c.in-Ok-synchronize_for.ensures.waits;
        closed = c.in-Ok-synchronize_for.ensures.closed;
        collects = c.regain.ensures.collects;
        rest = c.regain.ensures.rest;
        shown = none.1;
      });
    }
