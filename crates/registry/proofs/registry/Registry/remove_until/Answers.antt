-- The last try was the first, or those before it found the device there and no slot.
use Rattle.std.proofs.Common.{inl, inr, refl, sym, ◌∙◌, subst, rules}
use Rattle.domain.proofs.CallerLemmas.{same_trans}
use Rattle.boxes.specs.Boxes.{IsCellIn}
use Rattle.registry.proofs.AtLast.{ends_at_last, nothing_more, nothing_yet, same_tried, taken_before}
use Rattle.registry.proofs.Opening.{same_refused, since_waited}
use Rattle.registry.proofs.registry.Registry.remove_until.Goals as goal

pub loop-init : goal.loop-init
loop-init g c = record { here = c.requires.domain; none = c.requires.none; cell = refl; vain = nothing_yet c.args.self.now c.args.cpu.now; first = inl (refl, refl) }

pub try_remove-requires : goal.try_remove-requires
try_remove-requires g c = (search (rules, c.requires-raw), (c.loop.invariant.here, subst (IsCellIn c.args.domain.now) (sym c.loop.invariant.cell) c.requires.cell))

pub synchronize_for-requires : goal.synchronize_for-requires
synchronize_for-requires g c = record { domain = c.try_remove.ensures.here; none = c.try_remove.ensures.still_none c.loop.invariant.none }

-- The try ended the call

pub returns-in-Some-try_remove-clause-same_cpu : goal.returns-in-Some-try_remove-clause-same_cpu
returns-in-Some-try_remove-clause-same_cpu g c =
    same_trans c.args.cpu.now c.loop.cpu c.try_remove.new.cpu c.loop.invariant.vain.by
    (same_tried g.K.Ord.cmp c.args.key c.loop.self c.try_remove.new.self c.loop.cpu c.try_remove.new.cpu c.in-Some-try_remove.answer c.in-Some-try_remove.ensures.tries)

pub returns-in-Some-try_remove-clause-removes : goal.returns-in-Some-try_remove-clause-removes
returns-in-Some-try_remove-clause-removes g c =
    ends_at_last g.K.Ord.cmp c.args.key c.loop.self c.try_remove.new.self c.loop.cpu c.try_remove.new.cpu c.args.self.now c.args.cpu.now c.in-Some-try_remove.answer
    c.loop.invariant.vain c.loop.invariant.first c.in-Some-try_remove.ensures.tries

-- The time was over

pub returns-in-Err-TimedOut-clause-same_cpu : goal.returns-in-Err-TimedOut-clause-same_cpu
returns-in-Err-TimedOut-clause-same_cpu g c =
    same_trans c.args.cpu.now c.loop.cpu c.synchronize_for.new.cpu c.loop.invariant.vain.by
    (same_trans c.loop.cpu c.try_remove.new.cpu c.synchronize_for.new.cpu (same_refused c.loop.self c.try_remove.new.self c.loop.cpu c.try_remove.new.cpu c.in-None-try_remove.ensures.tries.0) c.synchronize_for.ensures.same)

pub returns-in-Err-TimedOut-clause-removes : goal.returns-in-Err-TimedOut-clause-removes
returns-in-Err-TimedOut-clause-removes g c =
    let tries = c.in-None-try_remove.ensures.tries in (
      record {
        tried = c.try_remove.new.cpu;
        refuses = record { last = c.loop.self; at = c.loop.cpu; vain = c.loop.invariant.vain; refuses = tries.0 };
        none = tries.2;
        ends = (_, (rw c.in-Err-TimedOut.field-0-is at c.in-Err-TimedOut.ensures.waits));
      },
      taken_before g.K.Ord.cmp c.args.key c.args.self.now c.loop.self c.args.cpu.now c.loop.cpu c.loop.invariant.vain tries.1,
    )

-- The wait was in vain

pub returns-in-Err-Exhausted-clause-same_cpu : goal.returns-in-Err-Exhausted-clause-same_cpu
returns-in-Err-Exhausted-clause-same_cpu g c =
    same_trans c.args.cpu.now c.loop.cpu c.synchronize_for.new.cpu c.loop.invariant.vain.by
    (same_trans c.loop.cpu c.try_remove.new.cpu c.synchronize_for.new.cpu (same_refused c.loop.self c.try_remove.new.self c.loop.cpu c.try_remove.new.cpu c.in-None-try_remove.ensures.tries.0) c.synchronize_for.ensures.same)

pub returns-in-Err-Exhausted-clause-removes : goal.returns-in-Err-Exhausted-clause-removes
returns-in-Err-Exhausted-clause-removes g c =
    let tries = c.in-None-try_remove.ensures.tries in (
      record {
        tried = c.try_remove.new.cpu;
        refuses = record { last = c.loop.self; at = c.loop.cpu; vain = c.loop.invariant.vain; refuses = tries.0 };
        none = tries.2;
        ends = rw c.in-Err-Exhausted.field-0-is at c.in-Err-Exhausted.ensures.waits;
      },
      taken_before g.K.Ord.cmp c.args.key c.args.self.now c.loop.self c.args.cpu.now c.loop.cpu c.loop.invariant.vain tries.1,
    )

pub loop-preserved : goal.loop-preserved
loop-preserved g c =
    let v = c.loop.invariant in
    let tries = c.in-None-try_remove.ensures.tries in record {
      here = c.synchronize_for.ensures.here;
      none = c.synchronize_for.ensures.still_none;
      cell = c.try_remove.ensures.same ∙ v.cell;
      vain = nothing_more c.args.self.now c.loop.self c.try_remove.new.self c.args.cpu.now c.loop.cpu c.try_remove.new.cpu c.synchronize_for.new.cpu v.vain tries.0 c.synchronize_for.ensures.same
          (since_waited c.try_remove.new.cpu c.synchronize_for.new.cpu c.in-Ok.ensures.closed);
      first = inr (taken_before g.K.Ord.cmp c.args.key c.args.self.now c.loop.self c.args.cpu.now c.loop.cpu v.vain tries.1);
    }
