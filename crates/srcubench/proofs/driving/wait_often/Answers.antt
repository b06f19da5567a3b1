-- One more.
use Rattle.std.proofs.Common.{refl, subst, arith}
use Rattle.srcubench.specs.Driving.{WaitsAll}
use Rattle.srcubench.proofs.Drives.{one_wait}
use Rattle.srcubench.proofs.driving.wait_often.Goals as goal

pub loop-init : goal.loop-init
loop-init g c = record { waits = refl; here = c.requires.domain; none = c.requires.none }

pub synchronize-requires-clause-domain : goal.synchronize-requires-clause-domain
synchronize-requires-clause-domain g c = c.loop.invariant.here

pub synchronize-requires-clause-none : goal.synchronize-requires-clause-none
synchronize-requires-clause-none g c = c.loop.invariant.none

pub returns-in_err-synchronize-clause-here : goal.returns-in_err-synchronize-clause-here
returns-in_err-synchronize-clause-here g c = c.synchronize.ensures.here

pub loop-preserved : goal.loop-preserved
loop-preserved g c = record {
  waits = one_wait _ _ _ _ c.loop.invariant.waits c.in_ok-synchronize.ensures.waits;
  here = c.synchronize.ensures.here;
  none = c.synchronize.ensures.still_none;
}

pub returns-clause-here : goal.returns-clause-here
returns-clause-here g c = c.loop.invariant.here

pub returns-clause-waits : goal.returns-clause-waits
returns-clause-waits g c = subst (λ n. WaitsAll n c.args.cpu.now c.loop.cpu) (omega arith) c.loop.invariant.waits
