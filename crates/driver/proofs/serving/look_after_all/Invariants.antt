-- The lists of the first processors were looked at.
use Rattle.std.proofs.Common.{◌*◌, ◌≤◌}
use Rattle.calls.specs.Tallies.{IsBeginning}
use Rattle.domain.specs.Glossary.{IsOf, IsSameProcessor, HasNoneOpen}
use Rattle.driver.proofs.Rows.{LookedAfter}
use Rattle.driver.proofs.serving.look_after_all.Given as goal

abbrev pub invariant-loop-processor : goal.invariant-loop-processor
invariant-loop-processor g l =
    goal.F-IsAlwaysCallable g l.work
    × record {
      here : IsOf l.domain l.cpu;
      still : HasNoneOpen l.cpu;
      later : IsBeginning l.initial.cpu.calls.seen l.cpu.calls.seen;
      same : IsSameProcessor l.initial.cpu l.cpu;
      few : l.jobs ≤ 8 * l.processor;
      looks : LookedAfter (λ p x q. goal.F-step g p x tt q) l.domain l.processor l.initial.work l.initial.cpu l.jobs l.work l.cpu;
    }
