-- Rounds were made, and these are their counts.
use Rattle.calls.specs.Tallies.{IsBeginning}
use Rattle.domain.specs.Glossary.{IsOf, IsSameProcessor, HasNoneOpen}
use Rattle.driver.specs.Serving.{Works}
use Rattle.driver.proofs.driving.until_told.Given as goal

abbrev pub invariant-loop : goal.invariant-loop
invariant-loop g l =
    goal.F-IsAlwaysCallable g l.work
    × record {
      watched : g.W.Watcher.watches l.domain l.watcher;
      here : IsOf l.domain l.cpu;
      still : HasNoneOpen l.cpu;
      later : IsBeginning l.initial.cpu.calls.seen l.cpu.calls.seen;
      same : IsSameProcessor l.initial.cpu l.cpu;
      works : Works (λ p x q. goal.F-step g p x tt q) l.domain l.initial.work l.initial.cpu l.served l.work l.cpu;
    }
