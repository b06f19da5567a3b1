-- Rounds were made, and these are their counts, on top of those before.
use Rattle.calls.specs.Tallies.{IsBeginning}
use Rattle.domain.specs.Glossary.{IsOf, IsSameProcessor, HasNoneOpen}
use Rattle.driver.specs.Serving.{WorksFrom}
use Rattle.driver.proofs.driving.until_started.Given as goal

abbrev pub invariant-loop : goal.invariant-loop
invariant-loop g l =
    goal.F-IsAlwaysCallable g l.work
    × record {
      watched : g.W.Watcher.watches l.domain l.watcher;
      here : IsOf l.domain l.cpu;
      still : HasNoneOpen l.cpu;
      later : IsBeginning l.initial.cpu.calls.seen l.cpu.calls.seen;
      same : IsSameProcessor l.initial.cpu l.cpu;
      works : WorksFrom (λ p x q. goal.F-step g p x tt q) l.domain l.fn.before l.initial.work l.initial.cpu l.served l.work l.cpu;
    }
