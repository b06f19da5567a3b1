-- Calls were moved so far, and the next one has the number that the count says. The tally words are those of as many processors.
use Rattle.std.proofs.Common.{◌≡◌}
use Rattle.calls.specs.Glossary.{next_of, Came}
use Rattle.calls.proofs.list.List.gather.Given as goal

abbrev pub ghosts-see_list : goal.ghosts-see_list
ghosts-see_list g a = record { count = a.top.now.key.processors }

abbrev pub invariant-loop : goal.invariant-loop
invariant-loop g l = record {
  came : Came l.fn.self l.self;
  next : next_of l.self ≡ l.counter;
  counted : l.self.counted ≡ l.counted;
}
