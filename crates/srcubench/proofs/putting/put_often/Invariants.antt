-- So far as many values were put as there were rounds.
use Rattle.std.proofs.Common.{◌≡◌}
use Rattle.domain.specs.Views.{IsOf}
use Rattle.srcubench.specs.Putting.{PutsOften}
use Rattle.srcubench.proofs.putting.put_often.Given as goal

abbrev pub invariant-loop-number : goal.invariant-loop-number
invariant-loop-number g l = record {
  puts : PutsOften l.number l.initial.shelf l.initial.cpu l.shelf l.cpu;
  here : IsOf l.domain l.cpu;
  shelf : l.shelf.domain ≡ l.domain.domain;
}
