-- What was claimed and put, one behind the other.
use Rattle.std.proofs.Common.{ℕ, List, subst}
use Rattle.domain.specs.Publishing.{Puts}
use Rattle.shelf.proofs.Putting.{replaced}
use Rattle.shelf.proofs.shelf.Shelf.replace.Goals as goal

pub returns-clause-replaces : goal.returns-clause-replaces
returns-clause-replaces g c = rw (← c.self.view_is) (replaced c.in-Some.ensures.claims c.encode.ensures c.publish.ensures.puts)
