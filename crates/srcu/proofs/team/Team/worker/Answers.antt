-- Each processor that was there is idle: the one that was taken, and the others.
use Rattle.std.proofs.Common.{Some}
use Rattle.std.proofs.lemmas.List.Elements.{All-pop}
use Rattle.driver.specs.Pools.{IsIdle}
use Rattle.srcu.proofs.team.Team.worker.Goals as goal

pub new-requires : goal.new-requires
new-requires g c = (All-pop (IsIdle c.self.inside.domain.now) _ _ (Some c.in_ok-cpu.cpu) c.in_ok-cpu.ensures.items c.self.invariant.0).1

pub invariant_of-self-2 : goal.invariant_of-self-2
invariant_of-self-2 g c = ((All-pop (IsIdle c.self.inside.domain.now) _ _ _ c.pop.ensures.items c.self.invariant.0).0, c.self.invariant.1)
