-- A worker's processor is idle, and of the team's domain.
use Rattle.std.proofs.Common.{sym, ap, ◌∙◌, subst}
use Rattle.domain.specs.Views.{DomainView}
use Rattle.driver.specs.Pools.{IsIdle}
use Rattle.srcu.specs.Teams.{TeamView}
use Rattle.srcu.proofs.Keeping.{all_pushed}
use Rattle.srcu.proofs.team.Team.back.Goals as goal

pub invariant_of-self : goal.invariant_of-self
invariant_of-self g c =
    let idle = subst (λ (d : DomainView). IsIdle d c.into_cpu.result) (c.requires ∙ sym (ap (λ (z : TeamView). z.domain) c.self.view_is)) c.into_cpu.ensures.idle in
    (all_pushed (IsIdle c.self.inside.domain.now) c.self.inside.cpus.items c.push.new.self.items c.into_cpu.result c.push.result c.push.ensures.items c.self.invariant.0 idle, c.self.invariant.1)
