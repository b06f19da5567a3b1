-- The team stays one of the domain that was made, and its processors are idle there.
use Rattle.std.proofs.Common.{All, ap, ◌∙◌, subst}
use Rattle.srcu.specs.Words.{DomainView, IsIdle}
use Rattle.srcu_tests.proofs.tests.workers.worked.Goals as goal

pub clean_up-requires : goal.clean_up-requires
clean_up-requires g c =
    let same = c.back.ensures.domain ∙ (c.worker.ensures.domain ∙ ap (λ t. t.domain) c.new-team.ensures) in
    subst (λ (d : DomainView). All (IsIdle d) c.into_cpus-cpus.result.items) same c.into_cpus-cpus.ensures.idle
