-- The team stays at its domain, so its processors are of it.
use Rattle.std.proofs.Common.{◌≡◌, ◌∙◌, ap, get_or, subst}
use Rattle.srcu.specs.Words.{DomainView, IsIdle, TeamView}
use Rattle.filter.proofs.main.Goals as goal

pub clean_up-cleaned-requires : goal.clean_up-cleaned-requires
clean_up-cleaned-requires g c =
    let new = ap (λ (t : TeamView). t.domain) c.new-team.ensures in
    let same : c.back.new.self.domain ≡ c.in_ok-domain.domain = c.back.ensures.domain ∙ (c.run-ran.ensures ∙ (c.equip.ensures.team ∙ new)) in
    λ k d lt. subst (λ (v : DomainView). IsIdle v (get_or c.into_cpus-cpus.result.items k d)) same (c.into_cpus-cpus.ensures.idle k d lt)
