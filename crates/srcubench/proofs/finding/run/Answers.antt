-- The processors were new ones of one domain.
use Rattle.srcubench.proofs.Finds.{finders_of_one}
use Rattle.srcubench.proofs.finding.run.Goals as goal

pub returns : goal.returns
returns g c =
    let made = c.in_ok-cpus.ensures.made in
    finders_of_one _ _ _ _ _ _ made.count made.cpus_new c.in_ok-readers.ensures
