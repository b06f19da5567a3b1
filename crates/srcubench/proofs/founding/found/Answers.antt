-- The last processor was taken out, and the others stand as they did.
use Rattle.srcubench.proofs.Drives.{was_last}
use Rattle.srcubench.proofs.Founded.{whole_of, is_new, others_here, changer_here}
use Rattle.srcubench.proofs.founding.found.Goals as goal

pub returns-clause-new : goal.returns-clause-new
returns-clause-new g c =
    is_new _ _ _ _ _ c.in_ok-domain.ensures.made (whole_of _ _ _ _ c.pop.ensures.items c.unwrap-changer.ensures) _ _ c.in_ok-domain.ensures.writers (was_last _ _ _ _ c.pop-2.ensures.items c.unwrap-writer.ensures)

pub returns-clause-others : goal.returns-clause-others
returns-clause-others g c =
    others_here _ _ _ _ _ c.in_ok-domain.ensures.made (whole_of _ _ _ _ c.pop.ensures.items c.unwrap-changer.ensures) c.in_ok-domain.ensures.all

pub returns-clause-here : goal.returns-clause-here
returns-clause-here g c =
    changer_here _ _ _ _ _ c.in_ok-domain.ensures.made (whole_of _ _ _ _ c.pop.ensures.items c.unwrap-changer.ensures) c.in_ok-domain.ensures.all
