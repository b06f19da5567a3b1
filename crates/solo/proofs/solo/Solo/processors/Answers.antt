use Rattle.std.proofs.Common.{sym, ap, ◌∙◌}
use Rattle.solo.specs.Calls.{SoloView}
use Rattle.solo.proofs.Hand.{now_is}
use Rattle.solo.proofs.solo.Solo.processors.Goals as goal

pub returns : goal.returns
returns g c = c.len.ensures ∙ (c.self.inside.members.cpus.ok.0 ∙ (c.self.invariant.met.together.hold.all ∙ sym (ap (λ (x : SoloView g.row.J.Denot). x.course.standing.processors) (now_is _ _ _ _ c.self.invariant.met _ c.self.view_is))))
