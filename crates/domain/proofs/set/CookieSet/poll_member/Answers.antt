use Rattle.std.proofs.Common.{refl}
use Rattle.sections.specs.Sets.{member_at}
use Rattle.domain.proofs.Acting.{set_acts}
use Rattle.domain.proofs.set.CookieSet.poll_member.Goals as goal

pub returns-clause-acts : goal.returns-clause-acts
returns-clause-acts g c =
    rw (← c.self.view_is, ← c.cpu.view_is)
    (set_acts _ _ refl c.poll_member.result (member_at c.args.place c.self.inside.set) (member_at c.args.place c.poll_member.new.self) c.poll_member.ensures.polls.polls)
