-- All are still of the domain, and so is the first.
use Rattle.std.proofs.Common.{List, subst}
use Rattle.domain.specs.Views.{CpuView}
use Rattle.domain.specs.Meetings.{IsAllOf}
use Rattle.domain_tests.proofs.tests.alone.need_behind_a_meeting.Goals as goal

pub need-requires : goal.need-requires
need-requires c =
    let all = subst (λ (l : List (CpuView _)). IsAllOf c.args.domain.now l) c.in_ok-cpus.ensures.cases.0 c.meet.ensures.all in
    all.here 0 c.in_ok-cpus.first.now all.some
