-- The list is as it was dealt.
use Rattle.std.proofs.Common.{List, subst, sym}
use Rattle.domain.specs.Views.{CpuView}
use Rattle.domain.specs.Meetings.{IsAllOf}
use Rattle.domain_tests.proofs.tests.alone.meets.Goals as goal

pub need_behind_a_meeting-need-requires : goal.need_behind_a_meeting-need-requires
need_behind_a_meeting-need-requires g c = subst (λ (l : List (CpuView _)). IsAllOf c.in_ok-domain.domain l) (sym c.deref_mut.ensures.value) c.in_ok-domain.ensures.all
