-- What asking after a cookie of a set makes of the set.
use Rattle.std.specs.Prelude.{ℕ, Bool, List}
use Rattle.sections.specs.Views.{CpuView}
use Rattle.sections.specs.Sets as sets
use Rattle.sections.specs.Sets.{MemberView}

-- the member at this place was found done by a processor, or stays as it is, as the answer says. Each other one stays as it is, and so do all cookies
abbrev pub PollsMember : ℕ → Bool → List MemberView → List MemberView → Type 0
PollsMember i done members members' = (c c' : CpuView) × sets.PollsMember i done members c members' c'
