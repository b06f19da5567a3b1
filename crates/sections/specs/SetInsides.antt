-- How the fields of a set of cookies are seen.
use Rattle.std.specs.Prelude.{List}
use Rattle.sections.specs.declared.set.Member.TheInside as member
use Rattle.sections.specs.declared.set.CookieSet.TheInside as set
use Rattle.sections.specs.Sets.{MemberView, IsMember}

abbrev pub view_of_member : member.Inside → MemberView
view_of_member m = record { cookie = m.cookie; found = m.found }

abbrev pub is_member : member.Inside → Type 0
is_member m = IsMember (view_of_member m)

abbrev pub view_of_set : set.Inside → List MemberView
view_of_set s = s.members.items
