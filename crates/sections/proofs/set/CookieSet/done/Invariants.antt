-- Each member so far was found done.
use Rattle.std.proofs.Common.{◌≡◌, true, All, take}
use Rattle.std.specs.List.{list_all}
use Rattle.sections.specs.Sets.{is_found, IsDoneThere}
use Rattle.sections.proofs.set.CookieSet.done.Given as goal

abbrev pub invariant-loop-member : goal.invariant-loop-member
invariant-loop-member l = record {
  found : list_all is_found (take l.member-index l.member-items) ≡ true;
  done : All IsDoneThere (take l.member-index l.member-items);
}
