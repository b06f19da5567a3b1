use Rattle.std.proofs.Common.{rules, ◌≡◌, true, subst}
use Rattle.sections.specs.Sets.{MemberView, is_found, IsDoneThere}
use Rattle.sections.proofs.Finds.{done_on, done_with, found_on}
use Rattle.sections.proofs.set.CookieSet.done.Goals as goal

pub loop-member-preserved : goal.loop-member-preserved
loop-member-preserved c =
    let done : IsDoneThere c.member-item.result = subst (λ (m : MemberView). IsDoneThere m) c.member.view_is (done_with c.member.inside.cookie c.member.inside.found c.if-is_none.ensures c.member.invariant) in
    let found : is_found c.member-item.result ≡ true = search rules in record {
      found = found_on c.as_slice-member-items.result.now c.loop-member.member-index c.member-item.result c.loop-member-test.true (subst (λ (m : MemberView). is_found m ≡ true) c.member-item.is found) c.loop-member.invariant.found;
      done = done_on c.as_slice-member-items.result.now c.loop-member.member-index c.member-item.result c.loop-member-test.true (subst (λ (m : MemberView). IsDoneThere m) c.member-item.is done) c.loop-member.invariant.done;
    }
