use Rattle.std.proofs.Common.{rules, ◌≡◌, true, sym, subst}
use Rattle.sections.specs.Glossary.{IsKnownIn, MemberView}
use Rattle.sections.proofs.Finds.{found_done}
use Rattle.sections.proofs.set.Member.poll.Goals as goal

pub invariant_of-self-2 : goal.invariant_of-self-2
invariant_of-self-2 g c =
    let done : c.poll.result ≡ true = search rules in
    found_done c.self.inside.cookie c.poll.new.cookie c.sight.result c.poll.result c.args.cpu.now c.poll.new.self c.poll.ensures.cookie c.sight.ensures.sight
    (subst (λ (m : MemberView). IsKnownIn c.args.cpu.now.domain m.cookie) (sym c.self.view_is) c.requires) done c.poll.ensures.asks c.poll.ensures.closed
