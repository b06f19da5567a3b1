use Rattle.std.proofs.Common.{rules, ◌≡◌, false, eqb, subst}
use Rattle.sections.specs.Sets.{MemberView, CatchesUp}
use Rattle.sections.proofs.Finds.{found_brings}
use Rattle.sections.proofs.set.Member.catch_up.Goals as goal

pub returns-clause-catches : goal.returns-clause-catches
returns-clause-catches g c =
    let given : eqb c.self.inside.cookie.number 1 ≡ false = search rules in
    subst (λ (m : MemberView). CatchesUp m c.args.cpu.now c.catch_up.new.self) c.self.view_is (found_brings c.self.inside.cookie c.self.inside.found c.in-Some.sight c.args.cpu.now c.catch_up.new.self c.in-Some.is given c.self.invariant c.catch_up.ensures.hears)
