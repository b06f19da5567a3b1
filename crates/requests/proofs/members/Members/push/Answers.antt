use Rattle.std.proofs.Common.{◌<◌, arith, length-take}
use Rattle.requests.proofs.Joining.{one_more_kept}
use Rattle.requests.proofs.members.Members.push.Goals as goal

pub invariant_of-self : goal.invariant_of-self
invariant_of-self c =
    let few : c.self.inside.count < 8 = grind (arith, length-take c.self.inside.count c.self.inside.members, c.self.invariant.wide, c.self.invariant.fits, c.self.view_is, c.requires) in
    one_more_kept c.self.inside.count c.self.inside.members c.args.member few c.self.invariant
