use Rattle.std.proofs.Common.{◌<◌, arith, length-take}
use Rattle.requests.proofs.Padding.{one_more}
use Rattle.requests.proofs.job_names.JobNames.push.Goals as goal

pub invariant_of-self : goal.invariant_of-self
invariant_of-self c =
    let few : c.self.inside.count < 8 = grind (arith, length-take c.self.inside.count c.self.inside.names, c.self.invariant.wide, c.self.invariant.fits, c.self.view_is, c.requires) in
    one_more c.self.inside.count c.self.inside.names c.args.name few c.self.invariant
