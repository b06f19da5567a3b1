use Rattle.std.proofs.Common.{sym, subst}
use Rattle.intake.specs.Rule.{MayFollow}
use Rattle.intake.proofs.Keeping.{pushes}
use Rattle.intake.proofs.inlet.Inlet.push.Goals as goal

pub push_as-requires-clause-rule : goal.push_as-requires-clause-rule
push_as-requires-clause-rule g c n = pushes _ _ n _ _ _ c.self.invariant.role (subst (λ v. MayFollow g.T.Item.follows v.key v.pushed c.args.item) (sym c.self.view_is) c.requires)
