-- The table at the start.
use Rattle.std.proofs.Common.{refl, ap, ◌∙◌, ◌++◌, ◌∷◌, [], Some}
use Rattle.trail.proofs.Keeping.{opens_with}
use Rattle.trail.proofs.trail.Trail.new.Goals as goal

pub new-requires : goal.new-requires
new-requires g c = opens_with g.T.Lies.fits g.T.Lies.state g.T.Lies.goes c.args.key.now _ _ c.args.value refl refl (c.push_reserved.ensures.items ∙ ap (λ l. l ++ Some c.args.value ∷ []) c.in_ok-slots.ensures.items) c.requires
