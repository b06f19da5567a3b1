use Rattle.std.proofs.Common.{◌∙◌, arith}
use Rattle.funnel.proofs.Steps.{raises_here, raised_at}
use Rattle.funnel.proofs.seat.climb.raise.Goals as goal

pub fetch_max-requires : goal.fetch_max-requires
fetch_max-requires c = let wide = c.requires.placed.wide in let lt = c.requires.there.0 in let place = c.place_of.ensures in (
  c.requires.placed.seated,
  omega (arith, wide, lt, place),
  raises_here _ _ _ _ _ _ _ _ c.place_of.ensures c.requires.placed.shaped c.requires.role.0 c.requires.role.1 c.requires.there.0 c.requires.next c.requires.number,
)

pub returns-clause-raised : goal.returns-clause-raised
returns-clause-raised c = raised_at _ _ _ _ _ _ _ c.place_of.ensures (c.fetch_max.ensures.2.1 _ c.requires.role.0)

pub returns-clause-placed : goal.returns-clause-placed
returns-clause-placed c = record {
  seated = c.fetch_max.ensures.0 ∙ c.requires.placed.seated;
  wide = c.requires.placed.wide;
  some = c.requires.placed.some;
  bare = c.fetch_max.ensures.2.0 ∙ c.requires.placed.bare;
  shaped = (c.fetch_max.ensures.2.1 _ c.requires.role.0).shape ∙ c.requires.placed.shaped;
}
