use Rattle.std.proofs.Common.{◌∙◌}
use Rattle.funnel.proofs.Steps.{finds_root}
use Rattle.funnel.proofs.Seating.{some_words}
use Rattle.funnel.proofs.seat.climb.load_root.Goals as goal

pub load-requires : goal.load-requires
load-requires c = (c.requires.placed.seated, some_words _ _ c.requires.placed.wide c.requires.placed.some, finds_root _ _ _ _ c.requires.holder.0 c.requires.holder.1 c.requires.placed.shaped c.requires.placed.some)

pub returns-clause-root : goal.returns-clause-root
returns-clause-root c = c.load.ensures.2.1

pub returns-clause-placed : goal.returns-clause-placed
returns-clause-placed c = record {
  seated = c.load.ensures.0 ∙ c.requires.placed.seated;
  wide = c.requires.placed.wide;
  some = c.requires.placed.some;
  bare = c.load.ensures.2.0 ∙ c.requires.placed.bare;
  shaped = c.load.ensures.2.1.load.shape ∙ c.requires.placed.shaped;
}
