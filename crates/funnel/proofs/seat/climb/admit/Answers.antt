use Rattle.std.proofs.Common.{arith, ap, ◌∙◌}
use Rattle.funnel.proofs.Seating.{accepts_from, admitted_seat}
use Rattle.funnel.proofs.seat.climb.admit.Goals as goal

pub tell-requires : goal.tell-requires
tell-requires c = (omega arith, (record { seated = c.requires.first.0.seated; some = c.requires.second.some }, record { seated = c.requires.second.seated; some = c.requires.second.some }))

pub load-requires : goal.load-requires
load-requires c = (
  c.tell.ensures.table ∙ c.requires.first.0.seated,
  c.requires.second.some,
  admitted_seat _ _ _ c.requires.first.1.0 c.args.first.now.me.0 c.args.second.now.me.0 _ (ap (λ m. m.0) c.tell.ensures.told) c.requires.first.1.1 c.requires.first.0.shaped c.requires.first.0.some c.requires.rests.sound c.requires.covered,
)

pub returns-clause-first : goal.returns-clause-first
returns-clause-first c = accepts_from c.load.result c.args.first.now.me.0 c.args.second.now.me.0 _ _ (ap (λ m. m.0) c.tell.ensures.told) c.load.ensures.2.1

pub returns-clause-placed : goal.returns-clause-placed
returns-clause-placed c = record {
  seated = c.load.ensures.0 ∙ (c.tell.ensures.table ∙ c.requires.first.0.seated);
  wide = c.requires.first.0.wide;
  some = c.requires.first.0.some;
  bare = c.load.ensures.2.0 ∙ (ap (λ m. m.1) c.tell.ensures.told ∙ c.requires.first.0.bare);
  shaped = c.load.ensures.2.1.load.shape ∙ (ap (λ m. m.0.client.shape) c.tell.ensures.told ∙ c.requires.first.0.shaped);
}
