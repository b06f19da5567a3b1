use Rattle.std.proofs.Common.{true}
use Rattle.solo.proofs.Calling.{Hand, hand_of, in_items, all_here, either, lock_says}
use Rattle.solo.proofs.solo.Solo.down_read.Goals as goal

abbrev hand : (g : _) → goal.After-settle g → Hand g.row.J.Denot
hand g c = hand_of c.args.processor c.down_read-taken.new.self c.self.invariant.met c.self.view_is c.requires c.index_mut.ensures.value c.settle.ensures.all c.settle.ensures.meets

pub index_mut-requires : goal.index_mut-requires
index_mut-requires g c = in_items c.self.invariant.met c.self.view_is c.requires _ c.self.inside.members.cpus.ok.0

pub settle-requires : goal.settle-requires
settle-requires g c = either c.down_read-taken.result c.down_read-taken.ensures.acts (λ r did. all_here c.self.invariant.met c.self.view_is c.requires c.index_mut.ensures.value did c.down_read-taken.ensures.stays) (λ e did. all_here c.self.invariant.met c.self.view_is c.requires c.index_mut.ensures.value did c.down_read-taken.ensures.stays)

pub invariant_of-self : goal.invariant_of-self
invariant_of-self g c = record { engine = c.settle.ensures.meets.left; met = (lock_says (hand g c) true c.down_read-taken.result c.down_read-taken.ensures.downs c.down_read-taken.ensures.acts).met }

pub returns : goal.returns
returns g c = let it = lock_says (hand g c) true c.down_read-taken.result c.down_read-taken.ensures.downs c.down_read-taken.ensures.acts in record { same = it.same; section = it.what }
