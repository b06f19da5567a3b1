use Rattle.solo.proofs.Calling.{Hand, hand_of, in_items, all_here, look_says}
use Rattle.solo.proofs.solo.Solo.look.Goals as goal

abbrev hand : (g : _) → goal.After-settle g → Hand g.row.J.Denot
hand g c = hand_of c.args.processor c.look-look.new.self c.self.invariant.met c.self.view_is c.requires c.index_mut.ensures.value c.settle.ensures.all c.settle.ensures.meets

pub index_mut-requires : goal.index_mut-requires
index_mut-requires g c = in_items c.self.invariant.met c.self.view_is c.requires _ c.self.inside.members.cpus.ok.0

pub settle-requires : goal.settle-requires
settle-requires g c = all_here c.self.invariant.met c.self.view_is c.requires c.index_mut.ensures.value c.look-look.ensures.acts c.look-look.ensures.stays

pub invariant_of-self : goal.invariant_of-self
invariant_of-self g c = record { engine = c.settle.ensures.meets.left; met = (look_says (hand g c) c.look-look.result c.look-look.ensures.looks c.look-look.ensures.acts).met }

pub returns : goal.returns
returns g c = let it = look_says (hand g c) c.look-look.result c.look-look.ensures.looks c.look-look.ensures.acts in record { look = it.what.0; after = it.what.1 }
