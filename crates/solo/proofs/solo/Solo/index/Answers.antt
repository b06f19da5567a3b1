use Rattle.std.proofs.Common.{◌∙◌}
use Rattle.solo.proofs.Calling.{Hand, hand_of, in_items, first_small, all_here, look_says}
use Rattle.solo.proofs.solo.Solo.index.Goals as goal

abbrev hand : (g : _) → goal.After-drop-look-inside g → Hand g.row.J.Denot
hand g c = hand_of 0 c.look-look.new.self c.self.invariant.met c.self.view_is (first_small c.self.invariant.met c.self.view_is) c.index_mut.ensures.value c.settle.ensures.all c.settle.ensures.meets

pub index_mut-requires : goal.index_mut-requires
index_mut-requires g c = in_items c.self.invariant.met c.self.view_is (first_small c.self.invariant.met c.self.view_is) _ c.self.inside.members.cpus.ok.0

pub settle-requires : goal.settle-requires
settle-requires g c = all_here c.self.invariant.met c.self.view_is (first_small c.self.invariant.met c.self.view_is) c.index_mut.ensures.value c.look-look.ensures.acts c.look-look.ensures.stays

pub invariant_of-self : goal.invariant_of-self
invariant_of-self g c = record { engine = c.settle.ensures.meets.left; met = (look_says (hand g c) c.look-look.result c.look-look.ensures.looks c.look-look.ensures.acts).met }

pub returns : goal.returns
returns g c = let it = look_says (hand g c) c.look-look.result c.look-look.ensures.looks c.look-look.ensures.acts in record { value = c.index.ensures ∙ it.what.0.index; after = it.what.1 }
