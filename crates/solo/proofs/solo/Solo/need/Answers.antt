use Rattle.solo.proofs.Calling.{Hand, hand_of, in_items, first_small, lent, all_there, need_says}
use Rattle.solo.proofs.solo.Solo.need.Goals as goal

abbrev hand : (g : _) → goal.After-settle g → Hand g.row.J.Denot
hand g c = hand_of 0 c.need-need.new.cpu c.self.invariant.met c.self.view_is (first_small c.self.invariant.met c.self.view_is) c.index_mut.ensures.value c.settle.ensures.all c.settle.ensures.meets

pub index_mut-requires : goal.index_mut-requires
index_mut-requires g c = in_items c.self.invariant.met c.self.view_is (first_small c.self.invariant.met c.self.view_is) _ c.self.inside.members.cpus.ok.0

pub need-need-requires : goal.need-need-requires
need-need-requires g c = lent c.self.invariant.met c.self.view_is (first_small c.self.invariant.met c.self.view_is) c.index_mut.ensures.value

pub settle-requires : goal.settle-requires
settle-requires g c = all_there c.self.invariant.met c.self.view_is (first_small c.self.invariant.met c.self.view_is) c.index_mut.ensures.value c.need-need.ensures.acts c.need-need.ensures.here

pub invariant_of-self : goal.invariant_of-self
invariant_of-self g c = record { engine = c.settle.ensures.meets.left; met = (need_says (hand g c) c.need-need.result c.need-need.ensures.need c.need-need.ensures.acts).met }

pub returns : goal.returns
returns g c = let it = need_says (hand g c) c.need-need.result c.need-need.ensures.need c.need-need.ensures.acts in record { value = it.what.1; after = it.what.0 }
