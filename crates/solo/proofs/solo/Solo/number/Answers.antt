use Rattle.solo.proofs.Calling.{Hand, hand_of, in_items, first_small, all_here, number_says}
use Rattle.solo.proofs.solo.Solo.number.Goals as goal

abbrev hand : (g : _) → goal.After-settle g → Hand g.row.J.Denot
hand g c = hand_of 0 c.number-number.new.self c.self.invariant.met c.self.view_is (first_small c.self.invariant.met c.self.view_is) c.index_mut.ensures.value c.settle.ensures.all c.settle.ensures.meets

pub index_mut-requires : goal.index_mut-requires
index_mut-requires g c = in_items c.self.invariant.met c.self.view_is (first_small c.self.invariant.met c.self.view_is) _ c.self.inside.members.cpus.ok.0

pub settle-requires : goal.settle-requires
settle-requires g c = all_here c.self.invariant.met c.self.view_is (first_small c.self.invariant.met c.self.view_is) c.index_mut.ensures.value c.number-number.ensures.acts c.number-number.ensures.stays

pub invariant_of-self : goal.invariant_of-self
invariant_of-self g c = record { engine = c.settle.ensures.meets.left; met = (number_says (hand g c) c.number-number.result c.number-number.ensures.notes c.number-number.ensures.acts).met }

pub returns-clause-same : goal.returns-clause-same
returns-clause-same g c = (number_says (hand g c) c.number-number.result c.number-number.ensures.notes c.number-number.ensures.acts).same

pub returns-clause-number : goal.returns-clause-number
returns-clause-number g c = let it = (number_says (hand g c) c.number-number.result c.number-number.ensures.notes c.number-number.ensures.acts).what in record { number = it.0; notes = it.1 }
