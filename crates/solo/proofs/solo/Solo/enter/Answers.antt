use Rattle.solo.proofs.Calling.{Hand, hand_of, in_items, of_table, all_here, either, enter_says}
use Rattle.solo.proofs.solo.Solo.enter.Goals as goal

abbrev hand : (g : _) → goal.After-settle g → Hand g.row.J.Denot
hand g c = hand_of c.args.processor c.enter-taken.new.self c.self.invariant.met c.self.view_is c.requires.processor c.index_mut.ensures.value c.settle.ensures.all c.settle.ensures.meets

pub index_mut-requires : goal.index_mut-requires
index_mut-requires g c = in_items c.self.invariant.met c.self.view_is c.requires.processor _ c.self.inside.members.cpus.ok.0

pub enter-taken-requires : goal.enter-taken-requires
enter-taken-requires g c = of_table c.self.invariant.met c.self.view_is c.requires.processor c.index_mut.ensures.value _ c.requires.look

pub settle-requires : goal.settle-requires
settle-requires g c = either c.enter-taken.result c.enter-taken.ensures.acts (λ r did. all_here c.self.invariant.met c.self.view_is c.requires.processor c.index_mut.ensures.value did c.enter-taken.ensures.stays) (λ e did. all_here c.self.invariant.met c.self.view_is c.requires.processor c.index_mut.ensures.value did c.enter-taken.ensures.stays)

pub invariant_of-self : goal.invariant_of-self
invariant_of-self g c = record { engine = c.settle.ensures.meets.left; met = (enter_says (hand g c) c.args.look c.enter-taken.result c.enter-taken.ensures.enters c.enter-taken.ensures.acts).met }

pub returns : goal.returns
returns g c = let it = enter_says (hand g c) c.args.look c.enter-taken.result c.enter-taken.ensures.enters c.enter-taken.ensures.acts in record { same = it.same; section = it.what }
