use Rattle.std.proofs.Common.{arith, rules}
use Rattle.solo.proofs.Calling.{Hand, hand_of, in_items, in_domain, in_room, lent, all_there, either, take_says}
use Rattle.solo.proofs.solo.Solo.take_ready.Goals as goal

abbrev hand : (g : _) → goal.After-settle g → Hand g.row.J.Denot
hand g c = hand_of c.args.processor c.take_out-taken.new.cpu c.self.invariant.met c.self.view_is c.requires c.index_mut-taker.ensures.value c.settle.ensures.all c.settle.ensures.meets

pub index_mut-taker-requires : goal.index_mut-taker-requires
index_mut-taker-requires g c = in_items c.self.invariant.met c.self.view_is c.requires _ c.self.inside.members.cpus.ok.0

pub overflow_cast-processor : goal.overflow_cast-processor
overflow_cast-processor g c = let small = in_room c.self.invariant.met c.self.view_is c.requires in omega (arith, small)

pub take_out-taken-requires : goal.take_out-taken-requires
take_out-taken-requires g c = (search rules, (lent c.self.invariant.met c.self.view_is c.requires c.index_mut-taker.ensures.value, in_domain c.self.invariant.met c.self.view_is c.requires))

pub settle-requires : goal.settle-requires
settle-requires g c = either c.take_out-taken.result c.take_out-taken.ensures.acts (λ r did. all_there c.self.invariant.met c.self.view_is c.requires c.index_mut-taker.ensures.value did c.take_out-taken.ensures.here) (λ e did. all_there c.self.invariant.met c.self.view_is c.requires c.index_mut-taker.ensures.value did c.take_out-taken.ensures.here)

pub invariant_of-self : goal.invariant_of-self
invariant_of-self g c = record { engine = c.settle.ensures.meets.left; met = (take_says (hand g c) c.args.max c.requires c.take_out-taken.result c.take_out-taken.ensures.taken c.take_out-taken.ensures.acts).met }

pub returns : goal.returns
returns g c = let it = take_says (hand g c) c.args.max c.requires c.take_out-taken.result c.take_out-taken.ensures.taken c.take_out-taken.ensures.acts in record { same = it.same; answer = it.what }
