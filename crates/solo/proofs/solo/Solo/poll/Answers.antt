use Rattle.solo.proofs.Calling.{Hand, hand_of, in_items, all_here, either, poll_says}
use Rattle.solo.proofs.solo.Solo.poll.Goals as goal

abbrev hand : (g : _) → goal.After-settle g → Hand g.row.J.Denot
hand g c = hand_of c.args.processor c.poll_number-answer.new.self c.self.invariant.met c.self.view_is c.requires c.index_mut.ensures.value c.settle.ensures.all c.settle.ensures.meets

pub index_mut-requires : goal.index_mut-requires
index_mut-requires g c = in_items c.self.invariant.met c.self.view_is c.requires _ c.self.inside.members.cpus.ok.0

pub settle-requires : goal.settle-requires
settle-requires g c = either c.poll_number-answer.result c.poll_number-answer.ensures.acts (λ r did. all_here c.self.invariant.met c.self.view_is c.requires c.index_mut.ensures.value did c.poll_number-answer.ensures.stays) (λ e did. all_here c.self.invariant.met c.self.view_is c.requires c.index_mut.ensures.value did c.poll_number-answer.ensures.stays)

pub invariant_of-self : goal.invariant_of-self
invariant_of-self g c = record { engine = c.settle.ensures.meets.left; met = (poll_says (hand g c) c.args.cookie c.poll_number-answer.result c.poll_number-answer.ensures.asks c.poll_number-answer.ensures.acts).met }

pub returns : goal.returns
returns g c = let it = poll_says (hand g c) c.args.cookie c.poll_number-answer.result c.poll_number-answer.ensures.asks c.poll_number-answer.ensures.acts in record { same = it.same; answer = it.what }
