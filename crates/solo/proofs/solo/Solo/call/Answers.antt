use Rattle.solo.proofs.Calling.{Hand, hand_of, in_items, all_stay, lent}
use Rattle.solo.proofs.Jobs.{call_says}
use Rattle.solo.proofs.solo.Solo.call.Goals as goal

abbrev hand : (g : _) → goal.After-queued g → Hand g.row.J.Denot
hand g c = hand_of c.args.processor c.call-answer.new.cpu c.self.invariant.met c.self.view_is c.requires c.index_mut-cpu.ensures.value c.settle.ensures.all c.settle.ensures.meets

pub index_mut-cpu-requires : goal.index_mut-cpu-requires
index_mut-cpu-requires g c = in_items c.self.invariant.met c.self.view_is c.requires _ c.self.inside.members.cpus.ok.0

pub call-answer-requires : goal.call-answer-requires
call-answer-requires g c = lent c.self.invariant.met c.self.view_is c.requires c.index_mut-cpu.ensures.value

pub settle-requires : goal.settle-requires
settle-requires g c = all_stay c.self.invariant.met c.self.view_is c.requires c.index_mut-cpu.ensures.value c.call-answer.ensures.here c.call-answer.ensures.same.cpu c.call-answer.ensures.same.needs

pub invariant_of-self : goal.invariant_of-self
invariant_of-self g c = record { engine = c.settle.ensures.meets.left; met = (call_says (hand g c) _ c.call-answer.result c.call-answer.ensures.calls c.call-answer.ensures.acts c.queued.result c.queued.ensures.told).met }

pub returns : goal.returns
returns g c = let it = call_says (hand g c) _ c.call-answer.result c.call-answer.ensures.calls c.call-answer.ensures.acts c.queued.result c.queued.ensures.told in record { domain = it.same; list = it.what.1; answer = it.what.0; back = it.what.2; small = c.queued.ensures.small }
