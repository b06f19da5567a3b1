use Rattle.std.proofs.Common.{◌∙◌}
use Rattle.solo.proofs.Calling.{Hand, hand_of, in_items, lent, own_tallies, all_there}
use Rattle.solo.proofs.Barriers.{poll_says as barrier_says}
use Rattle.solo.proofs.solo.Solo.barrier_poll.Goals as goal

abbrev hand : (g : _) → goal.After-settle g → Hand g.row.J.Denot
hand g c = hand_of c.args.processor c.barrier_poll-done.new.cpu c.self.invariant.met c.self.view_is c.requires.processor c.index_mut-cpu.ensures.value c.settle.ensures.all c.settle.ensures.meets

pub index_mut-cpu-requires : goal.index_mut-cpu-requires
index_mut-cpu-requires g c = in_items c.self.invariant.met c.self.view_is c.requires.processor _ c.self.inside.members.cpus.ok.0

pub barrier_poll-done-requires-clause-domain : goal.barrier_poll-done-requires-clause-domain
barrier_poll-done-requires-clause-domain g c = lent c.self.invariant.met c.self.view_is c.requires.processor c.index_mut-cpu.ensures.value

pub barrier_poll-done-requires-clause-ticket : goal.barrier_poll-done-requires-clause-ticket
barrier_poll-done-requires-clause-ticket g c = c.requires.ticket.0 ∙ own_tallies c.self.invariant.met c.self.view_is

pub settle-requires : goal.settle-requires
settle-requires g c = all_there c.self.invariant.met c.self.view_is c.requires.processor c.index_mut-cpu.ensures.value c.barrier_poll-done.ensures.acts c.barrier_poll-done.ensures.here

pub invariant_of-self : goal.invariant_of-self
invariant_of-self g c = record { engine = c.settle.ensures.meets.left; met = (barrier_says (hand g c) c.barrier_poll-done.ensures.acts c.args.ticket.now c.requires.ticket c.barrier_poll-done.result c.barrier_poll-done.ensures.done).met }

pub returns : goal.returns
returns g c = let it = barrier_says (hand g c) c.barrier_poll-done.ensures.acts c.args.ticket.now c.requires.ticket c.barrier_poll-done.result c.barrier_poll-done.ensures.done in record { after = it.what.0; done = it.what.1 }
