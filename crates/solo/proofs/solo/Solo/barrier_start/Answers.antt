use Rattle.solo.proofs.Calling.{Hand, hand_of, in_items, lent, all_there}
use Rattle.solo.proofs.Barriers.{start_says as ticket_says}
use Rattle.std.proofs.lemmas.Result.{IfOk-weaker}
use Rattle.solo.proofs.solo.Solo.barrier_start.Goals as goal

abbrev hand : (g : _) → goal.After-settle g → Hand g.row.J.Denot
hand g c = hand_of c.args.processor c.barrier_start-started.new.cpu c.self.invariant.met c.self.view_is c.requires c.index_mut-cpu.ensures.value c.settle.ensures.all c.settle.ensures.meets

pub index_mut-cpu-requires : goal.index_mut-cpu-requires
index_mut-cpu-requires g c = in_items c.self.invariant.met c.self.view_is c.requires _ c.self.inside.members.cpus.ok.0

pub barrier_start-started-requires : goal.barrier_start-started-requires
barrier_start-started-requires g c = lent c.self.invariant.met c.self.view_is c.requires c.index_mut-cpu.ensures.value

pub settle-requires : goal.settle-requires
settle-requires g c = all_there c.self.invariant.met c.self.view_is c.requires c.index_mut-cpu.ensures.value c.barrier_start-started.ensures.acts c.barrier_start-started.ensures.here

pub invariant_of-self : goal.invariant_of-self
invariant_of-self g c = record { engine = c.settle.ensures.meets.left; met = (ticket_says (hand g c) c.barrier_start-started.ensures.acts c.barrier_start-started.result c.barrier_start-started.ensures.starts).met }

pub returns : goal.returns
returns g c = let it = ticket_says (hand g c) c.barrier_start-started.ensures.acts c.barrier_start-started.result c.barrier_start-started.ensures.starts in record { after = it.what.0; ticket = IfOk-weaker c.barrier_start-started.result _ _ (λ _ x. x.0) it.what.1; here = IfOk-weaker c.barrier_start-started.result _ _ (λ _ x. x.1) it.what.1 }
