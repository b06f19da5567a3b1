use Rattle.solo.proofs.Calling.{Hand, hand_of, in_items, all_here, of_table, have_met, did_it, still, read_rows}
use Rattle.domain.specs.Glossary.{loads}
use Rattle.solo.proofs.solo.Solo.read.Goals as goal

abbrev hand : (g : _) → goal.After-settle g → Hand g.row.J.Denot
hand g c = hand_of c.args.processor c.get-plug.new.cpu c.self.invariant.met c.self.view_is c.requires.processor c.index_mut-cpu.ensures.value c.settle.ensures.all c.settle.ensures.meets

pub index_mut-cpu-requires : goal.index_mut-cpu-requires
index_mut-cpu-requires g c = in_items c.self.invariant.met c.self.view_is c.requires.processor _ c.self.inside.members.cpus.ok.0

pub get-plug-requires : goal.get-plug-requires
get-plug-requires g c = record { here = of_table c.self.invariant.met c.self.view_is c.requires.processor c.index_mut-cpu.ensures.value c.args.lease.now.held.domain c.requires.lease }

pub settle-requires : goal.settle-requires
settle-requires g c = all_here c.self.invariant.met c.self.view_is c.requires.processor c.index_mut-cpu.ensures.value c.get-plug.ensures.acts c.get-plug.ensures.stays

pub invariant_of-self : goal.invariant_of-self
invariant_of-self g c = record { engine = c.settle.ensures.meets.left; met = have_met (hand g c) (did_it (hand g c) loads c.get-plug.ensures.acts) }

pub returns-clause-after : goal.returns-clause-after
returns-clause-after g c = still (hand g c) c.get-plug.ensures.acts

pub returns-clause-plug : goal.returns-clause-plug
returns-clause-plug g c = read_rows c.args.lease.now c.args.key c.get-plug.result c.index_mut-cpu.result.now c.get-plug.new.cpu c.get-plug.ensures.gets
