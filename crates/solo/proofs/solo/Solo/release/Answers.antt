use Rattle.std.proofs.Common.{refl}
use Rattle.solo.proofs.Calling.{Hand, hand_of, in_items, of_table, all_here, says_does}
use Rattle.domain.specs.Glossary.{ends}
use Rattle.solo.proofs.solo.Solo.release.Goals as goal

abbrev hand : (g : _) → goal.After-settle g → Hand g.row.J.Denot
hand g c = hand_of c.args.processor c.release.new.cpu c.self.invariant.met c.self.view_is c.requires.processor c.index_mut-cpu.ensures.value c.settle.ensures.all c.settle.ensures.meets

pub index_mut-cpu-requires : goal.index_mut-cpu-requires
index_mut-cpu-requires g c = in_items c.self.invariant.met c.self.view_is c.requires.processor _ c.self.inside.members.cpus.ok.0

pub release-requires : goal.release-requires
release-requires g c = of_table c.self.invariant.met c.self.view_is c.requires.processor c.index_mut-cpu.ensures.value c.args.lease.held.domain c.requires.lease

pub settle-requires : goal.settle-requires
settle-requires g c = all_here c.self.invariant.met c.self.view_is c.requires.processor c.index_mut-cpu.ensures.value c.release.ensures.acts c.release.ensures.stays

pub invariant_of-self : goal.invariant_of-self
invariant_of-self g c = record { engine = c.settle.ensures.meets.left; met = (says_does (hand g c) (ends c.args.lease.held.section) c.release.ensures.acts refl refl).met }

pub returns : goal.returns
returns g c = let it = says_does (hand g c) (ends c.args.lease.held.section) c.release.ensures.acts refl refl in record { same = it.same; section = it.what }
