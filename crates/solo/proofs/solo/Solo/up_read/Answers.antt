use Rattle.std.proofs.Common.{refl}
use Rattle.solo.proofs.Calling.{Hand, hand_of, in_items, of_table, all_here, says_does}
use Rattle.domain.specs.Glossary.{ends}
use Rattle.solo.proofs.solo.Solo.up_read.Goals as goal

abbrev hand : (g : _) → goal.After-settle g → Hand g.row.J.Denot
hand g c = hand_of c.args.processor c.up_read.new.self c.self.invariant.met c.self.view_is c.requires.processor c.index_mut.ensures.value c.settle.ensures.all c.settle.ensures.meets

pub index_mut-requires : goal.index_mut-requires
index_mut-requires g c = in_items c.self.invariant.met c.self.view_is c.requires.processor _ c.self.inside.members.cpus.ok.0

pub up_read-requires : goal.up_read-requires
up_read-requires g c = of_table c.self.invariant.met c.self.view_is c.requires.processor c.index_mut.ensures.value _ c.requires.held

pub settle-requires : goal.settle-requires
settle-requires g c = all_here c.self.invariant.met c.self.view_is c.requires.processor c.index_mut.ensures.value c.up_read.ensures.acts c.up_read.ensures.stays

pub invariant_of-self : goal.invariant_of-self
invariant_of-self g c = record { engine = c.settle.ensures.meets.left; met = (says_does (hand g c) (ends c.args.held.section) c.up_read.ensures.acts refl refl).met }

pub returns : goal.returns
returns g c = let it = says_does (hand g c) (ends c.args.held.section) c.up_read.ensures.acts refl refl in record { same = it.same; section = it.what }
