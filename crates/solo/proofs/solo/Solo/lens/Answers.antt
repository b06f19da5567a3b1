use Rattle.std.proofs.Common.{arith}
use Rattle.solo.proofs.Calling.{Hand, hand_of, in_items, in_domain, in_room, lent, all_there, lens_says}
use Rattle.solo.proofs.solo.Solo.lens.Goals as goal

abbrev hand : (g : _) → goal.After-settle g → Hand g.row.J.Denot
hand g c = hand_of c.args.processor c.lens-lens.new.cpu c.self.invariant.met c.self.view_is c.requires c.index_mut-cpu.ensures.value c.settle.ensures.all c.settle.ensures.meets

pub index_mut-cpu-requires : goal.index_mut-cpu-requires
index_mut-cpu-requires g c = in_items c.self.invariant.met c.self.view_is c.requires _ c.self.inside.members.cpus.ok.0

pub overflow_cast-processor : goal.overflow_cast-processor
overflow_cast-processor g c = let small = in_room c.self.invariant.met c.self.view_is c.requires in omega (arith, small)

pub lens-lens-requires : goal.lens-lens-requires
lens-lens-requires g c = record { domain = lent c.self.invariant.met c.self.view_is c.requires c.index_mut-cpu.ensures.value; processor = in_domain c.self.invariant.met c.self.view_is c.requires }

pub settle-requires : goal.settle-requires
settle-requires g c = all_there c.self.invariant.met c.self.view_is c.requires c.index_mut-cpu.ensures.value c.lens-lens.ensures.acts c.lens-lens.ensures.here

pub invariant_of-self : goal.invariant_of-self
invariant_of-self g c = record { engine = c.settle.ensures.meets.left; met = (lens_says (hand g c) c.lens-lens.ensures.acts c.lens-lens.result c.lens-lens.ensures.found).met }

pub returns : goal.returns
returns g c = let it = lens_says (hand g c) c.lens-lens.ensures.acts c.lens-lens.result c.lens-lens.ensures.found in record { after = it.what.0; told = it.what.1 }
