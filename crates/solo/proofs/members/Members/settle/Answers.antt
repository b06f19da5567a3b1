use Rattle.std.proofs.Common.{◌≡◌, List, length, subst, sym, arith}
use Rattle.domain.specs.Glossary.{CpuView, IsAllOf, MeetsHere}
use Rattle.solo.proofs.Settled.{all_kept}
use Rattle.solo.proofs.members.Members.settle.Given.{Over}
use Rattle.solo.proofs.members.Members.settle.Goals as goal

met : (g : Over) (c : goal.After-self-1 g) → MeetsHere c.args.self.now.cpus.items c.meet.new.cpus
met g c = subst (λ (l : List (CpuView _)). MeetsHere l c.meet.new.cpus) c.deref_mut.ensures.value c.meet.ensures.meets

kept : (g : Over) (c : goal.After-self-1 g) → c.args.self.now.cpus.len ≡ length c.meet.new.cpus
kept g c = let count = (met g c).count in let long = c.args.self.now.cpus.ok.0 in omega (arith, count, long)

pub returns-clause-all : goal.returns-clause-all
returns-clause-all g c = subst (λ (l : List (CpuView _)). IsAllOf c.args.self.now.domain l) (sym (all_kept c.args.self.now.cpus.len c.meet.new.cpus _ (kept g c))) c.meet.ensures.all

pub returns-clause-meets : goal.returns-clause-meets
returns-clause-meets g c = subst (λ (l : List (CpuView _)). MeetsHere c.args.self.now.cpus.items l) (sym (all_kept c.args.self.now.cpus.len c.meet.new.cpus _ (kept g c))) (met g c)
