use Rattle.std.proofs.Common.{refl, subst}
use Rattle.solo.proofs.Calling.{Hand, hand_of, in_items, all_here, either_way, of_table, member_says}
use Rattle.sections.specs.Sets.{IsPlacedIn, cookies_of}
use Rattle.sections.specs.Glossary.{member_at}
use Rattle.solo.proofs.solo.Solo.poll_member.Goals as goal

abbrev hand : (g : _) → goal.After-settle g → Hand g.row.J.Denot
hand g c = hand_of c.args.processor c.poll_member-done.new.cpu c.self.invariant.met c.self.view_is c.requires.processor c.index_mut-cpu.ensures.value c.settle.ensures.all c.settle.ensures.meets

pub index_mut-cpu-requires : goal.index_mut-cpu-requires
index_mut-cpu-requires g c = in_items c.self.invariant.met c.self.view_is c.requires.processor _ c.self.inside.members.cpus.ok.0

pub poll_member-done-requires : goal.poll_member-done-requires
poll_member-done-requires g c = subst (λ d. IsPlacedIn d c.args.place (cookies_of c.args.set.now)) (of_table c.self.invariant.met c.self.view_is c.requires.processor c.index_mut-cpu.ensures.value _ refl) c.requires.member

pub settle-requires : goal.settle-requires
settle-requires g c = either_way (member_at c.args.place c.args.set.now).found c.poll_member-done.ensures.acts
    (λ did. all_here c.self.invariant.met c.self.view_is c.requires.processor c.index_mut-cpu.ensures.value did c.poll_member-done.ensures.stays)
    (λ s did. all_here c.self.invariant.met c.self.view_is c.requires.processor c.index_mut-cpu.ensures.value did c.poll_member-done.ensures.stays)

pub invariant_of-self : goal.invariant_of-self
invariant_of-self g c = record { engine = c.settle.ensures.meets.left; met = (member_says (hand g c) (member_at c.args.place c.args.set.now).found (member_at c.args.place c.args.set.now).cookie.number c.poll_member-done.result c.poll_member-done.ensures.acts).met }

pub returns : goal.returns
returns g c = let it = member_says (hand g c) (member_at c.args.place c.args.set.now).found (member_at c.args.place c.args.set.now).cookie.number c.poll_member-done.result c.poll_member-done.ensures.acts in record { same = it.same; polls = (c.index_mut-cpu.result.now.cpu, c.poll_member-done.new.cpu.cpu, c.poll_member-done.ensures.polls); answer = it.what }
