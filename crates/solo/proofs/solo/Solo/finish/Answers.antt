use Rattle.std.proofs.Common.{◌≡◌, ◌<◌, ◌∙◌, subst, rules}
use Rattle.solo.proofs.Calling.{Hand, hand_of, in_items, in_domain, lent, own_tallies, all_there, finish_says}
use Rattle.solo.proofs.solo.Solo.finish.Goals as goal

at : (g : _) (c : goal.After-settle g) → c.args.batch.processor ≡ c.from-processor.result
at g c = search rules

abbrev hand : (g : _) → goal.After-settle g → Hand g.row.J.Denot
hand g c = hand_of c.from-processor.result c.finish.new.cpu c.self.invariant.met c.self.view_is (subst (λ p. p < c.args.self.now.course.standing.processors) (at g c) c.requires.batch.there) c.index_mut-cpu.ensures.value c.settle.ensures.all c.settle.ensures.meets

pub index_mut-cpu-requires : goal.index_mut-cpu-requires
index_mut-cpu-requires g c =
    let same : c.args.batch.processor ≡ c.from-processor.result = search rules in
    in_items c.self.invariant.met c.self.view_is (subst (λ p. p < c.args.self.now.course.standing.processors) same c.requires.batch.there) _ c.self.inside.members.cpus.ok.0

pub finish-requires : goal.finish-requires
finish-requires g c =
    let same : c.args.batch.processor ≡ c.from-processor.result = search rules in
    let small = subst (λ p. p < c.args.self.now.course.standing.processors) same c.requires.batch.there in
    (search rules, (lent c.self.invariant.met c.self.view_is small c.index_mut-cpu.ensures.value, record { empty = c.requires.empty; tallies = c.requires.batch.tallies ∙ own_tallies c.self.invariant.met c.self.view_is; there = in_domain c.self.invariant.met c.self.view_is c.requires.batch.there }))

pub settle-requires : goal.settle-requires
settle-requires g c =
    let same : c.args.batch.processor ≡ c.from-processor.result = search rules in
    all_there c.self.invariant.met c.self.view_is (subst (λ p. p < c.args.self.now.course.standing.processors) same c.requires.batch.there) c.index_mut-cpu.ensures.value c.finish.ensures.acts c.finish.ensures.here

pub invariant_of-self : goal.invariant_of-self
invariant_of-self g c = record { engine = c.settle.ensures.meets.left; met = (finish_says (hand g c) c.args.batch c.finish.ensures.finishes c.finish.ensures.acts (at g c)).met }

pub returns : goal.returns
returns g c = let it = finish_says (hand g c) c.args.batch c.finish.ensures.finishes c.finish.ensures.acts (at g c) in record { same = it.same; list = it.what.1; finishes = it.what.0 }
