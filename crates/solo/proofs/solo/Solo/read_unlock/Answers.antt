use Rattle.std.proofs.Common.{◌≡◌, ◌<◌, sym, subst, rules, refl}
use Rattle.solo.proofs.Calling.{Hand, hand_of, in_items, of_table, of_number, all_here, s', says_does}
use Rattle.solo.proofs.Words.{ends, Ends}
use Rattle.solo.proofs.solo.Solo.read_unlock.Goals as goal

at : (g : _) (c : goal.After-settle g) → c.args.reading.processor ≡ c.from-processor.result
at g c = search rules

abbrev hand : (g : _) → goal.After-settle g → Hand g.row.J.Denot
hand g c = hand_of c.from-processor.result c.read_unlock.new.self c.self.invariant.met c.self.view_is (subst (λ p. p < c.args.self.now.course.standing.processors) (at g c) c.requires.processor) c.index_mut.ensures.value c.settle.ensures.all c.settle.ensures.meets

pub index_mut-requires : goal.index_mut-requires
index_mut-requires g c =
    let same : c.args.reading.processor ≡ c.from-processor.result = search rules in
    in_items c.self.invariant.met c.self.view_is (subst (λ p. p < c.args.self.now.course.standing.processors) same c.requires.processor) _ c.self.inside.members.cpus.ok.0

pub read_unlock-requires : goal.read_unlock-requires
read_unlock-requires g c =
    let same : c.args.reading.processor ≡ c.from-processor.result = search rules in
    let small = subst (λ p. p < c.args.self.now.course.standing.processors) same c.requires.processor in
    (of_table c.self.invariant.met c.self.view_is small c.index_mut.ensures.value _ c.requires.table_is, of_number c.self.invariant.met c.self.view_is small c.index_mut.ensures.value _ same)

pub settle-requires : goal.settle-requires
settle-requires g c =
    let same : c.args.reading.processor ≡ c.from-processor.result = search rules in
    all_here c.self.invariant.met c.self.view_is (subst (λ p. p < c.args.self.now.course.standing.processors) same c.requires.processor) c.index_mut.ensures.value c.read_unlock.ensures.acts c.read_unlock.ensures.stays

pub invariant_of-self : goal.invariant_of-self
invariant_of-self g c = record { engine = c.settle.ensures.meets.left; met = (says_does (hand g c) (ends c.args.reading.section) c.read_unlock.ensures.acts refl refl).met }

pub returns : goal.returns
returns g c = let it = says_does (hand g c) (ends c.args.reading.section) c.read_unlock.ensures.acts refl refl in record { same = it.same; section = subst (λ p. Ends c.args.reading.section p c.args.self.now.course (s' (hand g c)).course) (sym (at g c)) it.what }
