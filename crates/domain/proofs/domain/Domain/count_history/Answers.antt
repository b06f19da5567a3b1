use Rattle.std.proofs.Common.{◌≡◌, ◌≤◌, ℕ, List, ◌∷◌, Some, None, sym, ap, ◌∙◌, subst, arith}
use Rattle.onedom.specs.Histories.{IsBeginning}
use Rattle.onedom.proofs.CallerLemmas.{beginning_trans}
use Rattle.sections.specs.declared.view.Shown.TheVariants.{To}
use Rattle.sections.specs.Glossary.{number_word, IsTied}
use Rattle.sections.specs.Views as sections
use Rattle.sections.specs.Calls as calls
use Rattle.sections.specs.EngineCalls.{Covers}
use Rattle.scan.specs.Progress.{with_seat}
use Rattle.desk.specs.Glossary.{BaySeatView, MakesSwap}
use Rattle.domain.specs.Glossary.{Engine, DomainView, CpuView, IsOf, Each, EngineCovers, EachBecomes, IsJoined, AreAllThere}
use Rattle.domain.proofs.Lending.{took_same}
use Rattle.domain.proofs.Counted.{all_turns, turns_here, first_here, others_here, counted_in_all, still_tied}
use Rattle.domain.proofs.domain.Domain.count_history.Goals as goal

pub take_at_once-engine-requires-clause-beside : goal.take_at_once-engine-requires-clause-beside
take_at_once-engine-requires-clause-beside g c =
    let here = subst (λ (z : CpuView _). Each (IsOf c.args.self.now) (z ∷ c.args.others.now)) (sym c.first.view_is) c.requires.here in
    turns_here _ _ _ here

pub take_at_once-engine-requires-clause-all : goal.take_at_once-engine-requires-clause-all
take_at_once-engine-requires-clause-all g c =
    let here = subst (λ (z : CpuView _). Each (IsOf c.args.self.now) (z ∷ c.args.others.now)) (sym c.first.view_is) c.requires.here in
    let there = subst (λ (z : CpuView _). AreAllThere c.args.self.now (z ∷ c.args.others.now)) (sym c.first.view_is) c.requires.all in
    all_turns _ _ _ here there

pub cover-requires : goal.cover-requires
cover-requires g c =
    let here = subst (λ (z : CpuView _). Each (IsOf c.args.self.now) (z ∷ c.args.others.now)) (sym c.first.view_is) c.requires.here in
    let t = c.take_at_once-engine.ensures in
    first_here _ _ _ here _ _ t.takes t.takes.domain

pub cover_cpus-requires-clause-domain : goal.cover_cpus-requires-clause-domain
cover_cpus-requires-clause-domain g c =
    let here = subst (λ (z : CpuView _). Each (IsOf c.args.self.now) (z ∷ c.args.others.now)) (sym c.first.view_is) c.requires.here in
    let t = c.take_at_once-engine.ensures in
    subst (λ (l : List (CpuView _)). Each (λ x. x.cpu.domain ≡ c.cover.new.self.seat.domain) l) (sym t.others) (others_here _ _ _ here _ _ t.takes t.takes.domain c.cover.new.self.seat c.cover.ensures.engine.step.same.0)

pub admit-requires-clause-domain : goal.admit-requires-clause-domain
admit-requires-clause-domain g c =
    let here = subst (λ (z : CpuView _). Each (IsOf c.args.self.now) (z ∷ c.args.others.now)) (sym c.first.view_is) c.requires.here in
    let t = c.take_at_once-engine.ensures in
    let first = first_here _ _ _ here _ _ t.takes t.takes.domain in
    let same = ap (λ (z : sections.CpuView). z.domain) c.cover.ensures.cpu ∙ (first ∙ sym (c.cover_cpus.ensures.engine.same.0 ∙ c.cover.ensures.engine.step.same.0)) in
    same

pub count_sections-opened-requires-clause-all : goal.count_sections-opened-requires-clause-all
count_sections-opened-requires-clause-all g c =
    let here = subst (λ (z : CpuView _). Each (IsOf c.args.self.now) (z ∷ c.args.others.now)) (sym c.first.view_is) c.requires.here in
    c.self.invariant.count ∙ (ap (λ (z : DomainView). z.processors) c.self.view_is
    ∙ sym (c.admit.ensures.cpu.same.1 ∙ (ap (λ (z : sections.CpuView). z.processors) c.cover.ensures.cpu ∙ (here 0 (record { cpu = c.first.inside.cpu; needs = c.first.inside.needs; turn = c.first.inside.turn; calls = c.first.inside.calls }) (omega arith)).many)))

pub cover-requires-2 : goal.cover-requires-2
cover-requires-2 g c =
    let here = subst (λ (z : CpuView _). Each (IsOf c.args.self.now) (z ∷ c.args.others.now)) (sym c.first.view_is) c.requires.here in
    let t = c.take_at_once-engine.ensures in
    let first = first_here _ _ _ here _ _ t.takes t.takes.domain in
    let same = ap (λ (z : sections.CpuView). z.domain) c.cover.ensures.cpu ∙ (first ∙ sym (c.cover_cpus.ensures.engine.same.0 ∙ c.cover.ensures.engine.step.same.0)) in
    let again = c.count_sections-opened.ensures.loads.same.0 ∙ (c.admit.ensures.cpu.same.0 ∙ (same ∙ sym (ap (λ (z : Engine). z.seat.domain) c.admit.ensures.engine))) in
    again

pub admit-requires-2-clause-domain : goal.admit-requires-2-clause-domain
admit-requires-2-clause-domain g c =
    let here = subst (λ (z : CpuView _). Each (IsOf c.args.self.now) (z ∷ c.args.others.now)) (sym c.first.view_is) c.requires.here in
    let t = c.take_at_once-engine.ensures in
    let first = first_here _ _ _ here _ _ t.takes t.takes.domain in
    let same = ap (λ (z : sections.CpuView). z.domain) c.cover.ensures.cpu ∙ (first ∙ sym (c.cover_cpus.ensures.engine.same.0 ∙ c.cover.ensures.engine.step.same.0)) in
    let again = c.count_sections-opened.ensures.loads.same.0 ∙ (c.admit.ensures.cpu.same.0 ∙ (same ∙ sym (ap (λ (z : Engine). z.seat.domain) c.admit.ensures.engine))) in
    ap (λ (z : sections.CpuView). z.domain) c.cover-2.ensures.cpu ∙ (again ∙ sym c.cover-2.ensures.engine.step.same.0)

pub admit_cpus-requires-clause-domain : goal.admit_cpus-requires-clause-domain
admit_cpus-requires-clause-domain g c =
    let here = subst (λ (z : CpuView _). Each (IsOf c.args.self.now) (z ∷ c.args.others.now)) (sym c.first.view_is) c.requires.here in
    let t = c.take_at_once-engine.ensures in
    let others = c.cover_cpus.ensures.others ∙ t.others in
    let second = c.cover-2.ensures.engine in
    let engine = c.admit-2.ensures.engine in
    subst (λ (l : List (CpuView _)). Each (λ x. x.cpu.domain ≡ c.admit-2.new.self.seat.domain) l) (sym others)
    (others_here _ _ _ here _ _ t.takes t.takes.domain c.admit-2.new.self.seat (ap (λ (z : Engine). z.seat.domain) engine ∙ (second.step.same.0 ∙ (ap (λ (z : Engine). z.seat.domain) c.admit.ensures.engine ∙ (c.cover_cpus.ensures.engine.same.0 ∙ c.cover.ensures.engine.step.same.0)))))

pub admit_cpus-requires-clause-covered : goal.admit_cpus-requires-clause-covered
admit_cpus-requires-clause-covered g c =
    let second = subst (λ (z : Engine). Covers z.seat c.count_sections-opened.new.cpu.seen c.count_sections-opened.new.cpu.changes c.cover-2.new.self.seat) c.admit.ensures.engine c.cover-2.ensures.engine in
    let same = second.step.changes_are in
    subst (λ (z : List (CpuView _) × Engine). Each (λ x. IsBeginning x.cpu.seen z.1.seat.seen × (x.cpu.changes ≤ z.1.seat.changes)) z.0) (λ i. (sym c.cover_cpus.ensures.others i, sym c.admit-2.ensures.engine i))
    (λ k x lt. let h = c.cover_cpus.ensures.engine.covers k x lt in let low = h.1 in (beginning_trans h.0 second.step.since, omega (arith, low, same)))

pub put-requires-clause-station : goal.put-requires-clause-station
put-requires-clause-station g c =
    let here = subst (λ (z : CpuView _). Each (IsOf c.args.self.now) (z ∷ c.args.others.now)) (sym c.first.view_is) c.requires.here in
    let t = c.take_at_once-engine.ensures in
    ap (λ (z : BaySeatView Engine). z.bay) (took_same _ _ _ t.takes) ∙ (here 0 (record { cpu = c.first.inside.cpu; needs = c.first.inside.needs; turn = c.first.inside.turn; calls = c.first.inside.calls }) (omega arith)).bay ∙ sym (ap (λ (z : DomainView). z.bay) c.self.view_is)

pub put-requires-clause-tied : goal.put-requires-clause-tied
put-requires-clause-tied g c =
    let second = subst (λ (z : Engine). Covers z.seat c.count_sections-opened.new.cpu.seen c.count_sections-opened.new.cpu.changes c.cover-2.new.self.seat) c.admit.ensures.engine c.cover-2.ensures.engine in
    let engine = c.admit_cpus.ensures.engine ∙ c.admit-2.ensures.engine in
    let one = c.cover.ensures.engine.step in
    let all = c.cover_cpus.ensures.engine in
    subst (λ (z : Engine). IsTied z.seat) (sym engine)
    (still_tied c.take_at_once-engine.result.seat c.cover-2.new.self.seat (second.step.same.1 ∙ (all.same.1 ∙ one.same.1)) (second.step.shown ∙ (all.shown ∙ one.shown)) (second.step.changes_are ∙ (all.changes ∙ one.changes_are)) c.take_at_once-engine.ensures.takes.tied)

pub returns : goal.returns
returns g c =
    let here = subst (λ (z : CpuView _). Each (IsOf c.args.self.now) (z ∷ c.args.others.now)) (sym c.first.view_is) c.requires.here in
    let there = subst (λ (z : CpuView _). AreAllThere c.args.self.now (z ∷ c.args.others.now)) (sym c.first.view_is) c.requires.all in
    let t = c.take_at_once-engine.ensures in
    let e2 = c.cover_cpus.new.engine in
    let e3 = c.cover-2.new.self in
    let covers_all = subst (λ (l : List (CpuView _)). EngineCovers c.cover.new.self.seat l e2.seat) t.others c.cover_cpus.ensures.engine in
    let accepts = subst (λ (z : sections.CpuView). calls.Accepts z e2.seat.seen e2.seat.changes e2.seat.texts c.admit.new.cpu) c.cover.ensures.cpu c.admit.ensures.cpu in
    let was = subst (λ (z : sections.CpuView). calls.IsSeenBy z) c.cover.ensures.cpu c.admit.ensures.was in
    let sized = subst (λ (z : sections.CpuView). z.processors ≡ e2.seat.processors) c.cover.ensures.cpu c.admit.ensures.sized in
    let heard = subst (λ (z : sections.CpuView). (n : ℕ) → e2.seat.shown ≡ To z.processor n → n ≤ z.changes) c.cover.ensures.cpu c.admit.ensures.heard in
    let number = c.number-number.ensures.value ∙ ap (λ (z : Engine). number_word z.seat.changes) c.admit.ensures.engine in
    let again = subst (λ (z : Engine). Covers z.seat c.count_sections-opened.new.cpu.seen c.count_sections-opened.new.cpu.changes e3.seat) c.admit.ensures.engine c.cover-2.ensures.engine in
    let accepts_too = subst (λ (z : sections.CpuView). calls.Accepts z e3.seat.seen e3.seat.changes e3.seat.texts c.admit-2.new.cpu) c.cover-2.ensures.cpu c.admit-2.ensures.cpu in
    let joined = subst (λ (z : Engine × List (CpuView _)). EachBecomes (IsJoined z.0.seat) z.1 c.admit_cpus.new.others) (λ i. (c.admit-2.ensures.engine i, (c.cover_cpus.ensures.others ∙ t.others) i)) c.admit_cpus.ensures.others in
    let puts = subst (λ (z : Engine). MakesSwap c.take_at_once-engine.new.turn (Some z) None c.put.new.self) (c.admit_cpus.ensures.engine ∙ c.admit-2.ensures.engine) c.put.ensures.swap in
    let rest = c.cover-2.ensures.rest ∙ (ap (λ (z : Engine). with_seat e3.seat z) (c.admit.ensures.engine ∙ c.cover_cpus.ensures.rest) ∙ ap (λ (z : Engine). with_seat e3.seat z) c.cover.ensures.rest) in
    rw (← c.first.view_is) (counted_in_all _ _ _ _ here there _ c.cover.new.self e2 e3 _ _ _ _ _ _ _ _ t.takes t.takes.tied c.cover.ensures.engine covers_all accepts was sized heard c.count_sections-opened.ensures number again accepts_too joined puts c.put.ensures.free rest)
