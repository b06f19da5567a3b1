use Rattle.std.proofs.Common.{◌≡◌, ℕ, ◌≤◌, List, ◌∷◌, ap, sym, ◌∙◌, subst, Some, None}
use Rattle.onedom.specs.Histories as events
use Rattle.sections.specs.declared.view.Shown.TheVariants.{To}
use Rattle.sections.specs.Views as sections
use Rattle.sections.specs.Calls as calls
use Rattle.funnel.specs.Views.{FunnelView}
use Rattle.funnel.specs.Histories as tree
use Rattle.sections.specs.EngineCalls.{IsTied}
use Rattle.desk.specs.Glossary.{BaySeatView, MakesSwap}
use Rattle.scan.specs.Progress.{with_seat}
use Rattle.domain.specs.Glossary.{Engine, DomainView, CpuView, IsAllOf, MeetsHere, Each, EachBecomes, IsAdmitted}
use Rattle.domain.proofs.Meeting.{meets_here, all_still}
use Rattle.domain.proofs.Preparing.{all_are_there, first_here, took_here, others_beside, still_here, others_here, turn_here, put_here, turns_beside, turns_covered, calls_beside}
use Rattle.domain.proofs.Counted.{turns_here, all_turns, still_tied}
use Rattle.domain.proofs.domain.Domain.meet_others.Goals as goal

pub take_at_once-engine-requires-clause-beside : goal.take_at_once-engine-requires-clause-beside
take_at_once-engine-requires-clause-beside g c =
    let all = subst (λ (z : CpuView _). IsAllOf c.args.self.now (z ∷ c.args.others.now)) (sym c.first.view_is) c.requires in
    turns_here _ _ _ all.here

pub take_at_once-engine-requires-clause-all : goal.take_at_once-engine-requires-clause-all
take_at_once-engine-requires-clause-all g c =
    let all = subst (λ (z : CpuView _). IsAllOf c.args.self.now (z ∷ c.args.others.now)) (sym c.first.view_is) c.requires in
    all_turns _ _ _ all.here (all_are_there _ _ _ all)

pub cover-requires : goal.cover-requires
cover-requires g c =
    let all = subst (λ (z : CpuView _ × List (CpuView _)). IsAllOf c.args.self.now (z.0 ∷ z.1)) (λ i. (sym c.first.view_is i, sym c.take_at_once-engine.ensures.others i)) c.requires in
    first_here _ _ _ all _ _ c.take_at_once-engine.ensures.takes c.take_at_once-engine.ensures.takes.domain

pub cover_all-requires-clause-beside : goal.cover_all-requires-clause-beside
cover_all-requires-clause-beside g c =
    let all = subst (λ (z : CpuView _ × List (CpuView _)). IsAllOf c.args.self.now (z.0 ∷ z.1)) (λ i. (sym c.first.view_is i, sym c.take_at_once-engine.ensures.others i)) c.requires in
    others_beside _ _ _ all _ _ c.take_at_once-engine.ensures.takes c.take_at_once-engine.ensures.takes.domain c.cover.new.self _ _ c.cover.ensures.engine c.root_need.ensures

pub cover_all-requires-clause-bay : goal.cover_all-requires-clause-bay
cover_all-requires-clause-bay g c =
    let all = subst (λ (z : CpuView _ × List (CpuView _)). IsAllOf c.args.self.now (z.0 ∷ z.1)) (λ i. (sym c.first.view_is i, sym c.take_at_once-engine.ensures.others i)) c.requires in
    took_here _ _ _ all _ _ c.take_at_once-engine.ensures.takes c.take_at_once-engine.ensures.takes.domain

pub admit-requires-clause-domain : goal.admit-requires-clause-domain
admit-requires-clause-domain g c =
    let all = subst (λ (z : CpuView _ × List (CpuView _)). IsAllOf c.args.self.now (z.0 ∷ z.1)) (λ i. (sym c.first.view_is i, sym c.take_at_once-engine.ensures.others i)) c.requires in
    let h = c.cover_all.ensures in
    ap (λ (z : sections.CpuView). z.domain) c.cover.ensures.cpu ∙ still_here _ _ _ all _ _ c.take_at_once-engine.ensures.takes c.take_at_once-engine.ensures.takes.domain c.cover.new.self _ _ c.cover.ensures.engine c.root_need.ensures c.cover_all.new.engine _ _ h.engine h.needs h.turn

pub admit_all-requires-clause-domain : goal.admit_all-requires-clause-domain
admit_all-requires-clause-domain g c =
    let all = subst (λ (z : CpuView _ × List (CpuView _)). IsAllOf c.args.self.now (z.0 ∷ z.1)) (λ i. (sym c.first.view_is i, sym c.take_at_once-engine.ensures.others i)) c.requires in
    let h = c.cover_all.ensures in
    subst (λ (z : Engine × List (CpuView _)). Each (λ x. (x.cpu.domain ≡ z.0.seat.domain) × (x.needs.domain ≡ c.cover_all.new.needs.domain)) z.1) (λ i. (sym c.admit.ensures.engine i, sym h.others i))
    (others_here _ _ _ all _ _ c.take_at_once-engine.ensures.takes c.take_at_once-engine.ensures.takes.domain c.cover.new.self _ _ c.cover.ensures.engine c.root_need.ensures c.cover_all.new.engine _ _ h.engine h.needs h.turn)

pub admit_all-requires-clause-events : goal.admit_all-requires-clause-events
admit_all-requires-clause-events g c =
    let h = c.cover_all.ensures in
    subst (λ (z : Engine × List (CpuView _)). Each (λ x. events.IsBeginning x.cpu.seen z.0.seat.seen × (x.cpu.changes ≤ z.0.seat.changes)) z.1) (λ i. (sym c.admit.ensures.engine i, sym h.others i)) h.engine.covers

pub admit_all-requires-clause-raises : goal.admit_all-requires-clause-raises
admit_all-requires-clause-raises g c =
    let h = c.cover_all.ensures in
    subst (λ (l : List (CpuView _)). Each (λ x. tree.IsBeginning x.needs.seen c.cover_all.new.needs.seen) l) (sym h.others) h.needs.covers

pub put-requires-clause-station : goal.put-requires-clause-station
put-requires-clause-station g c =
    let all = subst (λ (z : CpuView _ × List (CpuView _)). IsAllOf c.args.self.now (z.0 ∷ z.1)) (λ i. (sym c.first.view_is i, sym c.take_at_once-engine.ensures.others i)) c.requires in
    let h = c.cover_all.ensures in
    turn_here _ _ _ all _ _ c.take_at_once-engine.ensures.takes c.take_at_once-engine.ensures.takes.domain c.cover.new.self _ _ c.cover.ensures.engine c.root_need.ensures c.cover_all.new.engine _ _ h.engine h.needs h.turn ∙ sym (ap (λ (z : DomainView). z.bay) c.self.view_is)

pub admit_turns-requires-clause-bay : goal.admit_turns-requires-clause-bay
admit_turns-requires-clause-bay g c =
    let all = subst (λ (z : CpuView _ × List (CpuView _)). IsAllOf c.args.self.now (z.0 ∷ z.1)) (λ i. (sym c.first.view_is i, sym c.take_at_once-engine.ensures.others i)) c.requires in
    let h = c.cover_all.ensures in
    let admitted = subst (λ (z : Engine × List (CpuView _)). EachBecomes (IsAdmitted z.0.seat c.cover_all.new.needs) z.1 c.admit_all.new.others) (λ i. (c.admit.ensures.engine i, h.others i)) c.admit_all.ensures.others in
    let puts = subst (λ (z : Engine). MakesSwap c.cover_all.new.turn (Some z) None c.put.new.self) (c.admit_all.ensures.engine ∙ c.admit.ensures.engine) c.put.ensures.swap in
    put_here _ _ _ all _ _ c.take_at_once-engine.ensures.takes c.take_at_once-engine.ensures.takes.domain c.cover.new.self _ _ c.cover.ensures.engine c.root_need.ensures c.cover_all.new.engine _ _ h.engine h.needs h.turn _ c.cover_all.new.engine puts _ admitted

pub put-requires-clause-tied : goal.put-requires-clause-tied
put-requires-clause-tied g c =
    let engine = c.admit_all.ensures.engine ∙ c.admit.ensures.engine in
    let one = c.cover.ensures.engine.step in
    let all = c.cover_all.ensures.engine in
    subst (λ (z : Engine). IsTied z.seat) (sym engine) (still_tied c.take_at_once-engine.result.seat c.cover_all.new.engine.seat (all.same.1 ∙ one.same.1) (all.shown ∙ one.shown) (all.changes ∙ one.changes_are) c.take_at_once-engine.ensures.takes.tied)

pub admit_turns-requires-clause-beside : goal.admit_turns-requires-clause-beside
admit_turns-requires-clause-beside g c =
    let all = subst (λ (z : CpuView _ × List (CpuView _)). IsAllOf c.args.self.now (z.0 ∷ z.1)) (λ i. (sym c.first.view_is i, sym c.take_at_once-engine.ensures.others i)) c.requires in
    let h = c.cover_all.ensures in
    let admitted = subst (λ (z : Engine × List (CpuView _)). EachBecomes (IsAdmitted z.0.seat c.cover_all.new.needs) z.1 c.admit_all.new.others) (λ i. (c.admit.ensures.engine i, h.others i)) c.admit_all.ensures.others in
    let puts = subst (λ (z : Engine). MakesSwap c.cover_all.new.turn (Some z) None c.put.new.self) (c.admit_all.ensures.engine ∙ c.admit.ensures.engine) c.put.ensures.swap in
    turns_beside _ _ _ all _ _ c.take_at_once-engine.ensures.takes c.take_at_once-engine.ensures.takes.domain c.cover.new.self _ _ c.cover.ensures.engine c.root_need.ensures c.cover_all.new.engine _ _ h.engine h.needs h.turn _ c.cover_all.new.engine puts _ admitted

pub admit_turns-requires-clause-covered : goal.admit_turns-requires-clause-covered
admit_turns-requires-clause-covered g c =
    let all = subst (λ (z : CpuView _ × List (CpuView _)). IsAllOf c.args.self.now (z.0 ∷ z.1)) (λ i. (sym c.first.view_is i, sym c.take_at_once-engine.ensures.others i)) c.requires in
    let h = c.cover_all.ensures in
    let admitted = subst (λ (z : Engine × List (CpuView _)). EachBecomes (IsAdmitted z.0.seat c.cover_all.new.needs) z.1 c.admit_all.new.others) (λ i. (c.admit.ensures.engine i, h.others i)) c.admit_all.ensures.others in
    let puts = subst (λ (z : Engine). MakesSwap c.cover_all.new.turn (Some z) None c.put.new.self) (c.admit_all.ensures.engine ∙ c.admit.ensures.engine) c.put.ensures.swap in
    turns_covered _ _ _ all _ _ c.take_at_once-engine.ensures.takes c.take_at_once-engine.ensures.takes.domain c.cover.new.self _ _ c.cover.ensures.engine c.root_need.ensures c.cover_all.new.engine _ _ h.engine h.needs h.turn _ c.cover_all.new.engine puts _ admitted

pub meet_calls-requires : goal.meet_calls-requires
meet_calls-requires g c =
    let all = subst (λ (z : CpuView _ × List (CpuView _)). IsAllOf c.args.self.now (z.0 ∷ z.1)) (λ i. (sym c.first.view_is i, sym c.take_at_once-engine.ensures.others i)) c.requires in
    let h = c.cover_all.ensures in
    let admitted = subst (λ (z : Engine × List (CpuView _)). EachBecomes (IsAdmitted z.0.seat c.cover_all.new.needs) z.1 c.admit_all.new.others) (λ i. (c.admit.ensures.engine i, h.others i)) c.admit_all.ensures.others in
    let puts = subst (λ (z : Engine). MakesSwap c.cover_all.new.turn (Some z) None c.put.new.self) (c.admit_all.ensures.engine ∙ c.admit.ensures.engine) c.put.ensures.swap in
    calls_beside _ _ _ all _ _ c.take_at_once-engine.ensures.takes c.take_at_once-engine.ensures.takes.domain c.cover.new.self _ _ c.cover.ensures.engine c.root_need.ensures c.cover_all.new.engine _ _ h.engine h.needs h.turn _ c.cover_all.new.engine puts _ admitted _ c.admit_turns.ensures.others

pub returns-clause-all : goal.returns-clause-all
returns-clause-all g c =
    let all = subst (λ (z : CpuView _ × List (CpuView _)). IsAllOf c.args.self.now (z.0 ∷ z.1)) (λ i. (sym c.first.view_is i, sym c.take_at_once-engine.ensures.others i)) c.requires in
    let h = c.cover_all.ensures in
    let admitted = subst (λ (z : Engine × List (CpuView _)). EachBecomes (IsAdmitted z.0.seat c.cover_all.new.needs) z.1 c.admit_all.new.others) (λ i. (c.admit.ensures.engine i, h.others i)) c.admit_all.ensures.others in
    let puts = subst (λ (z : Engine). MakesSwap c.cover_all.new.turn (Some z) None c.put.new.self) (c.admit_all.ensures.engine ∙ c.admit.ensures.engine) c.put.ensures.swap in
    let accepts = subst (λ (z : sections.CpuView). calls.Accepts z c.cover_all.new.engine.seat.seen c.cover_all.new.engine.seat.changes c.cover_all.new.engine.seat.texts c.admit.new.cpu) c.cover.ensures.cpu c.admit.ensures.cpu in
    let was = subst (λ (z : sections.CpuView). calls.IsSeenBy z) c.cover.ensures.cpu c.admit.ensures.was in
    let sized = subst (λ (z : sections.CpuView). z.processors ≡ c.cover_all.new.engine.seat.processors) c.cover.ensures.cpu c.admit.ensures.sized in
    let heard = subst (λ (z : sections.CpuView). (n : ℕ) → c.cover_all.new.engine.seat.shown ≡ To z.processor n → n ≤ z.changes) c.cover.ensures.cpu c.admit.ensures.heard in
    let turned = c.admit_turns.ensures.others in
    let met = c.meet_calls.ensures in
    subst (λ (z : FunnelView × BaySeatView Engine). IsAllOf c.args.self.now (record { cpu = c.admit.new.cpu; needs = z.0; turn = z.1; calls = c.meet_calls.new.seat } ∷ c.meet_calls.new.others)) (λ i. (sym c.admit_all.ensures.needs i, sym c.admit_turns.ensures.turn i))
    (all_still _ _ _ _ _ _ _ c.cover.new.self c.cover_all.new.engine _ _ _ _ _ _ _ _ c.take_at_once-engine.ensures.takes c.cover.ensures.engine c.root_need.ensures h.engine h.needs h.turn accepts was sized heard admitted puts turned met.seat met.others c.put.ensures.free all)

pub returns-clause-meets : goal.returns-clause-meets
returns-clause-meets g c =
    let all = subst (λ (z : CpuView _ × List (CpuView _)). IsAllOf c.args.self.now (z.0 ∷ z.1)) (λ i. (sym c.first.view_is i, sym c.take_at_once-engine.ensures.others i)) c.requires in
    let h = c.cover_all.ensures in
    let admitted = subst (λ (z : Engine × List (CpuView _)). EachBecomes (IsAdmitted z.0.seat c.cover_all.new.needs) z.1 c.admit_all.new.others) (λ i. (c.admit.ensures.engine i, h.others i)) c.admit_all.ensures.others in
    let puts = subst (λ (z : Engine). MakesSwap c.cover_all.new.turn (Some z) None c.put.new.self) (c.admit_all.ensures.engine ∙ c.admit.ensures.engine) c.put.ensures.swap in
    let accepts = subst (λ (z : sections.CpuView). calls.Accepts z c.cover_all.new.engine.seat.seen c.cover_all.new.engine.seat.changes c.cover_all.new.engine.seat.texts c.admit.new.cpu) c.cover.ensures.cpu c.admit.ensures.cpu in
    let was = subst (λ (z : sections.CpuView). calls.IsSeenBy z) c.cover.ensures.cpu c.admit.ensures.was in
    let sized = subst (λ (z : sections.CpuView). z.processors ≡ c.cover_all.new.engine.seat.processors) c.cover.ensures.cpu c.admit.ensures.sized in
    let heard = subst (λ (z : sections.CpuView). (n : ℕ) → c.cover_all.new.engine.seat.shown ≡ To z.processor n → n ≤ z.changes) c.cover.ensures.cpu c.admit.ensures.heard in
    let turned = c.admit_turns.ensures.others in
    let met = c.meet_calls.ensures in
    subst (λ (z : CpuView _ × List (CpuView _)). MeetsHere (z.0 ∷ z.1) (record { cpu = c.admit.new.cpu; needs = c.admit_all.new.needs; turn = c.admit_turns.new.turn; calls = c.meet_calls.new.seat } ∷ c.meet_calls.new.others)) (λ i. (c.first.view_is i, c.take_at_once-engine.ensures.others i))
    (subst (λ (z : FunnelView × BaySeatView Engine). MeetsHere (record { cpu = c.first.inside.cpu; needs = c.first.inside.needs; turn = c.first.inside.turn; calls = c.first.inside.calls } ∷ c.take_at_once-engine.new.others)
    (record { cpu = c.admit.new.cpu; needs = z.0; turn = z.1; calls = c.meet_calls.new.seat } ∷ c.meet_calls.new.others))
    (λ i. (sym c.admit_all.ensures.needs i, sym c.admit_turns.ensures.turn i))
    (meets_here c.args.self.now _ _ _ _ _ _ c.cover.new.self c.cover_all.new.engine _ _ _ _ _ _ _ _ c.take_at_once-engine.ensures.takes c.cover.ensures.engine c.root_need.ensures
    h.engine h.needs h.turn accepts was sized heard admitted puts turned met.seat met.others c.needs_of_a_tree.ensures.root c.take_at_once-engine.ensures.takes.tied (h.rest ∙ ap (λ (z : Engine). with_seat c.cover_all.new.engine.seat z) c.cover.ensures.rest) all))
