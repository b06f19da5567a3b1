-- That the parts of a meeting may be done.
use Rattle.std.proofs.Common.{◌≡◌, ℕ, suc, ◌<◌, List, ◌∷◌, get_or, length, Some, None, sym, ap, ◌∙◌, subst, arith}
use Rattle.sections.specs.EngineCalls.{Covers}
use Rattle.funnel.specs.Glossary.{FunnelView, LoadsRoot}
use Rattle.desk.specs.Swaps as swaps
use Rattle.desk.specs.Glossary.{BaySeatView, MakesSwap}
use Rattle.calls.specs.Views.{CallSeatView}
use Rattle.domain.specs.Glossary.{Engine, DomainView, CpuView, IsOf, IsAllOf, AreAllThere, Each, IsBeside, EngineCovers, NeedsCover, TurnCovers, EachBecomes, IsAdmitted, IsTurned}
use Rattle.scan.specs.Stations.{Takes}
use Rattle.domain.proofs.Turning.{swaps_beginning_trans}
use Rattle.domain.proofs.Lending.{took_same}

module _ {J : Type 0} (d : DomainView) (c : CpuView J) (cs : List (CpuView J)) where
  -- nobody else is a processor of the domain
  pub all_are_there : IsAllOf d (c ∷ cs) → AreAllThere d (c ∷ cs)
  all_are_there all p there =
      let inside : p < length (c ∷ cs) = (let many = (all.here 0 c all.some).many in let count = all.count 0 c all.some in omega (arith, there, many, count)) in
      (p, inside, λ x. all.order p x inside)

module _ {J : Type 0} (d : DomainView) (c : CpuView J) (cs : List (CpuView J)) (all : IsAllOf d (c ∷ cs)) (e0 : Engine) (took : BaySeatView Engine) (takes : Takes c.turn e0 took) (at : e0.seat.domain ≡ c.turn.domain) where
  first : IsOf d c
  first = all.here 0 c all.some

  other : (k : ℕ) (x : CpuView J) → k < length cs → IsOf d (get_or cs k x)
  other k x lt = all.here (suc k) x (omega (arith, lt))

  pub engine_here : e0.seat.domain ≡ d.domain
  engine_here = at ∙ first.home

  pub first_here : c.cpu.domain ≡ e0.seat.domain
  first_here = first.domain ∙ sym engine_here

  pub took_here : took.bay ≡ d.bay
  took_here = ap (λ (z : BaySeatView Engine). z.bay) (took_same c.turn e0 took takes) ∙ first.bay

  module _ (e1 : Engine) (n1 : FunnelView) (found : ℕ) (covers : Covers e0.seat c.cpu.seen c.cpu.changes e1.seat) (load : LoadsRoot c.needs found n1) where
    pub others_beside : Each (IsBeside e1.seat n1 took) cs
    others_beside k x lt = record {
      domain = (other k x lt).domain ∙ sym (covers.step.same.0 ∙ engine_here);
      tree = (all.asks (suc k) x (omega (arith, lt))).0 ∙ sym (load.same.domain ∙ (all.asks 0 c all.some).0);
      bay = (other k x lt).bay ∙ sym took_here;
    }

    module _ (e2 : Engine) (n2 : FunnelView) (t2 : BaySeatView Engine) (engine : EngineCovers e1.seat cs e2.seat) (needs : NeedsCover n1 cs n2) (turn : TurnCovers took cs t2) where
      pub still_here : c.cpu.domain ≡ e2.seat.domain
      still_here = first_here ∙ sym (engine.same.0 ∙ covers.step.same.0)

      pub others_here : Each (λ x. (x.cpu.domain ≡ e2.seat.domain) × (x.needs.domain ≡ n2.domain)) cs
      others_here k x lt = ((others_beside k x lt).domain ∙ sym engine.same.0, (others_beside k x lt).tree ∙ sym needs.same.domain)

      pub turn_here : t2.bay ≡ d.bay
      turn_here = ap (λ (z : BaySeatView Engine). z.bay) turn.same ∙ took_here

      module _ (t3 : BaySeatView Engine) (left : Engine) (puts : MakesSwap t2 (Some left) None t3) (cs1 : List (CpuView J)) (admitted : EachBecomes (IsAdmitted e2.seat n2) cs cs1) where
        pub put_here : t3.bay ≡ d.bay
        put_here = ap (λ (z : BaySeatView Engine). z.bay) puts.same ∙ turn_here

        before : (k : ℕ) → k < length cs1 → k < length cs
        before k lt = subst (λ n. k < n) admitted.count lt

        pub turns_beside : Each (λ x. x.turn.bay ≡ d.bay) cs1
        turns_beside k x lt = ap (λ (z : BaySeatView Engine). z.bay) (admitted.each k x (before k lt)).turn ∙ (other k x (before k lt)).bay

        pub turns_covered : Each (λ x. swaps.IsBeginning x.turn.seen t3.seen) cs1
        turns_covered k x lt = subst (λ (z : BaySeatView Engine). swaps.IsBeginning z.seen t3.seen) (sym (admitted.each k x (before k lt)).turn)
            (swaps_beginning_trans _ _ _ (turn.covers k x (before k lt)) (swaps_beginning_trans _ _ _ puts.since record { rest = _; whole = puts.seen }))

        -- the seats at the tally words are still of one domain
        pub calls_beside : (cs2 : List (CpuView J)) → EachBecomes (IsTurned t3) cs1 cs2 → Each (λ x. x.calls.tallies ≡ c.calls.tallies) cs2
        calls_beside cs2 turned k x lt =
            let there : k < length cs1 = (let n = turned.count in omega (arith, lt, n)) in
            let l = before k there in
            ap (λ (z : CallSeatView J). z.tallies) ((turned.each k x there).calls ∙ (admitted.each k x l).calls) ∙ ((other k x l).fits.tallies ∙ sym first.fits.tallies)
