-- Two seats in hand, all that a bay has: a take between two ties finds what lies there.
use Rattle.std.proofs.Common.{◌≡◌, ◌<◌, false, [], All, Some, None, sym, ap, ◌∙◌, subst, arith}
use mathlib.Core.Logic.{dite}
use native.Mathlib.Decide.{ℕ_discrete}
use Rattle.desk.specs.Glossary.{lies_after, swaps_of, holds_behind, IsLegal, BaySeatView, holds, lies, MakesSwap, Ties, HasOneHolder, SwapsAlone}
use Rattle.desk.proofs.Holders.{legal_makers, one_holds, nobody_finds_it}
use Rattle.desk.proofs.BayTurns.{one_swap}

module _ {T : Type 0} (f s f1 s1 f2 f3 s3 : BaySeatView T) (t : Ties f s f1 s1) (m : MakesSwap f1 None None f2) (u : Ties f2 s1 f3 s3) where
  alone : f.number ≡ 0 → f.seats ≡ 2 → s.number ≡ 1 → SwapsAlone f1 f2 f3.seen
  alone zero two one = record {
    since = u.first.since;
    makers = subst (λ n. All (λ x. x.by < n) f3.seen) seats_are (legal_makers f3.seats f3.first [] f3.seen u.first.history.legal);
    own = subst (λ n. swaps_of n f3.seen ≡ swaps_of n f2.seen) (ap (λ z. z.number) m.same) u.first.own;
    others = λ n lt ne.
        let few = ap (λ z. z.seats) t.first.same ∙ two in
        let not_me = ap (λ z. z.number) t.first.same ∙ zero in
        let is : s1.number ≡ n = ap (λ z. z.number) t.second.is ∙ (one ∙ omega (arith, lt, few, not_me, ne)) in
        subst (λ k. swaps_of k f3.seen ≡ swaps_of k f1.seen) is (u.second.own ∙ ap (λ z. swaps_of s1.number z.seen) t.second.is);
  }
    where
      seats_are : f3.seats ≡ f1.seats
      seats_are = ap (λ z. z.seats) u.first.same ∙ ap (λ z. z.seats) m.same

  pub never_in_vain : f.number ≡ 0 → f.seats ≡ 2 → s.number ≡ 1 → holds f ≡ false → holds s ≡ false → {X : Type 0} → X
  never_in_vain zero two one free free' =
      let h = t.first.history in
      let lay : HasOneHolder f1.seats f1.seen (lies f1) = subst (λ z. HasOneHolder f1.seats f1.seen (lies_after z f1.seen)) (sym h.lay) (one_holds f1.seats h.value f1.seen (subst (λ z. IsLegal f1.seats z f1.seen) h.lay h.legal)) in
      let few = ap (λ z. z.seats) t.first.same ∙ two in
      let mine : f1.number ≡ 0 = ap (λ z. z.number) t.first.same ∙ zero in
      let his : s1.number ≡ 1 = ap (λ z. z.number) t.second.is ∙ one in
      let there = nobody_finds_it f1.seats f1.seen (lies f1) lay (λ n lt. dite (ℕ_discrete n 0)
      (λ e. ap (λ k. holds_behind k f1.seen) (e ∙ sym mine) ∙ (t.first.holding ∙ free))
      (λ ne. ap (λ k. holds_behind k f1.seen) (let is : n ≡ 1 = omega (arith, lt, few, ne) in is ∙ sym his) ∙ (ap (λ z. holds_behind s1.number z.seen) (sym t.second.is) ∙ (t.second.holding ∙ free')))) in
      absurd (differ there.0 (sym there.1 ∙ sym (one_swap f1 f2 None None f3.seen m (alone zero two one)).0))
    where
      differ : (x : T) → Some x ≡ None → ⊥
      differ x e = cc
