-- What a seat swaps while nobody else does.
use Rattle.std.proofs.Common.{◌≡◌, ◌≢◌, ℕ, List, [], ◌∷◌, ◌++◌, Option, Some, None, sym, ap, ◌∙◌, subst, append-nil, append_assoc}
use mathlib.Core.Logic.{dite}
use native.Mathlib.Decide.{ℕ_discrete}
use Rattle.desk.specs.Glossary.{Swap, lies_after, swaps_of, IsBeginning, BaySeatView, MakesSwap, HasJust, SwapsAlone, OneSwap, OneTurn}
use Rattle.desk.proofs.Turns.{swaps_of_other}
use Rattle.desk.proofs.Growing.{swaps_of_append, grows_by_one, grows_by_two}

module _ {T : Type 0} where
  -- none of these is another seat's
  others_none : (n m : ℕ) (left found : Option T) → m ≢ n → swaps_of n (record { by = m; left = left; found = found } ∷ []) ≡ []
  others_none n m left found ne = swaps_of_other n [] record { by = m; left = left; found = found } ne

  -- a swap behind a list in which a seat's swaps are these
  own_behind : (n : ℕ) (before seen act : List (Swap T)) → swaps_of n before ≡ swaps_of n seen → swaps_of n (before ++ act) ≡ swaps_of n (seen ++ act)
  own_behind n before seen act same = swaps_of_append n before act ∙ (ap (λ l. l ++ swaps_of n act) same ∙ sym (swaps_of_append n seen act))

  none_behind : (n : ℕ) (seen act : List (Swap T)) → swaps_of n act ≡ [] → swaps_of n seen ≡ swaps_of n (seen ++ act)
  none_behind n seen act none = sym (append-nil (swaps_of n seen)) ∙ (ap (λ l. swaps_of n seen ++ l) (sym none) ∙ sym (swaps_of_append n seen act))

  just : (v : BaySeatView T) (w : BaySeatView T) (all act : List (Swap T)) → SwapsAlone v w all → swaps_of v.number w.seen ≡ swaps_of v.number (v.seen ++ act) → ((n : ℕ) → n ≢ v.number → swaps_of n act ≡ []) → HasJust v.seats all (v.seen ++ act)
  just v w all act alone own none = (
    alone.makers,
    λ n lt. dite (ℕ_discrete n v.number)
        (λ e. ap (λ z. swaps_of z all) e ∙ (alone.own ∙ (own ∙ ap (λ z. swaps_of z (v.seen ++ act)) (sym e))))
        (λ ne. alone.others n lt ne ∙ none_behind n v.seen act (none n ne)),
  )

  pub one_swap : OneSwap T
  one_swap v w left found all h alone =
      let s : Swap T = record { by = v.number; left = left; found = found } in
      let act : List (Swap T) = s ∷ [] in
      let grows = grows_by_one v.seats v.seen h.before act all h.since (subst (λ l. IsBeginning l all) h.seen alone.since)
      (just v w all act alone (ap (swaps_of v.number) h.seen ∙ own_behind v.number h.before v.seen act h.own) (λ n ne. others_none n v.number left found (λ e. ne (sym e)))) in
      (h.finds ∙ ap (lies_after v.first) grows.0, grows.1)

  pub one_turn : OneTurn T
  one_turn v w u found left all h k' alone =
      let k : MakesSwap (record v { seen = w.seen }) (Some left) None u = subst (λ z. MakesSwap z (Some left) None u) h.same k' in
      let s : Swap T = record { by = v.number; left = None; found = found } in
      let t : Swap T = record { by = v.number; left = Some left; found = None } in
      let own : swaps_of v.number u.seen ≡ swaps_of v.number (v.seen ++ (s ∷ t ∷ [])) =
      ap (swaps_of v.number) k.seen
      ∙ (own_behind v.number k.before w.seen (t ∷ []) k.own
      ∙ (ap (λ l. swaps_of v.number (l ++ t ∷ [])) h.seen
      ∙ (ap (swaps_of v.number) (append_assoc h.before (s ∷ []) (t ∷ [])) ∙ own_behind v.number h.before v.seen (s ∷ t ∷ []) h.own))) in
      let others : (n : ℕ) → n ≢ v.number → swaps_of n (s ∷ t ∷ []) ≡ [] = λ n ne.
      swaps_of_append n (s ∷ []) (t ∷ []) ∙ (ap (λ l. l ++ swaps_of n (t ∷ [])) (others_none n v.number None found (λ e. ne (sym e))) ∙ others_none n v.number (Some left) None (λ e. ne (sym e))) in
      let grows = grows_by_two v.seats v.seen h.before (s ∷ []) k.before (t ∷ []) all h.since (subst (λ l. IsBeginning l k.before) h.seen k.since) (subst (λ l. IsBeginning l all) k.seen alone.since)
      (just v u all (s ∷ t ∷ []) alone own others) in
      (h.finds ∙ ap (lies_after v.first) grows.0, grows.2)
