-- What is kept of each slot, and how a caller sees it.
use Rattle.std.proofs.Common.{◌≡◌, ◌⊎◌, inl, inr, ℕ, zero, suc, ◌+◌, ◌<◌, List, [], ◌∷◌, Option, Some, None, map, get_or, set, refl, sym, ap, ◌∙◌, subst, arith}
use Rattle.std.proofs.lemmas.List.{map-set}
use mathlib.Core.Logic.{dite}
use native.Mathlib.Decide.{ℕ_discrete}
use Rattle.boxes.specs.declared.rest.Rest.{Rest}
use Rattle.sections.specs.WriterViews.{WriterView, SlotView}
use Rattle.sections.specs.Boxes.{bank_in}
use Rattle.boxes.specs.Boxes.{BoxWriterView}
use Rattle.boxes.specs.Laying.{TakesFree}
use Rattle.boxes.specs.Insides.{stored_of, IsLaid, AreLaid}

-- where nothing is put, nothing is
pub set_nothing : {X : Type 0} (xs : List X) (x : ℕ) (d : X) → get_or (set xs x d) x d ≡ d
set_nothing [] x d = refl
set_nothing (y ∷ ys) zero d = refl
set_nothing (y ∷ ys) (suc x) d = set_nothing ys x d

module _ {V A : Type 0} where
  pub stored_is : (rests : List (Option (Rest V A))) (x : ℕ) → get_or (map stored_of rests) x None ≡ stored_of (get_or rests x None)
  stored_is [] x = refl
  stored_is (r ∷ rs) zero = refl
  stored_is (r ∷ rs) (suc x) = stored_is rs x

  pub none_kept : (o : Option (Rest V A)) → stored_of o ≡ None → o ≡ None
  none_kept None e = refl
  none_kept (Some r) e = absurd cc

  -- something else is kept of one slot
  pub stored_set : (rests : List (Option (Rest V A))) (x : ℕ) (o : Option (Rest V A)) → map stored_of (set rests x o) ≡ set (map stored_of rests) x (stored_of o)
  stored_set rests x o = map-set stored_of rests x o

  -- the slot that was taken has no box
  pub none_there : (rests : List (Option (Rest V A))) (x : ℕ) (w taken : BoxWriterView V A) (s : SlotView) → map stored_of rests ≡ taken.stored → TakesFree x w taken s → get_or rests x None ≡ None
  none_there rests x w taken s is takes = none_kept (get_or rests x None) (sym (stored_is rests x) ∙ (ap (λ l. get_or l x None) (is ∙ ap (λ (z : BoxWriterView V A). z.stored) takes.rest) ∙ takes.none))

  -- the part that is left of a box is of its deed's round
  pub one_round : (x : ℕ) (w : WriterView) (rests : List (Option (Rest V A))) (r : Rest V A) → x < 8 → AreLaid w rests → get_or rests x None ≡ Some r → r.part.round ≡ r.deed.deed.round
  one_round x w rests r low laid is = (subst (IsLaid (bank_in w x)) is (laid x low)).2

-- one more of a row
pub one_more : {L : Type 0} {P : ℕ → Type 0} (k : ℕ) → L ⊎ ((x : ℕ) → x < k → P x) → L ⊎ P k → L ⊎ ((x : ℕ) → x < k + 1 → P x)
one_more k (inl l) h = inl l
one_more k (inr f) (inl l) = inl l
one_more {P = P} k (inr f) (inr p) = inr (λ x lt. dite (ℕ_discrete x k) (λ e. subst P (sym e) p) (λ ne. f x (omega (arith, lt, ne))))
