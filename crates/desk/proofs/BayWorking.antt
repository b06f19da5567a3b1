-- From what two swaps of a seat tell it to what is said of its work on the value between them.
use Rattle.std.proofs.Common.{◌≡◌, ◌≢◌, ℕ, true, false, ◌∷◌, Option, Some, None, IfSome, is_some, refl, sym, ap, ◌∙◌, subst}
use Rattle.atomic_table.specs.Seated.{TableId}
use Rattle.atomic_table.specs.Table.{Allows, rest}
use Rattle.desk.specs.Glossary.{holds_behind, holds, MakesSwap, MayLieThere, as_bay_seat, Takes, Puts}
use Rattle.desk.specs.declared.bay.view.Plan.{Plan}
use Rattle.annals.specs.Rule.{number_of}
use Rattle.desk.specs.BayRule.{View, Kept}
use Rattle.desk.specs.BayPlays.{Sat}
use Rattle.desk.proofs.Baying.{AtBay, taken, taken_holds, taken_domain, taken_alike, at_bay_taken, puts_as, put_swap, put_frees, at_bay_put}

-- x lies in the slot behind the first swap
module _ {T : Type 0} {domain : T → TableId} {like : T → T → Type 0} {m : Sat T} {n : ℕ} {m' : Sat T} {lay : Option T} {x : T} (t : Takes domain like m n m') (there : n ≢ 1) (read : m'.1 ≡ (0, lay) ∷ rest m'.1) (is : AtBay m) (lay_is : lay ≡ Some x) (table : TableId) where
  -- as if it had been taken out
  abbrev without : Sat T
  without = (m'.0, (0, None) ∷ rest m'.1)

  at_bay_without : AtBay without
  at_bay_without = at_bay_taken domain like m n m' t there lay without read refl table table refl is

  holds_without : holds_behind (number_of m'.0.role) m'.0.seen ≡ true
  holds_without = taken_holds domain like m n m' t there lay without read refl table table refl ∙ ap is_some lay_is

  pub found_swap : (table' : TableId) → table' ≡ table → MakesSwap (as_bay_seat table m.0) None (Some x) (as_bay_seat table' m'.0)
  found_swap table' same = subst (λ (z : Option T). MakesSwap (as_bay_seat table m.0) None z (as_bay_seat table' m'.0)) lay_is (taken domain like m n m' t there lay without read refl table table' same)

  pub may_lie : MayLieThere domain like (as_bay_seat table m.0) x
  may_lie = (
    subst (λ (z : Option T). IfSome z (λ y. domain y ≡ m.0.client.home)) lay_is (taken_domain domain like m n m' t there lay without read refl table table refl),
    subst (λ (z : Option T). IfSome z (λ y. IfSome m.0.client.first (λ w. like w y))) lay_is (taken_alike domain like m n m' t there lay without read refl table table refl),
  )

  -- and y when the work is done
  module _ (y : T) where
    abbrev pub with_left : Sat T
    with_left = (m'.0, (0, Some y) ∷ rest m'.1)

    pub leaves_as : (plan : Plan T) (slots id : ℕ) → MayLieThere domain like (as_bay_seat table m.0) y → Allows (Kept domain like plan) slots id with_left 0 (λ _. 0) (λ k w. Puts with_left w)
    leaves_as plan slots id may =
        let same : m'.0 ≡ record m.0 { seen = m'.0.seen } = ap (λ (z : Sat T). z.0) t.now in
        puts_as domain like plan slots id without with_left y at_bay_without holds_without refl
        (may.0 ∙ sym (ap (λ (z : View T). z.client.home) same))
        (subst (λ (z : Option T). IfSome z (λ w. like w y)) (sym (ap (λ (z : View T). z.client.first) same)) may.1)

    module _ (m2 : Sat T) (p : Puts with_left m2) where
      pub at_bay_left : AtBay m2
      at_bay_left = at_bay_put without with_left m2 y at_bay_without holds_without refl p table table refl

      pub left_swap : (now now' : TableId) → now' ≡ now → MakesSwap (as_bay_seat now m'.0) (Some y) None (as_bay_seat now' m2.0)
      left_swap = put_swap without with_left m2 y at_bay_without holds_without refl p

      pub left_free : (now now' : TableId) → now' ≡ now → holds (as_bay_seat now' m2.0) ≡ false
      left_free = put_frees without with_left m2 y at_bay_without holds_without refl p
