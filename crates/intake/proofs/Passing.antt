-- Each step at a place through which a value goes keeps its rule.
use Rattle.std.proofs.Common.{◌≡◌, ℕ, List, ◌∷◌, get_or, sym, refl, ◌∙◌, subst, arith, Option, Some, length-set, get_or-set_same, slice_set, slice_index}
use mathlib.Core.Logic.{dite}
use mathlib.Core.Option.{some}
use native.Mathlib.Decide.{ℕ_discrete}
use Rattle.atomic_table.specs.Table.{Me, keeps, takes, gives, Allows, Arrives}
use Rattle.intake.specs.Passing.{Passed, HasSlot, HasValue}
use Rattle.atomic_table.proofs.Lists.{set_here}

module _ {T V : Type 0} (fits : T → Type 0) where
  pub lays : (id : ℕ) (m : Me (Option T) V) (v : V) (value : T) (more : List (ℕ × Option T)) → m ≡ (v, (0, Some value) ∷ more) → fits value
      → Allows (Passed fits) 1 id m 0 (λ _. 0) (λ _ _. Unit {0})
  lays id m v value more e ok = subst (λ (x : Me (Option T) V). Allows (Passed fits) 1 id x 0 (λ _. 0) (λ _ _. Unit {0})) (sym e)
      (λ s g wide me _. let zero : get_or (slice_set s.words 0 0) 0 0 ≡ 0 = get_or-set_same s.words 0 0 0 (omega (arith, g.0)) in
      (v, gives, tt, (length-set s.words 0 0 ∙ g.0, (λ _. (value, set_here s.homes 0 (some (Some value)) (omega arith), ok)), λ two. absurd (omega (arith, zero, two))), tt))

  pub looks : (n : ℕ) (v : V) → Arrives (Passed fits) n 0 (λ _. 1) (λ r m. (r ≡ 0 → HasValue {V = V} fits m) × (r ≡ 2 → HasSlot m))
  looks n v s g wide _ = let long = g.0 in let one = get_or-set_same s.words 0 1 0 (omega (arith, long)) in
      dite (ℕ_discrete (get_or s.words 0 0) 0)
      (λ there. let t = g.1 there in (v, takes 0 (Some t.0), t.1, (length-set s.words 0 1 ∙ long, (λ e. absurd (omega arith)), λ e. absurd (omega arith)), ((λ _. (t.0, refl, t.2)), λ _. (Some t.0, refl))))
      (λ away. dite (ℕ_discrete (get_or s.words 0 0) 2)
      (λ fresh. let t = g.2 fresh in (v, takes 0 t.0, t.1, (length-set s.words 0 1 ∙ long, (λ e. absurd (omega arith)), λ e. absurd (omega arith)), ((λ e. absurd (away e)), λ _. (t.0, refl))))
      (λ old. (v, keeps, tt, (length-set s.words 0 1 ∙ long, (λ e. absurd (omega arith)), λ e. absurd (omega arith)), ((λ e. absurd (away e)), λ e. absurd (old e)))))

-- the value fits the key of the place
pub lays_there : {T V K : Type 0} (fits : T → K → Type 0) (key : K) (n id : ℕ) (m : Me (Option T) V) (v : V) (value : T) (more : List (ℕ × Option T)) → n ≡ 1 → m ≡ (v, (0, Some value) ∷ more) → fits value key
    → Allows (Passed (λ x. fits x key)) n id m 0 (λ _. 0) (λ _ _. Unit {0})
lays_there fits key n id m v value more one e ok = subst (λ z. Allows (Passed (λ x. fits x key)) z id m 0 (λ _. 0) (λ _ _. Unit {0})) (sym one) (lays (λ x. fits x key) id m v value more e ok)
