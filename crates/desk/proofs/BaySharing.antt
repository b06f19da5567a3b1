-- A new bay keeps its rule.
use Rattle.std.proofs.Common.{◌≡◌, ℕ, List, [], ◌∷◌, Option, Some, refl, sym, ap, ◌∙◌, subst}
use mathlib.Core.Option.{some}
use Rattle.atomic_table.specs.Seated.{TableId}
use Rattle.atomic_table.specs.Table.{opening}
use Rattle.annals.proofs.CallerLemmas as annals
use Rattle.desk.specs.Glossary.{bay_client}
use Rattle.desk.specs.declared.bay.view.Plan.{Plan}
use Rattle.desk.specs.BayRule.{Kept, founder}

module _ {T : Type 0} (domain : T → TableId) (like : T → T → Type 0) (plan : Plan T) where
  pub opens : (words : List ℕ) (slots : List (Option T)) (value : T) → words ≡ 0 ∷ [] → slots ≡ Some value ∷ [] → plan.first.value ≡ value → domain value ≡ plan.home → like value value → Kept domain like plan (opening words slots (founder plan))
  opens words slots value w is first of alike = subst (λ (z : List ℕ × List (Option T)). Kept domain like plan (opening z.0 z.1 (founder plan))) (λ i. (sym w i, sym is i))
      (annals.opens (bay_client domain like) plan (0 ∷ []) (Some value ∷ []) tt
      record {
        words_are = refl;
        homes_are = ap (λ x. some (Some x) ∷ []) (sym first);
        legal = tt;
        first_of_domain = ap domain first ∙ of;
        of_domain = ap domain first ∙ of;
        first_alike = subst (λ z. like z z) (sym first) alike;
        alike = subst (λ z. like z z) (sym first) alike;
      }
      (refl, refl, refl))
