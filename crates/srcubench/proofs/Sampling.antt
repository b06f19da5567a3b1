-- One run more, and its sample.
use Rattle.std.proofs.Common.{◌≡◌, ℕ, ◌+◌, List, [], ◌∷◌, ◌++◌, length, map, refl, sym, ap, ◌∙◌, length-append, arith}
use Rattle.std.proofs.lemmas.List.{map_push}
use Rattle.std.proofs.lemmas.List.Elements.{All-nil, All-push}
use Rattle.std.specs.Duration.{as_nanos}
use Rattle.srcubench.specs.declared.work.Timed.{Timed}
use Rattle.srcubench.specs.Samples.{cost_of_one, AreOfRuns}

one_longer : {X : Type 0} (xs : List X) (x : X) (n : ℕ) → length xs ≡ n → length (xs ++ x ∷ []) ≡ n + 1
one_longer xs x n e = length-append xs (x ∷ []) ∙ omega (arith, e)

one_cost : {X : Type 0} (cost : X → ℕ) (samples : List ℕ) (xs : List X) (x : X) → samples ≡ map cost xs → samples ++ cost x ∷ [] ≡ map cost (xs ++ x ∷ [])
one_cost cost samples xs x e = ap (λ l. l ++ cost x ∷ []) e ∙ sym (map_push cost xs x)

pub no_runs : (is_done : ℕ → Type 0) → AreOfRuns is_done 0 []
no_runs is_done = record { runs = []; count = refl; each = All-nil _; costs = refl }

pub one_run : (is_done : ℕ → Type 0) (n : ℕ) (samples : List ℕ) (t : Timed) → is_done t.done → AreOfRuns is_done n samples → AreOfRuns is_done (n + 1) (samples ++ cost_of_one (as_nanos t.elapsed) t.done ∷ [])
one_run is_done n samples t done all = record {
  runs = all.runs ++ t ∷ [];
  count = one_longer all.runs t n all.count;
  each = All-push (λ x. is_done x.done) all.runs t all.each done;
  costs = one_cost (λ x. cost_of_one (as_nanos x.elapsed) x.done) samples all.runs t all.costs;
}
