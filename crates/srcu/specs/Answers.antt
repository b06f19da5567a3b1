-- Answers with names, as lists of numbers.
use Rattle.std.specs.Prelude.{ℕ, List, [], ◌∷◌}
use Rattle.srcu.specs.declared.answers.Lens.{Lens}

-- the counts, and the numbers
abbrev pub pair_of : Lens → List ℕ × List ℕ
pair_of l = (l.done ∷ l.wait ∷ l.next_ready ∷ l.next ∷ [], l.first ∷ l.second ∷ [])
