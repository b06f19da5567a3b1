-- Keys in order.
use Rattle.std.specs.Prelude.{◌≡◌, List}
use Rattle.std.specs.List.{AllPairs}
use Rattle.std.specs.declared.cmp.Ordering.{Ordering}
use Rattle.std.specs.declared.cmp.Ordering.TheVariants.{Less}

-- each key comes before those behind it
abbrev pub AreInOrder : {K : Type 0} → (K → K → Ordering) → List K → Type 0
AreInOrder cmp keys = AllPairs (λ a b. cmp a b ≡ Less) keys
