-- What of a run is shown.
use Rattle.std.specs.Prelude.{ℕ, Bool, true, List, Option, Some, None, bytes_eq}
use Rattle.account.specs.declared.view.View.{View}

abbrev pub is_named : Option (List ℕ) → List ℕ → Bool
is_named None name = true
is_named (Some wanted) name = bytes_eq wanted name

-- whether a view has the domains of this name
abbrev pub is_of : View → List ℕ → Bool
is_of view name = is_named view.domain name
