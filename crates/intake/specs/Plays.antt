-- What each step on a line tells the pass that makes it.
use Rattle.std.specs.Prelude.{◌≡◌, List, [], ◌∷◌, ◌++◌, Option}
use Rattle.intake.specs.declared.view.Role.TheVariants.{Taker}
use Rattle.intake.specs.declared.view.View.{View}
use Rattle.intake.specs.Rule.{MayFollow, view}

module _ {K T : Type 0} where
  -- the value came in last: it is one more of those that were pushed
  abbrev pub pushed : View T K → T → View T K → Type 0
  pushed v x w = w ≡ view v.role (v.seen ++ x ∷ [])

  -- the value was the first that waited. It is one more of those that were taken out, and is what it had to be where it was pushed
  abbrev pub taken : (K → List T → T → Type 0) → View T K → T → View T K → Type 0
  taken follows v x w = (w ≡ view v.role (v.seen ++ x ∷ [])) × ((key : Option K) → v.role ≡ Taker key → MayFollow follows key v.seen x)

  -- nothing waited, which tells nothing of what was pushed
  abbrev pub emptied : View T K → List T → Type 0
  emptied v items = Unit {0}
