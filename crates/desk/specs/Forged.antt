-- That no cut or join of seats claims a swap: only a step on the table gives one.
use Rattle.std.specs.Prelude.{◌≡◌, ℕ, List, ◌++◌, Option}
use mathlib.Core.Option.{some}
use lib.ListN.{get_elem?}
use Rattle.atomic_table.specs.Seated.{TableId}
use Rattle.atomic_table.specs.Table.{State, Splits, Joins}
use Rattle.desk.specs.declared.view.Plan.{Plan}
use Rattle.desk.specs.declared.view.Role.{Role}
use Rattle.desk.specs.declared.view.Role.TheVariants.{Nobody, Dealer, Waits, Sits, Gathers}
use Rattle.desk.specs.declared.view.View.{View}
use Rattle.desk.specs.declared.bay.view.Plan as bay_plan
use Rattle.annals.specs.declared.view.Role.TheVariants as bay_roles
use Rattle.desk.specs.Swaps.{Swap, swaps_of}
use Rattle.desk.specs.Rule as desk
use Rattle.desk.specs.BayRule as bay

-- in what is seen the second time, the seat has no swap that it hasn't in what was seen the first time
pub record HasNoMore {T : Type 0} (number : ℕ) (seen again : List (Swap T)) : Type 0 where
  pub rest : List (Swap T)
  pub whole : swaps_of number seen ≡ swaps_of number again ++ rest

-- it is the desk's seat of this number
abbrev pub IsSeat : {T : Type 0} → Role T → ℕ → Type 0
IsSeat Nobody number = ⊥
IsSeat (Dealer k) number = ⊥
IsSeat (Waits n i) number = n ≡ number
IsSeat (Sits n i) number = n ≡ number
IsSeat (Gathers over) number = ⊥

-- a seat of the desk, whichever it is, has no swap of m more
abbrev pub ClaimsNone : {T : Type 0} → ℕ → View T → View T → Type 0
ClaimsNone m v w = (number : ℕ) → IsSeat w.role number → HasNoMore m v.seen w.seen

-- however the desk's seat m is cut in two or takes another in, it has no swap more, as long as there is another seat o of the desk elsewhere: at the place of that swap, o may have made one of its own
abbrev pub NoDeskSwapIsForged : {T : Type 0} → (T → TableId) → Type 0
NoDeskSwapIsForged {T} domain = (plan : Plan) (s : State (Option T) (View T)) → desk.Kept domain plan s → (id : ℕ) (v : View T) (m : ℕ) → get_elem? s.views id ≡ some v → IsSeat v.role m
    → (there : ℕ) (u : View T) (o : ℕ) → get_elem? s.views there ≡ some u → IsSeat u.role o → ¬ (there ≡ id)
    → ((left right : View T) → Splits (desk.Kept domain plan) id v left right → ClaimsNone m v left × ClaimsNone m v right)
    × ((other : ℕ) (w both spent : View T) → ¬ (other ≡ id) → ¬ (other ≡ there) → get_elem? s.views other ≡ some w → Joins (desk.Kept domain plan) id v other w both spent → ClaimsNone m v both)

-- the same of a bay, where nobody else has seen such a swap either
abbrev pub NoBaySwapIsForged : {T : Type 0} → (T → TableId) → (T → T → Type 0) → Type 0
NoBaySwapIsForged {T} domain like = (plan : bay_plan.Plan T) (s : State (Option T) (bay.View T)) → bay.Kept domain like plan s → (id : ℕ) (v : bay.View T) (m : ℕ) → get_elem? s.views id ≡ some v → bay.StandsFor v.role m
    → (there : ℕ) (u : bay.View T) (o : ℕ) → get_elem? s.views there ≡ some u → u.role ≡ bay_roles.Sits o → ¬ (there ≡ id)
    → ((left right : bay.View T) → Splits (bay.Kept domain like plan) id v left right → HasNoMore m v.seen left.seen × HasNoMore m v.seen right.seen)
    × ((other : ℕ) (w both spent : bay.View T) → ¬ (other ≡ id) → ¬ (other ≡ there) → get_elem? s.views other ≡ some w → Joins (bay.Kept domain like plan) id v other w both spent → HasNoMore m v.seen both.seen)
