-- What each step on the tree tells the seat that makes it.
use Rattle.std.specs.Prelude.{◌≡◌, ℕ, ◌≤◌, List, [], ◌∷◌, ◌++◌, Option}
use Rattle.atomic_table.specs.Table.{Me, Step}
use Rattle.funnel.specs.declared.view.Holder.{Holder}
use Rattle.funnel.specs.declared.view.Raise.{Raise}
use Rattle.annals.specs.declared.view.Role.TheVariants.{Sits}
use Rattle.funnel.specs.Tree.{node_at}
use Rattle.funnel.specs.Histories.{IsBeginning, raise_of, value, call_after, IsLegal}
use Rattle.funnel.specs.Rule.{View, loads_of, IsHolder, Owns}

-- what the seat has seen is a legal history, in which are just its own steps of its holder
pub record IsSound (v : View) : Type 0 where
  pub legal : IsLegal v.client.shape v.seen
  pub owns : Owns v.role v.client.mine v.client.call v.seen

-- processor p has raised node k
pub record Raised (p k n found : ℕ) (v w : View) : Type 0 where
  pub before : List Raise
  pub seen : w.seen ≡ before ++ raise_of p k n ∷ []
  pub since : IsBeginning v.seen before
  pub found_is : found ≡ value k before
  pub mine : w.client.mine ≡ v.client.mine ++ raise_of p k n ∷ []
  pub shape : w.client.shape ≡ v.client.shape
  pub role : w.role ≡ v.role
  pub told : w.told ≡ []
  pub call : w.client.call ≡ call_after k n found
  pub loads : w.done ≡ v.done
  pub sound : IsSound w

-- the root was loaded: the load is noted, nothing was raised, and what is then seen is sound
pub record Loaded (found : ℕ) (v w : View) : Type 0 where
  pub mine : w.client.mine ≡ v.client.mine
  pub shape : w.client.shape ≡ v.client.shape
  pub role : w.role ≡ v.role
  pub told : w.told ≡ []
  pub call : w.client.call ≡ v.client.call
  pub loads : (h : Holder) → IsHolder v.role h → loads_of h w.done ≡ loads_of h v.done ++ found ∷ []
  pub sound : IsSound w

-- the root holds what is then seen, which covers what was seen before and all that was told
pub record FindsRoot (found : ℕ) (v w : View) : Type 0 where
  pub load : Loaded found v w
  pub current : found ≡ value 0 w.seen
  pub since : IsBeginning v.seen w.seen
  pub covers : IsBeginning v.told w.seen

-- just what was told is then seen, of which the root holds as much or more
pub record Admits (found : ℕ) (v w : View) : Type 0 where
  pub load : Loaded found v w
  pub seen : w.seen ≡ v.told
  pub not_below : value 0 w.seen ≤ found

abbrev pub Sat : Type 0
Sat = Me (Option ℕ) View

-- `fetch_max` of a node
abbrev pub raised : Step (Option ℕ) → Sat → ℕ → Sat → Type 0
raised st m found m' = (m'.1 ≡ m.1) × ((p : ℕ) → m.0.role ≡ Sits p → Raised p (node_at st.word) st.first found m.0 m'.0)

-- load of the root, which is word 0
abbrev pub looked : Step (Option ℕ) → Sat → ℕ → Sat → Type 0
looked st m found m' = (m'.1 ≡ m.1) × FindsRoot found m.0 m'.0 × (st.word ≡ 0)

-- load of the root by a seat that was told of a history, which covers its own
abbrev pub admitted : Step (Option ℕ) → Sat → ℕ → Sat → Type 0
admitted st m found m' = (m'.1 ≡ m.1) × Admits found m.0 m'.0 × (st.word ≡ 0)
