-- What the steps do to the seats that they are made with.
use Rattle.std.specs.Prelude.{◌≡◌, ℕ, zero, suc, ◌+◌, ◌^◌, ◌<◌, ◌≤◌, ◌↔◌, IsTrue, List, [], ◌∷◌, ◌++◌, Option}
use Rattle.atomic_table.specs.Seated.{TableId}
use Rattle.atomic_table.specs.declared.shared.Seat.{Seat}
use Rattle.funnel.specs.declared.view.Shape.{Shape}
use Rattle.funnel.specs.declared.view.Holder.{Holder}
use Rattle.funnel.specs.declared.view.Raise.{Raise}
use Rattle.funnel.specs.declared.view.Call.TheVariants.{Idle}
use Rattle.funnel.specs.declared.seat.Level.{Level}
use Rattle.funnel.specs.Tree.{up, leaf_of, word_of}
use Rattle.funnel.specs.Histories.{IsBeginning, raise_of, value}
use Rattle.funnel.specs.Rule.{View, IsHolder}
use Rattle.funnel.specs.Plays.{IsSound, Loaded}

abbrev pub Place : Type 0
Place = Seat (Option ℕ) View

-- the seat is at this table, and has no slot
pub record IsSeated (table : TableId) (seat : Place) : Type 0 where
  pub seated : seat.table_id ≡ table
  pub some : 0 < table.words
  pub bare : seat.me.1 ≡ []

-- it is one of a tree of this shape
pub record IsPlaced (shape : Shape) (table : TableId) (seat : Place) : Type 0 where
  pub seated : seat.table_id ≡ table
  pub wide : table.words ≡ word_of shape.nodes
  pub some : 0 < shape.nodes
  pub bare : seat.me.1 ≡ []
  pub shaped : seat.me.0.client.shape ≡ shape

-- a seat between two calls: what it has seen is sound, and no call of it is on its way
pub record IsAtRest (v : View) : Type 0 where
  pub sound : IsSound v
  pub idle : v.client.call ≡ Idle

-- the seat makes somebody's steps
abbrev pub HasHolder : View → Type 0
HasHolder v = (h : Holder) × IsHolder v.role h

-- the processor has its leaf in the tree
pub record IsInTree (shape : Shape) (p : ℕ) : Type 0 where
  pub processor : p < shape.processors
  pub leaf : leaf_of shape.nodes p < shape.nodes
  pub few : shape.nodes < 2 ^ 32

-- so many steps of a call, from the node on upward
abbrev pub climb_from : ℕ → ℕ → ℕ → ℕ → List Raise
climb_from p n k zero = []
climb_from p n k (suc m) = climb_from p n k m ++ raise_of p (up m k) n ∷ []

-- one step at each of so many nodes, of which only the last may be the root. The last one holds the number then, `found` is whether it held as much before, and where it did not, it is the root
pub record Climbs (p leaf n : ℕ) (v : View) (level : Level) (w : View) : Type 0 where
  pub above : ℕ
  pub nodes : level.nodes ≡ above + 1
  pub below : (m : ℕ) → m < above → ¬ (up m leaf ≡ 0)
  pub mine : w.client.mine ≡ v.client.mine ++ climb_from p n leaf level.nodes
  pub before : List Raise
  pub since : IsBeginning v.seen before
  pub seen : w.seen ≡ before ++ raise_of p (up above leaf) n ∷ []
  pub holds : n ≤ value (up above leaf) w.seen
  pub found : IsTrue level.found ↔ (n ≤ value (up above leaf) before)
  pub at_root : ¬ IsTrue level.found → up above leaf ≡ 0
  pub shape : w.client.shape ≡ v.client.shape
  pub role : w.role ≡ v.role
  pub loads : w.done ≡ v.done
  pub told : w.told ≡ []
  pub rests : IsAtRest w

-- after one load of the root, w has seen what v and o have, and else is as v was
pub record Covers (v o w : View) : Type 0 where
  pub found : ℕ
  pub load : Loaded found v w
  pub current : found ≡ value 0 w.seen
  pub since : IsBeginning v.seen w.seen
  pub covers : IsBeginning o.seen w.seen

-- after one load of the root, w has seen just what o has, and else is as v was
pub record Accepts (v o w : View) : Type 0 where
  pub found : ℕ
  pub load : Loaded found v w
  pub seen : w.seen ≡ o.seen
  pub not_below : value 0 w.seen ≤ found

-- the same seat at the same table
pub record IsSameSeat (seat seat' : Place) : Type 0 where
  pub table : seat'.table_id ≡ seat.table_id
  pub me : seat'.me ≡ seat.me
