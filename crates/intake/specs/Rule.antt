-- The rule of a line: what was taken out is a beginning of what was pushed, and the rest waits in the line, in its order.
use Rattle.std.specs.Prelude.{◌≡◌, ℕ, List, [], ◌∷◌, ◌++◌, Option, Some, None}
use mathlib.Core.Option.{some}
use lib.ListN.{get_elem?}
use Rattle.intake.specs.declared.view.Role.{Role}
use Rattle.intake.specs.declared.view.Role.TheVariants.{Founder, Pusher, Taker}
use Rattle.intake.specs.declared.view.View.{View}

module _ {K T : Type 0} where
  -- a value is what it has to be behind these, in a line with this key. Where there is no key, nothing comes in
  abbrev pub MayFollow : (K → List T → T → Type 0) → Option K → List T → T → Type 0
  MayFollow follows None front x = ⊥
  MayFollow follows (Some key) front x = follows key front x

-- what there is beside the values that wait: the key of the line, all that was pushed and all that was taken out, and the pass of each end
pub record Books (K T : Type 0) : Type 0 where
  pub key : Option K
  pub pushed : List T
  pub taken : List T
  pub pusher : ℕ
  pub taker : ℕ

module _ {T : Type 0} where
  -- a beginning of what was pushed
  pub record IsBeginning (seen pushed : List T) : Type 0 where
    pub rest : List T
    pub whole : pushed ≡ seen ++ rest

module _ {K T : Type 0} where
  -- each value is what it has to be behind all that were pushed before it: of the first ones it is known
  abbrev pub AreInTurn : (K → List T → T → Type 0) → Option K → List T → List T → Type 0
  AreInTurn follows key front [] = Unit {0}
  AreInTurn follows key front (x ∷ xs) = MayFollow follows key front x × AreInTurn follows key (front ++ x ∷ []) xs

  abbrev pub HasRole : Books K T → ℕ → List T → Role K → Type 0
  HasRole b id seen Founder = (b.pusher ≡ id) × (b.taker ≡ id) × (b.pushed ≡ [])
  HasRole b id seen (Pusher key) = (b.pusher ≡ id) × (key ≡ b.key) × (seen ≡ b.pushed)
  HasRole b id seen (Taker key) = (b.taker ≡ id) × (key ≡ b.key) × (seen ≡ b.taken)

  pub record Fits (b : Books K T) (id : ℕ) (v : View T K) : Type 0 where
    pub seen : IsBeginning v.seen b.pushed
    pub role : HasRole b id v.seen v.role

  pub record Kept (follows : K → List T → T → Type 0) (items : List T) (views : List (View T K)) : Type 0 where
    pub books : Books K T
    pub rest : books.pushed ≡ books.taken ++ items
    pub in_turn : AreInTurn follows books.key [] books.pushed
    pub each_view : (id : ℕ) (v : View T K) → get_elem? views id ≡ some v → Fits books id v

  -- Views that are made

  abbrev pub view : Role K → List T → View T K
  view role seen = record { role = role; seen = seen }

  abbrev pub founder : View T K
  founder = view Founder []

  abbrev pub pusher_of : Option K → View T K
  pusher_of key = view (Pusher key) []

  abbrev pub taker_of : Option K → View T K
  taker_of key = view (Taker key) []
