-- What a new tree is.
use Rattle.std.specs.Prelude.{◌≡◌, ℕ, ◌^◌, ◌<◌, ◌≤◌, List, [], length}
use Rattle.atomic_table.specs.Seated.{TableId}
use Rattle.funnel.specs.declared.view.Shape.{Shape}
use Rattle.funnel.specs.declared.view.Holder.TheVariants.{Engine}
use Rattle.annals.specs.declared.view.Role.TheVariants.{Dealer}
use Rattle.funnel.specs.Tree.{word_of, IsLeast, LeavesAreThere}
use Rattle.funnel.specs.Rule.{founder}
use Rattle.funnel.specs.Seats.{Place}
use Rattle.funnel.specs.Views.{FunnelView}
use Rattle.funnel.specs.Calls.{new_seat, AreNew}

-- it has room for the processors, and no more nodes than it needs
pub record IsTree (shape : Shape) : Type 0 where
  pub least : IsLeast shape.processors shape.nodes
  pub leaves : LeavesAreThere shape.processors shape.nodes
  pub processors : shape.processors ≤ 2 ^ 16
  pub few : shape.nodes < 2 ^ 17

-- the seat is the engine's and that of the processors from k on, and nothing has happened
pub record IsFounder (shape key : Shape) (table : TableId) (k : ℕ) (seat : Place) : Type 0 where
  pub key_is : key ≡ shape
  pub wide : table.words ≡ word_of shape.nodes
  pub seated : seat.table_id ≡ table
  pub me : seat.me ≡ (record (founder shape) { role = Dealer k }, [])

-- the processors' seats in order, and the engine's, all knowing of nothing yet
pub record IsMadeOf (shape : Shape) (seats : List FunnelView) (engine : FunnelView) : Type 0 where
  pub count : length seats ≡ shape.processors
  pub seats_new : AreNew engine.domain shape seats
  pub engine_new : engine ≡ new_seat engine.domain shape Engine

-- the tree is the least one with four processors at a leaf and four children at each other node
pub record IsMade (processors : ℕ) (seats : List FunnelView) (engine : FunnelView) : Type 0 where
  pub nodes : ℕ
  pub least : IsLeast processors nodes
  pub made : IsMadeOf (record { processors = processors; nodes = nodes }) seats engine
