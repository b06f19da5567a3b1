-- Processors that ask for grace periods.
use Rattle.std.specs.Prelude.{◌≡◌, ℕ, zero, suc, ◌+◌, ◌*◌, ◌^◌, ◌<◌, ◌≤◌, Bool, true, false, List, length, slice_index_or}
use Rattle.atomic_table.specs.Seated.{TableId}
use Rattle.funnel.specs.declared.view.Shape.{Shape}
use Rattle.funnel.specs.declared.view.Holder.TheVariants.{Processor}
use Rattle.funnel.specs.declared.seat.Level.{Level}
use Rattle.funnel.specs.Views.{FunnelView}
use Rattle.funnel.specs.Calls.{Asks, new_seat}
use Rattle.srcubench.specs.declared.asking.Asker.{Asker}

-- the number that is asked behind so many: a greater one each time, or always the same
abbrev pub asked_number : Bool → ℕ → ℕ
asked_number true asked = 4 * (asked + 1)
asked_number false asked = 4

-- the seat is one of a processor, and there are numbers for so many asks
pub record CanAsk (asks : ℕ) (v : FunnelView) : Type 0 where
  pub few : asks ≤ 2 ^ 54
  pub processor : ℕ
  pub asker : v.holder ≡ Processor processor

-- so many calls were made, one behind the other, with these numbers
abbrev pub AsksAll : Bool → ℕ → FunnelView → FunnelView → Type 0
AsksAll new zero v w = w ≡ v
AsksAll new (suc n) v w = (between : FunnelView) × (level : Level) × AsksAll new n v between × Asks (asked_number new n) between level w

pub record HasAskedAll (new : Bool) (asks : ℕ) (v : FunnelView) (asker : Asker) : Type 0 where
  pub asked : asker.asked ≡ asks
  pub calls : AsksAll new asks v asker.needs

-- each of these processors did so
pub record HaveAskedAll (new : Bool) (asks : ℕ) (seats : List FunnelView) (askers : List Asker) : Type 0 where
  pub count : length askers ≡ length seats
  pub each : (k : ℕ) (v : FunnelView) (a : Asker) → k < length seats → HasAskedAll new asks (slice_index_or seats k v) (slice_index_or askers k a)

-- so did each processor of a new tree of so many
pub record AreAskersOfOne (threads : ℕ) (new : Bool) (asks : ℕ) (askers : List Asker) : Type 0 where
  pub domain : TableId
  pub shape : Shape
  pub count : length askers ≡ threads
  pub each : (k : ℕ) (a : Asker) → k < threads → HasAskedAll new asks (new_seat domain shape (Processor k)) (slice_index_or askers k a)

-- so did one processor of a new tree of so many
pub record HasAskedAlone (processors : ℕ) (new : Bool) (asks : ℕ) : Type 0 where
  pub domain : TableId
  pub nodes : ℕ
  pub number : ℕ
  pub there : number < processors
  pub last : FunnelView
  pub calls : AsksAll new asks (new_seat domain (record { processors = processors; nodes = nodes }) (Processor number)) last
