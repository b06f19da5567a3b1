-- How the fields of a seat are seen, and what is always true of them.
use Rattle.std.specs.Prelude.{◌≡◌, []}
use Rattle.std.specs.Arc.{arc_value}
use Rattle.atomic_table.specs.Seated.{TableId}
use Rattle.funnel.specs.declared.view.Shape.{Shape}
use Rattle.funnel.specs.declared.view.Holder.{Holder}
use Rattle.funnel.specs.declared.view.Holder.TheVariants.{Processor, Engine}
use Rattle.funnel.specs.declared.seat.FunnelSeat.TheInside as seat
use Rattle.funnel.specs.declared.tree.Funnel.TheInside as funnel
use Rattle.funnel.specs.Rule.{loads_of, IsHolder}
use Rattle.funnel.specs.Seats.{IsPlaced, IsAtRest, IsInTree}
use Rattle.funnel.specs.Views.{FunnelView}

abbrev pub HasLeaf : Shape → Holder → Type 0
HasLeaf shape (Processor p) = IsInTree shape p
HasLeaf shape Engine = Unit {0}

module _ {A : Type 0} where
  abbrev pub view_of_seat : seat.Inside A → FunnelView
  view_of_seat s = record { domain = s.seat.table_id; shape = (arc_value s.table).shared.key; holder = s.holder; seen = s.seat.me.0.seen; mine = s.seat.me.0.client.mine; loads = loads_of s.holder s.seat.me.0.done }

  abbrev pub view_of_funnel : funnel.Inside A → TableId
  view_of_funnel f = (arc_value f.table).shared.table_id

  pub record IsFunnelSeat (s : seat.Inside A) : Type 0 where
    pub placed : IsPlaced (arc_value s.table).shared.key (arc_value s.table).shared.table_id s.seat
    pub rests : IsAtRest s.seat.me.0
    pub told : s.seat.me.0.told ≡ []
    pub holder : IsHolder s.seat.me.0.role s.holder
    pub nodes : s.nodes ≡ (arc_value s.table).shared.key.nodes
    pub leaf : HasLeaf (arc_value s.table).shared.key s.holder
