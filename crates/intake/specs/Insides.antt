-- How the fields of the ends of a line, of a handover and of its giver are seen, and what is always true of them.
use Rattle.std.specs.Prelude.{◌≡◌, Option, Some, None}
use Rattle.std.specs.Arc.{arc_value}
use Rattle.atomic_table.specs.Seated.{TableId}
use Rattle.crossbeam_queue.specs.SegTies.{IsSegPassOf}
use Rattle.intake.specs.declared.view.Role.{Role}
use Rattle.intake.specs.declared.view.Role.TheVariants.{Founder, Pusher, Taker}
use Rattle.intake.specs.declared.inlet.Inlet.TheInside as inlet
use Rattle.intake.specs.declared.outlet.Outlet.TheInside as outlet
use Rattle.intake.specs.declared.handover.Handover.TheInside as handover
use Rattle.intake.specs.declared.handover.Giver.TheInside as giver
use Rattle.intake.specs.declared.lazy.LazyInlet.TheInside as lazy_inlet
use Rattle.intake.specs.declared.lazy.LazyOutlet.TheInside as lazy_outlet
use Rattle.intake.specs.Views.{InletView, OutletView, HandoverView, LazyInletView, LazyOutletView}
use Rattle.intake.specs.Passing.{HasSlot}
use Rattle.intake.specs.Lazily.{pushed_in, taken_in, IsInStage, IsOfKey}

-- the key of an end
abbrev pub key_in : {K : Type 0} → Role K → Option K
key_in Founder = None
key_in (Pusher key) = key
key_in (Taker key) = key

abbrev pub view_of_handover : {T K A : Type 0} → handover.Inside T K A → HandoverView K
view_of_handover h = record { place = h.table.shared.table_id; key = h.table.shared.key }

abbrev pub IsHandover : {T K A : Type 0} → handover.Inside T K A → Type 0
IsHandover h = (h.table.shared.table_id.words ≡ 1) × (h.table.shared.table_id.slots ≡ 1)

abbrev pub view_of_giver : {T K : Type 0} → giver.Inside T K → TableId
view_of_giver g = g.seat.table_id

abbrev pub IsGiver : {T K : Type 0} → giver.Inside T K → Type 0
IsGiver g = HasSlot g.seat.me

module _ {T K A : Type 0} where
  abbrev pub view_of_inlet : inlet.Inside T K A → InletView T K A
  view_of_inlet i = record { line = record { web = i.pass.web; heap = i.pass.heap }; key = key_in i.pass.me.view.client.role; pushed = i.pass.me.view.client.seen }

  pub record IsInlet (i : inlet.Inside T K A) : Type 0 where
    pub seated : IsSegPassOf (arc_value i.line).queue i.pass
    pub role : i.pass.me.view.client.role ≡ Pusher (key_in i.pass.me.view.client.role)

  abbrev pub view_of_outlet : outlet.Inside T K A → OutletView T K A
  view_of_outlet o = record { line = record { web = o.pass.web; heap = o.pass.heap }; key = key_in o.pass.me.view.client.role; taken = o.pass.me.view.client.seen }

  pub record IsOutlet (o : outlet.Inside T K A) : Type 0 where
    pub seated : IsSegPassOf (arc_value o.line).queue o.pass
    pub role : o.pass.me.view.client.role ≡ Taker (key_in o.pass.me.view.client.role)

  abbrev pub view_of_lazy_inlet : lazy_inlet.Inside T K A → LazyInletView T K
  view_of_lazy_inlet i = record { place = (arc_value i.place).place; key = Some (arc_value i.place).key; pushed = pushed_in i.inlet }

  abbrev pub IsLazyInlet : lazy_inlet.Inside T K A → Type 0
  IsLazyInlet i = IsInStage (arc_value i.place) i.giver i.inlet

  abbrev pub view_of_lazy_outlet : lazy_outlet.Inside T K A → LazyOutletView T K
  view_of_lazy_outlet o = record { place = (arc_value o.place).place; key = Some (arc_value o.place).key; taken = taken_in o.outlet }

  abbrev pub IsLazyOutlet : lazy_outlet.Inside T K A → Type 0
  IsLazyOutlet o = IsOfKey (arc_value o.place).key o.outlet
