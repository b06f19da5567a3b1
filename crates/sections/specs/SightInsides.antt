-- How the field of a sight is seen, and what is always true of it.
use Rattle.std.specs.Prelude.{◌≡◌, []}
use Rattle.sections.specs.declared.view.Right.TheVariants.{Nothing}
use Rattle.sections.specs.declared.sight.Sight.TheInside as sight
use Rattle.sections.specs.Rule.{token}
use Rattle.sections.specs.Sights.{SightView}

abbrev pub view_of_sight : sight.Inside → SightView
view_of_sight s = record { domain = s.seat.table_id; seen = s.seat.me.0.seen; changes = s.seat.me.0.changes }

pub record IsSight (s : sight.Inside) : Type 0 where
  pub bare : s.seat.me.1 ≡ []
  pub plain : s.seat.me.0 ≡ token s.seat.me.0.seen s.seat.me.0.changes s.seat.me.0.texts Nothing
