-- How the fields of a lock, of a loan and of a sight are seen, and what is always true of them.
use Rattle.std.specs.Prelude.{◌≡◌, ℕ, List, [], ◌∷◌, Option, None, true, false}
use Rattle.atomic_table.specs.Seated.{TableId}
use Rattle.trail.specs.declared.view.View.{View}
use Rattle.trail.specs.declared.trail.Trail.TheInside as trail
use Rattle.trail.specs.declared.trail.Loan.TheInside as loan
use Rattle.trail.specs.declared.trail.Sight.TheInside as sight
use Rattle.trail.specs.declared.stock.Stock.TheInside as stock
use Rattle.trail.specs.declared.stock.Out.TheInside as out
use Rattle.trail.specs.Views.{TrailView, SightView, StockView}
use Rattle.trail.specs.Rule.{word_count}

module _ {T K E A : Type 0} where
  abbrev pub view_of_trail : trail.Inside T K E A → TrailView K
  view_of_trail t = record { lock = t.table.shared.table_id; key = t.table.shared.key }

  abbrev pub IsTrail : trail.Inside T K E A → Type 0
  IsTrail t = (t.table.shared.table_id.words ≡ word_count) × (t.table.shared.table_id.slots ≡ 1)

module _ {T K E : Type 0} where
  abbrev pub view_of_loan : loan.Inside T K E → SightView E
  view_of_loan l = record { lock = l.seat.table_id; seen = l.seat.me.0.seen }

  -- the value is out with it, and its slot is empty
  abbrev pub IsLoan : loan.Inside T K E → Type 0
  IsLoan l = (l.seat.me.1 ≡ (0, None) ∷ []) × (l.seat.me.0.has ≡ true)

module _ {K E : Type 0} where
  abbrev pub seen_of : List (View K E) → List E
  seen_of [] = []
  seen_of (v ∷ vs) = v.seen

  abbrev pub view_of_sight : sight.Inside K E → SightView E
  view_of_sight s = record { lock = s.badge.table_id; seen = seen_of s.badge.views }

  abbrev pub IsSight : sight.Inside K E → Type 0
  IsSight s = (v : View K E) × (s.badge.views ≡ v ∷ []) × (v.has ≡ false)

abbrev pub view_of_stock : {X K M A : Type 0} → stock.Inside X K M A → StockView K
view_of_stock s = record { lock = s.trail.lock; key = s.trail.key; count = s.count }

abbrev pub view_of_out : {K : Type 0} → out.Inside K → SightView ℕ
view_of_out o = o.sight
