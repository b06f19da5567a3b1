-- Work on what lies in a bay, where it lies.
use Rattle.std.specs.Prelude.{◌≡◌, Some, None}
use Rattle.atomic_table.specs.Seated.{TableId}
use Rattle.desk.specs.BayViews.{BaySeatView}
use Rattle.desk.specs.BayCalls.{MakesSwap, IsLikeFirst}

module _ {T : Type 0} (domain : T → TableId) (like : T → T → Type 0) (v : BaySeatView T) where
  -- such a value may lie in the bay
  abbrev pub MayLieThere : T → Type 0
  MayLieThere x = (domain x ≡ v.domain) × IsLikeFirst like v x

  -- one swap found the value, a task left another, and the next swap of this seat left that there; it found nothing
  pub record Works (task : T → T → Type 0) (v' : BaySeatView T) : Type 0 where
    pub found : T
    pub left : T
    pub took : BaySeatView T
    pub may : MayLieThere found
    pub takes : MakesSwap v None (Some found) took
    pub works : task found left
    pub puts : MakesSwap took (Some left) None v'
