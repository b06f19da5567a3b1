-- Steps at the seat, one behind the other.
use Rattle.std.specs.Prelude.{◌≡◌, ◌≢◌, Bool, true, false, List, [], ◌∷◌}
use Rattle.sections.specs.Views.{EngineView}
use Rattle.sections.specs.EngineCalls.{IsSeenByEngine}
use Rattle.scan.specs.declared.place.Place.{Place}
use Rattle.scan.specs.declared.progress.Progress.{Progress}
use Rattle.scan.specs.declared.progress.Progress.TheVariants.{Step}
use Rattle.scan.specs.Places.{IsAt, Moves}

-- where the engine stands, and with which seat
pub record Stand : Type 0 where
  pub seat : EngineView
  pub place : Place

-- steps without an answer lead from the first of these stands by the others to the last
abbrev pub MovesBy : Stand → List Stand → Stand → Type 0
MovesBy s [] t = t ≡ s
MovesBy s (x ∷ xs) t = Moves s.seat s.place x.seat x.place Step × MovesBy x xs t

module _ (once : Bool) where
  -- from a place steps without an answer led to a place; none yet where one at a time is made
  pub record MovesThrough (e : EngineView) (place : Place) (f : EngineView) (next : Place) : Type 0 where
    pub between : List Stand
    pub row : MovesBy (record { seat = e; place = place }) between (record { seat = f; place = next })
    pub none : once ≡ true → between ≡ []
    pub history : IsSeenByEngine f
    pub place_is : IsAt f next

  -- and then one step led to another, with this answer; or, where one at a time is made, one step did
  pub record MovesUntil (e : EngineView) (place : Place) (f : EngineView) (next : Place) (a : Progress) : Type 0 where
    pub seat : EngineView
    pub last : Place
    pub before : MovesThrough e place seat last
    pub answers : Moves seat last f next a
    pub other : once ≡ false → a ≢ Step
