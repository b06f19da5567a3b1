-- What the calls of a stock promise: how many were at home at a moment.
use Rattle.std.specs.Prelude.{◌≡◌, ◌≢◌, ℕ, ◌+◌, List, ◌∷◌, All, length}
use Rattle.trail.specs.Views.{StockView, SightView}

module _ {K : Type 0} where
  -- as a call left it, so many values were at home in the stock
  pub record AreHome (s : StockView K) (many : ℕ) (seen : SightView ℕ) : Type 0 where
    pub lock : seen.lock ≡ s.lock
    pub before : List ℕ
    pub home : seen.seen ≡ many ∷ before

  -- a call found none at home, and left none there
  pub record IsEmpty (s : StockView K) (seen : SightView ℕ) : Type 0 where
    pub lock : seen.lock ≡ s.lock
    pub before : List ℕ
    pub none : seen.seen ≡ 0 ∷ 0 ∷ before

  -- a value of the stock is out, and when it was taken, one was at home less than before
  pub record IsOut (s : StockView K) (out : SightView ℕ) : Type 0 where
    pub lock : out.lock ≡ s.lock
    pub others : ℕ
    pub before : List ℕ
    pub taken : out.seen ≡ others ∷ (others + 1) ∷ before

  -- a value came home, and one more was at home than before
  pub record IsHome (s : StockView K) (seen : SightView ℕ) : Type 0 where
    pub lock : seen.lock ≡ s.lock
    pub others : ℕ
    pub before : List ℕ
    pub given : seen.seen ≡ (others + 1) ∷ others ∷ before

  -- a call found not as many at home as were put in, and left as many
  pub record IsMissing (s : StockView K) (seen : SightView ℕ) : Type 0 where
    pub lock : seen.lock ≡ s.lock
    pub many : ℕ
    pub before : List ℕ
    pub home : seen.seen ≡ many ∷ many ∷ before
    pub not_all : many ≢ s.count

  -- these are as many as were put in, and each is such a one
  abbrev pub AreAll : {X : Type 0} → (X → Type 0) → StockView K → List X → Type 0
  AreAll fit s items = All fit items × (length items ≡ s.count)
