-- Processors of one domain that threads take and give back.
use Rattle.std.specs.Prelude.{◌≡◌, ◌≢◌, ℕ, ◌+◌, List, ◌∷◌, All, length}
use Rattle.atomic_table.specs.Seated.{TableId}
use Rattle.trail.specs.Views.{SightView}
use Rattle.domain.specs.Views.{DomainView, CpuView, IsOf}
use Rattle.domain.specs.Waiting.{HasNoneOpen}

-- which pool it is, of which domain the processors are, and how many there are, with those that are out
pub record PoolView : Type 0 where
  pub pool : TableId
  pub domain : DomainView
  pub count : ℕ

-- the processor of this number is out of this pool
pub record SlipView : Type 0 where
  pub pool : TableId
  pub processor : ℕ

-- At home

-- at a moment of the pool so many processors were at home, and before that so many each time that one had come or gone
pub record WereAtHome (p : PoolView) (many : ℕ) (before : List ℕ) (home : SightView ℕ) : Type 0 where
  pub pool : home.lock ≡ p.pool
  pub seen : home.seen ≡ many ∷ before

-- a call found no processor of the pool at home, and left none there
abbrev pub NoneAtHome : PoolView → SightView ℕ → Type 0
NoneAtHome p home = (before : List ℕ) × WereAtHome p 0 (0 ∷ before) home

-- a processor came home: one more is there than was before
abbrev pub OneMoreAtHome : PoolView → SightView ℕ → Type 0
OneMoreAtHome p home = (others : ℕ) × (before : List ℕ) × WereAtHome p (others + 1) (others ∷ before) home

-- a call found not all processors of the pool at home, and left as many
abbrev pub OneIsOut : PoolView → SightView ℕ → Type 0
OneIsOut p home = (many : ℕ) × (before : List ℕ) × WereAtHome p many (many ∷ before) home × (many ≢ p.count)

module _ {J : Type 0} where
  -- a processor of this domain on which no reading is open
  pub record IsIdle (d : DomainView) (c : CpuView J) : Type 0 where
    pub here : IsOf d c
    pub closed : HasNoneOpen c

  -- such a one, of this number
  pub record IsLent (d : DomainView) (c : CpuView J) (lent : ℕ) : Type 0 where
    pub idle : IsIdle d c
    pub number : lent ≡ c.cpu.processor

  -- such a one, and the slip of this pool with which just this one is out
  pub record IsOut (p : PoolView) (c : CpuView J) (slip : SlipView) : Type 0 where
    pub pool : slip.pool ≡ p.pool
    pub lent : IsLent p.domain c slip.processor

  -- all processors of the pool
  abbrev pub AreAllHome : PoolView → List (CpuView J) → Type 0
  AreAllHome p cpus = All (IsIdle p.domain) cpus × (length cpus ≡ p.count)
