-- A log: entries in their order, each with its maker.
use Rattle.std.specs.Prelude.{◌≡◌, ℕ, ◌==◌, Bool, true, false, List, ◌++◌, filter}

-- who makes entries: the one who deals all seats, and those who sit
pub data Maker : Type 0 where
  Head : Maker
  Sitter : ℕ → Maker

abbrev pub same_maker : Maker → Maker → Bool
same_maker Head Head = true
same_maker Head (Sitter n) = false
same_maker (Sitter m) Head = false
same_maker (Sitter m) (Sitter n) = m == n

module _ {E : Type 0} where
  -- a beginning of a log
  pub record IsBeginning (seen log : List E) : Type 0 where
    pub rest : List E
    pub whole : log ≡ seen ++ rest

  -- those that this one made
  abbrev pub made_by : (E → Maker) → Maker → List E → List E
  made_by by m log = filter (λ e. same_maker (by e) m) log
