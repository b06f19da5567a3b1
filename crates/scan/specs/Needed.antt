-- What one load of the need finds.
use Rattle.std.specs.Prelude.{◌≡◌, ℕ, ◌*◌, ◌<◌, ◌≤◌, Option, MatchOption}
use Rattle.sections.specs.Words.{number_word}
use Rattle.sections.specs.Views.{EngineView}

module _ {N : Type 0} (loads : N → ℕ → N → Type 0) where
  -- the need was loaded once; it is answered where it tells of a period that is still to come, and there may be one more
  pub record FindsNeed (e : EngineView) (needs : N) (asked : Option ℕ) (needs' : N) : Type 0 where
    pub need : ℕ
    pub load : loads needs need needs'
    pub asked_is : MatchOption asked (need ≤ number_word e.changes) (λ n. (n ≡ need) × (number_word e.changes < need) × (number_word e.changes < 4 * e.periods))

  -- it tells of one that is still to come, and as many have ended as there may be
  pub record FindsTooMuch (e : EngineView) (needs needs' : N) : Type 0 where
    pub need : ℕ
    pub load : loads needs need needs'
    pub above : number_word e.changes < need
    pub full : number_word e.changes ≡ 4 * e.periods
