-- For the tests of sets: a poll of a member opens no reading.
use Rattle.std.specs.Prelude.{ℕ, Bool, Option, None, Some, MatchOption}
use Rattle.std.proofs.Common.{refl}
use Rattle.sections.specs.Sights.{SightView}
use Rattle.domain.specs.Views.{CpuView}
use Rattle.domain.specs.Acting.{ActsAs, asks_whether, loads}
use Rattle.domain.specs.Waiting.{HasNoneOpen}
use Rattle.domain.proofs.CallerLemmas.{none_still, same_plain, same_quiet}

module _ {J : Type 0} where
  pub none_polled : (found : Option SightView) (number : ℕ) (done : Bool) (c c' : CpuView J) → MatchOption found (ActsAs (asks_whether number done) c c') (λ _. ActsAs loads c c') → HasNoneOpen c → HasNoneOpen c'
  none_polled None number done c c' acts none = none_still c c' (same_plain _ _ c c' acts _ refl refl (λ s. refl)) none
  none_polled (Some s) number done c c' acts none = none_still c c' (same_quiet _ _ c c' acts refl) none
