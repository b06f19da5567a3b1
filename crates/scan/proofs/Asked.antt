-- From a load of the need to a step of the engine.
use Rattle.std.proofs.Common.{◌≡◌, ℕ, ◌*◌, ◌<◌, ◌≤◌, Option, None, Some, MatchOption, Bool, true, false, sym, subst, arith}
use Rattle.onedom.specs.declared.event.Maker.TheVariants.{Engine}
use Rattle.onedom.specs.declared.event.Event.TheVariants.{Start}
use Rattle.sections.specs.Glossary.{number_word, EngineView, IsSeenByEngine, AddsEngineEvent}
use Rattle.scan.specs.Glossary.{Place, viewed, IsAt, StepsTo, AdvancesTo, GoesOn, FindsNeed}
use Rattle.scan.specs.declared.place.Place.TheVariants.{Idle, Wanted, Unlocks}
use Rattle.scan.specs.declared.progress.Progress.TheVariants as answer
use Rattle.scan.proofs.Stepping.{nothing_asked, is_asked, nothing_yet, under_way, arrives}
use Rattle.scan.proofs.Flips.{started_moves}
use Rattle.scan.proofs.RowsOfSteps.{stops_at_once, arrives_by}

module _ {N : Type 0} (loads : N → ℕ → N → Type 0) (e : EngineView) (some : 1 ≤ e.processors) (seen : IsSeenByEngine e) (place : Place) (is : place ≡ Idle) (at : IsAt e place) (needs needs' : N) (asked : Option ℕ) (finds : FindsNeed loads e needs asked needs') where
  at_rest : IsAt e Idle
  at_rest = subst (λ p. IsAt e p) is at

  -- none is asked for
  pub none_asked : asked ≡ None → StepsTo loads (viewed e needs place) answer.Idle (viewed e needs' place)
  none_asked none =
      let low : finds.need ≤ number_word e.changes = subst (λ a. MatchOption a (finds.need ≤ number_word e.changes) (λ n. (n ≡ finds.need) × (number_word e.changes < finds.need) × (number_word e.changes < 4 * e.periods))) none finds.asked_is in
      subst (λ p. StepsTo loads (viewed e needs p) answer.Idle (viewed e needs' p)) (sym is) (nothing_asked loads e some seen at_rest needs needs' finds.need finds.load low)

  -- this one is
  asked_for : (n : ℕ) → asked ≡ Some n → (n ≡ finds.need) × (number_word e.changes < finds.need) × (number_word e.changes < 4 * e.periods)
  asked_for n one = subst (λ a. MatchOption a (finds.need ≤ number_word e.changes) (λ m. (m ≡ finds.need) × (number_word e.changes < finds.need) × (number_word e.changes < 4 * e.periods))) one finds.asked_is

  pub one_asked : (n : ℕ) → asked ≡ Some n → StepsTo loads (viewed e needs place) answer.Step (viewed e needs' (Wanted n))
  one_asked n one = let for = asked_for n one in
      subst (λ p. StepsTo loads (viewed e needs p) answer.Step (viewed e needs' (Wanted n))) (sym is)
      (subst (λ m. StepsTo loads (viewed e needs Idle) answer.Step (viewed e needs' (Wanted m))) (sym for.0) (is_asked loads e some seen at_rest needs needs' finds.need finds.load for.1 for.2))

  pub is_wanted : (n : ℕ) → asked ≡ Some n → IsAt e (Wanted n)
  is_wanted n one = let for = asked_for n one in let same = for.0 in let above = for.1 in (at_rest, for.2, omega (arith, same, above))

  -- nothing was half done, and none is asked for
  pub rests : asked ≡ None → AdvancesTo loads (viewed e needs place) answer.Idle (viewed e needs' place)
  rests none = arrives loads (viewed e needs place) (viewed e needs place) (viewed e needs' place) answer.Idle (nothing_yet loads (viewed e needs place)) (none_asked none) (λ h. cc)

  -- either way
  pub goes_idle : (once : Bool) → asked ≡ None → GoesOn loads once (viewed e needs place) answer.Idle (viewed e needs' place)
  goes_idle true none = none_asked none
  goes_idle false none = rests none

  -- one is, and it is started
  starts : (n k : ℕ) (f : EngineView) → asked ≡ Some n → AddsEngineEvent (Start Engine) e f → k ≡ number_word f.changes → AdvancesTo loads (viewed e needs place) (answer.Started k) (viewed f needs' (Unlocks 0 0))
  starts n k f one adds is_number = let wanted = is_wanted n one in
      arrives_by loads needs' (viewed e needs place) e f (Wanted n) (Unlocks 0 0) (answer.Started k) some (λ h. cc) seen wanted
      (under_way loads (viewed e needs place) (viewed e needs place) (viewed e needs' (Wanted n)) (nothing_yet loads (viewed e needs place)) (one_asked n one))
      (stops_at_once false e f (Wanted n) (Unlocks 0 0) (answer.Started k) seen wanted (started_moves e f n k seen some wanted adds is_number) (λ _ h. cc))

  -- where one step is made, that was it; where steps are made until there is an answer, the start is it
  pub goes_wanted : (once : Bool) (n : ℕ) → once ≡ true → asked ≡ Some n → GoesOn loads once (viewed e needs place) answer.Step (viewed e needs' (Wanted n))
  goes_wanted true n on one = one_asked n one
  goes_wanted false n on one = absurd cc

  pub goes_started : (once : Bool) (n k : ℕ) (f : EngineView) → once ≡ false → asked ≡ Some n → AddsEngineEvent (Start Engine) e f → k ≡ number_word f.changes → GoesOn loads once (viewed e needs place) (answer.Started k) (viewed f needs' (Unlocks 0 0))
  goes_started true n k f off one adds is_number = absurd cc
  goes_started false n k f off one adds is_number = starts n k f one adds is_number
