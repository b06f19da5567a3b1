-- Batches of a domain in one hand: what is known of the jobs in one.
use Rattle.std.specs.Prelude.{ℕ, ◌≤◌, List, All, length, map}
use Rattle.onedom.specs.declared.event.Event.{Event}
use Rattle.calls.specs.declared.entry.Entry.{Entry}
use Rattle.calls.specs.Calls.{AreHanded}

module _ {J : Type 0} where
  -- the jobs themselves, in order
  abbrev pub jobs_of : List (Entry J) → List J
  jobs_of entries = map (λ e. e.job) entries

  -- jobs that are given out at once: at most `max` and at most eight. The cookies of all are done where the number is `far`, and with the history `now` each of them was given out after a grace period behind its queueing
  pub record AreReady (max far : ℕ) (now : List Event) (entries : List (Entry J)) : Type 0 where
    pub few : length entries ≤ 8
    pub most : length entries ≤ max
    pub done : All (λ e. e.cookie.number ≤ far) entries
    pub handed : AreHanded entries now
