-- How a session is seen.
use Rattle.std.specs.Prelude.{◌≡◌, All}
use Rattle.sections.specs.Limits.{AreInRange}
use Rattle.session.specs.declared.session.Session.TheInside as session
use Rattle.session.specs.States.{EntryView, SessionView, states_of}
use Rattle.session.specs.Sets.{sets_of, AreAllHere}

module _ {A R : Type 0} where
  abbrev pub view_of_session : session.Inside A R → SessionView
  view_of_session s = record { limits = s.limits; state = record { domains = states_of s.entries.items; sets = sets_of s.sets.items } }

  pub record IsSession (s : session.Inside A R) : Type 0 where
    pub in_range : AreInRange s.limits
    pub cells : s.limits.cells ≡ 2
    pub same : All (λ (e : EntryView). e.limits ≡ s.limits) s.entries.items
    pub here : AreAllHere s.entries.items s.sets.items
