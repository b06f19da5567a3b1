-- How far a domain in one hand has come, and what an act of one of its processors adds.
use Rattle.std.specs.Prelude.{◌≡◌, ℕ, zero, suc, ◌+◌, max, None, List, [], ◌∷◌, ◌++◌, slice_index, slice_set}
use Rattle.onedom.specs.declared.event.Event.{Event}
use Rattle.onedom.specs.Histories.{IsLegalAfter}
use Rattle.scan.specs.Standings.{Standing}
use Rattle.domain.specs.Acting.{Act}

-- `standing` has its processors, its history, and how far its grace periods have come; `asked` is the greatest number that was asked for, 0 if none; `queued` is how many jobs were ever queued, and `finished` how many of these are finished, for each processor in order
pub record Course : Type 0 where
  pub standing : Standing
  pub asked : ℕ
  pub queued : List ℕ
  pub finished : List ℕ

-- Acts of a processor

-- the greatest number that was asked for, with this one
abbrev pub with_asked : ℕ → ℕ → ℕ
with_asked zero asked = asked
with_asked (suc n) asked = max asked (suc n)

-- so many more at the place
abbrev pub more_at : ℕ → ℕ → List ℕ → List ℕ
more_at p zero counts = counts
more_at p (suc n) counts = slice_set counts p (slice_index counts p + suc n)

abbrev pub with_events : List Event → List Event → List Event
with_events [] history = history
with_events (e ∷ es) history = history ++ e ∷ es

-- these events, and a cookie that is asked for (0 if none is)
abbrev pub all_of : List Event → ℕ → Act
all_of events asked = record { events = events; asked = asked; queued = 0; finished = 0; owner = 0; list = None }

-- how far the domain has come behind an act of processor p
abbrev pub after : ℕ → Act → Course → Course
after p a c = record {
  standing = record c.standing { history = with_events a.events c.standing.history };
  asked = with_asked a.asked c.asked;
  queued = more_at p a.queued c.queued;
  finished = more_at a.owner a.finished c.finished;
}

-- processor p acts so, and nothing else happens
pub record Does (p : ℕ) (what : ℕ → Act) (c c' : Course) : Type 0 where
  pub follows : IsLegalAfter c.standing.history (what p).events
  pub come : c' ≡ after p (what p) c

-- what the engine does: nothing is asked for, queued or finished
pub record Works (work : Standing → Standing → Type 0) (c c' : Course) : Type 0 where
  pub work_is : work c.standing c'.standing
  pub rest : c' ≡ record c { standing = c'.standing }
