-- Barriers of a domain in one hand.
use Rattle.std.specs.Prelude.{◌≡◌, ℕ, ◌≤◌, List, length, slice_index}
use Rattle.calls.specs.Views.{TicketView}
use Rattle.solo.specs.Calls.{SoloView}

module _ {J : Type 0} where
  -- the ticket of a barrier that starts now: it waits for what is queued, on every processor
  abbrev pub ticket_of : SoloView J → TicketView
  ticket_of d = record { tallies = d.tallies; numbers = d.course.queued }

  -- a ticket of this domain, with a number for each processor
  abbrev pub IsTicketOf : SoloView J → TicketView → Type 0
  IsTicketOf d t = (t.tallies ≡ d.tallies) × (length t.numbers ≡ d.course.standing.processors)

-- of each processor as many are finished
abbrev pub AreReached : List ℕ → List ℕ → Type 0
AreReached numbers finished = (p : ℕ) → slice_index numbers p ≤ slice_index finished p
