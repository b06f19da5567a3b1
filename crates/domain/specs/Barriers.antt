-- What waiting for a barrier is.
use Rattle.std.specs.Prelude.{◌≡◌, ℕ, ◌+◌, List, [], ◌∷◌, ◌++◌, true, false, length}
use Rattle.calls.specs.declared.view.Act.{Act}
use Rattle.calls.specs.Views.{CallSeatView, TicketView, ReceiptView}
use Rattle.calls.specs.Barriers.{Loads, Polls, finished_loads}
use Rattle.domain.specs.Views.{DomainView}

-- a ticket of a barrier of this domain
abbrev pub IsTicketOf : DomainView → TicketView → Type 0
IsTicketOf d t = t.tallies ≡ d.tallies

module _ {J : Type 0} where
  -- a receipt of a job that was queued at this domain
  abbrev pub IsReceiptOf : DomainView → ReceiptView J → Type 0
  IsReceiptOf d r = r.tallies ≡ d.tallies

  -- the loads of one poll after another, each of which found these counts
  abbrev pub rows_of_loads : List (List ℕ) → List (Act J)
  rows_of_loads [] = []
  rows_of_loads (found ∷ more) = finished_loads 0 found ++ rows_of_loads more

  -- polls in vain, to one of these after another, and then what ends the row
  abbrev pub PollsThrough : (CallSeatView J → CallSeatView J → Type 0) → TicketView → List (CallSeatView J) → CallSeatView J → CallSeatView J → Type 0
  PollsThrough ends t [] s s' = ends s s'
  PollsThrough ends t (m ∷ ms) s s' = Polls t s false m × PollsThrough ends t ms m s'

  -- one poll after another was in vain, until one found the ticket done. The seat made the loads of these polls, and no other deed
  pub record PollsUntilDone (t : TicketView) (s s' : CallSeatView J) : Type 0 where
    pub vain : List (CallSeatView J)
    pub through : PollsThrough (λ m n. Polls t m true n) t vain s s'
    pub found : List (List ℕ)
    pub one_each : length found ≡ length vain + 1
    pub loads : Loads (rows_of_loads found) s s'
