-- Barriers: what a ticket says, when it is done, and which receipts it covers.
use Rattle.std.specs.Prelude.{◌≡◌, ℕ, ◌+◌, ◌<◌, ◌≤◌, Bool, MatchBool, List, [], ◌∷◌, ◌++◌, length, map, slice_index, Some, slice_get}
use Rattle.calls.specs.declared.view.Act.{Act}
use Rattle.calls.specs.declared.view.Act.TheVariants.{LoadQueued, LoadFinished}
use Rattle.calls.specs.declared.view.Deed.{Deed}
use Rattle.calls.specs.Lines.{calls_in}
use Rattle.calls.specs.Tallies.{deed, queued_in, finished_in, deeds_of, AreTrue, IsBeginning}
use Rattle.calls.specs.Views.{CallSeatView, TicketView, ReceiptView}
use Rattle.calls.specs.Calls.{IsSameSeat, Does}

-- Receipts

module _ {J : Type 0} where
  -- the receipt's call was queued, for one who has seen this
  abbrev pub IsQueued : ReceiptView J → List (Deed J) → Type 0
  IsQueued r seen = r.k < queued_in r.processor seen

  -- and it is the one of its number that was queued there, with its cookie
  abbrev pub IsCallOf : ReceiptView J → List (Deed J) → Type 0
  IsCallOf r seen = (job : J) × (slice_get (calls_in r.processor seen) r.k ≡ Some (record { job = job; cookie = r.cookie }))

  -- its job was given out, and the batch in which it was is finished
  abbrev pub IsFinished : ReceiptView J → List (Deed J) → Type 0
  IsFinished r seen = r.k < finished_in r.processor seen

-- Tickets

-- how many calls of a processor have to be finished: none of one that isn't there
abbrev pub number_for : ℕ → TicketView → ℕ
number_for p t = slice_index t.numbers p

module _ {J : Type 0} where
  -- the receipt's call is one of those
  abbrev pub CoversReceipt : TicketView → ReceiptView J → Type 0
  CoversReceipt t r = r.k < number_for r.processor t

  -- done, for one who has seen this: each finished count has reached its number
  abbrev pub IsDone : TicketView → List (Deed J) → Type 0
  IsDone t seen = (p : ℕ) → number_for p t ≤ finished_in p seen

  -- Loads

  -- so much was counted at a moment that was not before the first history, and not after the second
  pub record IsCountBetween (count : List (Deed J) → ℕ) (n : ℕ) (seen seen' : List (Deed J)) : Type 0 where
    pub moment : List (Deed J)
    pub not_before : IsBeginning seen moment
    pub not_after : IsBeginning moment seen'
    pub counted : n ≡ count moment

  -- the seat made these loads, in this order, and no other deed. Each load in what it has then seen found what was counted
  pub record Loads (acts : List (Act J)) (s s' : CallSeatView J) : Type 0 where
    pub same : IsSameSeat s s'
    pub since : IsBeginning s.seen s'.seen
    pub own : deeds_of s.processor s'.seen ≡ deeds_of s.processor s.seen ++ map (deed s.processor) acts
    pub loads : AreTrue s'.seen

  -- one load for each number, of the processors from p on
  abbrev pub queued_loads : ℕ → List ℕ → List (Act J)
  queued_loads p [] = []
  queued_loads p (n ∷ ns) = LoadQueued p n ∷ queued_loads (p + 1) ns

  abbrev pub finished_loads : ℕ → List ℕ → List (Act J)
  finished_loads p [] = []
  finished_loads p (n ∷ ns) = LoadFinished p n ∷ finished_loads (p + 1) ns

  -- Calls

  -- each queued word was loaded once, and the ticket has what was found: the queued count at a moment of the call
  pub record Starts (s : CallSeatView J) (t : TicketView) (s' : CallSeatView J) : Type 0 where
    pub tallies : t.tallies ≡ s.tallies
    pub whole : length t.numbers ≡ s.processors
    pub loads : Loads (queued_loads 0 t.numbers) s s'
    pub each : (p : ℕ) → p < s.processors → IsCountBetween (queued_in p) (number_for p t) s.seen s'.seen
    pub not_below : (p : ℕ) → p < s.processors → queued_in p s.seen ≤ number_for p t

  -- the ticket covers each receipt, of a processor that is there, whose call was queued for one who has seen this
  abbrev pub CoversAll : TicketView → ℕ → List (Deed J) → Type 0
  CoversAll t processors seen = (r : ReceiptView J) → r.processor < processors → IsQueued r seen → CoversReceipt t r

  -- at a moment of the call a finished count was below its number
  pub record IsBehind (t : TicketView) (s s' : CallSeatView J) : Type 0 where
    pub processor : ℕ
    pub found : ℕ
    pub counted : IsCountBetween (finished_in processor) found s.seen s'.seen
    pub below : found < number_for processor t

  -- the finished words were loaded in order, up to the first that was below its number: all of them where none was
  pub record Polls (t : TicketView) (s : CallSeatView J) (done : Bool) (s' : CallSeatView J) : Type 0 where
    pub found : List ℕ
    pub loads : Loads (finished_loads 0 found) s s'
    pub answer : MatchBool done
        ((length found ≡ s.processors) × ((p : ℕ) → p < length found → number_for p t ≤ slice_index found p))
        ((front : List ℕ) × (n : ℕ) × (found ≡ front ++ n ∷ []) × (n < number_for (length front) t) × ((p : ℕ) → p < length front → number_for p t ≤ slice_index front p))

  -- each receipt that the ticket covers is finished, for one who has seen this
  abbrev pub AreFinished : TicketView → List (Deed J) → Type 0
  AreFinished t seen = (r : ReceiptView J) → CoversReceipt t r → IsFinished r seen

  -- one load of the queued word of the receipt's processor. What the one who queued the job had seen is then seen, and the load found no less than had been queued there by then
  pub record Hears (r : ReceiptView J) (s s' : CallSeatView J) : Type 0 where
    pub found : ℕ
    pub does : Does (LoadQueued r.processor found) s s'
    pub covers : IsBeginning r.seen s'.seen
    pub not_below : queued_in r.processor r.seen ≤ found
