-- What was loaded of the count of a processor's queued jobs, and what a barrier covers that is started after that.
use Rattle.std.specs.Prelude.{ℕ, ◌<◌, List, [], ◌∷◌, ◌++◌}
use Rattle.calls.specs.declared.view.Act.TheVariants.{LoadQueued}
use Rattle.calls.specs.declared.view.Deed.{Deed}
use Rattle.calls.specs.Tallies.{deed, IsBeginning}
use Rattle.calls.specs.Views.{CallSeatView, TicketView, ReceiptView}
use Rattle.calls.specs.Calls.{LooksAt}
use Rattle.calls.specs.Barriers.{number_for, CoversReceipt, IsDone, IsFinished, Starts, Hears}

module _ {J : Type 0} where
  -- among what was seen is a load that found so many jobs queued on the processor
  pub record HasCounted (p n : ℕ) (seen : List (Deed J)) : Type 0 where
    pub before : List (Deed J)
    pub by : ℕ
    pub upto : IsBeginning (before ++ deed by (LoadQueued p n) ∷ []) seen

module _ (J : Type 0) where
  -- a look at a list, as that of `lens`, counts what is queued there
  abbrev pub LooksCount : Type 0
  LooksCount = (p : ℕ) (s s' : CallSeatView J) (look : LooksAt p s s') → HasCounted p look.found s'.seen

  -- so does a barrier that starts, on each processor
  abbrev pub StartsCount : Type 0
  StartsCount = (p : ℕ) (s : CallSeatView J) (t : TicketView) (s' : CallSeatView J) → p < s.processors → Starts s t s' → HasCounted p (number_for p t) s'.seen

  -- and whoever hears of a receipt
  abbrev pub HearingCounts : Type 0
  HearingCounts = (r : ReceiptView J) (s s' : CallSeatView J) (hears : Hears r s s') → HasCounted r.processor hears.found s'.seen

  -- what was counted stays so for who goes on from there
  abbrev pub CountsStay : Type 0
  CountsStay = (p n : ℕ) (seen later : List (Deed J)) → IsBeginning seen later → HasCounted p n seen → HasCounted p n later

  -- a barrier covers each receipt whose number is below a count that its starter had seen
  abbrev pub CountedAreCovered : Type 0
  CountedAreCovered = (r : ReceiptView J) (n : ℕ) (s : CallSeatView J) (t : TicketView) (s' : CallSeatView J) → HasCounted r.processor n s.seen → r.k < n → r.processor < s.processors → Starts s t s' → CoversReceipt t r

  -- and once the barrier is done, for one who has seen this, the receipt's job was given out and its batch is finished
  abbrev pub CountedAreFinished : Type 0
  CountedAreFinished = (r : ReceiptView J) (n : ℕ) (s : CallSeatView J) (t : TicketView) (s' : CallSeatView J) (seen : List (Deed J)) → HasCounted r.processor n s.seen → r.k < n → r.processor < s.processors → Starts s t s' → IsDone t seen → IsFinished r seen
