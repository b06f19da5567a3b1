-- What holds of the tally words of all callbacks, of every barrier, and of totals.
use Rattle.std.specs.Prelude.{◌≡◌, ◌≢◌, ℕ, ◌+◌, ◌<◌, ◌≤◌, ◌⊎◌, List, [], ◌∷◌, ◌++◌, Option, length, map, take, drop, slice_index}
use mathlib.Core.Option.{some}
use lib.ListN.{get_elem?}
use Rattle.atomic_table.specs.Table.{State, Splits, Joins}
use Rattle.calls.specs.declared.view.Plan.{Plan}
use Rattle.calls.specs.declared.view.Act.TheVariants.{Take}
use Rattle.calls.specs.declared.view.Deed.{Deed}
use Rattle.annals.specs.declared.view.Role.TheVariants.{Sits}
use Rattle.calls.specs.Lines.{count_out, line_in, calls_in}
use Rattle.calls.specs.Tallies.{deed, queued_place, finished_place, queued_in, finished_in, given_out, deeds_of, IsBeginning, AreTrue}
use Rattle.calls.specs.Rule.{View, no_rights, Kept, note}
use Rattle.calls.specs.Views.{CallSeatView, TicketView, ReceiptView}
use Rattle.calls.specs.Barriers.{IsQueued, IsFinished, IsDone, Starts}
use Rattle.calls.specs.Totals.{AddsUp, AreTotals}

module _ {J : Type 0} where
  -- there is one list of what was done, and the words hold its counts. Each deed is one that could be done, by those before it, no more calls are finished than were queued, and every seat has seen a beginning
  pub record HasOneHistory (plan : Plan) (s : State (Option ℕ) (View J)) : Type 0 where
    pub log : List (Deed J)
    pub loads : AreTrue log
    pub queued : (p : ℕ) → p < plan.processors → slice_index s.words (queued_place p) ≡ queued_in p log
    pub finished : (p : ℕ) → p < plan.processors → slice_index s.words (finished_place p) ≡ finished_in p log
    pub within : (p : ℕ) → finished_in p log ≤ queued_in p log
    pub seen : (j : ℕ) (v : View J) → get_elem? s.views j ≡ some v → IsBeginning v.seen log

  -- the seat of processor 0 before any step
  abbrev pub idle_seat : View J
  idle_seat = record { role = Sits 0; seen = []; told = []; done = []; client = no_rights }

module _ (J : Type 0) where
  -- the rule, which holds between any two steps, says so
  abbrev pub OneHistory : Type 0
  OneHistory = (plan : Plan) (s : State (Option ℕ) (View J)) → Kept plan s → HasOneHistory plan s

  -- no seat gets a deed of processor 0's that was not done, however that processor's seat is cut in two or joined with another
  pub record NoStepIsForged : Type 0 where
    pub splits : (plan : Plan) (d : Deed J) (left right : View J) → d.by ≡ 0 → (left.seen ≡ d ∷ []) ⊎ (right.seen ≡ d ∷ []) → ¬ Splits (Kept plan) 0 idle_seat left right
    pub joins : (plan : Plan) (d : Deed J) (both spent : View J) → d.by ≡ 0 → (both.seen ≡ d ∷ []) ⊎ (spent.seen ≡ d ∷ []) → ¬ Joins (Kept plan) 0 idle_seat 2 (note idle_seat) both spent

  -- Jobs

  -- what waits on a processor, and behind it what came in, is just what was queued there and not given out, in its order
  abbrev pub WaitsInOrder : Type 0
  WaitsInOrder = (p : ℕ) (seen : List (Deed J)) → AreTrue seen → map (λ e. e.0) (line_in p seen).waiting ++ (line_in p seen).coming ≡ drop (given_out p seen) (calls_in p seen)

  -- a batch begins with the number of those that are finished. It ends before any batch begins that is taken behind it
  abbrev pub GivesOnce : Type 0
  GivesOnce = (p : ℕ) (by number max moved by' number' max' moved' : ℕ) (before later : List (Deed J)) → IsBeginning (before ++ deed by (Take p number max moved) ∷ []) later → AreTrue (later ++ deed by' (Take p number' max' moved') ∷ [])
      → finished_in p before + count_out (line_in p (before ++ deed by (Take p number max moved) ∷ [])).out ≤ finished_in p later

  -- the calls that were queued are as many as are counted, and stay as they are
  pub record KeepsCalls : Type 0 where
    pub counted : (p : ℕ) (seen : List (Deed J)) → length (calls_in p seen) ≡ queued_in p seen
    pub stay : (p : ℕ) (seen later : List (Deed J)) → IsBeginning seen later → calls_in p seen ≡ take (queued_in p seen) (calls_in p later)

  -- Barriers

  -- what was queued stays so
  abbrev pub StaysQueued : Type 0
  StaysQueued = (r : ReceiptView J) (seen later : List (Deed J)) → IsBeginning seen later → IsQueued r seen → IsQueued r later

  -- and what is finished
  abbrev pub StaysFinished : Type 0
  StaysFinished = (r : ReceiptView J) (seen later : List (Deed J)) → IsBeginning seen later → IsFinished r seen → IsFinished r later

  -- a barrier that is done, for one who has seen this, covers each receipt whose call its starter had seen queued
  abbrev pub BarriersCover : Type 0
  BarriersCover = (r : ReceiptView J) (s : CallSeatView J) (t : TicketView) (s' : CallSeatView J) (seen : List (Deed J)) → Starts s t s' → r.processor < s.processors → IsQueued r s.seen → IsDone t seen → IsFinished r seen

  -- Totals

  -- where no other processor that is there did anything while a seat added the tally words up, the sums are those of what it has then seen
  abbrev pub TotalsAreExact : Type 0
  TotalsAreExact = (s t : CallSeatView J) (all done : ℕ) → AddsUp s all done t → ((q : ℕ) → q < s.processors → q ≢ s.processor → deeds_of q t.seen ≡ deeds_of q s.seen) → AreTotals s all done t
