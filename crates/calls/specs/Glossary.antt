-- The words of `calls`, for files that cite them.
pub use Rattle.calls.specs.Arrivals.{Follows, GoesOn, IsGiven, entries_in}
pub use Rattle.calls.specs.Barriers.{CoversAll, Hears, IsCountBetween, IsDone, Loads, Polls, finished_loads, number_for, queued_loads}
pub use Rattle.calls.specs.Calls.{AreHanded, AreMade, Came, FindsLens, FindsLensIn, FindsOut, FinishesIn, FitsIn, Gathers, GivesOut, InvokesIn, IsCause, IsHanded, IsInvoking, IsListOf, IsOfProcessor, IsSameSeat, IsTaken, LacksRoom, LacksRoomIn, LooksAt, MovesAll, MovesOne, NotesLack, QueuesIn, Refuses, RefusesIn, Takes, TakesAll, TakesIn, TakesNothing, TakesNothingIn, TakesReady, new_seat}
pub use Rattle.calls.specs.Insides.{AreOfDomain, IsCallSeat, IsIntake, IsLast, IsList, IsReceipt, domain_of, tallies_of, view_of_list, view_of_seat}
pub use Rattle.calls.specs.Laws.{BarriersCover, GivesOnce, KeepsCalls, NoStepIsForged, OneHistory, StaysFinished, StaysQueued, TotalsAreExact, WaitsInOrder, idle_seat}
pub use Rattle.calls.specs.Lines.{Line, all_moved, call_of, calls_in, count_out, gathered, last_number, line_from, line_in, many_ready, next_line, no_calls, readied, some_out, with_call, with_moved, with_none_out, with_taken}
pub use Rattle.calls.specs.Making.{IsDealer}
pub use Rattle.calls.specs.Meetings.{Accepts, Covers, SeesOut}
pub use Rattle.calls.specs.Plays.{FindsAll, Finishes, IsAdmitted, IsOut, LacksThere, Sat, TakesOut, admitted, batch_of, counts_finished, counts_queued, finishes, found_all, found_list, found_out, known_finished, known_taken, lacks_room, line_taken, queues, takes_out}
pub use Rattle.calls.specs.Rule.{Agrees, HasBatch, HasList, IsAs, IsCall, IsCounted, IsThere, IsUndealt, Kept, Knows, Pending, Right, View, announced, announcing, batch_seat, call_of_right, has, has_batch, has_call, has_list, has_lists, known_moved, list_seat, moving, new_list, no_rights, none_had, note, only_batch, only_list, right_moved, tally_client, with_batch, with_list, without_batch, without_list}
pub use Rattle.calls.specs.Rule.Right.{TheBatch, TheCall, TheList}
pub use Rattle.calls.specs.Seats.{FinishesBatch, IsAboutTo, IsAtRest, IsBatchSeat, IsCallPlace, IsKnown, IsListSeat, IsOfCaller, IsPlaced, Place, SeesList, TakesOne, first_known, known_in, next_known}
pub use Rattle.calls.specs.Tallies.{AreTakers, AreTrue, AreTrueAfter, IsBeginning, IsTaker, IsTrueOf, deed, deeds_of, finished_by, finished_in, finished_place, given_out, is_queue, most_calls, queued_by, queued_in, queued_place, word_count}
pub use Rattle.calls.specs.Totals.{AddsUp, AreTotals, added, all_finished, all_queued}
pub use Rattle.calls.specs.Views.{BatchView, CallSeatView, CallsView, IsListIn, ListKey, ListView, NoteView, ReceiptView, TicketView, key_of, next_of}
pub use Rattle.calls.specs.Waiting.{AreRising, AreWaiting, GoesOut, IsDue, IsReached, IsWaiting, entries_of, wrapped}
pub use Rattle.calls.specs.declared.entry.Arrival.{Arrival}
pub use Rattle.calls.specs.declared.entry.Entry.{Entry}
pub use Rattle.calls.specs.declared.refusals.CallRefusal.{CallRefusal}
pub use Rattle.calls.specs.declared.refusals.TakeRefusal.{TakeRefusal}
pub use Rattle.calls.specs.declared.view.Act.{Act}
pub use Rattle.calls.specs.declared.view.BatchRight.{BatchRight}
pub use Rattle.calls.specs.declared.view.Deed.{Deed}
pub use Rattle.calls.specs.declared.view.Known.{Known}
pub use Rattle.calls.specs.declared.view.ListRight.{ListRight}
pub use Rattle.calls.specs.declared.view.Plan.{Plan}
pub use Rattle.calls.specs.declared.view.Rights.{Rights}
