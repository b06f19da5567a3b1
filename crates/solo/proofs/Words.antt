-- The words and lemmas that the proofs of `solo` cite, its own and those from below.
pub use mathlib.Core.Logic.{dite}
pub use native.Mathlib.Decide.{dec_lt, ℕ_discrete}
pub use Rattle.atomic_table.specs.Seated.{TableId}
pub use Rattle.std.proofs.Math.Seq.{drop-length, take-append_seam, take-length}
pub use Rattle.std.proofs.lemmas.List.{append_cancel_left, ext_get_or, get_or-map, get_or_default, get_or_past, length-drop, length-map, map-append, set-get_or}
pub use Rattle.std.proofs.lemmas.List.Elements.{All-cons, All-head, All-nil, All-tail, All-weaker, filter-append, filter_map-append}
pub use Rattle.std.specs.Prelude.{All, Bool, Err, IfErr, IfOk, IfSome, IsErr, IsSome, MatchBool, MatchOption, MatchResult, None, Ok, Option, Result, Some, false, replicate, slice_get, slice_set, true, ◌%◌, ◌≢◌, ◌⊎◌}
pub use Rattle.sseq.specs.Numbers.{cookie_at, periods_ended}
pub use Rattle.sseq.specs.declared.index.Index.{Index}
pub use Rattle.onedom.proofs.CallerLemmas.{beginning_append, beginning_refl, beginning_trans, ended_in_push, legal_after_append, made_by_other, made_by_own, same_maker_refl, starts_in_push, version_kept, version_put}
pub use Rattle.onedom.specs.Histories.{IsBeginning, IsLegal, IsLegalAfter, IsRunning, cookie_after, ended_in, made_by, maker_of, same_maker, starts_in, version_of}
pub use Rattle.onedom.specs.declared.event.Event.{Event}
pub use Rattle.onedom.specs.declared.event.Event.TheVariants.{Ask, Begin, End, Find, Finish, Note, Put, Start}
pub use Rattle.onedom.specs.declared.event.Maker.{Maker}
pub use Rattle.onedom.specs.declared.event.Maker.TheVariants.{Engine, Processor}
pub use Rattle.sections.proofs.CallerLemmas.{last_may_follow, locks_mine, same_texts, start_trans}
pub use Rattle.sections.specs.Glossary.{AreNewWriters, AreTextsOf, Asks, Begins, CookieView, EngineView, Enters, Finds, FoundView, HasItsMaker, HaveOneVault, IsExhausted, IsNoCookie, IsProcessor, IsSameCpu, IsSameEngine, IsSeenByEngine, IsStart, LookView, Looks, LooksAndBegins}
pub use Rattle.sections.specs.declared.cpu.Exhausted.{Exhausted}
pub use Rattle.sections.specs.Glossary.{LooksInVain, Notes, Reaches, ReadLocks, ReadingView, Reclaims, SightView, SlotView, TiesEngine, WriterView, blank_words, cells_in, index_word, locks, number_word, offer_of, put_cell, put_cells, question, questions, sum_below, texts_of}
pub use Rattle.sections.specs.declared.cpu.NotACookie.{NotACookie}
pub use Rattle.sections.specs.declared.view.Text.{Text}
pub use Rattle.sections.specs.Glossary.{vault_in, words_of}
pub use Rattle.sections.specs.Limits.{AreInRange, most_processors}
pub use Rattle.sections.specs.Making.{IsCount, bounds_of}
pub use Rattle.sections.specs.declared.limits.Limits.{Limits}
pub use Rattle.sections.specs.declared.writer.Standing.TheVariants.{Blank, Current, Out, Retired}
pub use Rattle.desk.specs.Glossary.{Accepts, BaySeatView, HasOneHolder, HasSeenLegal, MakesSwap, Swap, SwapsAlone, holds_after, holds_behind, lies, lies_after, swaps_of}
pub use Rattle.scan.specs.Glossary.{AdvancesTo, FindsBusy, FindsExhausted, GetsOn, NeedsLoaded, Says, Standing, StartsTo, StepsThrough, StepsTo, TakesTurn, at_work, events_of, known_by, number_at_rest, rested, standing_of, with_seat}
pub use Rattle.scan.specs.declared.refusals.AdvanceRefusal.{AdvanceRefusal}
pub use Rattle.scan.specs.declared.progress.PeriodsExhausted.{PeriodsExhausted}
pub use Rattle.scan.specs.declared.progress.Progress.{Progress}
pub use Rattle.scan.specs.declared.refusals.StartRefusal.{StartRefusal}
pub use Rattle.scan.specs.Standings.{index_now, number_now}
pub use Rattle.funnel.proofs.CallerLemmas.{made_on, raised_alone}
pub use Rattle.funnel.specs.Glossary.{FunnelView, IsSameSeat, IsSeenBy, LoadsRoot, greatest, raised_by, value}
pub use Rattle.funnel.specs.declared.view.Holder.{Holder}
pub use Rattle.funnel.specs.declared.view.Raise.{Raise}
pub use Rattle.funnel.specs.declared.view.Shape.{Shape}
pub use Rattle.calls.proofs.CallerLemmas.{all_moved_last, begins_itself, begins_on, called_here, deeds_append, earlier_takers, finish_here, finished_later, looked_queued, moved_all, queued_later, same_queued, taken_here, true_beginning}
pub use Rattle.calls.specs.Glossary.{AreHanded, AreTakers, AreTrue, BatchView, CallSeatView, FindsLensIn, FinishesIn, GivesOut, InvokesIn, IsDone, IsHanded, IsListIn, IsOfProcessor, IsTaken, IsTaker, LacksRoomIn, Line, ListKey, ListView, MovesAll, ReceiptView, SeesOut}
pub use Rattle.calls.specs.declared.refusals.CallRefusal.{CallRefusal}
pub use Rattle.calls.specs.declared.view.Deed.{Deed}
pub use Rattle.calls.specs.declared.entry.Entry.{Entry}
pub use Rattle.calls.specs.Glossary.{TakesIn, TakesNothingIn, TicketView, added, all_finished, all_moved, all_queued, deed, deeds_of, finished_by, finished_in, finished_loads, gathered, line_from, line_in, next_line, no_calls, queued_in, queued_loads, readied, some_out, with_call}
pub use Rattle.calls.specs.declared.refusals.TakeRefusal.{TakeRefusal}
pub use Rattle.calls.specs.Glossary.{with_moved, with_none_out}
pub use Rattle.calls.specs.declared.view.Act.TheVariants.{LackRoom, LoadFinished, LoadQueued, Queue, Take}
pub use Rattle.domain.proofs.CallerLemmas.{CountsNothing, adds_none, all_the_same, both_count, finished_append, finished_loads_count, goes_further, lists_append, new_ones_are_here, nothing_done, queued_append, queued_loads_count, stays, then_finishes}
pub use Rattle.domain.specs.Glossary.{Act, Acts, ActsAs, Adds, AdvancesIn, AreBack, AreDeedsOf, AreOf, AreTotals, CallsIn, Count, CpuView, DomainView, EngineMeets, FindsBusyIn, FindsExhaustedIn, GoesOn, IsAllOf, IsCause, IsHandedBack, IsHistoryOf, IsMade, IsNotStarted, IsOf, IsUnused, Lends}
pub use Rattle.domain.specs.declared.domain.cleanup.InUse.{InUse}
pub use Rattle.domain.specs.Glossary.{LoadsNeed, MeetsHere, RefusesCall, StartsIn, Stays, StepsIn, TalliesMeet, TreeMeets, Working, asks_for, asks_whether, begins, callbacks_of, ends, finishes, idle_engine, is_there, loads, missing_of, new_cpu, notes, puts, takes, with_calls, with_cpu}
pub use Rattle.domain.specs.declared.domain.cleanup.Totals.{Totals}
pub use Rattle.domain.specs.Publishing.{Claims, FindsNone, Frees, Puts}
pub use Rattle.shelf.specs.Cells.{CellView, IsCellIn, cell_of}
pub use Rattle.notify.specs.Blocks.{IsTextOf, ids_text}
pub use Rattle.notify.specs.Chains.{ChainCell, ChainState}
pub use Rattle.notify.specs.Changes.{IsSameChain}
pub use Rattle.notify.specs.Reading.{Calls, IsRefused, Lists, ReadsOnce}
pub use Rattle.notify.specs.declared.block.Block.{Block}
pub use Rattle.notify.specs.declared.refusals.RegisterRefusal.{RegisterRefusal}
pub use Rattle.notify.specs.declared.refusals.UnregisterRefusal.{UnregisterRefusal}
pub use Rattle.plugs.specs.Tables.{IsTable, plug_of, text_of}
pub use Rattle.plugs.specs.Views.{LeaseView, TableState}
pub use Rattle.solo.specs.Calls.{Advances, AreOut, Ends, Finishes, FinishesOut, GivesFirst, HasOut, HasSameTables, IsAskedTooMuch, IsGiven, IsLookNow, IsNew, IsOutOfSections, IsReadingAt, IsSameDomain, OnList, PutsOut, Queues, QueuesLast, QueuesNone, SoloView, Steps, StepsOf, Takes, TakesNone}
pub use Rattle.solo.specs.Calls.{TellsLens, entries_taken, new_standing}
pub use Rattle.solo.specs.Chains.{IsCurrent, RefusesRegister, RefusesUnregister, Registers, Unregisters}
pub use Rattle.solo.specs.Courses.{Course, Does, Works, after, all_of, more_at, with_asked, with_events}
pub use Rattle.solo.specs.Insides.{finished_on, in_one, lines_on, list_in, queued_on, seen_as, seen_first, seen_with}
pub use Rattle.solo.specs.Refusals.{IsNotBusy, IsQueuedAs, IsStartedAs, IsToldAs, NoneIsBusy}
pub use Rattle.solo.specs.Settling.{AllHold, AreTogether, AskTogether, HaveMet, Holds, IsWanted, TallyTogether, TurnTogether, View}
pub use Rattle.solo.specs.Shelf.{Shelf, current_words, in_cell, shelf_of, with_current}
pub use Rattle.solo.specs.Tables.{HoldsRows, Installs, IsNotInstalled, IsNotRemoved, IsSameTable, Removes}
pub use Rattle.solo.specs.Taking.{TakesBatch, TakesUp}
pub use Rattle.solo.specs.Versions.{LacksSlot, Visits, leases, publishes, reclaims, visits}
