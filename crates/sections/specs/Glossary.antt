-- The words of `sections`, for files that cite them.
pub use Rattle.sections.specs.Banks.{Books, FitsBank, HasVault, HaveOneVault, HoldsKey, IsKeyTo, IsKeyed, IsLent, IsOffered, IsPlan, KeepsBanks, Mans, PlanIn, bank_of, hand_in, is_at, is_both, is_of, is_unit, key_place, lent, mine, no_bank, no_plan, offered, place_of, plan_put, section_in, units_in, vault_in, vault_place, with_bank}
pub use Rattle.sections.specs.Boxes.{Collects, HasKey, HasRoom, IsNextKey, IsNextToCollect, KnowsVault, LaysKey, LaysParts}
pub use Rattle.sections.specs.Calls.{AddsEvent, AllClosed, AreNew, Asks, Begins, DownReads, EndsWithBegin, EndsWithNote, Enters, GivesCookie, HasBegun, HasSeenOf, Hears, IsExhausted, IsHere, IsHistoryOf, IsNoCookie, IsSameCpu, IsSeenBy, Loads, Looks, LooksAndBegins, LooksInVain, Notes, ReadLocks, Ties, Unlocks, new_cpu}
pub use Rattle.sections.specs.Dealing.{AreNewWriters, new_writer}
pub use Rattle.sections.specs.Drawing.{CanTake, CatchesIn, DrawsIn, HasUnit, KnowsOffer, LeavesFew, PaysIn}
pub use Rattle.sections.specs.EngineCalls.{AddsEngineEvent, CountsLocks, CountsUnlocks, Flips, HasSeenAll, IsSameEngine, IsSeenByEngine, IsTied, Joins, MovesOn, OpenAtStartAreClosed, TakesStep, TiesEngine}
pub use Rattle.sections.specs.Insides.{IsAtRest, IsCookieAt, IsCpu, IsGiven, cookie_with, section_of, view_of_cpu}
pub use Rattle.sections.specs.Laws.{CountersAddUp, CountersGrow, EqualSumsAreEmpty, FewerEndsShowOne, HasNoEventMore, HasNoStepMore, HasNoTextMore, NoStepIsForged, NoTextIsForged, OneHistory, ShownIsSeen, WordsAgree}
pub use Rattle.sections.specs.Laying.{HandlesBare, HandlesKey, bank_emptied, bank_laid, emptied, equipped, handled, handled_bare, laid_more}
pub use Rattle.sections.specs.Loans.{OffersBy, offer_found}
pub use Rattle.sections.specs.Making.{DealsCells, IsFounder}
pub use Rattle.sections.specs.OneCall.{BeginsKnowing, FindsInSection}
pub use Rattle.sections.specs.Pens.{CanWrite, RefreshesIn}
pub use Rattle.sections.specs.PinInsides.{IsFound, view_of_found}
pub use Rattle.sections.specs.Pins.{FindsIn, LoadsAllIn, LoadsIn, LoadsSome, Remembers, SeesAll, lent_to, loaded_next}
pub use Rattle.sections.specs.Plays.{Adds, Admits, ComesFrom, EndsWithText, FindsNumber, IsSound, Keeps, KnowsTexts, Owns, Sat, Sees, admitted, asked, began, counted_locks, counted_unlocks, ended, finished, flipped, found, loaded, looked, moved_on, put, refreshed, started, stored}
pub use Rattle.sections.specs.Reads.{Finds, IsPinned, ReadsWord, ReadsWords, word_loads}
pub use Rattle.sections.specs.Rule.{AreDone, AreOrdered, AreSmall, Fits, GoesOn, Has, HasDone, HasItsMaker, HasReached, IsMaker, IsProcessor, IsTrueOf, IsUpto, Kept, Knows, Makes, StandsFor, Truth, bearer, dealer, dealt, done_by, founder, hearing, informed, lacking, mark, moment_of, next_cell, next_role, noting, pen_dealer, pen_dealt, regaining, shower, spent, steps_of, token, without_cell, without_next}
pub use Rattle.sections.specs.Seats.{AsksNumber, BeginsSection, DomainSeat, IsPlaced}
pub use Rattle.sections.specs.Sets.{IsDoneThere, IsFoundDone, MemberView, PollsOne, brought_by, is_found, member_at, polled}
pub use Rattle.sections.specs.Shelves.{AreShelved, AreTextsOf, FitsShelf, HasShelf, IsKnown, IsStart, IsTrueWord, KeepsShelf, Lies, Writes, blank_words, no_offer, offer_of, offers_of, put_cell, put_cells, slot_words, texts_at, texts_of, word_of, words_of}
pub use Rattle.sections.specs.Showing.{FindsAndEnds, FindsThere, HasNoneAt, HasSection, LacksParts, ReadsAndEnds, ReadsHere, ShowsHere}
pub use Rattle.sections.specs.Sights.{AsksHowFar, AsksHowFarBehind, GivesCookieBehind, SightView, asked_how_far, sight_of}
pub use Rattle.sections.specs.Slots.{Slot}
pub use Rattle.sections.specs.Taking.{Catches, KnowsFound, drew, hand_with, left_with, paid, returned, took}
pub use Rattle.sections.specs.Units.{In, drop_first, many, sum, those}
pub use Rattle.sections.specs.Views.{CookieView, CpuView, EngineView, FoundView, IsKnownIn, LookView, ReadingView, completed_cookie, no_domain}
pub use Rattle.sections.specs.Words.{Agree, IsBeforeFlip, IsBehindFlip, IsFlipping, IsIdle, MayHave, Reaches, all_locks, all_unlocks, cell_place, cells_from, cells_in, closed_in, index_place, index_word, is_begin, is_end, is_held, lock_place, locks, locks_at, number_place, number_word, open_readings, opened_in, sum_below, unlock_place, unlocks, unlocks_after, unlocks_at, word_count, word_place}
pub use Rattle.sections.specs.WriterInsides.{IsWriter, plan_with, view_of_writer, words_with}
pub use Rattle.sections.specs.WriterViews.{SlotView, WriterView}
pub use Rattle.sections.specs.Writers.{IsOwn, IsRetired, IsSameWriter, PutsSlot, Reclaims, ReclaimsBelow, ReclaimsSlot, Stands, is_out, question, questions, reclaimed, standing_of}
pub use Rattle.sections.specs.declared.cpu.Exhausted.{Exhausted}
pub use Rattle.sections.specs.declared.cpu.NotACookie.{NotACookie}
pub use Rattle.sections.specs.declared.view.Bank.{Bank}
pub use Rattle.sections.specs.declared.view.Bounds.{Bounds}
pub use Rattle.sections.specs.declared.view.Deed.{Deed}
pub use Rattle.sections.specs.declared.view.Hand.{Hand}
pub use Rattle.sections.specs.declared.view.Left.{Left}
pub use Rattle.sections.specs.declared.view.Lent.{Lent}
pub use Rattle.sections.specs.declared.view.Moment.{Moment}
pub use Rattle.sections.specs.declared.view.Offer.{Offer}
pub use Rattle.sections.specs.declared.view.Plan.{Plan}
pub use Rattle.sections.specs.declared.view.Right.{Right}
pub use Rattle.sections.specs.declared.view.Role.{Role}
pub use Rattle.sections.specs.declared.view.Shown.{Shown}
pub use Rattle.sections.specs.declared.view.Step.{Step}
pub use Rattle.sections.specs.declared.view.Text.{Text}
pub use Rattle.sections.specs.declared.view.View.{View}
pub use Rattle.sections.specs.declared.writer.Standing.{Standing}
