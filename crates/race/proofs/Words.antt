-- The words and lemmas that the proofs of `race` cite, its own and those from below.
pub use mathlib.Core.Logic.{dite}
pub use native.Mathlib.Decide.{ℕ_discrete}
pub use Rattle.std.proofs.Math.Seq.{get_or-append_seam}
pub use Rattle.std.proofs.lemmas.List.{get_or-map, get_or-reverse, get_or_append_left, length-map, length-reverse, map-append}
pub use Rattle.std.proofs.lemmas.List.Elements.{All-cons, All-head, All-nil, All-pop, All-tail, All-weaker}
pub use Rattle.std.proofs.lemmas.List.Sums.{sum_by-cons, sum_by-le, sum_by_push}
pub use Rattle.std.specs.Vec.{vec_capacity, vec_len}
pub use Rattle.std.specs.Vec.Iter.{into_iter_items}
pub use Rattle.onedom.proofs.CallerLemmas.{bit, count_append, count_cons}
pub use Rattle.onedom.specs.Histories.{made_by, maker_of, same_maker}
pub use Rattle.onedom.specs.declared.event.Event.{Event}
pub use Rattle.onedom.specs.declared.event.Event.TheVariants.{Ask, Begin, End, Find, Finish, Note, Put, Start}
pub use Rattle.onedom.specs.declared.event.Maker.TheVariants.{Processor}
pub use Rattle.sections.specs.Glossary.{HasItsMaker, LooksInVain, WriterView, closed_in, is_begin, is_end, locks, locks_at, opened_in, question, questions, standing_of}
pub use Rattle.sections.specs.declared.view.Bounds.{Bounds}
pub use Rattle.sections.specs.declared.writer.Standing.{Standing}
pub use Rattle.sections.specs.Limits.{most_processors, most_sections}
pub use Rattle.desk.specs.Glossary.{AreAllSeats, AreInTurn, AreInTurnAfter, Closes, SeatView, Swap, Swaps, lies_after, lies_behind, new_seat, swaps_of}
pub use Rattle.calls.specs.Glossary.{AreTakers, CallSeatView, IsTaker, added, deed, deeds_of, finished_by, finished_in, finished_loads, queued_in, queued_loads}
pub use Rattle.calls.specs.declared.view.Act.{Act}
pub use Rattle.calls.specs.declared.view.Deed.{Deed}
pub use Rattle.domain.proofs.CallerLemmas.{CountsNothing, both_count, finished_append, finished_loads_count, nothing_done, queued_append, queued_loads_count, writers_here}
pub use Rattle.domain.specs.Cleanup.{IsTakenDown}
pub use Rattle.domain.specs.Glossary.{Acts, ActsAs, CpuView, DomainView, Each, IsMade, IsOf, asks_for, finishes, loads, notes, takes, with_cpu}
pub use Rattle.domain.specs.declared.domain.cleanup.Totals.{Totals}
pub use Rattle.plugs.specs.Views.{LeaseView, TableState}
pub use Rattle.race.specs.Courses.{IsCourse}
pub use Rattle.race.specs.Endings.{CleansUp, ClosesDesk, EndsSections, StaysInUse}
pub use Rattle.race.specs.Readers.{HasMade, HasRead, found_in, laid_in, one_if, own_swaps}
pub use Rattle.race.specs.Totals.{Agrees, AreCounts, AreTotals}
pub use Rattle.race.specs.Updaters.{GoesOn, IsNew, IsUpdaterOf, Tells, TellsOf, own_deeds}
pub use Rattle.race.specs.Workers.{AreBack, EachAt, EachCpu, HaveRaced, IsBack, IsNewCpu, IsNewReader, IsStarted, closed_by, number_of, opened_by}
pub use Rattle.race.specs.declared.course.Course.{Course}
pub use Rattle.race.specs.declared.reader.Reader.{Reader}
pub use Rattle.race.specs.declared.totals.RaceTotals.{RaceTotals}
pub use Rattle.race.specs.declared.updater.Updater.{Updater}
pub use Rattle.race.specs.declared.workers.Started.{Started}
pub use Rattle.race.specs.declared.workers.Workers.{Workers}
