-- What a crate above may cite of this one; the other files of proofs/ are its own.

-- a turn is made at one seat
pub use Rattle.domain.proofs.Lending.{turn_same, took_same}
-- what it finds is an engine of the processor's domain
pub use Rattle.domain.proofs.Answering.{engine_here}
-- what its answer says of the domain
pub use Rattle.domain.proofs.Answering.{says_carried}
-- the engine's work is done with one seat at the tree
pub use Rattle.domain.proofs.Lending.{same_stepped, same_advanced, same_exhausted, same_started, same_still}
-- a beginning of a list of swaps, and of raises
pub use Rattle.domain.proofs.Turning.{swaps_beginning_refl, swaps_beginning_trans}
pub use Rattle.domain.proofs.Covering.{raises_beginning_refl, raises_beginning_trans}
-- The processors of a new domain

-- they are of it
pub use Rattle.domain.proofs.Founding.{new_ones_are_here}
-- and no reading is open on one
pub use Rattle.domain.proofs.Starting.{IsReady, new_ones_are_ready}
-- The processor is the same

-- behind each call that drives the engine, whatever its answer
pub use Rattle.domain.proofs.Sameness.{same_stepped_in, same_advanced_in, same_carried_in, same_started_in}
-- behind `start_poll`, and behind `need`
pub use Rattle.domain.proofs.Sameness.{same_asked, same_need}
-- behind a call at its seat at the domain's words, as `take_ready`, and at its seat at the tally words, as `finish`
pub use Rattle.domain.proofs.Sameness.{same_polled, same_finished}
-- so is its seat at the tally words where it is as it was, and where both are the same, they are still of one domain
pub use Rattle.domain.proofs.Staying.{seat_the_same, still_fits}
-- behind one call and then another
pub use Rattle.domain.proofs.Sameness.{same_trans}
-- where each is the same, and still of the domain, they are all of it
pub use Rattle.domain.proofs.Sameness.{all_the_same}
-- waiting opens no reading, whether the cookie is done or not
pub use Rattle.domain.proofs.Synchronizing.{still_none, none_in_vain}
-- Barriers

-- a receipt is one of the domain's at which its job was queued
pub use Rattle.domain.proofs.Queueing.{queued_here}
-- a call opens no reading, nor does one that is refused, and none is opened at the tally words
pub use Rattle.domain.proofs.Queueing.{none_queued}
pub use Rattle.domain.proofs.Polling.{none_at_tallies}
-- Versions

-- the writers of a new domain are of it, each of one of its cells
pub use Rattle.domain.proofs.Founding.{writers_here}
-- a word or all words are loaded, a version found or put, slots are reclaimed: the same sections are open as before
pub use Rattle.domain.proofs.Unopened.{SameOpen, same_loaded, same_all_loaded, same_found, same_put, same_reclaimed}
-- what a call adds, where it begins and ends none: the same sections are open as before
pub use Rattle.domain.proofs.Unopened.{same_quiet, same_plain}
-- where none was open, none is
pub use Rattle.domain.proofs.Unopened.{none_still}
-- a section that begins: the processor is the same, also where none could begin, and the section is of it as long as that is so
pub use Rattle.domain.proofs.Enclosed.{same_begun, same_locked, begun_here, still_here}
-- where a reading ends behind its beginning, those are open that were before
pub use Rattle.domain.proofs.Enclosed.{closed_again}
-- no reading is open behind one that began and ended, where a held section begins, where any section ends, and where none could begin
pub use Rattle.domain.proofs.Enclosed.{none_enclosed, none_held, none_ended, none_looked}
-- What a call at the domain's words adds

-- a load, a find, a put; one by which it sees what another has seen; and nothing
pub use Rattle.domain.proofs.Acting.{loads_once, find_acts, put_acts, accepts_all, tie_acts, does_nothing, made_none}
-- all words are loaded, and the section ends with the last one
pub use Rattle.domain.proofs.Loading.{loads_all, reads_and_ends}
-- the processor stays of its domain
pub use Rattle.domain.proofs.Staying.{still_with_cpu}
-- What a call adds

-- a seat at the tree that is as it was, and one that loaded twice
pub use Rattle.domain.proofs.Acting.{stays, goes_further}
-- a seat at the tally words that is as it was, and one that did something
pub use Rattle.domain.proofs.Acting.{adds_none, adds_deed}
-- deeds that queue and finish nothing, as loads of the words
pub use Rattle.domain.proofs.Acting.{CountsNothing, nothing_done, queued_loads_count, finished_loads_count, both_count}
-- what two lists of deeds count, one behind the other
pub use Rattle.domain.proofs.Acting.{queued_append, finished_append, lists_append}
-- a call, and then one that finishes jobs or only loads, put together
pub use Rattle.domain.proofs.Acting.{then_finishes}
