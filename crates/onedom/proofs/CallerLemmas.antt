-- What a crate above may cite of this one; the other files of proofs/ are its own.
-- Some of these are laws that are also promised by a function that anyone may call: `legal_beginning` and `legal_push` by `legality_of_histories` (`beginnings`, `one_more`), `open_once` and `open_there` by
-- `sections_of_a_legal_history` (`listed`), `one_period` and `empty_may_end` by `periods_of_a_legal_history` (`one`, `may_end`), `law` by `law_of_grace_periods`.

-- Counts

-- 1 for `true` and 0 for `false`
pub use Rattle.onedom.proofs.Pushes.{bit}
-- with one more item at the end a count is larger by its bit
pub use Rattle.onedom.proofs.Pushes.{count_push}
-- and with one more at the head
pub use Rattle.onedom.proofs.Pushes.{count_cons}
-- of two lists, one behind the other, it is the sum
pub use Rattle.onedom.proofs.Pushes.{count_append}
-- so often was a section begun, and ended, after one more event
pub use Rattle.onedom.proofs.Pushes.{begins_of_push, ends_of_push}
-- so many periods have started, and ended, after one more event
pub use Rattle.onedom.proofs.Pushes.{starts_in_push, ended_in_push}
-- Makers

-- an item at the end that a filter drops, and one that it keeps
pub use Rattle.onedom.proofs.Pushes.{kept_out, let_in}
-- each maker is the same as itself
pub use Rattle.onedom.proofs.Pushes.{same_maker_refl}
-- and not the same as another
pub use Rattle.onedom.proofs.Pushes.{same_maker_false}
-- an event of its own stands last among what a maker made
pub use Rattle.onedom.proofs.Pushes.{made_by_own}
-- an event of another leaves that as it was
pub use Rattle.onedom.proofs.Pushes.{made_by_other}
-- one maker begins, and ends, a section no more often than all do
pub use Rattle.onedom.proofs.Pushes.{begins_of_made, ends_of_made}
-- Beginnings of a history

-- a history is a beginning of itself
pub use Rattle.onedom.proofs.Beginnings.{beginning_refl}
-- the empty one is a beginning of each
pub use Rattle.onedom.proofs.Beginnings.{beginning_empty}
-- a history is a beginning of itself with more behind it
pub use Rattle.onedom.proofs.Beginnings.{beginning_append}
-- what it is a beginning of may get one more event
pub use Rattle.onedom.proofs.Beginnings.{beginning_push}
-- a beginning of a beginning is one
pub use Rattle.onedom.proofs.Beginnings.{beginning_trans}
-- of two beginnings of a history one is a beginning of the other
pub use Rattle.onedom.proofs.Beginnings.{beginnings_compare}
-- and that is the shorter one
pub use Rattle.onedom.proofs.Beginnings.{beginning_by_length}
-- what a maker made up to there is a beginning of what it made in all
pub use Rattle.onedom.proofs.Beginnings.{beginning_made_by}
-- no count is larger in a beginning
pub use Rattle.onedom.proofs.Beginnings.{count_grows}
-- as how often a section was begun, how many periods have started and have ended, and the length
pub use Rattle.onedom.proofs.Beginnings.{begins_grow, starts_grow, ended_grow, length_grows}
-- Legal histories

-- with an event that may follow it is legal
pub use Rattle.onedom.proofs.Pushes.{legal_push}
-- each beginning is legal
pub use Rattle.onedom.proofs.Beginnings.{legal_beginning}
-- its front is legal, and its back behind the front
pub use Rattle.onedom.proofs.Pushes.{legal_after_append}
-- what the empty one has, and each event keeps that may follow, every legal history has
pub use Rattle.onedom.proofs.Pushes.{along}
-- Sections

-- a section that was not begun was not ended
pub use Rattle.onedom.proofs.Pushes.{no_ends}
-- there is a number that no section has
pub use Rattle.onedom.proofs.Pushes.{fresh}
-- and one from which on none has
pub use Rattle.onedom.proofs.Pushes.{bound}
-- a new section is open
pub use Rattle.onedom.proofs.Pushes.{open_begun}
-- an event that may follow does not begin an open one again
pub use Rattle.onedom.proofs.Pushes.{not_again}
-- it stays open until its End
pub use Rattle.onedom.proofs.Pushes.{open_stays}
-- and keeps its index
pub use Rattle.onedom.proofs.Pushes.{open_index_stays}
-- its index after one more event
pub use Rattle.onedom.proofs.Pushes.{index_of_push}
-- is that of its Begin
pub use Rattle.onedom.proofs.Pushes.{index_of_begun}
-- and the same after each other event
pub use Rattle.onedom.proofs.Pushes.{index_of_kept}
-- The list of open sections

-- a Begin adds its section
pub use Rattle.onedom.proofs.Opens.{open_sections_begun}
-- an End takes its section out
pub use Rattle.onedom.proofs.Opens.{open_sections_ended}
-- no other event changes it
pub use Rattle.onedom.proofs.Opens.{open_sections_plain}
-- so one more is open after a Begin
pub use Rattle.onedom.proofs.Opens.{one_more_open}
-- one less after the End of a section that stands there once
pub use Rattle.onedom.proofs.Opens.{one_less_open}
-- and as many after each other event
pub use Rattle.onedom.proofs.Opens.{same_open_plain}
-- how often a number stands in a list with one more
pub use Rattle.onedom.proofs.Opens.{times_cons}
-- a section that was not ended stands there as often as it was begun
pub use Rattle.onedom.proofs.Opens.{times_open}
-- and any section no more often
pub use Rattle.onedom.proofs.Opens.{times_open_le}
-- what a filter keeps stands there as often as before
pub use Rattle.onedom.proofs.Opens.{times_kept}
-- and what it drops no more
pub use Rattle.onedom.proofs.Opens.{times_gone}
-- without a number a list is shorter by how often that stood there
pub use Rattle.onedom.proofs.Opens.{without}
-- two filters in a row are one
pub use Rattle.onedom.proofs.Opens.{filter_twice}
-- of a legal history an open section stands there once
pub use Rattle.onedom.proofs.Opens.{open_once}
-- what stands there is open
pub use Rattle.onedom.proofs.Opens.{open_there}
-- Grace periods

-- at most one runs
pub use Rattle.onedom.proofs.Periods.{one_period}
-- where an index was empty at a moment of this period, it was so in each history that goes on in it
pub use Rattle.onedom.proofs.Periods.{empty_grows}
-- where both were, the period may end
pub use Rattle.onedom.proofs.Periods.{empty_may_end}
-- the law of grace periods
pub use Rattle.onedom.proofs.Periods.{law}
-- a section that was begun is not begun again
pub use Rattle.onedom.proofs.Pushes.{begun_once}
-- a section that was begun keeps its index
pub use Rattle.onedom.proofs.Periods.{index_kept}
-- Versions

-- an event that is no Put of the cell leaves its slot and its version
pub use Rattle.onedom.proofs.Versions.{slot_kept, version_kept}
-- and one that is no Put of the slot what was put there last
pub use Rattle.onedom.proofs.Versions.{shelved_kept}
-- a Put sets all three
pub use Rattle.onedom.proofs.Versions.{slot_put, version_put, shelved_put}
-- so often was a slot found, after one more event
pub use Rattle.onedom.proofs.Versions.{finds_push}
-- what may find a slot: an open section, where the slot is current
pub use Rattle.onedom.proofs.Versions.{find_is}
-- a slot that is not current stays so, and is not found, until something is put into it
pub use Rattle.onedom.proofs.Versions.{resting_on, unfound_on}
-- a section that has found something was begun
pub use Rattle.onedom.proofs.Versions.{found_begun}
-- the four laws: a slot that nobody can read stays so until a Put, what is current lies in its slot, what was found stays there, and reclamation
pub use Rattle.onedom.proofs.Versions.{clear_until_put, current_is_shelved, found_stays, reclaim}
-- versions only grow, and where a cell's version stays, nothing was put into it
pub use Rattle.onedom.proofs.Versions.{version_up, versions_up, quiet}
