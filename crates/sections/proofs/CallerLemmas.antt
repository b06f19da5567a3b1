-- What a crate above may cite of this one; the other files of proofs/ are its own.
-- Three of these are clauses of `sums_of_a_domain` too, which anyone may call: `equal_sums` is `empty`, `fewer_ends` is `one`, and `locks_grow` and `unlocks_grow` are the two halves of `grow`. `counters_add_up` is the clause of `totals_of_a_domain`.

-- The lock counters

-- another processor's counter is another, and so is that of the other index
pub use Rattle.sections.proofs.Counters.{elsewhere}
-- an event that is no Begin of the processor and the index leaves the counter as it was
pub use Rattle.sections.proofs.Agreement.{locks_not_at}
-- all of a processor's locks are its own events
pub use Rattle.sections.proofs.Counters.{locks_mine}
-- Sums

-- a counter of a longer history is no smaller
pub use Rattle.sections.proofs.Counters.{locks_grow, unlocks_grow}
-- of counters that are no smaller the sum is no smaller
pub use Rattle.sections.proofs.Counters.{sum_le}
-- as many sections of an index have ended as were begun just where none is open
pub use Rattle.sections.proofs.Sums.{equal_sums}
-- where fewer have ended one is open
pub use Rattle.sections.proofs.Sums.{fewer_ends}
-- all lock counters add up to the sections that were begun, all unlock counters to those that have ended, and the ones less the others are open
pub use Rattle.sections.proofs.Sums.{counters_add_up}
-- a sum of sums is the sum of the parts
pub use Rattle.sections.proofs.Sums.{sum_plus}
-- Grace periods

-- in the middle of a period one runs
pub use Rattle.sections.proofs.Agreement.{busy_running}
-- and between two of them none does
pub use Rattle.sections.proofs.Agreement.{idle_not_running}
-- all starts are the engine's own events
pub use Rattle.sections.proofs.Agreement.{starts_mine}
-- Cookies

-- the cookie of a number is a number
pub use Rattle.sections.proofs.CpuViews.{small_cookie, whole_cookie}
-- Legal histories

-- the last event may follow those before it
pub use Rattle.sections.proofs.CpuViews.{last_may_follow}
-- where a processor knows of all changes, it has seen all of the engine's events
pub use Rattle.sections.proofs.Meeting.{seen_all}
-- who was told that as many periods have ended as a cookie waits for, or more, knows that all that was open when it was given is closed
pub use Rattle.sections.proofs.Sighting.{closed_behind}
-- Texts

-- texts that go on from what was known go on from that
pub use Rattle.sections.proofs.Shelving.{start_refl, start_trans}
-- who has seen no Put more knows no text more
pub use Rattle.sections.proofs.Shelving.{same_texts}
-- Slots

-- a slot that was given out is still out where no standing has changed
pub use Rattle.sections.proofs.Standings.{own_kept}
-- Boxes

-- what is known of a cell's vault stays known
pub use Rattle.sections.proofs.Offered.{vault_stays}
-- who has put a version knows its text
pub use Rattle.sections.proofs.Recalled.{put_known}
-- who has put a version with keys knows it
pub use Rattle.sections.proofs.Offered.{put_knows}
-- and whoever knows it finds versions that were put with as many keys of this vault, or more
pub use Rattle.sections.proofs.Offered.{finds_offer}
-- a box was shown, or none
pub use Rattle.sections.proofs.Showing.{shown_or_not}
