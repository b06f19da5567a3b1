-- The families of replies, each of which is written by a function of its own.
use Rattle.std.specs.Prelude.{Bool, true, false}
use Rattle.requests.specs.declared.reply.Reply.{Reply}
use Rattle.requests.specs.declared.reply.Reply.TheVariants as reply

-- it tells of a domain, cookies or a set
abbrev pub is_of_periods : Reply → Bool
is_of_periods (reply.Made d n) = true
is_of_periods (reply.State d p s) = true
is_of_periods (reply.Cookie c) = true
is_of_periods reply.Done = true
is_of_periods reply.NotYet = true
is_of_periods (reply.Set numbers) = true
is_of_periods (reply.Cleaned opened closed) = true
is_of_periods other = false

-- it tells of a look or a section
abbrev pub is_of_sections : Reply → Bool
is_of_sections (reply.Look i) = true
is_of_sections (reply.Index i) = true
is_of_sections reply.Closed = true
is_of_sections reply.Parked = true
is_of_sections (reply.Took s) = true
is_of_sections other = false

-- it tells of jobs, or a ticket for them
abbrev pub is_of_jobs : Reply → Bool
is_of_jobs (reply.Queued k c) = true
is_of_jobs (reply.Ran jobs) = true
is_of_jobs (reply.TookJobs jobs) = true
is_of_jobs (reply.Finished n) = true
is_of_jobs (reply.Segs s) = true
is_of_jobs reply.Ticket = true
is_of_jobs other = false

-- it tells of a chain
abbrev pub is_of_chains : Reply → Bool
is_of_chains (reply.Registered id) = true
is_of_chains (reply.Unregistered id) = true
is_of_chains (reply.Chain ids) = true
is_of_chains (reply.Called last calls) = true
is_of_chains other = false

-- it tells of a table, or a lease of it
abbrev pub is_of_tables : Reply → Bool
is_of_tables (reply.Installed version) = true
is_of_tables (reply.Removed version) = true
is_of_tables (reply.Plug plug) = true
is_of_tables reply.NoPlug = true
is_of_tables (reply.Leased i version) = true
is_of_tables reply.Released = true
is_of_tables other = false
