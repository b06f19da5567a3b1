-- All workers of a race, and how they come back.
use Rattle.std.specs.Prelude.{◌≡◌, ℕ, ◌+◌, ◌^◌, ◌<◌, ◌≤◌, List, [], length, sum_by, slice_index_or, vec_len, vec_capacity}
use Rattle.sections.specs.Limits.{most_sections}
use Rattle.sections.specs.Words.{cells_in}
use Rattle.domain.specs.Views.{CpuView, IsOf}
use Rattle.race.specs.declared.course.Course.{Course}
use Rattle.race.specs.declared.reader.Reader.{Reader}
use Rattle.race.specs.declared.workers.Workers.{Workers}
use Rattle.race.specs.declared.workers.Started.{Started}
use Rattle.race.specs.declared.workers.Started.TheVariants.{Thread, Alone}
use Rattle.race.specs.declared.making.Parts.{Parts}
use Rattle.race.specs.declared.making.Start.{Start}
use Rattle.race.specs.Courses.{IsCourse}
use Rattle.race.specs.Readers.{IsReaderOf, HasMade, HasRead}
use Rattle.race.specs.Readers as readers
use Rattle.race.specs.Updaters.{HasUpdated, IsNew}

-- each of these readers is so, by its place
abbrev pub EachAt : (ℕ → Reader → Type 0) → List Reader → Type 0
EachAt P rs = (i : ℕ) (d : Reader) → i < length rs → P i (slice_index_or rs i d)

-- each of these processors is so, by its place
abbrev pub EachCpu : (ℕ → CpuView Unit → Type 0) → List (CpuView Unit) → Type 0
EachCpu P cpus = (i : ℕ) (d : CpuView Unit) → i < length cpus → P i (slice_index_or cpus i d)

-- the processor of this number has done nothing yet
pub record IsNewCpu (g : Course) (number : ℕ) (c : CpuView Unit) : Type 0 where
  pub here : IsOf g.domain c
  pub limit : c.cpu.sections ≡ most_sections
  pub number_is : c.cpu.processor ≡ number
  pub none : c.cpu.mine ≡ []
  pub idle : c.calls.seen ≡ []

-- the reader of this number has done nothing yet
pub record IsNewReader (g : Course) (number : ℕ) (r : Reader) : Type 0 where
  pub made : HasMade g 0 r
  pub number_is : r.cpu.cpu.processor ≡ number

-- the reader of this number is back, and has nothing that it would have to lay down or to release
pub record IsBack (g : Course) (number : ℕ) (r : Reader) : Type 0 where
  pub is : IsReaderOf g r
  pub tells : readers.Tells 0 0 r
  pub number_is : r.cpu.cpu.processor ≡ number
  pub opened : r.opened ≤ g.rounds
  pub closed : r.closed ≤ g.rounds + 1

-- as many readers as the desk has seats, and an updater on the processor behind theirs
pub record AreNew (g : Course) (w : Workers) : Type 0 where
  pub many : length w.readers.items ≡ g.desk.seats
  pub each : EachAt (IsNewReader g) w.readers.items
  pub updater : IsNew g w.updater
  pub last : w.updater.cpu.cpu.processor ≡ g.desk.seats

pub record AreBack (g : Course) (w : Workers) : Type 0 where
  pub many : length w.readers.items ≡ g.desk.seats
  pub each : EachAt (IsBack g) w.readers.items
  pub updater : HasUpdated g w.updater
  pub last : w.updater.cpu.cpu.processor ≡ g.desk.seats

-- and each reader has made all of its rounds
pub record HaveRaced (g : Course) (w : Workers) : Type 0 where
  pub many : length w.readers.items ≡ g.desk.seats
  pub each : EachAt (HasRead g) w.readers.items
  pub updater : HasUpdated g w.updater
  pub last : w.updater.cpu.cpu.processor ≡ g.desk.seats

-- Threads

-- the number of the reader
abbrev pub number_of : Started → ℕ
number_of (Thread t) = t.promise.processor
number_of (Alone r) = r.cpu.cpu.processor

-- a thread of this race, or a reader that has made its rounds
abbrev pub IsStarted : Course → Started → Type 0
IsStarted g (Thread t) = t.promise.course.now ≡ g
IsStarted g (Alone r) = HasRead g r.cpu.cpu.processor r

-- all readers, in order
abbrev pub AreStarted : Course → List Started → Type 0
AreStarted g all = (i : ℕ) (d : Started) → i < length all → IsStarted g (slice_index_or all i d) × (number_of (slice_index_or all i d) ≡ i)

-- Beginning and end

-- how many leases these have made, and released
abbrev pub opened_by : List Reader → ℕ
opened_by rs = sum_by (λ r. r.opened) rs

abbrev pub closed_by : List Reader → ℕ
closed_by rs = sum_by (λ r. r.closed) rs

-- there is room for the processors of so many readers and for one more, and for the seats of so many
pub record HasRoom (many : ℕ) (p : Parts) : Type 0 where
  pub cpus : (vec_len p.cpus ≡ 0) × (many < vec_capacity p.cpus)
  pub seats : (vec_len p.seats ≡ 0) × (many ≤ vec_capacity p.seats)

-- a new domain with one cell, in which as many grace periods may end as may be at all, and in it all that a race of so many readers and rounds begins with
pub record IsPrepared (many rounds : ℕ) (s : Start) : Type 0 where
  pub course : IsCourse s.course
  pub rounds_are : s.course.rounds ≡ rounds
  pub seats : s.course.desk.seats ≡ many
  pub processors : s.course.domain.processors ≡ many + 1
  pub periods : s.course.domain.periods + 1 ≡ 2 ^ 59
  pub cells : cells_in s.course.domain.domain ≡ 1
  pub workers : AreNew s.course s.workers
  pub room : HasRoom many s.parts
