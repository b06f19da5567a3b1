-- Jobs that are queued on a processor, and come out there behind a grace period.
use Rattle.std.specs.Prelude.{◌≡◌, ℕ, zero, suc, ◌+◌, ◌<◌, List, [], ◌∷◌, Some, length, slice_index_or, Option, Some, None, Result, IfOk}
use Rattle.sections.specs.declared.view.Bounds.{Bounds}
use Rattle.funnel.specs.declared.view.Shape.{Shape}
use Rattle.calls.specs.Views.{BatchView, ReceiptView}
use Rattle.calls.specs.Calls.{TakesIn, AreHanded, FinishesIn}
use Rattle.domain.specs.Views.{DomainView, CpuView, callbacks_of, with_cpu, with_calls}
use Rattle.domain.specs.Calling.{CallsIn}
use Rattle.domain.specs.Waiting.{Synchronizes}
use Rattle.domain.specs.Making.{new_cpu}

-- so many jobs were queued, one behind the other, each the number of its place
abbrev pub QueuesAll : DomainView → ℕ → CpuView ℕ → CpuView ℕ → Type 0
QueuesAll d zero c c' = c' ≡ c
QueuesAll d (suc n) c c' = (between : CpuView ℕ) × (receipt : ReceiptView ℕ) × QueuesAll d n c between × CallsIn d between n receipt c'

-- a batch of so many jobs of processor p was taken, each after a full grace period, and was finished once all had come out
pub record RunsBatch (d : DomainView) (p many : ℕ) (c c' : CpuView ℕ) : Type 0 where
  pub taken : CpuView ℕ
  pub batch : BatchView ℕ
  pub takes : TakesIn (callbacks_of d) p 8 c.cpu c.calls (Some batch) taken.cpu taken.calls
  pub no_other : taken ≡ with_calls taken.calls (with_cpu taken.cpu c)
  pub handed : AreHanded batch.entries taken.cpu.seen
  pub came : length batch.entries ≡ many
  pub finishes : FinishesIn (callbacks_of d) taken.calls (record batch { entries = [] }) c'.calls
  pub no_more : c' ≡ with_calls c'.calls taken

-- none was ready there
pub record FindsNone (d : DomainView) (p : ℕ) (c c' : CpuView ℕ) : Type 0 where
  pub takes : TakesIn (callbacks_of d) p 8 c.cpu c.calls None c'.cpu c'.calls
  pub no_other : c' ≡ with_calls c'.calls (with_cpu c'.cpu c)

-- so many of those that were ready there were run, or none was
abbrev pub RunsReady : DomainView → ℕ → Option ℕ → CpuView ℕ → CpuView ℕ → Type 0
RunsReady d p None c c' = FindsNone d p c c'
RunsReady d p (Some many) c c' = RunsBatch d p many c c'

-- batches of so many jobs each of the processor's own were run, the last one's number first
abbrev pub RunsBatches : DomainView → List ℕ → CpuView ℕ → CpuView ℕ → Type 0
RunsBatches d [] c c' = c' ≡ c
RunsBatches d (many ∷ others) c c' = (between : CpuView ℕ) × RunsBatches d others c between × RunsBatch d between.cpu.processor many between c'

-- how many jobs came out of such batches
abbrev pub jobs_of : List ℕ → ℕ
jobs_of [] = 0
jobs_of (many ∷ others) = jobs_of others + many

-- so many jobs came out
pub record RunsAll (d : DomainView) (jobs : ℕ) (c c' : CpuView ℕ) : Type 0 where
  pub batches : List ℕ
  pub runs : RunsBatches d batches c c'
  pub came : jobs_of batches ≡ jobs

-- so many jobs were queued on a processor, it waited for a grace period, and as many came out there
pub record PassesAll (d : DomainView) (jobs : ℕ) (c c' : CpuView ℕ) : Type 0 where
  pub queued : CpuView ℕ
  pub waited : CpuView ℕ
  pub queues : QueuesAll d jobs c queued
  pub waits : Synchronizes queued waited
  pub runs : RunsAll d jobs waited c'

-- each of these processors, where there was no error, became another one in this way
pub record AreOutcomes {J : Type 0} {E : Type 0} (Becomes : CpuView J → CpuView J → Type 0) (cpus : List (CpuView J)) (outcomes : List (Result (CpuView J) E)) : Type 0 where
  pub count : length outcomes ≡ length cpus
  pub each : (k : ℕ) (c : CpuView J) (r : Result (CpuView J) E) → k < length cpus → IfOk (slice_index_or outcomes k r) (Becomes (slice_index_or cpus k c))

-- each processor of a new domain of so many became another one in this way
pub record OnEachOfNew {J : Type 0} (threads : ℕ) (Becomes : DomainView → CpuView J → CpuView J → Type 0) : Type 0 where
  pub domain : DomainView
  pub bounds : Bounds
  pub many : bounds.processors ≡ threads
  pub shape : Shape
  pub each : (k : ℕ) → k < threads → (last : CpuView J) × Becomes domain (new_cpu domain bounds shape k) last

abbrev pub HaveQueued : ℕ → ℕ → Type 0
HaveQueued threads jobs = OnEachOfNew threads (λ d. QueuesAll d jobs)

abbrev pub HavePassed : ℕ → ℕ → Type 0
HavePassed threads jobs = OnEachOfNew threads (λ d. PassesAll d jobs)
