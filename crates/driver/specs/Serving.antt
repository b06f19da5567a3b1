-- What a driver does: rounds of one turn of the engine, and then one look at the list of each processor, whose jobs it runs that are ready.
use Rattle.std.specs.Prelude.{◌≡◌, ℕ, zero, suc, ◌+◌, ◌<◌, ◌⊎◌, All, List, [], ◌++◌, map, Some, None, Result, Err, MatchResult, Bool, length}
use Rattle.std.specs.List.{FoldsTo}
use Rattle.std.specs.Borrow.{RattleType}
use Rattle.std.specs.Mem.{FitsInMemory}
use Rattle.std.specs.declared.alloc.Allocator.{Ghosts}
use Rattle.sections.specs.Calls.{AllClosed}
use Rattle.scan.specs.declared.progress.Progress.{Progress}
use Rattle.calls.specs.declared.entry.Entry.{Entry}
use Rattle.calls.specs.contracts.batch.Batch.{the_row}
use Rattle.calls.specs.Views.{BatchView, CallSeatView, TicketView, ReceiptView}
use Rattle.calls.specs.declared.refusals.TakeRefusal.{TakeRefusal}
use Rattle.calls.specs.Calls.{IsSameSeat, TakesIn, TakesNothingIn, FinishesIn, AreHanded}
use Rattle.calls.specs.Tallies.{IsBeginning}
use Rattle.calls.specs.Barriers.{Starts, Polls, IsDone, IsQueued, IsFinished}
use Rattle.scan.specs.declared.refusals.AdvanceRefusal.{AdvanceRefusal}
use Rattle.scan.specs.declared.refusals.AdvanceRefusal.TheVariants as advance
use Rattle.driver.specs.declared.counts.Served.{Served}
use Rattle.driver.specs.Counts.{periods_in, IsCount}
use Rattle.domain.specs.Views.{DomainView, CpuView, callbacks_of, with_calls}
use Rattle.domain.specs.Turns.{CarriesOnIn, IsRefused}

-- a batch of such jobs, with memory of such an allocator, fits in memory
abbrev pub BatchesFit : (T A : RattleType) → Ghosts A.Denot → Type 0
BatchesFit T A alloc = FitsInMemory (the_row T A alloc)

-- Turns

module _ {J : Type 0} where
  abbrev pub jobs_of : List (Entry J) → List J
  jobs_of entries = map (λ e. e.job) entries

  -- with all of its jobs given out
  abbrev pub emptied : BatchView J → BatchView J
  emptied b = record b { entries = [] }

  -- a batch of this domain, whatever is left in it
  pub record IsBatchOf (d : DomainView) (b : BatchView J) : Type 0 where
    pub tallies : b.tallies ≡ d.tallies
    pub there : b.processor < d.processors

  -- a turn of the engine, as far as it got by itself, with this answer
  abbrev pub TriesTurn : Result Progress AdvanceRefusal → CpuView J → CpuView J → Type 0
  TriesTurn answer c c' = MatchResult answer (λ a. CarriesOnIn c a c') (λ r. IsRefused c r c')

  -- Batches

  module _ {F : Type 0} (step : F → J → F → Type 0) where
    -- the work was called on each job that was left in the batch, the first one first, and then the batch was finished
    pub record RunsIn (d : DomainView) (b : BatchView J) (f : F) (c : CpuView J) (f' : F) (c' : CpuView J) : Type 0 where
      pub runs : FoldsTo step f (jobs_of b.entries) f'
      pub finishes : FinishesIn (callbacks_of d) c.calls (emptied b) c'.calls
      pub rest : c' ≡ with_calls c'.calls c

    -- what was ready on processor p, at most eight jobs, was taken out, run and finished. Each job was handed out after a grace period, and each section was closed that had begun before it was queued
    pub record TakesAndRuns (d : DomainView) (p : ℕ) (f : F) (c : CpuView J) (jobs : List J) (f' : F) (c' : CpuView J) : Type 0 where
      pub batch : BatchView J
      pub taken : CpuView J
      pub takes : TakesIn (callbacks_of d) p 8 c.cpu c.calls (Some batch) taken.cpu taken.calls
      pub handed : AreHanded batch.entries taken.cpu.seen
      pub closed : All (λ e. AllClosed e.cookie.seen taken.cpu.seen) batch.entries
      pub jobs_are : jobs ≡ jobs_of batch.entries
      pub runs : RunsIn d batch f taken f' c'

    -- nothing was ready on processor p; or a batch of it was out, or there was no memory for a job that had come in
    pub record TakesNone (d : DomainView) (p : ℕ) (f : F) (c : CpuView J) (jobs : List J) (f' : F) (c' : CpuView J) : Type 0 where
      pub found : TakesIn (callbacks_of d) p 8 c.cpu c.calls None c'.cpu c'.calls ⊎ ((refusal : TakeRefusal) × TakesNothingIn p c.cpu c.calls refusal c'.cpu c'.calls)
      pub jobs_are : jobs ≡ []
      pub same : f' ≡ f

    -- one look at the list of processor p
    abbrev pub LooksAfter : DomainView → ℕ → F → CpuView J → List J → F → CpuView J → Type 0
    LooksAfter d p f c jobs f' c' = TakesAndRuns d p f c jobs f' c' ⊎ TakesNone d p f c jobs f' c'

    -- first this, and then one look at the list of processor p
    pub record LooksAfterThat (first : List J → F → CpuView J → Type 0) (d : DomainView) (p : ℕ) (jobs : List J) (f' : F) (c' : CpuView J) : Type 0 where
      pub front : List J
      pub work : F
      pub between : CpuView J
      pub below : first front work between
      pub more : List J
      pub next : LooksAfter d p work between more f' c'
      pub jobs_are : jobs ≡ front ++ more

    -- one look at the list of each of the first so many processors, in order
    abbrev pub LooksAfterAll : DomainView → ℕ → F → CpuView J → List J → F → CpuView J → Type 0
    LooksAfterAll d zero f c jobs f' c' = (jobs ≡ []) × (f' ≡ f) × (c' ≡ c)
    LooksAfterAll d (suc p) f c jobs f' c' = LooksAfterThat (λ js g x. LooksAfterAll d p f c js g x) d p jobs f' c'

    -- Rounds

    -- one turn of the engine, with this answer, and then one look at the list of each processor
    pub record Round (d : DomainView) (f : F) (c : CpuView J) (answer : Result Progress AdvanceRefusal) (jobs : List J) (f' : F) (c' : CpuView J) : Type 0 where
      pub turned : CpuView J
      pub turns : TriesTurn answer c turned
      pub looks : LooksAfterAll d d.processors f turned jobs f' c'

    -- the same, by which so many grace periods ended
    pub record RoundOf (d : DomainView) (f : F) (c : CpuView J) (periods : ℕ) (jobs : List J) (f' : F) (c' : CpuView J) : Type 0 where
      pub answer : Result Progress AdvanceRefusal
      pub round : Round d f c answer jobs f' c'
      pub ended : periods ≡ periods_in answer

    -- a barrier was started, or a ticket polled
    pub record Counts (f : F) (c : CpuView J) (periods : ℕ) (jobs : List J) (f' : F) (c' : CpuView J) : Type 0 where
      pub ticket : TicketView
      pub loads : Starts c.calls ticket c'.calls ⊎ ((done : Bool) × Polls ticket c.calls done c'.calls)
      pub rest : c' ≡ with_calls c'.calls c
      pub none : (periods ≡ 0) × (jobs ≡ []) × (f' ≡ f)

    pub record DoesThat (first : ℕ → List J → F → CpuView J → Type 0) (d : DomainView) (periods : ℕ) (jobs : List J) (f' : F) (c' : CpuView J) : Type 0 where
      pub so_far : ℕ
      pub front : List J
      pub work : F
      pub between : CpuView J
      pub before : first so_far front work between
      pub ended : ℕ
      pub more : List J
      pub next : RoundOf d work between ended more f' c' ⊎ Counts work between ended more f' c'
      pub periods_are : periods ≡ so_far + ended
      pub jobs_are : jobs ≡ front ++ more

    -- a row of rounds, with barriers that are started and tickets that are polled in between. So many grace periods ended by it, and these jobs were run
    abbrev pub Rounds : DomainView → ℕ → F → CpuView J → ℕ → List J → F → CpuView J → Type 0
    Rounds d zero f c periods jobs f' c' = (periods ≡ 0) × (jobs ≡ []) × (f' ≡ f) × (c' ≡ c)
    Rounds d (suc k) f c periods jobs f' c' = DoesThat (λ n js g x. Rounds d k f c n js g x) d periods jobs f' c'

    -- a row of rounds, and these counts of what they came to
    pub record Works (d : DomainView) (f : F) (c : CpuView J) (served : Served) (f' : F) (c' : CpuView J) : Type 0 where
      pub steps : ℕ
      pub ended : ℕ
      pub done : List J
      pub row : Rounds d steps f c ended done f' c'
      pub periods_told : IsCount served.periods ended
      pub jobs_told : IsCount served.jobs (length done)

    -- a row of rounds, with counts that go on from those before
    pub record WorksFrom (d : DomainView) (before : Served) (f : F) (c : CpuView J) (served : Served) (f' : F) (c' : CpuView J) : Type 0 where
      pub steps : ℕ
      pub ended : ℕ
      pub done : List J
      pub row : Rounds d steps f c ended done f' c'
      pub periods_told : (n : ℕ) → IsCount before.periods n → IsCount served.periods (n + ended)
      pub jobs_told : (n : ℕ) → IsCount before.jobs n → IsCount served.jobs (n + length done)

    -- Ends

    -- first this, and then a last round in vain: its turn of the engine found that no more grace periods may start, and no job was run
    pub record LastInVain (first : F → CpuView J → Type 0) (d : DomainView) (f' : F) (c' : CpuView J) : Type 0 where
      pub work : F
      pub between : CpuView J
      pub before : first work between
      pub round : Round d work between (Err advance.Exhausted) [] f' c'

    -- a row of rounds with these counts, and then a last one in vain
    abbrev pub EndsInVain : DomainView → F → CpuView J → Served → F → CpuView J → Type 0
    EndsInVain d f c served f' c' = LastInVain (λ g x. Works d f c served g x) d f' c'

    abbrev pub EndsInVainFrom : DomainView → Served → F → CpuView J → Served → F → CpuView J → Type 0
    EndsInVainFrom d before f c served f' c' = LastInVain (λ g x. WorksFrom d before f c served g x) d f' c'

  -- at a moment of the call a barrier was started, and this is its ticket
  pub record HasStarted (c : CpuView J) (ticket : TicketView) (c' : CpuView J) : Type 0 where
    pub told : CallSeatView J
    pub noted : CallSeatView J
    pub seat : IsSameSeat c.calls told
    pub since : IsBeginning c.calls.seen told.seen
    pub starts : Starts told ticket noted
    pub until : IsBeginning noted.seen c'.calls.seen

  -- and it is done now: what was queued on any processor by that moment was given out, and its batch is finished
  pub record IsStopped (c c' : CpuView J) : Type 0 where
    pub ticket : TicketView
    pub started : HasStarted c ticket c'
    pub done : IsDone ticket c'.calls.seen

  -- the job of each receipt whose queueing the processor had seen was given out, and its batch is finished
  abbrev pub AllFinished : ℕ → CpuView J → CpuView J → Type 0
  AllFinished processors c c' = (r : ReceiptView J) → r.processor < processors → IsQueued r c.calls.seen → IsFinished r c'.calls.seen
