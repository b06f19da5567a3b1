-- What a watcher finds: the counters of one processor and of all, who holds a grace period up, and a domain at a glance.
use Rattle.std.specs.Prelude.{◌≡◌, ℕ, zero, suc, ◌<◌, ◌≤◌, ◌==◌, if◌then◌else◌, List, [], ◌∷◌, ◌++◌, length, slice_index, Vec, vec_len, vec_capacity}
use Rattle.sseq.specs.declared.index.Index.{Index}
use Rattle.sseq.specs.declared.index.Index.TheVariants.{Zero, One}
use Rattle.onedom.specs.declared.event.Event.{Event}
use Rattle.onedom.specs.Histories.{IsEmpty, IsBeginning}
use Rattle.sections.specs.Words.{locks, unlocks}
use Rattle.sections.specs.Views as sections
use Rattle.sections.specs.Calls.{FindsLocks, FindsUnlocks, Looks, Notes}
-- at such a moment a section of the index was open
pub use Rattle.scan.specs.Standings.{WasOpenIn}
use Rattle.funnel.specs.Calls.{LoadsRoot}
use Rattle.calls.specs.Totals.{AddsUp}
use Rattle.glance.specs.declared.counters.Pair.{Pair}
use Rattle.glance.specs.declared.counters.Counts.{Counts}
use Rattle.glance.specs.declared.counters.Counters.{Counters}
use Rattle.glance.specs.declared.counters.Holder.{Holder}
use Rattle.glance.specs.declared.snapshot.Snapshot.{Snapshot}
use Rattle.domain.specs.Views.{CpuView}
use Rattle.domain.specs.Loads.{LoadsSums}

-- Room

-- an empty vector with room for so many
abbrev pub HasRoom : {T A : Type 0} → ℕ → Vec T A → Type 0
HasRoom many v = (v.items ≡ []) × (vec_len v ≡ 0) × (many ≤ vec_capacity v)

-- two vectors with a place for each of so many
abbrev pub HavePlaces : {T A : Type 0} → ℕ → Vec T A → Vec T A → Type 0
HavePlaces many v w = (length v.items ≡ many) × (length w.items ≡ many)

-- Moments

-- at a moment from the first history on, up to the second, no section of the index was open
pub record WasEmptyIn (i : Index) (seen seen' : List Event) : Type 0 where
  pub moment : List Event
  pub since : IsBeginning seen moment
  pub upto : IsBeginning moment seen'
  pub empty : IsEmpty i moment

-- at such a moment no more sections of the index had begun on the processor than had ended there
pub record WasBalanced (p : ℕ) (i : Index) (seen seen' : List Event) : Type 0 where
  pub moment : List Event
  pub since : IsBeginning seen moment
  pub upto : IsBeginning moment seen'
  pub balanced : locks p i moment ≤ unlocks p i moment

-- One processor

-- the four counters of processor p were loaded, one behind the other and the unlocks first. Nothing else was done
pub record Watches (p : ℕ) (k : Counts) (c d : sections.CpuView) : Type 0 where
  pub first : sections.CpuView
  pub zero_unlocks : FindsUnlocks p Zero k.zero.unlocks c first
  pub middle : sections.CpuView
  pub one_unlocks : FindsUnlocks p One k.one.unlocks first middle
  pub third : sections.CpuView
  pub zero_locks : FindsLocks p Zero k.zero.locks middle third
  pub one_locks : FindsLocks p One k.one.locks third d

-- neither is below what was counted in this history
pub record IsNoLess (p : ℕ) (i : Index) (k : Pair) (seen : List Event) : Type 0 where
  pub unlocks : unlocks p i seen ≤ k.unlocks
  pub locks : locks p i seen ≤ k.locks

-- All processors

-- the counters of an index, as they were found
abbrev pub CountsEach : {A : Type 0} → Index → Counters A → sections.CpuView → sections.CpuView → Type 0
CountsEach i k c d = LoadsSums i k.unlocks.items k.ended k.locks.items k.begun c d

-- What two sums of an index tell. Equal ones: none of its sections was open at a moment of their loads. Others: one was
pub record Tells (i : Index) (ended begun : ℕ) (seen seen' : List Event) : Type 0 where
  pub no_more : ended ≤ begun
  pub empty : ended ≡ begun → WasEmptyIn i seen seen'
  pub is_open : ended < begun → WasOpenIn i seen seen'

-- Holders

-- whether the two counters of processor p differ, and which they are
abbrev pub holder_at : ℕ → ℕ → ℕ → List Holder
holder_at p u l = if l == u then [] else record { processor = p; pair = record { locks = l; unlocks = u } } ∷ []

-- of so many processors, those whose counters differ
abbrev pub differing : List ℕ → List ℕ → ℕ → List Holder
differing us ls zero = []
differing us ls (suc p) = differing us ls p ++ holder_at p (slice_index us p) (slice_index ls p)

-- the counters of the index were loaded, all unlocks first. Where the sums are equal, no processor is named; else those are named whose counters differ
pub record NamesHolders (i : Index) (named : List Holder) (c d : sections.CpuView) : Type 0 where
  pub unlocked : List ℕ
  pub ended : ℕ
  pub locked : List ℕ
  pub begun : ℕ
  pub sums : LoadsSums i unlocked ended locked begun c d
  pub none : ended ≡ begun → named ≡ []
  pub some : ended < begun → named ≡ differing unlocked locked c.processors

-- A domain at a glance

module _ {A J : Type 0} where
  -- The number was loaded, which is the note of a cookie, then the index word, and then the counters of both indexes. The root of the tree and the tally words were loaded too. Nothing else was done
  pub record Snaps (s : Snapshot A) (c c' : CpuView J) : Type 0 where
    pub noted : sections.CpuView
    pub notes : Notes s.number c.cpu noted
    pub looked : sections.CpuView
    pub look : sections.LookView
    pub looks : Looks noted looked look
    pub index : s.index ≡ look.index
    pub counted : sections.CpuView
    pub zero : CountsEach Zero s.zero looked counted
    pub one : CountsEach One s.one counted c'.cpu
    pub need : LoadsRoot c.needs s.need c'.needs
    pub calls : AddsUp c.calls s.queued s.finished c'.calls
    pub turn : c'.turn ≡ c.turn
