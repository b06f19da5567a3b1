-- What is read off counters, and the same of slices.
use Rattle.std.specs.Prelude.{◌≡◌, ℕ, Option, Some, None, slice_get}
use Rattle.sseq.specs.declared.index.Index.{Index}
use Rattle.sseq.specs.declared.index.Index.TheVariants.{Zero, One}
use Rattle.glance.specs.declared.counters.Pair.{Pair}
use Rattle.glance.specs.declared.counters.Counts.{Counts}
use Rattle.glance.specs.declared.counters.Counters.{Counters}
use Rattle.glance.specs.declared.snapshot.Snapshot.{Snapshot}
use Rattle.glance.specs.declared.snapshot.Columns.{Columns}
use Rattle.glance.specs.declared.snapshot.Glance.{Glance}

-- One processor

abbrev pub pair_of : Index → Counts → Pair
pair_of Zero k = k.zero
pair_of One k = k.one

-- the pair of a lock and an unlock counter, where there are both
abbrev pub pair_from : Option ℕ → Option ℕ → Option Pair
pair_from (Some l) (Some u) = Some record { locks = l; unlocks = u }
pair_from (Some l) None = None
pair_from None u = None

-- what was found of processor p, where there are counters of it
abbrev pub pair_in : Columns → ℕ → Option Pair
pair_in k p = pair_from (slice_get k.locks.now p) (slice_get k.unlocks.now p)

module _ {A : Type 0} where
  -- what was found of processor p, where the domain has it
  abbrev pub pair_at : Counters A → ℕ → Option Pair
  pair_at k p = pair_from (slice_get k.locks.items p) (slice_get k.unlocks.items p)

-- A domain at a glance

abbrev pub columns_of : Index → Glance → Columns
columns_of Zero g = g.zero
columns_of One g = g.one

-- the counters of both indexes, where there are both
abbrev pub counts_from : Option Pair → Option Pair → Option Counts
counts_from (Some z) (Some o) = Some record { zero = z; one = o }
counts_from (Some z) None = None
counts_from None o = None

module _ {A : Type 0} where
  abbrev pub counters_of : Index → Snapshot A → Counters A
  counters_of Zero s = s.zero
  counters_of One s = s.one

  -- the same counters, in slices
  pub record AreLent (k : Counters A) (c : Columns) : Type 0 where
    pub unlocks : c.unlocks.now ≡ k.unlocks.items
    pub locks : c.locks.now ≡ k.locks.items
    pub ended : c.ended ≡ k.ended
    pub begun : c.begun ≡ k.begun

  -- the same words, with the counters in slices
  pub record IsGlanceAt (s : Snapshot A) (g : Glance) : Type 0 where
    pub number : g.number.now ≡ s.number
    pub index : g.index ≡ s.index
    pub need : g.need.now ≡ s.need
    pub zero : AreLent s.zero g.zero
    pub one : AreLent s.one g.one
    pub queued : g.queued ≡ s.queued
    pub finished : g.finished ≡ s.finished
