-- What a processor's calls at a batch add, one behind the other, before all meet again.
use Rattle.std.specs.Prelude.{◌≡◌, ℕ, ◌+◌, ◌≤◌, List, Option, Some, None}
use Rattle.calls.specs.declared.view.Deed.{Deed}
use Rattle.calls.specs.Tallies.{queued_in, finished_in, deeds_of, IsBeginning}
use Rattle.calls.specs.Views.{BatchView, CallSeatView}
use Rattle.calls.specs.Calls.{IsOfProcessor, TakesIn, AreHanded}
use Rattle.domain.specs.Views.{DomainView, CpuView, callbacks_of}

module _ {J : Type 0} where
  -- this batch of the processor was taken. Behind some beginning of what was done at the tally words, which the processor has then seen, its jobs were queued and not finished: that stays so until they are finished
  pub record TakesBatch (d : DomainView) (p max : ℕ) (batch : BatchView J) (c c' : CpuView J) : Type 0 where
    pub of_processor : IsOfProcessor (callbacks_of d) p batch
    pub behind : CallSeatView J
    pub takes : TakesIn (callbacks_of d) p max c.cpu c.calls (Some batch) c'.cpu behind
    pub handed : AreHanded batch.entries c'.cpu.seen
    pub since : IsBeginning behind.seen c'.calls.seen
    pub moment : List (Deed J)
    pub not_before : IsBeginning c.calls.seen moment
    pub not_after : IsBeginning moment c'.calls.seen
    pub queued : finished_in p moment + batch.count ≤ queued_in p moment
    -- and nothing was done behind that
    pub own : deeds_of c.calls.processor c'.calls.seen ≡ deeds_of c.calls.processor behind.seen

  -- what was taken: a batch, or nothing
  abbrev pub TakesUp : DomainView → ℕ → ℕ → Option (BatchView J) → CpuView J → CpuView J → Type 0
  TakesUp d p max None c c' = TakesIn (callbacks_of d) p max c.cpu c.calls None c'.cpu c'.calls
  TakesUp d p max (Some b) c c' = TakesBatch d p max b c c'
