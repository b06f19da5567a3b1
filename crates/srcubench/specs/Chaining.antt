-- A notifier chain: how its blocks are registered, changed and called.
use Rattle.std.specs.Prelude.{◌≡◌, ℕ, zero, suc, pos, List, []}
use Rattle.sections.specs.WriterViews.{WriterView}
use Rattle.domain.specs.Views.{DomainView, CpuView}
use Rattle.shelf.specs.Cells.{cell_of}
use Rattle.notify.specs.Chains.{ChainState, ChainCell}
use Rattle.notify.specs.Changes.{Registers, Unregisters}
use Rattle.notify.specs.Reading.{Calls}
use Rattle.srcubench.specs.Driving.{DrivesPeriod}
use Rattle.srcubench.specs.Founding.{IsNew, EachBecomes}

-- the handler of a block answered, whatever it was
abbrev pub AnswersAny : ℕ → ℕ → Type 0
AnswersAny id result = result ≡ result

module _ {J : Type 0} where
  -- Changes

  -- the block of this id, of priority 0, was registered, and then a period was driven
  pub record RegistersOne (id : ℕ) (s : ChainState) (c : CpuView J) (s' : ChainState) (c' : CpuView J) : Type 0 where
    pub registered : CpuView J
    pub registers : Registers (record { id = id; priority = pos 0 }) s c s' registered
    pub drives : DrivesPeriod registered c'

  -- it was unregistered, and then a period was driven
  pub record UnregistersOne (id : ℕ) (s : ChainState) (c : CpuView J) (s' : ChainState) (c' : CpuView J) : Type 0 where
    pub unregistered : CpuView J
    pub unregisters : Unregisters id s c s' unregistered
    pub drives : DrivesPeriod unregistered c'

  -- so many blocks were registered in this way, with the ids from 0 on
  abbrev pub RegistersAll : ℕ → ChainState → CpuView J → ChainState → CpuView J → Type 0
  RegistersAll zero s c s' c' = (s' ≡ s) × (c' ≡ c)
  RegistersAll (suc n) s c s' c' = (chain : ChainState) × (cpu : CpuView J) × RegistersAll n s c chain cpu × RegistersOne n chain cpu s' c'

  -- the block of id 3 went, and came again
  pub record ChangesTwice (s : ChainState) (c : CpuView J) (s' : ChainState) (c' : CpuView J) : Type 0 where
    pub chain : ChainState
    pub cpu : CpuView J
    pub goes : UnregistersOne 3 s c chain cpu
    pub comes : RegistersOne 3 chain cpu s' c'

  -- so many times
  abbrev pub ChangesOften : ℕ → ChainState → CpuView J → ChainState → CpuView J → Type 0
  ChangesOften zero s c s' c' = (s' ≡ s) × (c' ≡ c)
  ChangesOften (suc n) s c s' c' = (chain : ChainState) × (cpu : CpuView J) × ChangesOften n s c chain cpu × ChangesTwice chain cpu s' c'

  -- four blocks were registered, and then the last of them went and came so many times
  pub record RegistersAndChanges (rounds : ℕ) (s : ChainState) (c : CpuView J) (s' : ChainState) (c' : CpuView J) : Type 0 where
    pub chain : ChainState
    pub cpu : CpuView J
    pub registers : RegistersAll 4 s c chain cpu
    pub changes : ChangesOften rounds chain cpu s' c'

  -- Calls

  -- in one section a version of the chain was found, the handlers of so many blocks were called, and the last one answered OK
  abbrev pub CallsOnce : ℕ → ChainCell → CpuView J → CpuView J → Type 0
  CallsOnce blocks v c c' = Calls AnswersAny v c c' 1 blocks

  -- so many times, one behind the other
  abbrev pub CallsOften : ℕ → ChainCell → ℕ → CpuView J → CpuView J → Type 0
  CallsOften blocks v zero c c' = c' ≡ c
  CallsOften blocks v (suc n) c c' = (between : CpuView J) × CallsOften blocks v n c between × CallsOnce blocks v between c'

-- a chain of so many ids with no blocks, to be put by this writer
abbrev pub no_blocks : ℕ → WriterView → ChainState
no_blocks ids w = record { writer = w; ids = ids; blocks = [] }

-- so many blocks were registered there, and then each of these processors called the chain so many times
pub record RegistersAndCalls (blocks times : ℕ) (w : WriterView) (changer : CpuView (Unit {0})) (cpus : List (CpuView (Unit {0}))) : Type 0 where
  pub chain : ChainState
  pub cpu : CpuView (Unit {0})
  pub registers : RegistersAll blocks (no_blocks blocks w) changer chain cpu
  pub each : EachBecomes (CallsOften blocks (record { place = cell_of w; ids = blocks }) times) cpus

-- so many blocks were registered in a new domain with so many readers
pub record HasChain (readers blocks : ℕ) (d : DomainView) (cpus : List (CpuView (Unit {0}))) (chain : ChainState) (changer : CpuView (Unit {0})) : Type 0 where
  pub first : CpuView (Unit {0})
  pub writer : WriterView
  pub new : IsNew readers d cpus first writer
  pub registers : RegistersAll blocks (no_blocks blocks writer) first chain changer

-- four were, and then the last of them went and came so many times
pub record HaveChanged (rounds : ℕ) : Type 0 where
  pub domain : DomainView
  pub readers : List (CpuView (Unit {0}))
  pub chain : ChainState
  pub changer : CpuView (Unit {0})
  pub has : HasChain 0 4 domain readers chain changer
  pub last_chain : ChainState
  pub last : CpuView (Unit {0})
  pub changes : ChangesOften rounds chain changer last_chain last

-- so many were, and then each reader called the chain so many times
pub record HaveCalled (threads blocks times : ℕ) : Type 0 where
  pub domain : DomainView
  pub readers : List (CpuView (Unit {0}))
  pub chain : ChainState
  pub changer : CpuView (Unit {0})
  pub has : HasChain threads blocks domain readers chain changer
  pub each : EachBecomes (CallsOften blocks (record { place = record { domain = domain.domain; cell = 0 }; ids = blocks }) times) readers
