-- What a crew of a team does, and the thread beside it.
use Rattle.std.specs.Prelude.{◌≡◌, ℕ, ◌<◌, ◌≤◌, ◌⊎◌, List, All, Option, Some, length, slice_index_or}
use Rattle.std.specs.Fn.{Once, FnOnceTakesAtMut, FnOnceReturnsAtMut}
use denote.Ref.{MutBor}
use denote.Param.Members.{Shared}
use Rattle.crew.specs.Parts.{Takes, Gives}
use Rattle.domain.specs.Views.{DomainView}
use Rattle.srcu.specs.declared.refusal.Refusal.{Refusal}
use Rattle.srcu.specs.declared.refusal.Refusal.TheVariants.{Memory, NoWorker}
use Rattle.srcu.specs.Workers.{WorkerView}

-- why nobody works: so many workers are fewer than were asked for; or they are not, and there was too little memory
abbrev pub IsShort : Refusal → ℕ → ℕ → Type 0
IsShort refusal has asked = ((refusal ≡ NoWorker) × (has < asked)) ⊎ ((refusal ≡ Memory) × (asked ≤ has))

module _ {J : Type 0} where
  -- workers of this domain
  abbrev pub AreWorkersOf : DomainView → List (WorkerView J) → Type 0
  AreWorkersOf d workers = All (λ (w : WorkerView J). w.domain ≡ d) workers

  module _ {F T : Type 0} (g : Shared F (MutBor (WorkerView J) × (ℕ × Unit {0})) (T × (MutBor (WorkerView J) × Unit {0}))) (f : F) (d : DomainView) where
    -- f may be called with any worker of the domain and each number below this
    abbrev pub MayRun : ℕ → Type 0
    MayRun many = (k : ℕ) (w : WorkerView J) → k < many → w.domain ≡ d → Takes g f w k

    -- whatever f does with a worker of the domain, it leaves one of the domain
    abbrev pub RunStays : Type 0
    RunStays = (w w' : WorkerView J) (k : ℕ) (t : T) → w.domain ≡ d → Gives g f w k w' t → w'.domain ≡ d

    -- f was called once with a worker of the domain and this number, and gave this
    pub record Ran (k : ℕ) (t : T) : Type 0 where
      pub worker : WorkerView J
      pub here : worker.domain ≡ d
      pub left : WorkerView J
      pub gives : Gives g f worker k left t

    -- the same of each number below this, in order
    pub record AllRan (many : ℕ) (given : List T) : Type 0 where
      pub count : length given ≡ many
      pub each : (k : ℕ) (t : T) → k < many → Ran k (slice_index_or given k t)

  -- Beside it

  module _ {G C : Type 0} (g : Once G (MutBor (WorkerView J) × Unit {0}) (C × (MutBor (WorkerView J) × Unit {0}))) where
    module _ (f : G) (d : DomainView) where
      -- the same of one who is called once, with a worker alone
      abbrev pub MayControl : Type 0
      MayControl = (w : WorkerView J) → w.domain ≡ d → FnOnceTakesAtMut g f w

      abbrev pub ControlStays : Type 0
      ControlStays = (w w' : WorkerView J) (c : C) → w.domain ≡ d → FnOnceReturnsAtMut g f w c w' → w'.domain ≡ d

      pub record IsControlled (c : C) : Type 0 where
        pub worker : WorkerView J
        pub here : worker.domain ≡ d
        pub left : WorkerView J
        pub gives : FnOnceReturnsAtMut g f worker c left

    -- it was not called yet, and may be called with this worker
    pub record MayDo (f : Option G) (w : WorkerView J) : Type 0 where
      pub control : G
      pub is : f ≡ Some control
      pub takes : FnOnceTakesAtMut g control w

    -- it is called with this worker, gives this, and leaves the worker so
    pub record Does (f : Option G) (w : WorkerView J) (c : C) (w' : WorkerView J) : Type 0 where
      pub control : G
      pub is : f ≡ Some control
      pub gives : FnOnceReturnsAtMut g control w c w'
