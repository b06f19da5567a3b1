-- Work of a user's that is lent something: a section that closes itself, or a processor of a pool.
use Rattle.std.specs.Prelude.{◌≡◌}
use Rattle.std.specs.Fn.{Once, FnOnceReturnsAtMut}
use denote.Ref.{MutBor}
use Rattle.sections.specs.Views.{ReadingView}
use Rattle.sections.specs.Words.{open_readings}
use Rattle.sections.specs.Calls.{ReadLocks, LooksInVain, Unlocks, IsHere}
use Rattle.domain.specs.Views.{DomainView, CpuView, Stays, IsSameProcessor, with_cpu}
use Rattle.driver.specs.Pools.{IsIdle, IsLent}

-- A closure that is lent two values

module _ {F X Y R : Type 0} (g : Once F (MutBor X × (MutBor Y × Unit {0})) (R × (MutBor X × (MutBor Y × Unit {0})))) where
  -- f may be called with x and y
  abbrev pub MayBeCalled : F → X → Y → Type 0
  MayBeCalled f x y = (p : MutBor X) (q : MutBor Y) → p.now ≡ x → q.now ≡ y → g.pre f (p, (q, tt))

  -- one call of f with x and y may give r, and leave x' and y'
  pub record MayGive (f : F) (x : X) (y : Y) (r : R) (x' : X) (y' : Y) : Type 0 where
    pub shown : MutBor X
    pub other : MutBor Y
    pub shows : (shown.now ≡ x) × (other.now ≡ y)
    pub left : MutBor X
    pub other_left : MutBor Y
    pub met : g.post f (shown, (other, tt)) (r, (left, (other_left, tt)))
    pub leaves : (left.now ≡ x') × (other_left.now ≡ y')

module _ {J : Type 0} where
  -- Sections

  -- a section begins on the processor, and this is its reading
  pub record Opens (c : CpuView J) (r : ReadingView) (c' : CpuView J) : Type 0 where
    pub locks : ReadLocks c.cpu c'.cpu r
    pub rest : c' ≡ with_cpu c'.cpu c
    pub same : IsSameProcessor c c'
    pub stays : Stays c c'
    pub here : IsHere c'.cpu r

  -- the section of this reading ends
  pub record Closes (r : ReadingView) (c c' : CpuView J) : Type 0 where
    pub ends : Unlocks r c.cpu c'.cpu
    pub rest : c' ≡ with_cpu c'.cpu c

  -- the same processor, on which the same readings are open
  pub record IsKept (c c' : CpuView J) : Type 0 where
    pub same : IsSameProcessor c c'
    pub stays : Stays c c'
    pub readings : open_readings c'.cpu.mine ≡ open_readings c.cpu.mine

  module _ {F T : Type 0} (g : Once F (MutBor (CpuView J) × (MutBor ReadingView × Unit {0})) (T × (MutBor (CpuView J) × (MutBor ReadingView × Unit {0})))) where
    -- the work may be run in a section of this processor
    abbrev pub MayRead : F → CpuView J → Type 0
    MayRead f c = (begun : CpuView J) (r : ReadingView) → Opens c r begun → MayBeCalled g f begun r

    -- whatever the work does in a section of this processor, it leaves the reading as it is, and the same ones open
    abbrev pub KeepsReadings : F → CpuView J → Type 0
    KeepsReadings f c = (begun : CpuView J) (r : ReadingView) (answer : T) (worked : CpuView J) (r' : ReadingView) → Opens c r begun → MayGive g f begun r answer worked r' → IsKept begun worked × (r' ≡ r)

    -- a section begins, the work is run in it once and gives this answer, and behind that the section ends
    pub record ReadsIn (f : F) (c : CpuView J) (answer : T) (c' : CpuView J) : Type 0 where
      pub begun : CpuView J
      pub reading : ReadingView
      pub opens : Opens c reading begun
      pub worked : CpuView J
      pub works : MayGive g f begun reading answer worked reading
      pub closes : Closes reading worked c'

  -- no section may begin: the index word was loaded, and nothing else was done
  pub record IsRefused (c c' : CpuView J) : Type 0 where
    pub looks : LooksInVain c.cpu c'.cpu
    pub rest : c' ≡ with_cpu c'.cpu c

  -- Processors

  module _ {F T : Type 0} (g : Once F (MutBor (CpuView J) × Unit {0}) (T × (MutBor (CpuView J) × Unit {0}))) where
    -- whatever the work does on a processor of the domain, it leaves that one there, with no reading open
    abbrev pub LeavesIdle : F → DomainView → Type 0
    LeavesIdle f d = (c : CpuView J) (answer : T) (c' : CpuView J) → IsIdle d c → FnOnceReturnsAtMut g f c answer c' → IsLent d c' c.cpu.processor

    -- the work is run once, on a processor of the domain on which no reading is open, and gives this answer
    pub record RunsOnOne (f : F) (d : DomainView) (answer : T) : Type 0 where
      pub lent : CpuView J
      pub idle : IsIdle d lent
      pub back : CpuView J
      pub works : FnOnceReturnsAtMut g f lent answer back
      pub given_back : IsLent d back lent.cpu.processor
