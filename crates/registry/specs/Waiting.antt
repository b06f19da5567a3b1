-- A device is removed, and its owner waits in the same call: for a slot, and then for the device.
use Rattle.std.specs.Prelude.{◌≡◌, ◌≢◌, ◌^◌, ◌≤◌, ◌⊎◌, [], ◌∷◌, ◌++◌, None, IfSome, ⊤}
use Rattle.std.specs.List.{last_or}
use Rattle.std.specs.declared.cmp.Ordering.{Ordering}
use Rattle.onedom.specs.Histories.{IsBeginning}
use Rattle.sections.specs.Views.{CookieView}
use Rattle.sections.specs.Writers.{IsSameWriter}
use Rattle.domain.specs.Views.{CpuView, IsSameProcessor, with_cpu}
use Rattle.domain.specs.Waiting.{Synchronizes, WaitedFor, WaitsInVain}
use Rattle.domain.specs.Limited.{TimesOut}
use Rattle.boxes.specs.Writing.{NoneFree}
use Rattle.registry.specs.declared.refusals.StayRefusal.{StayRefusal}
use Rattle.registry.specs.declared.refusals.StayRefusal.TheVariants as stay
use Rattle.registry.specs.declared.refusals.WaitRefusal.{WaitRefusal}
use Rattle.registry.specs.declared.refusals.WaitRefusal.TheVariants.{NotRemoved, Exhausted, TimedOut}
use Rattle.registry.specs.Names.{names_of}
use Rattle.registry.specs.Registry.{RegistryView, MayBeFound}
use Rattle.registry.specs.Changing.{Collects, Refuses, Removes}
use Rattle.registry.specs.Refusing.{IsTaken, IsUntaken}

-- For a slot

-- no limit was set, so none passed
abbrev pub HasNoLimit : WaitRefusal → Type 0
HasNoLimit (NotRemoved why) = why ≢ stay.TimedOut
HasNoLimit Exhausted = ⊤
HasNoLimit TimedOut = ⊥

module _ {K V A J : Type 0} where
  -- no device was inserted, removed or replaced, and no version was put
  pub record ChangesNothing (r : RegistryView K V A) (c : CpuView J) (r' : RegistryView K V A) (c' : CpuView J) : Type 0 where
    pub here : names_of r'.here ≡ names_of r.here
    pub leaving : names_of r'.leaving ≡ names_of r.leaving
    pub writer : IsSameWriter r.writer.writer r'.writer.writer
    pub by : IsSameProcessor c c'
    pub since : IsBeginning c.cpu.seen c'.cpu.seen

  -- the last try removed the device, and those before it changed nothing
  pub record RemovesAtLast (cmp : K → K → Ordering) (key : K) (r : RegistryView K V A) (c : CpuView J) (r' : RegistryView K V A) (c' : CpuView J) : Type 0 where
    pub last : RegistryView K V A
    pub at : CpuView J
    pub vain : ChangesNothing r c last at
    pub removes : Removes cmp key last at r' c'

  -- the last try was refused, and those before it changed nothing
  pub record RefusesToRemove (r : RegistryView K V A) (c : CpuView J) (r' : RegistryView K V A) (c' : CpuView J) : Type 0 where
    pub last : RegistryView K V A
    pub at : CpuView J
    pub vain : ChangesNothing r c last at
    pub refuses : Refuses last at r' c'

  -- no slot was free at the last try, and then the processor waited. The wait ended like this
  pub record WaitsForSlot (Ends : CpuView J → Type 0) (r : RegistryView K V A) (c : CpuView J) (r' : RegistryView K V A) : Type 0 where
    pub tried : CpuView J
    pub refuses : RefusesToRemove r c r' tried
    pub none : NoneFree r'.writer
    pub ends : Ends tried

  -- the device was not removed, and why. `NotThere` comes at the first try, just where the key is not taken. Else the device is there: memory was refused, or 2 ^ 54 versions were put. Or no slot was free, and in the wait for one no more grace periods might start, or the time was over
  abbrev pub StaysThere : (K → K → Ordering) → K → StayRefusal → RegistryView K V A → CpuView J → RegistryView K V A → CpuView J → Type 0
  StaysThere cmp key stay.NotThere r c r' c' = Refuses r c r' c' × IsUntaken cmp key (names_of r.here)
  StaysThere cmp key stay.Memory r c r' c' = RefusesToRemove r c r' c' × IsTaken cmp key (names_of r.here)
  StaysThere cmp key stay.Spent r c r' c' = RefusesToRemove r c r' c' × IsTaken cmp key (names_of r.here) × (2 ^ 54 ≤ r'.writer.writer.version)
  StaysThere cmp key stay.Periods r c r' c' = WaitsForSlot (λ tried. WaitsInVain tried c') r c r' × IsTaken cmp key (names_of r.here)
  StaysThere cmp key stay.TimedOut r c r' c' = WaitsForSlot (λ tried. (cookie : CookieView) × TimesOut cookie tried c') r c r' × IsTaken cmp key (names_of r.here)

-- For the device

module _ {K V A J : Type 0} where
  -- the device of this key was removed, and nothing was put after that. Then this processor asked for a grace period
  pub record RemovesAndAsks (cmp : K → K → Ordering) (key : K) (r : RegistryView K V A) (c : CpuView J) (r' : RegistryView K V A) : Type 0 where
    pub removed : RegistryView K V A
    pub at : CpuView J
    pub removes : RemovesAtLast cmp key r c removed at
    pub here : names_of r'.here ≡ names_of removed.here
    pub writer : IsSameWriter removed.writer.writer r'.writer.writer
    pub asked : CpuView J
    pub by : IsSameProcessor c asked
    pub after : IsBeginning at.cpu.seen asked.cpu.seen

  -- and it came back with this value: it was the last one of those that leave, and is none of them any more. Each section is closed that could have found it
  pub record Regains (cmp : K → K → Ordering) (key : K) (value : V) (r : RegistryView K V A) (c : CpuView J) (r' : RegistryView K V A) (c' : CpuView J) : Type 0 where
    pub removal : RemovesAndAsks cmp key r c r'
    pub own : K
    pub is : names_of removal.removed.leaving ≡ names_of r'.leaving ++ (own, value) ∷ []
    pub closed : WaitedFor removal.asked c'

  -- or it leaves, and this is why
  pub record Leaves (Why : RegistryView K V A → CpuView J → Type 0) (cmp : K → K → Ordering) (key : K) (r : RegistryView K V A) (c : CpuView J) (r' : RegistryView K V A) : Type 0 where
    pub removal : RemovesAndAsks cmp key r c r'
    pub leaving : names_of r'.leaving ≡ names_of removal.removed.leaving
    pub why : Why removal.removed removal.asked

  -- the grace period is over. Behind it versions were collected, until none could come back, and one that may be found still shows the device
  pub record IsShownStill (removed r' : RegistryView K V A) (asked c' : CpuView J) : Type 0 where
    pub waited : CpuView J
    pub waits : Synchronizes asked waited
    pub closed : WaitedFor asked waited
    pub collects : Collects removed.writer waited.cpu r'.writer c'.cpu
    pub rest : c' ≡ with_cpu c'.cpu waited
    pub shown : IfSome (last_or None r'.leaving) (MayBeFound r'.writer)

  -- the time was over before the grace period was. Or that is over, and the device is still shown
  abbrev pub IsLate : RegistryView K V A → CpuView J → RegistryView K V A → CpuView J → Type 0
  IsLate r' c' removed asked = ((cookie : CookieView) × TimesOut cookie asked c') ⊎ IsShownStill removed r' asked c'

  -- it was not removed, for this reason, and stays there; or it leaves
  abbrev pub RegainsNone : (K → K → Ordering) → K → WaitRefusal → RegistryView K V A → CpuView J → RegistryView K V A → CpuView J → Type 0
  RegainsNone cmp key (NotRemoved why) r c r' c' = StaysThere cmp key why r c r' c'
  RegainsNone cmp key Exhausted r c r' c' = Leaves (λ removed asked. WaitsInVain asked c') cmp key r c r'
  RegainsNone cmp key TimedOut r c r' c' = Leaves (IsLate r' c') cmp key r c r'
