-- What the writer of a registry does.
use Rattle.std.specs.Prelude.{◌≡◌, ℕ, ◌<◌, ◌≤◌, List, [], ◌∷◌, ◌++◌, Some, None, Box, length}
use Rattle.std.specs.List.{AllWithin, HoldsAt, insert, remove}
use Rattle.std.specs.declared.cmp.Ordering.{Ordering}
use Rattle.std.specs.declared.cmp.Ordering.TheVariants.{Less, Equal, Greater}
use Rattle.sections.specs.Views as sections
use Rattle.domain.specs.Views.{CpuView, with_cpu}
use Rattle.boxes.specs.Boxes.{Stored, BoxWriterView}
use Rattle.boxes.specs.Writing.{BringsBack, PutsBox}
use Rattle.registry.specs.declared.index.Entry.{Entry}
use Rattle.registry.specs.Names.{names_of, names_shown, swap}
use Rattle.registry.specs.Registry.{RegistryView}

module _ {V A : Type 0} where
  -- these versions came back one after another, the last one first
  abbrev pub ComeBack : List (Box V A) → BoxWriterView V A → sections.CpuView → BoxWriterView V A → sections.CpuView → Type 0
  ComeBack [] w c w' c' = (w' ≡ w) × (c' ≡ c)
  ComeBack (b ∷ bs) w c w' c' = (m : BoxWriterView V A) × (d : sections.CpuView) × ComeBack bs w c m d × BringsBack (Some b) m d w' c'

  -- versions came back, until none could
  pub record Collects (w : BoxWriterView V A) (c : sections.CpuView) (w' : BoxWriterView V A) (c' : sections.CpuView) : Type 0 where
    pub back : List (Box V A)
    pub between : BoxWriterView V A
    pub at : sections.CpuView
    pub comes : ComeBack back w c between at
    pub last : BringsBack None between at w' c'

module _ {K V A J : Type 0} where
  -- versions were collected, and then one was put that shows just what is here: a section that finds it reads the devices that were inserted, each under its key
  pub record Publishes (r : RegistryView K V A) (c : CpuView J) (r' : RegistryView K V A) (c' : CpuView J) : Type 0 where
    pub collected : BoxWriterView (List (Entry K V)) A
    pub at : CpuView J
    pub collects : Collects r.writer c.cpu collected at.cpu
    pub rest : at ≡ with_cpu at.cpu c
    pub shown : Stored (List (Entry K V)) A
    pub cookie : ℕ
    pub puts : PutsBox shown cookie collected at r'.writer c'
    pub shows : names_shown shown.value ≡ names_of r'.here

  -- versions were collected, and nothing was put
  pub record Refuses (r : RegistryView K V A) (c : CpuView J) (r' : RegistryView K V A) (c' : CpuView J) : Type 0 where
    pub here : names_of r'.here ≡ names_of r.here
    pub leaving : names_of r'.leaving ≡ names_of r.leaving
    pub collects : Collects r.writer c.cpu r'.writer c'.cpu
    pub rest : c' ≡ with_cpu c'.cpu c

  -- the device was inserted behind those whose keys are less, and before those whose keys are greater
  pub record Inserts (cmp : K → K → Ordering) (key : K) (value : V) (r : RegistryView K V A) (c : CpuView J) (r' : RegistryView K V A) (c' : CpuView J) : Type 0 where
    pub place : ℕ
    pub inside : place ≤ length (names_of r.here)
    pub less : AllWithin (λ (n : K × V). cmp n.0 key ≡ Less) (names_of r.here) 0 place
    pub greater : AllWithin (λ (n : K × V). cmp n.0 key ≡ Greater) (names_of r.here) place (length (names_of r.here))
    pub here : names_of r'.here ≡ insert (names_of r.here) place (key, value)
    pub leaving : names_of r'.leaving ≡ names_of r.leaving
    pub publishes : Publishes r c r' c'

  -- the device of this key was removed, and leaves
  pub record Removes (cmp : K → K → Ordering) (key : K) (r : RegistryView K V A) (c : CpuView J) (r' : RegistryView K V A) (c' : CpuView J) : Type 0 where
    pub place : ℕ
    pub inside : place < length (names_of r.here)
    pub device : K × V
    pub is : HoldsAt (λ (n : K × V). n ≡ device) (names_of r.here) place
    pub has : cmp device.0 key ≡ Equal
    pub here : names_of r'.here ≡ remove (names_of r.here) place
    pub leaving : names_of r'.leaving ≡ names_of r.leaving ++ device ∷ []
    pub publishes : Publishes r c r' c'

  -- the device of this key was replaced: the old one leaves, and the new one stands at its place, under its key
  pub record Replaces (cmp : K → K → Ordering) (key : K) (value : V) (r : RegistryView K V A) (c : CpuView J) (r' : RegistryView K V A) (c' : CpuView J) : Type 0 where
    pub place : ℕ
    pub inside : place < length (names_of r.here)
    pub device : K × V
    pub is : HoldsAt (λ (n : K × V). n ≡ device) (names_of r.here) place
    pub has : cmp device.0 key ≡ Equal
    pub here : names_of r'.here ≡ swap (names_of r.here) place (device.0, value)
    pub leaving : names_of r'.leaving ≡ names_of r.leaving ++ device ∷ []
    pub publishes : Publishes r c r' c'
