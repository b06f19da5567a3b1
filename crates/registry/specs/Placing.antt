-- A device is put in or taken out, and a version shows it.
use Rattle.std.specs.Prelude.{◌≡◌, ℕ, ◌<◌, ◌≤◌, List, [], ◌∷◌, ◌++◌, length}
use Rattle.std.specs.List.{AllWithin, HoldsAt, insert, remove}
use Rattle.std.specs.declared.cmp.Ordering.{Ordering}
use Rattle.std.specs.declared.cmp.Ordering.TheVariants.{Less, Equal, Greater}
use Rattle.domain.specs.Views.{CpuView}
use Rattle.boxes.specs.Boxes.{Stored, BoxWriterView}
use Rattle.boxes.specs.Writing.{PutsBox}
use Rattle.registry.specs.declared.index.Entry.{Entry}
use Rattle.registry.specs.declared.device.Device.{Device}
use Rattle.registry.specs.Names.{Lends, swap}
use Rattle.registry.specs.Registry.{AreParts}

module _ {K V A J : Type 0} where
  -- a device with this key, number and value was put in where it belongs, and then a version of all devices was put
  pub record PutsIn (cmp : K → K → Ordering) (key : K) (value : V) (number : ℕ) (ds ds' : List (Device K V A)) (w : BoxWriterView (List (Entry K V)) A) (c : CpuView J) (w' : BoxWriterView (List (Entry K V)) A) (c' : CpuView J) : Type 0 where
    pub place : ℕ
    pub inside : place ≤ length ds
    pub less : AllWithin (λ d. cmp d.key key ≡ Less) ds 0 place
    pub greater : AllWithin (λ d. cmp d.key key ≡ Greater) ds place (length ds)
    pub device : Device K V A
    pub key_is : device.key ≡ key
    pub number_is : device.number ≡ number
    pub value_is : device.deed.deed.value ≡ value
    pub home : device.out ≡ 0
    pub lends : Lends 1 (insert ds place device) ds'
    pub shown : Stored (List (Entry K V)) A
    pub cookie : ℕ
    pub parts : AreParts shown.value (insert ds place device)
    pub puts : PutsBox shown cookie w c w' c'

  -- the device of this key was taken out, and then a version of the others was put
  pub record TakesOut (cmp : K → K → Ordering) (key : K) (ds ds' ls ls' : List (Device K V A)) (w : BoxWriterView (List (Entry K V)) A) (c : CpuView J) (w' : BoxWriterView (List (Entry K V)) A) (c' : CpuView J) : Type 0 where
    pub place : ℕ
    pub inside : place < length ds
    pub device : Device K V A
    pub is : HoldsAt (λ d. device ≡ d) ds place
    pub has : cmp device.key key ≡ Equal
    pub lends : Lends 1 (remove ds place) ds'
    pub leaves : ls' ≡ ls ++ device ∷ []
    pub shown : Stored (List (Entry K V)) A
    pub cookie : ℕ
    pub parts : AreParts shown.value (remove ds place)
    pub puts : PutsBox shown cookie w c w' c'

  -- the device of this key was taken out, one with its key, this number and this value was put at its place, and then a version of all was put
  pub record Exchanges (cmp : K → K → Ordering) (key : K) (value : V) (number : ℕ) (ds ds' ls ls' : List (Device K V A)) (w : BoxWriterView (List (Entry K V)) A) (c : CpuView J) (w' : BoxWriterView (List (Entry K V)) A) (c' : CpuView J) : Type 0 where
    pub place : ℕ
    pub inside : place < length ds
    pub device : Device K V A
    pub is : HoldsAt (λ d. device ≡ d) ds place
    pub has : cmp device.key key ≡ Equal
    pub fresh : Device K V A
    pub key_is : fresh.key ≡ device.key
    pub number_is : fresh.number ≡ number
    pub value_is : fresh.deed.deed.value ≡ value
    pub home : fresh.out ≡ 0
    pub lends : Lends 1 (swap ds place fresh) ds'
    pub leaves : ls' ≡ ls ++ device ∷ []
    pub shown : Stored (List (Entry K V)) A
    pub cookie : ℕ
    pub parts : AreParts shown.value (swap ds place fresh)
    pub puts : PutsBox shown cookie w c w' c'
