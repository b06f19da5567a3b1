-- What a caller knows of a registry, and what is always true of it.
use Rattle.std.specs.Prelude.{◌≡◌, ◌≢◌, ℕ, ◌+◌, ◌^◌, ◌<◌, ◌≤◌, ◌⊎◌, List, Option, Some, None, All, map, length, slice_index_or}
use Rattle.std.specs.List.{HoldsAt, sum_by}
use Rattle.std.specs.declared.cmp.Ordering.{Ordering}
use Rattle.sections.specs.declared.writer.Standing.TheVariants.{Blank}
use Rattle.sections.specs.Writers.{standing_of}
use Rattle.boxes.specs.Boxes.{Stored, BoxWriterView, stored_at}
use Rattle.registry.specs.declared.index.Entry.{Entry}
use Rattle.registry.specs.declared.device.Device.{Device}
use Rattle.registry.specs.Order.{AreInOrder}
use Rattle.registry.specs.Names.{HasItsNumber, IsPartOf, ShowsItsOwn, name_of, name_shown, names_of, names_shown, times_here, times_shown}

-- the writer of its cell, the devices that are there, and those that were removed and did not come back, the last one last. So many versions were put
pub record RegistryView (K V A : Type 0) : Type 0 where
  pub writer : BoxWriterView (List (Entry K V)) A
  pub here : List (Device K V A)
  pub leaving : List (Device K V A)
  pub changes : ℕ

module _ {K V A : Type 0} where
  abbrev pub keys_of : List (Device K V A) → List K
  keys_of devices = map (λ d. d.key) devices

  -- one part of each device
  pub record AreParts (entries : List (Entry K V)) (devices : List (Device K V A)) : Type 0 where
    pub many : length entries ≡ length devices
    pub each : (k : ℕ) (e : Entry K V) (d : Device K V A) → k < length entries → IsPartOf (slice_index_or entries k e) (slice_index_or devices k d)

  -- how many parts of the device of this number the version of a slot has
  abbrev pub parts_in : ℕ → Option (Stored (List (Entry K V)) A) → ℕ
  parts_in n None = 0
  parts_in n (Some s) = times_shown n s.value

  -- and all versions together that did not come back
  abbrev pub parts_out : ℕ → BoxWriterView (List (Entry K V)) A → ℕ
  parts_out n w = sum_by (parts_in n) w.stored

  -- the device has a number that was given, and each part that it has not is in a version
  pub record IsDevice (changes : ℕ) (who : ℕ → Option (K × V × ℕ)) (w : BoxWriterView (List (Entry K V)) A) (d : Device K V A) : Type 0 where
    pub below : d.number < changes
    pub few : d.out ≤ changes
    pub counted : d.out ≡ parts_out d.number w
    pub is : HasItsNumber who d

  -- the devices that are here are in the order of their keys, and each number is of one device
  pub record AreNumbered (cmp : K → K → Ordering) (who : ℕ → Option (K × V × ℕ)) (here leaving : List (Device K V A)) : Type 0 where
    pub ordered : AreInOrder cmp (keys_of here)
    pub here_are : All (HasItsNumber who) here
    pub leaving_are : All (HasItsNumber who) leaving
    pub one : (n : ℕ) → times_here n here + times_here n leaving ≤ 1

  -- each version that did not come back lies in a slot of the cell, and shows devices of numbers that were given
  pub record AreVersions (changes : ℕ) (who : ℕ → Option (K × V × ℕ)) (w : BoxWriterView (List (Entry K V)) A) : Type 0 where
    pub eight : length w.stored ≡ 8
    pub slots : w.writer.slots ≤ 8
    pub put : changes ≤ w.writer.version
    pub inside : (x : ℕ) (s : Stored (List (Entry K V)) A) → stored_at w x ≡ Some s → x < w.writer.slots
    pub below : (x : ℕ) (s : Stored (List (Entry K V)) A) → stored_at w x ≡ Some s → All (λ e. e.number < changes) s.value
    pub own : (x : ℕ) (s : Stored (List (Entry K V)) A) → stored_at w x ≡ Some s → All (ShowsItsOwn who) s.value

  pub record IsRegistry (cmp : K → K → Ordering) (w : BoxWriterView (List (Entry K V)) A) (here leaving : List (Device K V A)) (changes : ℕ) : Type 0 where
    pub few : changes ≤ 2 ^ 54
    pub who : ℕ → Option (K × V × ℕ)
    pub here_are : All (IsDevice changes who w) here
    pub leaving_are : All (IsDevice changes who w) leaving
    pub numbered : AreNumbered cmp who here leaving
    pub versions : AreVersions changes who w

  -- the current version shows just what is here. Before the first change there is none
  abbrev pub ShowsHere : BoxWriterView (List (Entry K V)) A → List (Device K V A) → Type 0
  ShowsHere w here = (s : Stored (List (Entry K V)) A) → stored_at w w.writer.current ≡ Some s → names_shown s.value ≡ names_of here

  -- a registry between two calls
  pub record IsAtRest (cmp : K → K → Ordering) (w : BoxWriterView (List (Entry K V)) A) (here leaving : List (Device K V A)) (changes : ℕ) : Type 0 where
    pub registry : IsRegistry cmp w here leaving changes
    pub shown : ShowsHere w here

  -- a version shows the device that a section may still find: it did not come back, and its slot is not blank. Or 2 ^ 54 versions were put, and nothing comes back
  pub record MayBeFound (w : BoxWriterView (List (Entry K V)) A) (d : Device K V A) : Type 0 where
    pub slot : ℕ
    pub version : Stored (List (Entry K V)) A
    pub stored : stored_at w slot ≡ Some version
    pub kept : (2 ^ 54 ≤ w.writer.version) ⊎ (standing_of w.writer slot ≢ Blank)
    pub place : ℕ
    pub inside : place < length version.value
    pub shows : HoldsAt (λ e. (e.number ≡ d.number) × (name_shown e ≡ name_of d)) version.value place
