-- What the writer of a roster does.
use Rattle.std.specs.Prelude.{◌≡◌, ℕ, ◌<◌, List, length}
use Rattle.std.specs.List.{HoldsAt, remove}
use Rattle.domain.specs.Views.{CpuView}
use Rattle.boxes.specs.Boxes.{BoxWriterView}
use Rattle.registry.specs.declared.index.Entry.{Entry}
use Rattle.registry.specs.declared.device.Device.{Device}
use Rattle.registry.specs.declared.refusals.InsertRefusal.{InsertRefusal}
use Rattle.registry.specs.declared.refusals.WaitRefusal.{WaitRefusal}
use Rattle.registry.specs.Names.{name_of, names_of}
use Rattle.registry.specs.Registry.{RegistryView, MayBeFound, parts_out}
use Rattle.registry.specs.Changing.{Inserts}
use Rattle.registry.specs.Refusing.{IsNotInserted}
use Rattle.registry.specs.Waiting.{Regains, RegainsNone}
use Rattle.roster.specs.declared.rank.Rank.{Rank}
use Rattle.roster.specs.Ranks.{rank_cmp}

module _ {H A J : Type 0} where
  -- the handler stands where its rank is in order, all others stay, and calls that begin from now on call it
  abbrev pub Registers : Rank → H → RegistryView Rank H A → CpuView J → RegistryView Rank H A → CpuView J → Type 0
  Registers rank handler r c r' c' = Inserts rank_cmp rank handler r c r' c'

  -- the handler of this rank was unregistered. It came back, and each section is closed that could have called it
  abbrev pub Unregisters : Rank → H → RegistryView Rank H A → CpuView J → RegistryView Rank H A → CpuView J → Type 0
  Unregisters rank handler r c r' c' = Regains rank_cmp rank handler r c r' c'

  -- it is registered, for this reason; or it leaves
  abbrev pub IsNotUnregistered : Rank → WaitRefusal → RegistryView Rank H A → CpuView J → RegistryView Rank H A → CpuView J → Type 0
  IsNotUnregistered rank refusal r c r' c' = RegainsNone rank_cmp rank refusal r c r' c'

module _ {H A : Type 0} where
  -- `There` just where a handler has this rank, and `NoSlot` where no slot is free
  abbrev pub IsNotRegistered : Rank → InsertRefusal → List (Rank × H) → BoxWriterView (List (Entry Rank H)) A → Type 0
  IsNotRegistered rank refusal names w = IsNotInserted rank_cmp rank refusal names w

  -- a call that found an older version may be inside this handler
  abbrev pub MayBeInside : BoxWriterView (List (Entry Rank H)) A → Device Rank H A → Type 0
  MayBeInside w d = MayBeFound w d

  -- the handler was one of those that leave, no version shows it, and it leaves no more
  abbrev pub IsReturned : Rank × H → RegistryView Rank H A → RegistryView Rank H A → Type 0
  IsReturned name r r' =
      (i : ℕ) × (i < length r.leaving) × HoldsAt (λ d. (name ≡ name_of d) × (parts_out d.number r'.writer ≡ 0)) r.leaving i
      × (names_of r'.leaving ≡ remove (names_of r.leaving) i)
