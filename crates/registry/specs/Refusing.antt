-- Which refusal comes when.
use Rattle.std.specs.Prelude.{◌≡◌, ℕ, ◌^◌, ◌<◌, ◌≤◌, List, All, ⊤, length}
use Rattle.std.specs.List.{HoldsAt}
use Rattle.std.specs.declared.cmp.Ordering.{Ordering}
use Rattle.std.specs.declared.cmp.Ordering.TheVariants.{Equal}
use Rattle.boxes.specs.Boxes.{BoxWriterView}
use Rattle.boxes.specs.Writing.{NoneFree}
use Rattle.registry.specs.declared.index.Entry.{Entry}
use Rattle.registry.specs.declared.refusals.InsertRefusal.{InsertRefusal}
use Rattle.registry.specs.declared.refusals.InsertRefusal.TheVariants as insert
use Rattle.registry.specs.declared.refusals.NotPut.{NotPut}
use Rattle.registry.specs.declared.refusals.NotPut.TheVariants as put
use Rattle.registry.specs.declared.refusals.RemoveRefusal.{RemoveRefusal}
use Rattle.registry.specs.declared.refusals.RemoveRefusal.TheVariants as remove
use Rattle.registry.specs.declared.refusals.ReplaceRefusal.{ReplaceRefusal}
use Rattle.registry.specs.declared.refusals.ReplaceRefusal.TheVariants as replace
use Rattle.registry.specs.declared.refusals.StayRefusal.{StayRefusal}
use Rattle.registry.specs.declared.refusals.StayRefusal.TheVariants as stay

-- no version was put, so no device was inserted, none removed, or none replaced
abbrev pub not_inserted : NotPut → InsertRefusal
not_inserted put.Memory = insert.Memory
not_inserted put.NoSlot = insert.NoSlot

abbrev pub not_removed : NotPut → RemoveRefusal
not_removed put.Memory = remove.Memory
not_removed put.NoSlot = remove.NoSlot

abbrev pub not_replaced : NotPut → ReplaceRefusal
not_replaced put.Memory = replace.Memory
not_replaced put.NoSlot = replace.NoSlot

-- `NoSlot` where no slot is free
abbrev pub IsNotPut : {V A : Type 0} → NotPut → BoxWriterView V A → Type 0
IsNotPut put.Memory w = ⊤
IsNotPut put.NoSlot w = NoneFree w

module _ {K V : Type 0} (cmp : K → K → Ordering) (key : K) where
  -- one of these devices has the key
  abbrev pub IsTaken : List (K × V) → Type 0
  IsTaken names = (i : ℕ) × (i < length names) × HoldsAt (λ n. cmp n.0 key ≡ Equal) names i

  -- none of them has it
  abbrev pub IsUntaken : List (K × V) → Type 0
  IsUntaken names = All (λ n. cmp n.0 key ≡ Equal → ⊥) names

module _ {K V A : Type 0} (cmp : K → K → Ordering) (key : K) where
  -- `There` just where the key is taken, and `NoSlot` where no slot is free
  abbrev pub IsNotInserted : InsertRefusal → List (K × V) → BoxWriterView (List (Entry K V)) A → Type 0
  IsNotInserted insert.There names w = IsTaken cmp key names
  IsNotInserted insert.Memory names w = IsUntaken cmp key names
  IsNotInserted insert.NoSlot names w = IsUntaken cmp key names × NoneFree w

  -- `NotThere` just where the key is not taken, and `NoSlot` where no slot is free
  abbrev pub IsNotRemoved : RemoveRefusal → List (K × V) → BoxWriterView (List (Entry K V)) A → Type 0
  IsNotRemoved remove.NotThere names w = IsUntaken cmp key names
  IsNotRemoved remove.Memory names w = IsTaken cmp key names
  IsNotRemoved remove.NoSlot names w = IsTaken cmp key names × NoneFree w

  -- the same of a device that was not replaced
  abbrev pub IsNotReplaced : ReplaceRefusal → List (K × V) → BoxWriterView (List (Entry K V)) A → Type 0
  IsNotReplaced replace.NotThere names w = IsUntaken cmp key names
  IsNotReplaced replace.Memory names w = IsTaken cmp key names
  IsNotReplaced replace.NoSlot names w = IsTaken cmp key names × NoneFree w

  -- why a device stays that a try to remove it met, where no wait helps: `NotThere` just where the key is not taken, and `Spent` where 2 ^ 54 versions were put
  abbrev pub StaysAtOnce : StayRefusal → List (K × V) → BoxWriterView (List (Entry K V)) A → Type 0
  StaysAtOnce stay.NotThere names w = IsUntaken cmp key names
  StaysAtOnce stay.Memory names w = IsTaken cmp key names
  StaysAtOnce stay.Spent names w = IsTaken cmp key names × (2 ^ 54 ≤ w.writer.version)
  StaysAtOnce stay.Periods names w = ⊥
  StaysAtOnce stay.TimedOut names w = ⊥
