-- How a line gets its queue at the first push.
use Rattle.std.specs.Prelude.{◌≡◌, List, [], Option, Some, None}
use Rattle.atomic_table.specs.Seated.{TableId}
use Rattle.intake.specs.Views.{InletView, OutletView, HandoverView}

module _ {T K A : Type 0} where
  -- what was pushed, or taken out, where there is a queue
  abbrev pub pushed_in : Option (InletView T K A) → List T
  pushed_in None = []
  pushed_in (Some i) = i.pushed

  abbrev pub taken_in : Option (OutletView T K A) → List T
  taken_in None = []
  taken_in (Some o) = o.taken

  -- there is no queue yet, and the right to give its second end; or there is one with the key
  abbrev pub IsInStage : HandoverView K → Option TableId → Option (InletView T K A) → Type 0
  IsInStage place giver None = giver ≡ Some place.place
  IsInStage place giver (Some i) = i.key ≡ Some place.key

  abbrev pub IsOfKey : K → Option (OutletView T K A) → Type 0
  IsOfKey key None = Unit {0}
  IsOfKey key (Some o) = o.key ≡ Some key

  -- there is a queue with the key then, and as much was pushed as before
  pub record Begins (key : K) (before after : Option (InletView T K A)) : Type 0 where
    pub inlet : InletView T K A
    pub after_is : after ≡ Some inlet
    pub key_is : inlet.key ≡ Some key
    pub same : inlet.pushed ≡ pushed_in before

  -- the second end is there then, and as much was taken out as before
  pub record Reaches (key : K) (before after : Option (OutletView T K A)) : Type 0 where
    pub outlet : OutletView T K A
    pub after_is : after ≡ Some outlet
    pub key_is : outlet.key ≡ Some key
    pub same : outlet.taken ≡ taken_in before
