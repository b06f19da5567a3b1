-- How a line gets its queue at the first push.
use Rattle.std.proofs.Common.{◌≡◌, [], Option, Some, None, true, false, refl}
use Rattle.std.specs.Prelude.{is_some}
use Rattle.atomic_table.specs.Seated.{TableId}
use Rattle.intake.specs.Views.{InletView, OutletView, HandoverView}
use Rattle.intake.specs.Lazily.{pushed_in, taken_in, IsInStage, IsOfKey, Begins, Reaches}

module _ {T K A : Type 0} where
  -- a queue that was there
  pub begun_before : (place : HandoverView K) (giver : Option TableId) (inlet : Option (InletView T K A)) → is_some inlet ≡ true → IsInStage place giver inlet → Begins place.key inlet inlet
  begun_before place giver None some is = cc
  begun_before place giver (Some i) some is = record { inlet = i; after_is = refl; key_is = is; same = refl }

  -- a new one
  pub begun_now : (key : K) (before : Option (InletView T K A)) (i : InletView T K A) → is_some before ≡ false → i.key ≡ Some key → i.pushed ≡ [] → Begins key before (Some i)
  begun_now key None i none key_is empty = record { inlet = i; after_is = refl; key_is = key_is; same = empty }
  begun_now key (Some b) i none key_is empty = cc

  pub reached_before : (key : K) (outlet : Option (OutletView T K A)) → is_some outlet ≡ true → IsOfKey key outlet → Reaches key outlet outlet
  reached_before key None some is = cc
  reached_before key (Some o) some is = record { outlet = o; after_is = refl; key_is = is; same = refl }

  pub reached_now : (key : K) (before : Option (OutletView T K A)) (o : OutletView T K A) → is_some before ≡ false → o.key ≡ Some key → o.taken ≡ [] → Reaches key before (Some o)
  reached_now key None o none key_is empty = record { outlet = o; after_is = refl; key_is = key_is; same = empty }
  reached_now key (Some b) o none key_is empty = cc
