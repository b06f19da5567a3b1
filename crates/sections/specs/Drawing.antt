-- What drawing a part, and paying it, does to the seat of a processor.
use Rattle.std.specs.Prelude.{◌≡◌, ℕ, ◌*◌, ◌/◌, ◌%◌, ◌^◌, ◌<◌, ◌≤◌, List, [], ◌∷◌, MatchOption, Option, Some, None}
use Rattle.atomic_table.specs.Seated.{TableId}
use Rattle.vault.specs.Keys.{IsKey}
use Rattle.parts.specs.declared.part.Part.{Part}
use Rattle.sseq.specs.declared.index.Index.{Index}
use Rattle.onedom.specs.Histories.{HasFound}
use Rattle.sections.specs.Units.{In, drop_first}
use Rattle.sections.specs.Slots.{Slot}
use Rattle.sections.specs.declared.view.Bounds.{Bounds}
use Rattle.sections.specs.declared.view.Lent.{Lent}
use Rattle.sections.specs.declared.view.Offer.{Offer}
use Rattle.sections.specs.declared.view.Role.TheVariants.{Cpu}
use Rattle.sections.specs.declared.view.Right.{Right}
use Rattle.sections.specs.declared.view.Right.TheVariants.{Nothing, Section}
use Rattle.sections.specs.declared.view.View.{View}
use Rattle.sections.specs.Banks.{key_place, vault_place, is_unit, lent, units_in, hand_in, vault_in}
use Rattle.sections.specs.Taking.{hand_with, Catches, KnowsFound}
use Rattle.sections.specs.Shelves.{IsKnown, offer_of}
use Rattle.sections.specs.Rule.{lacking}
use Rattle.sections.specs.Pins.{lent_to}
use Rattle.sections.specs.Seats.{DomainSeat}

-- the seat of this processor has the right to a section that has found this slot, in a version that offers parts
pub record CanTake (bounds : Bounds) (table : TableId) (p y : ℕ) (seat : DomainSeat) : Type 0 where
  pub seated : seat.table_id ≡ table
  pub some : y < table.words
  pub bare : seat.me.1 ≡ []
  pub sized : seat.me.0.processors ≡ bounds.processors
  pub role : seat.me.0.role ≡ Cpu p
  pub there : p < bounds.processors
  pub cell : y / 8 < bounds.cells
  pub low : y < 32
  pub section : ℕ
  pub begun_on : ℕ
  pub index : Index
  pub units : List Lent
  pub right : seat.me.0.right ≡ Section section begun_on index units None
  pub version : ℕ
  pub offer : Offer
  pub found : KnowsFound seat.me.0 section (y / 8) (y % 8) version offer
  pub all_keys : 8 * bounds.processors ≤ offer.keys

-- this key of the slot is in hand, with the right to that section
pub record HasKey (t q p y : ℕ) (i : Index) (us : List Lent) (o : Offer) (key : Slot) (right : Right) : Type 0 where
  pub count : ℕ
  pub round : ℕ
  pub opens : IsKey (vault_in o.vault) (vault_place y p) count round key
  pub some : p < o.each → 0 < count
  pub rounds : 0 < count → round ≡ o.round
  pub room : (u : Lent) → In u us → u.slot ≡ y → (count < 2 ^ 63) × (u.round ≡ o.round)
  pub held : right ≡ Section t q i us (Some (hand_with y p key count round))

-- the key is in hand, and a blank lies in its place
pub record TakesKey (p y : ℕ) (seat seat' : DomainSeat) (key : Slot) : Type 0 where
  pub same_table : seat'.table_id ≡ seat.table_id
  pub blank : Slot
  pub carried : seat'.me.1 ≡ (key_place y p, blank) ∷ []
  pub catches : Catches seat.me.0 seat'.me.0
  pub holds : (t q v : ℕ) (i : Index) (us : List Lent) (o : Offer) → seat.me.0.right ≡ Section t q i us None → KnowsFound seat.me.0 t (y / 8) (y % 8) v o → HasKey t q p y i us o key seat'.me.0.right

-- fewer than two parts lay with the key of the slot, which the seat gave back: one where the processor had some
pub record LeavesFew (y : ℕ) (o : Offer) (v : View) : Type 0 where
  pub count : ℕ
  pub left : v.left ≡ Some (record { slot = y; count = count })
  pub few : count ≤ 1
  pub some : (p : ℕ) → v.role ≡ Cpu p → p < o.each → 0 < count

-- A part is out with the section, of the round that was offered. Or fewer than two lay there, and nothing has changed but what is seen
pub record Draws {X : Type 0} (y : ℕ) (seat seat' : DomainSeat) (result : Option (Part X)) : Type 0 where
  pub same_table : seat'.table_id ≡ seat.table_id
  pub bare : seat'.me.1 ≡ []
  pub catches : Catches seat.me.0 seat'.me.0
  pub free : hand_in seat'.me.0.right ≡ None
  pub draws : (t q v : ℕ) (i : Index) (us : List Lent) (o : Offer) → seat.me.0.right ≡ Section t q i us None → KnowsFound seat.me.0 t (y / 8) (y % 8) v o → MatchOption result ((seat'.me.0.right ≡ Section t q i us None) × LeavesFew y o seat'.me.0)
      (λ part. (part.count ≡ 1) × (part.round ≡ o.round) × (seat'.me.0.right ≡ Section t q i (lent t y o.round ∷ us) None))

-- such a part is out with the section of the right
abbrev pub HasUnit : ℕ → ℕ → Right → Type 0
HasUnit y round right = (u : Lent) × In u (units_in right) × (u.slot ≡ y) × (u.round ≡ round)

-- and is not any more
pub record Pays (y round : ℕ) (seat seat' : DomainSeat) : Type 0 where
  pub same_table : seat'.table_id ≡ seat.table_id
  pub bare : seat'.me.1 ≡ []
  pub catches : Catches seat.me.0 seat'.me.0
  pub free : hand_in seat'.me.0.right ≡ None
  pub pays : (t q : ℕ) (i : Index) (us : List Lent) → seat.me.0.right ≡ Section t q i us None → seat'.me.0.right ≡ Section t q i (drop_first (is_unit y round) us) None

-- With a right that is lent

-- the seat has the right to a section, with which parts may be out
pub record LendsAny (table : TableId) (lender : DomainSeat) : Type 0 where
  pub seated : lender.table_id ≡ table
  pub bare : lender.me.1 ≡ []
  pub section : ℕ
  pub processor : ℕ
  pub index : Index
  pub units : List Lent
  pub right : lender.me.0.right ≡ Section section processor index units None

-- the seat has no right. It knows that the section of the lender's right has found this slot, in a version that offers parts by keys of this vault
pub record KnowsOffer (bounds : Bounds) (table vault : TableId) (lender : DomainSeat) (y : ℕ) (found : DomainSeat) : Type 0 where
  pub seated : found.table_id ≡ table
  pub bare : found.me.1 ≡ []
  pub free : found.me.0.right ≡ Nothing
  pub version : ℕ
  pub offer : Offer
  pub met : (s q : ℕ) (i : Index) (us : List Lent) → lender.me.0.right ≡ Section s q i us None → HasFound found.me.0.seen s (y / 8) (y % 8) version
  pub known : IsKnown (y / 8) version found.me.0.texts
  pub offer_is : offer_of (y / 8) version found.me.0.texts ≡ offer
  pub all_keys : 8 * bounds.processors ≤ offer.keys
  pub vault_is : vault_in offer.vault ≡ vault

-- the seat has seen what it, the lender and the finder had seen, and the right is with the lender again
pub record CatchesIn (seat lender found seat' lender' : DomainSeat) : Type 0 where
  pub after : View
  pub catches : Catches (lent_to seat lender found) after
  pub same_table : (seat'.table_id ≡ seat.table_id) × (lender'.table_id ≡ lender.table_id)
  pub stays : seat'.me ≡ (lacking after, [])
  pub returned : lender'.me ≡ (record lender.me.0 { right = after.right }, lender.me.1)

-- The lender's section is with one part more, of the round that the version offers that it has found. Or fewer than two lay there, and it is as it was
pub record DrawsIn {X : Type 0} (y : ℕ) (seat lender found seat' lender' : DomainSeat) (result : Option (Part X)) : Type 0 where
  pub covers : CatchesIn seat lender found seat' lender'
  pub draws : (t q v : ℕ) (i : Index) (us : List Lent) → lender.me.0.right ≡ Section t q i us None → HasFound found.me.0.seen t (y / 8) (y % 8) v
      → IsKnown (y / 8) v found.me.0.texts → MatchOption result ((lender'.me.0.right ≡ Section t q i us None) × LeavesFew y (offer_of (y / 8) v found.me.0.texts) seat'.me.0)
      (λ part. (part.count ≡ 1) × (part.round ≡ (offer_of (y / 8) v found.me.0.texts).round) × (lender'.me.0.right ≡ Section t q i (lent t y (offer_of (y / 8) v found.me.0.texts).round ∷ us) None))

-- and with one less
pub record PaysIn (y round : ℕ) (seat lender found seat' lender' : DomainSeat) : Type 0 where
  pub covers : CatchesIn seat lender found seat' lender'
  pub pays : (t q : ℕ) (i : Index) (us : List Lent) → lender.me.0.right ≡ Section t q i us None → lender'.me.0.right ≡ Section t q i (drop_first (is_unit y round) us) None
