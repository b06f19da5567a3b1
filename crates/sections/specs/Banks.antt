-- What the rule of a domain's table says of keys, and of the parts of boxes. Slot x of cell c is counted as 8 c + x.
use Rattle.std.specs.Prelude.{◌≡◌, ℕ, suc, ◌+◌, ◌*◌, ◌/◌, ◌%◌, ◌<◌, ◌≤◌, ◌==◌, ◌&&◌, ◌⊎◌, Bool, List, [], All, Option, Some, None, length, replicate, slice_set, slice_index_or}
use mathlib.Core.Option.{some}
use mathlib.Core.Option as maybe
use lib.ListN.{get_elem?}
use Rattle.atomic_table.specs.Seated.{TableId}
use Rattle.vault.specs.Keys.{IsKey}
use Rattle.onedom.specs.declared.event.Event.{Event}
use Rattle.onedom.specs.Histories.{IsOpen, finds_of, shelved, IsClear}
use Rattle.sections.specs.Units.{those, many, sum}
use Rattle.sections.specs.Slots.{Slot}
use Rattle.sections.specs.declared.view.Bounds.{Bounds}
use Rattle.sections.specs.declared.view.Lent.{Lent}
use Rattle.sections.specs.declared.view.Hand.{Hand}
use Rattle.sections.specs.declared.view.Bank.{Bank}
use Rattle.sections.specs.declared.view.Plan.{Plan}
use Rattle.sections.specs.declared.view.Offer.{Offer}
use Rattle.sections.specs.declared.view.Text.{Text}
use Rattle.sections.specs.declared.view.Role.{Role}
use Rattle.sections.specs.declared.view.Role.TheVariants.{Bearer, Cpu, Driver}
use Rattle.sections.specs.declared.view.Right.{Right}
use Rattle.sections.specs.declared.view.Right.TheVariants.{Nothing, Section, Shelf, Undealt}
use Rattle.sections.specs.declared.view.View.{View}
use Rattle.sections.specs.Views.{no_domain}
use Rattle.sections.specs.Shelves.{IsKnown, offer_of}

-- Places

-- where the key of a slot for a processor lies, and which place of the cell's vault it opens
abbrev pub key_place : ℕ → ℕ → ℕ
key_place y p = 32 * p + y

abbrev pub vault_place : ℕ → ℕ → ℕ
vault_place y p = 8 * p + y % 8

abbrev pub place_of : Hand → ℕ
place_of h = 32 * h.processor + h.slot

-- that key was laid
abbrev pub IsKeyed : (ℕ → ℕ) → ℕ → ℕ → Type 0
IsKeyed keys y p = vault_place y p < keys (y / 8)

-- Units

abbrev pub is_of : ℕ → Lent → Bool
is_of s u = u.section == s

abbrev pub is_at : ℕ → Lent → Bool
is_at y u = u.slot == y

abbrev pub is_unit : ℕ → ℕ → Lent → Bool
is_unit y n u = (u.slot == y) && (u.round == n)

abbrev pub is_both : ℕ → ℕ → ℕ → Lent → Bool
is_both s y n u = (u.section == s) && ((u.slot == y) && (u.round == n))

abbrev pub lent : ℕ → ℕ → ℕ → Lent
lent s y n = record { section = s; slot = y; round = n }

-- what is out with a section
abbrev pub mine : ℕ → List Lent → List Lent
mine s units = those (is_of s) units

-- Rights

-- 0, or 1 more than the section
abbrev pub section_in : Right → ℕ
section_in Nothing = 0
section_in (Section s p i us h) = suc s
section_in (Shelf c words seen q) = 0
section_in (Undealt c) = 0

abbrev pub units_in : Right → List Lent
units_in Nothing = []
units_in (Section s p i us h) = us
units_in (Shelf c words seen q) = []
units_in (Undealt c) = []

abbrev pub hand_in : Right → Option Hand
hand_in Nothing = None
hand_in (Section s p i us h) = h
hand_in (Shelf c words seen q) = q.hand
hand_in (Undealt c) = None

abbrev pub no_bank : Bank
no_bank = record { laid = 0; round = 0; each = 0; emptied = 0 }

abbrev pub no_plan : Plan
no_plan = record { keys = 0; vault = None; banks = replicate 8 no_bank; hand = None }

abbrev pub bank_of : Plan → ℕ → Bank
bank_of q x = slice_index_or q.banks x no_bank

-- nothing is in hand then
abbrev pub with_bank : Plan → ℕ → Bank → Plan
with_bank q x b = record q { banks = slice_set q.banks x b; hand = None }

-- the right has this plan of the cell
abbrev pub PlanIn : Right → ℕ → Plan → Type 0
PlanIn Nothing c q = ⊥
PlanIn (Section s p i us h) c q = ⊥
PlanIn (Shelf d words seen r) c q = (d ≡ c) × (r ≡ q)
PlanIn (Undealt k) c q = (k ≤ c) × (q ≡ no_plan)

-- a slot is put: what it offers, and what is then known of it
abbrev pub offered : Plan → ℕ → Offer
offered q x = record { keys = q.keys; vault = q.vault; laid = (bank_of q x).laid; round = (bank_of q x).round; each = (bank_of q x).each }

abbrev pub plan_put : Plan → ℕ → Plan
plan_put q x = with_bank q x (record (bank_of q x) { emptied = 0 })

-- whose keys the seat may take, with the right to a section
abbrev pub Mans : Role → ℕ → Type 0
Mans Bearer p = ⊥
Mans (Cpu q) p = q ≡ p
Mans (Driver k) p = k ≤ p

abbrev pub HasMet : List Event → ℕ → ℕ → Type 0
HasMet log s y = 0 < finds_of s (y / 8) (y % 8) log

abbrev pub vault_in : Option Slot → TableId
vault_in None = no_domain
vault_in (Some key) = key.table_id

-- The rule

-- the key of this place of the vault, where so many parts lie, and if any of this round
abbrev pub IsKeyTo : TableId → ℕ → ℕ → ℕ → Slot → Type 0
IsKeyTo vault place count round key = (n : ℕ) × IsKey vault place count n key × (0 < count → n ≡ round)

-- a part is out with an open section that has found its slot
pub record IsLent (log : List Event) (round : ℕ → ℕ) (u : Lent) : Type 0 where
  pub opened : IsOpen log u.section
  pub met : HasMet log u.section u.slot
  pub rounds : u.round ≡ round u.slot

-- What the rule says there is of keys and parts: of each cell its vault and how many keys were laid, what is out with sections, how many parts lie with each key, 1 more than the seat that has it in hand, and of each slot how many parts there are, and their round
pub record Books : Type 0 where
  pub vault_of : ℕ → TableId
  pub keys : ℕ → ℕ
  pub units : List Lent
  pub stock : ℕ → ℕ
  pub handed : ℕ → ℕ
  pub laid : ℕ → ℕ
  pub round : ℕ → ℕ

-- what is known of a cell's keys is true
pub record IsPlan (log : List Event) (vault_of : ℕ → TableId) (keys stock laid round : ℕ → ℕ) (c : ℕ) (q : Plan) : Type 0 where
  pub eight : length q.banks ≡ 8
  pub laid_keys : q.keys ≡ keys c
  pub vault : 0 < q.keys → vault_in q.vault ≡ vault_of c
  pub totals : (x : ℕ) → x < 8 → (bank_of q x).laid ≡ laid (8 * c + x)
  pub rounds : (x : ℕ) → x < 8 → 0 < laid (8 * c + x) → (bank_of q x).round ≡ round (8 * c + x)
  pub some : (x p : ℕ) → c < 4 → x < 8 → p < (bank_of q x).each → 0 < stock (key_place (8 * c + x) p)
  pub empty : (x p : ℕ) → c < 4 → x < 8 → p < (bank_of q x).emptied → stock (key_place (8 * c + x) p) ≡ 0
  pub rests : (x : ℕ) → x < 8 → 0 < (bank_of q x).emptied → IsClear log c x

-- the seat has this key in hand
pub record HoldsKey (processors : ℕ) (vault_of : ℕ → TableId) (keys stock handed round : ℕ → ℕ) (seat : ℕ) (h : Hand) : Type 0 where
  pub slot : h.slot < 32
  pub processor : h.processor < processors
  pub handed_out : handed (place_of h) ≡ suc seat
  pub counts : h.count ≡ stock (place_of h)
  pub rounds : 0 < h.count → h.round ≡ round h.slot
  pub of : IsKeyed keys h.slot h.processor → h.of.table_id ≡ vault_of (h.slot / 8)

-- what a seat knows is true. A reader takes its processor's keys to a slot that its section has found, and a writer those to a slot of its cell that nobody can read
pub record FitsBank (processors : ℕ) (log : List Event) (k : Books) (lane_of : ℕ → ℕ) (seat : ℕ) (v : View) : Type 0 where
  pub lane : (p : ℕ) → Mans v.role p → lane_of p ≡ seat
  pub section : (s : ℕ) → section_in v.right ≡ suc s → units_in v.right ≡ mine s k.units
  pub plan : (c : ℕ) (q : Plan) → PlanIn v.right c q → IsPlan log k.vault_of k.keys k.stock k.laid k.round c q
  pub holds : (h : Hand) → hand_in v.right ≡ Some h → HoldsKey processors k.vault_of k.keys k.stock k.handed k.round seat h
  pub reads : (h : Hand) (s : ℕ) → hand_in v.right ≡ Some h → section_in v.right ≡ suc s → (lane_of h.processor ≡ seat) × HasMet log s h.slot × IsKeyed k.keys h.slot h.processor
  pub writes : (h : Hand) (c : ℕ) (q : Plan) → hand_in v.right ≡ Some h → PlanIn v.right c q → (h.slot / 8 ≡ c) × (IsKeyed k.keys h.slot h.processor → IsClear log c (h.slot % 8))

-- a version was put by a writer that knew so much of the cell's keys
pub record HasVault (vault_of : ℕ → TableId) (keys : ℕ → ℕ) (t : Text) : Type 0 where
  pub few : t.offer.keys ≤ keys t.cell
  pub vault : 0 < t.offer.keys → vault_in t.offer.vault ≡ vault_of t.cell

-- of each cell, what a later version offers has no fewer keys, of the same vault
pub record HaveOneVault (texts : List Text) : Type 0 where
  pub more : (c v w : ℕ) → v ≤ w → IsKnown c w texts → (offer_of c v texts).keys ≤ (offer_of c w texts).keys
  pub vault : (c v w : ℕ) → v ≤ w → IsKnown c w texts → 0 < (offer_of c v texts).keys → vault_in (offer_of c w texts).vault ≡ vault_in (offer_of c v texts).vault

-- so many parts of the slot are there as were offered, of that round, and some lie with the key of each processor that had some
pub record IsOffered (stock laid round : ℕ → ℕ) (y : ℕ) (o : Offer) : Type 0 where
  pub total : o.laid ≡ laid y
  pub rounds : 0 < laid y → o.round ≡ round y
  pub some : y < 32 → (p : ℕ) → p < o.each → 0 < stock (key_place y p)

pub record KeepsBanks (bounds : Bounds) (homes : List (maybe.Option Slot)) (views : List View) (log : List Event) (texts : List Text) : Type 0 where
  pub books : Books
  -- the seat that may take the keys of a processor
  pub lane_of : ℕ → ℕ
  pub wide : length homes ≡ 32 * bounds.processors
  pub home : (y p : ℕ) → y < 32 → p < bounds.processors → books.handed (key_place y p) ≡ 0 → (key : Slot) × (IsKeyed books.keys y p → IsKeyTo (books.vault_of (y / 8)) (vault_place y p) (books.stock (key_place y p)) (books.round y) key) × (get_elem? homes (key_place y p) ≡ some (some key))
  pub bare : (y p : ℕ) → y < 32 → books.keys (y / 8) ≤ vault_place y p → books.stock (key_place y p) ≡ 0
  pub hands : (i j : ℕ) → books.handed i ≡ suc j → (v : View) × (h : Hand) × (get_elem? views j ≡ some v) × (hand_in v.right ≡ Some h) × (place_of h ≡ i)
  pub lent : All (λ u. IsLent log books.round u) books.units
  pub sums : (y : ℕ) → y < 32 → sum bounds.processors (λ p. books.stock (key_place y p)) + many (is_at y) books.units ≡ books.laid y
  pub most : (y : ℕ) → y < 32 → books.laid y ≤ 9223372036854775808
  pub vaults : All (HasVault books.vault_of books.keys) texts
  pub one_vault : HaveOneVault texts
  -- nobody can read the slot, or its parts are those that were offered with the version there
  pub offers : (c x : ℕ) → c < bounds.cells → x < 8 → IsClear log c x ⊎ IsOffered books.stock books.laid books.round (8 * c + x) (offer_of c (shelved c x log) texts)
  pub each : (j : ℕ) (v : View) → get_elem? views j ≡ some v → FitsBank bounds.processors log books lane_of j v
