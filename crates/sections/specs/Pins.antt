-- What the steps of a section do to the seats that they are made with.
use Rattle.std.specs.Prelude.{None}
use Rattle.std.specs.Prelude.{◌≡◌, ℕ, ◌<◌, ◌≤◌, ◌/◌, ◌%◌, List, [], ◌++◌, All, length, slice_index_or}
use Rattle.atomic_table.specs.Table.{Step as TableStep}
use Rattle.atomic_table.specs.Seated.{TableId}
use Rattle.sseq.specs.declared.index.Index.{Index}
use Rattle.onedom.specs.declared.event.Maker.{Maker}
use Rattle.onedom.specs.declared.event.Maker.TheVariants.{Processor}
use Rattle.onedom.specs.declared.event.Event.{Event}
use Rattle.onedom.specs.declared.event.Event.TheVariants.{Find}
use Rattle.onedom.specs.Histories.{HasFound, IsBeginning}
use Rattle.sections.specs.Slots.{Slot}
use Rattle.sections.specs.declared.view.Lent.{Lent}
use Rattle.sections.specs.declared.view.View.{View}
use Rattle.sections.specs.declared.view.Role.TheVariants.{Cpu}
use Rattle.sections.specs.declared.view.Right.{Right}
use Rattle.sections.specs.declared.view.Right.TheVariants.{Nothing, Section}
use Rattle.sections.specs.declared.view.Step.{Step}
use Rattle.sections.specs.declared.view.Step.TheVariants.{LoadWord}
use Rattle.sections.specs.declared.view.Text.{Text}
use Rattle.sections.specs.Words.{word_place}
use Rattle.sections.specs.Shelves.{IsKnown, word_of}
use Rattle.sections.specs.Rule.{GoesOn, moment_of, steps_of, IsMaker, lacking, bearer, informed}
use Rattle.sections.specs.Plays.{IsSound, KnowsTexts, Sees, Adds, Sat}
use Rattle.sections.specs.Reads.{word_loads}
use Rattle.sections.specs.Seats.{DomainSeat}

-- the seat has the right to a section
pub record Lends (table : TableId) (lender : DomainSeat) : Type 0 where
  pub seated : lender.table_id ≡ table
  pub bare : lender.me.1 ≡ []
  pub section : ℕ
  pub processor : ℕ
  pub index : Index
  pub right : lender.me.0.right ≡ Section section processor index [] None

-- one load of a cell by the seat, with the right that the lender has: its section finds what the word says. A new seat knows of it
pub record FindsIn (cell : ℕ) (seat lender : DomainSeat) (word : ℕ) (seat' found : DomainSeat) : Type 0 where
  pub after : View
  pub adds : (s q p : ℕ) (i : Index) (us : List Lent) → seat.me.0.role ≡ Cpu p → lender.me.0.right ≡ Section s q i us None
      → Adds (informed seat.me.0 (bearer lender.me.0)) (Find s cell (word % 16) (word / 16) (Processor p)) after × IsKnown cell (word / 16) after.texts × (word % 16 < 8)
  pub same_table : (seat'.table_id ≡ seat.table_id) × (found.table_id ≡ seat.table_id)
  pub stays : seat'.me ≡ (lacking after, [])
  pub given : found.me ≡ (bearer (lacking after), [])

-- the seat has no right, and knows that the section of the lender's right has found this slot
pub record Remembers (table : TableId) (lender : DomainSeat) (cell slot : ℕ) (found : DomainSeat) : Type 0 where
  pub seated : found.table_id ≡ table
  pub bare : found.me.1 ≡ []
  pub free : found.me.0.right ≡ Nothing
  pub version : ℕ
  pub met : (s q : ℕ) (i : Index) → lender.me.0.right ≡ Section s q i [] None → HasFound found.me.0.seen s cell slot version

-- one load of a word of the slot by the seat, with the right that the lender has, behind all that the three had seen. It is the word of the version that was found
pub record LoadsIn (cell slot place : ℕ) (seat lender found : DomainSeat) (word : ℕ) (seat' : DomainSeat) : Type 0 where
  pub after : View
  pub sees : (s q v : ℕ) (i : Index) → lender.me.0.right ≡ Section s q i [] None → HasFound found.me.0.seen s cell slot v
      → Sees (LoadWord cell v place word) (informed (informed seat.me.0 (bearer found.me.0)) (bearer lender.me.0)) after × (word ≡ word_of cell v place after.texts)
  pub same_table : seat'.table_id ≡ seat.table_id
  pub stays : seat'.me ≡ (lacking after, [])

-- All words of a slot

-- load of a further word by the seat with the right to a section, which has seen itself that the section has found the slot
abbrev pub loaded_next : TableStep Slot → Sat → ℕ → Sat → Type 0
loaded_next st m n m' = (m'.1 ≡ m.1) × (m'.0.right ≡ m.0.right) × ((s q c x v i : ℕ) (j : Index) → m.0.right ≡ Section s q j [] None → HasFound m.0.seen s c x v → x < 8 → i < 16 → st.word ≡ word_place m.0.processors c x i
    → Sees (LoadWord c v i n) m.0 m'.0 × (n ≡ word_of c v i m'.0.texts))

-- what is seen covers what was seen before and all that was told, the steps are noted one behind the other, and nothing else changes
pub record SeesAll (ls : List Step) (v w : View) : Type 0 where
  pub processors : w.processors ≡ v.processors
  pub role : w.role ≡ v.role
  pub mine : w.mine ≡ v.mine
  pub right : w.right ≡ v.right
  pub told : w.told ≡ []
  pub steps : (m : Maker) → IsMaker v.role m → steps_of m w.done ≡ steps_of m v.done ++ ls
  pub since : IsBeginning v.seen w.seen
  pub later : v.changes ≤ w.changes
  pub covers : All (λ m. GoesOn m (moment_of w)) v.told
  pub texts : KnowsTexts v w
  pub sound : IsSound w.processors w.role w.mine w.seen w.changes w.texts

-- the seat has the right to a section, and has seen that the section has found this slot
pub record HasMet (cell slot : ℕ) (v : View) : Type 0 where
  pub section : ℕ
  pub processor : ℕ
  pub index : Index
  pub version : ℕ
  pub right : v.right ≡ Section section processor index [] None
  pub met : HasFound v.seen section cell slot version

-- what a seat sees that has the right that the lender has, and was told what the lender and the finder had seen
abbrev pub lent_to : DomainSeat → DomainSeat → DomainSeat → View
lent_to seat lender found = informed (informed seat.me.0 (bearer found.me.0)) (bearer lender.me.0)

-- so far these words of the slot were loaded, one behind the other, behind all that was seen or told before. They are those of the version that was found, where its text is known
pub record LoadsSome (cell slot : ℕ) (right : Right) (seen : List Event) (texts : List Text) (words : List ℕ) (v w : View) : Type 0 where
  pub sees : (s q n : ℕ) (i : Index) → right ≡ Section s q i [] None → HasFound seen s cell slot n → SeesAll (word_loads cell n 0 words) v w
  pub values : (s q n : ℕ) (i : Index) → right ≡ Section s q i [] None → HasFound seen s cell slot n → IsKnown cell n texts → (k : ℕ) → k < length words → slice_index_or words k 0 ≡ word_of cell n k texts

-- all words of the slot were loaded by the seat, with the right that the lender has
pub record LoadsAllIn (cell slot : ℕ) (seat lender found : DomainSeat) (words : List ℕ) (seat' : DomainSeat) : Type 0 where
  pub after : View
  pub long : length words ≡ 16
  pub loads : LoadsSome cell slot lender.me.0.right found.me.0.seen found.me.0.texts words (lent_to seat lender found) after
  pub same_table : seat'.table_id ≡ seat.table_id
  pub stays : seat'.me ≡ (lacking after, [])
