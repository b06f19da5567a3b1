-- What holds of the words of every domain, whatever its history.
use Rattle.std.specs.Prelude.{◌≡◌, ℕ, ◌+◌, ◌<◌, ◌≤◌, ◌↔◌, List, ◌++◌, All, length, slice_index}
use Rattle.sseq.specs.declared.index.Index.{Index}
use Rattle.sseq.specs.declared.index.Index.TheVariants.{Zero, One}
use Rattle.onedom.specs.declared.event.Maker.{Maker}
use Rattle.onedom.specs.declared.event.Event.{Event}
use Rattle.onedom.specs.Histories.{IsOpen, open_sections, index_of, IsEmpty, IsLegal, made_by, IsBeginning}
use mathlib.Core.Option.{some}
use lib.ListN.{get_elem?}
use Rattle.atomic_table.specs.Table.{State, Splits, Joins}
use Rattle.sections.specs.Slots.{Slot}
use Rattle.sections.specs.declared.view.Bounds.{Bounds}
use Rattle.sections.specs.declared.view.Role.TheVariants.{Cpu}
use Rattle.sections.specs.declared.view.Shown.TheVariants.{To}
use Rattle.sections.specs.declared.view.Step.{Step}
use Rattle.sections.specs.declared.view.View.{View}
use Rattle.sections.specs.Words.{number_place, index_place, lock_place, unlock_place, locks, unlocks, all_locks, all_unlocks, opened_in, closed_in, number_word, index_word, Reaches, MayHave}
use Rattle.onedom.specs.declared.event.Maker.TheVariants.{Processor}
use Rattle.sections.specs.declared.view.Text.{Text}
use Rattle.sections.specs.Shelves.{IsStart, AreTextsOf, AreShelved, texts_at}
use Rattle.sections.specs.Banks.{HaveOneVault}
use Rattle.sections.specs.Rule.{IsProcessor, HasItsMaker, steps_of, IsMaker, StandsFor, Kept}
use Rattle.sections.specs.Calls.{HasSeenOf}

-- there is one legal history, with which the number, the index word and the counters agree, and of which every seat has seen a beginning.
-- In what any seat has seen, each maker's events are a beginning of that maker's own. There is one text for each Put, with which the cells and their slots agree, and each seat knows those of the Puts that it has seen. Each cell has one vault
pub record HasOneHistory (bounds : Bounds) (s : State Slot View) : Type 0 where
  pub log : List Event
  pub legal : IsLegal log
  pub words : MayHave log (slice_index s.words number_place) (slice_index s.words index_place)
  pub lock_counters : (p : ℕ) (i : Index) → p < bounds.processors → slice_index s.words (lock_place p i) ≡ locks p i log
  pub unlock_counters : (q : ℕ) (i : Index) → q < bounds.processors → slice_index s.words (unlock_place q i) ≡ unlocks q i log
  pub seen : (j : ℕ) (v : View) → get_elem? s.views j ≡ some v → IsBeginning v.seen log
  pub known : (j k : ℕ) (u v : View) → get_elem? s.views j ≡ some u → get_elem? s.views k ≡ some v → (m : Maker) → IsMaker u.role m → HasSeenOf m u.mine v.seen
  pub texts : List Text
  pub shelved : AreShelved bounds s.words log texts
  pub told : (j : ℕ) (v : View) → get_elem? s.views j ≡ some v → v.texts ≡ texts_at texts v.seen
  pub vaults : HaveOneVault texts

-- the rule, which holds between any two steps, says so
abbrev pub OneHistory : Type 0
OneHistory = (bounds : Bounds) (s : State Slot View) → Kept bounds s → HasOneHistory bounds s

-- between any two steps a processor that is known to have seen so many changes has seen as many
abbrev pub ShownIsSeen : Type 0
ShownIsSeen = (bounds : Bounds) (s : State Slot View) → Kept bounds s → (j k p n : ℕ) (v c : View) → get_elem? s.views j ≡ some v → v.shown ≡ To p n → get_elem? s.views k ≡ some c → c.role ≡ Cpu p → n ≤ c.changes

-- the number and the index word are those that a domain with this history may have
abbrev pub WordsAgree : Type 0
WordsAgree = (changes : ℕ) (history : List Event) → Reaches changes history → MayHave history (number_word changes) (index_word changes)

-- no more sections of an index end than begin, and none is open where as many have ended as were begun
abbrev pub EqualSumsAreEmpty : Type 0
EqualSumsAreEmpty = (processors : ℕ) (i : Index) (history : List Event) → IsLegal history → All (HasItsMaker processors) history
    → (all_unlocks processors i history ≤ all_locks processors i history) × ((all_unlocks processors i history ≡ all_locks processors i history) ↔ IsEmpty i history)

-- and where fewer have ended, one is open
abbrev pub FewerEndsShowOne : Type 0
FewerEndsShowOne = (processors : ℕ) (i : Index) (history : List Event) → IsLegal history → All (HasItsMaker processors) history
    → all_unlocks processors i history < all_locks processors i history → (s : ℕ) × IsOpen history s × (index_of s history ≡ i)

-- the lock counters add up to the sections that were begun, and the unlock counters to those that have ended. Those that are open are the ones less the others
pub record AddUp (processors : ℕ) (history : List Event) : Type 0 where
  pub opened : all_locks processors Zero history + all_locks processors One history ≡ opened_in history
  pub closed : all_unlocks processors Zero history + all_unlocks processors One history ≡ closed_in history
  pub still_open : closed_in history + length (open_sections history) ≡ opened_in history

abbrev pub CountersAddUp : Type 0
CountersAddUp = (processors : ℕ) (history : List Event) → IsLegal history → All (HasItsMaker processors) history → AddUp processors history

-- the counters only grow
abbrev pub CountersGrow : Type 0
CountersGrow = (p : ℕ) (i : Index) (seen history : List Event) → IsBeginning seen history → (locks p i seen ≤ locks p i history) × (unlocks p i seen ≤ unlocks p i history)

-- the second view has no step of this maker that the first one doesn't have
pub record HasNoStepMore (m : Maker) (v w : View) : Type 0 where
  pub rest : List Step
  pub whole : steps_of m v.done ≡ steps_of m w.done ++ rest

-- in what the second view has seen there is no event of this maker that isn't among the first one's own
pub record HasNoEventMore (m : Maker) (v w : View) : Type 0 where
  pub rest : List Event
  pub whole : made_by m v.mine ≡ made_by m w.seen ++ rest

-- no step of m is added, and no event either where o is a processor of the domain
pub record HasNoMore (bounds : Bounds) (m o : Maker) (v w : View) : Type 0 where
  pub steps : HasNoStepMore m v w
  pub events : IsProcessor bounds.processors o → HasNoEventMore m v w

-- however a seat is cut in two or takes another in, it has no step and no event more of its maker m, as long as there is a maker o that has a seat elsewhere: at the place
-- of that step o may have made a step of its own, and at that of the event a processor may have asked after a cookie. So only a step on the table gives a step or an event
abbrev pub NoStepIsForged : Type 0
NoStepIsForged = (bounds : Bounds) (s : State Slot View) → Kept bounds s → (id : ℕ) (v : View) → get_elem? s.views id ≡ some v → (m o : Maker) → StandsFor v.role m → ¬ StandsFor v.role o
    → ((left right : View) → Splits (Kept bounds) id v left right → HasNoMore bounds m o v left × HasNoMore bounds m o v right)
    × ((other : ℕ) (w both spent : View) → ¬ (other ≡ id) → get_elem? s.views other ≡ some w → ¬ StandsFor w.role o → Joins (Kept bounds) id v other w both spent → HasNoMore bounds m o v both)

-- a seat knows a text for each Put that it has seen and no other, and these are texts of versions that were put
pub record HasNoTextMore (put : List Text) (v : View) : Type 0 where
  pub texts : IsStart v.texts put
  pub seen : AreTextsOf v.texts v.seen

-- however a seat is cut in two or takes another in, the texts that it knows are those of versions that were put, and it has seen their Puts, as long as there is a processor that has a seat elsewhere: so only a step on the table tells what a version holds
abbrev pub NoTextIsForged : Type 0
NoTextIsForged = (bounds : Bounds) (s : State Slot View) (k : Kept bounds s) (id : ℕ) (v : View) → get_elem? s.views id ≡ some v → (q : ℕ) → q < bounds.processors → ¬ StandsFor v.role (Processor q)
    → ((left right : View) → Splits (Kept bounds) id v left right → HasNoTextMore k.shelf.texts left × HasNoTextMore k.shelf.texts right)
    × ((other : ℕ) (w both spent : View) → ¬ (other ≡ id) → get_elem? s.views other ≡ some w → ¬ StandsFor w.role (Processor q) → Joins (Kept bounds) id v other w both spent → HasNoTextMore k.shelf.texts both)
