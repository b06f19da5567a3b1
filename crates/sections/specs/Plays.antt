-- What each step on a domain's table tells the seat that makes it.
use Rattle.std.specs.Prelude.{None}
use Rattle.std.specs.Prelude.{◌≡◌, ℕ, ◌+◌, ◌*◌, ◌/◌, ◌%◌, ◌^◌, ◌<◌, ◌≤◌, Bool, List, [], ◌∷◌, ◌++◌, length, All, slice_set}
use Rattle.atomic_table.specs.Table.{Me, Step as TableStep}
use Rattle.sseq.specs.declared.index.Index.{Index}
use Rattle.sseq.specs.Numbers.{cookie_at, done_at}
use Rattle.onedom.specs.declared.event.Maker.{Maker}
use Rattle.onedom.specs.declared.event.Maker.TheVariants.{Processor, Engine}
use Rattle.onedom.specs.declared.event.Event.{Event}
use Rattle.onedom.specs.declared.event.Event.TheVariants.{Begin, End, Start, Finish, Note, Ask, Find, Put}
use Rattle.onedom.specs.Histories.{HasFound, version_of, IsClear, begins_of, IsLegal, made_by, IsBeginning}
use Rattle.sections.specs.Slots.{Slot}
use Rattle.sections.specs.declared.view.Plan.{Plan}
use Rattle.sections.specs.declared.view.Role.{Role}
use Rattle.sections.specs.declared.view.Role.TheVariants.{Bearer, Cpu, Driver}
use Rattle.sections.specs.declared.view.Right.TheVariants.{Nothing, Section, Shelf}
use Rattle.sections.specs.declared.view.Lent.{Lent}
use Rattle.sections.specs.declared.view.Moment.{Moment}
use Rattle.sections.specs.declared.view.Step.{Step}
use Rattle.sections.specs.declared.view.Step.TheVariants.{LoadIndex, LoadUnlocks, LoadLocks, AddIndex, AddNumber, LoadWord}
use Rattle.sections.specs.declared.view.Shown.TheVariants.{To}
use Rattle.sections.specs.declared.view.Text.{Text}
use Rattle.sections.specs.declared.view.View.{View}
use Rattle.sections.specs.Words.{is_held, index_place, lock_place, unlock_place, cell_place, word_place, locks, unlocks, all_locks, index_word, number_word, Reaches}
use Rattle.sections.specs.Shelves.{IsStart, IsKnown, AreTextsOf, word_of, slot_words, offer_of}
use Rattle.sections.specs.Banks.{offered, plan_put, HaveOneVault}
use Rattle.sections.specs.Rule.{HasItsMaker, GoesOn, moment_of, steps_of, IsMaker}

-- the maker's own events are all of its events in what was seen
abbrev pub Owns : Role → List Event → List Event → Type 0
Owns Bearer mine seen = Unit {0}
Owns (Cpu p) mine seen = mine ≡ made_by (Processor p) seen
Owns (Driver k) mine seen = mine ≡ made_by Engine seen

-- what was seen is a legal history of a domain of so many processors, in which the maker finds its own events and no others of its own. A text is known for each Put that was seen, and each cell has one vault
pub record IsSound (processors : ℕ) (role : Role) (mine seen : List Event) (changes : ℕ) (known : List Text) : Type 0 where
  pub legal : IsLegal seen
  pub makers : All (HasItsMaker processors) seen
  pub own : Owns role mine seen
  pub reaches : Reaches changes seen
  pub texts : AreTextsOf known seen
  pub vaults : HaveOneVault known

-- what is known of texts goes on from what was known before, and from what was told
pub record KnowsTexts (v w : View) : Type 0 where
  pub since : IsStart v.texts w.texts
  pub covers : All (λ m. IsStart m.texts w.texts) v.told

-- the last text is that of a version of this cell, with these words
pub record EndsWithText (c : ℕ) (words : List ℕ) (texts : List Text) : Type 0 where
  pub before : List Text
  pub last : Text
  pub whole : texts ≡ before ++ last ∷ []
  pub cell : last.cell ≡ c
  pub same : last.words ≡ words

-- this event was added last, and before it nothing was put into the cell since that history
pub record ComesFrom (c : ℕ) (h seen : List Event) (e : Event) : Type 0 where
  pub before : List Event
  pub whole : seen ≡ before ++ e ∷ []
  pub goes_on : IsBeginning h before
  pub same : version_of c before ≡ version_of c h

-- what is seen covers what was seen before and all that was told, the step is noted, and nothing else changes
pub record Sees (l : Step) (v w : View) : Type 0 where
  pub processors : w.processors ≡ v.processors
  pub role : w.role ≡ v.role
  pub mine : w.mine ≡ v.mine
  pub right : w.right ≡ v.right
  pub shown : w.shown ≡ v.shown
  pub told : w.told ≡ []
  pub steps : (m : Maker) → IsMaker v.role m → steps_of m w.done ≡ steps_of m v.done ++ l ∷ []
  pub since : IsBeginning v.seen w.seen
  pub later : v.changes ≤ w.changes
  pub covers : All (λ m. GoesOn m (moment_of w)) v.told
  pub texts : KnowsTexts v w
  pub sound : IsSound w.processors w.role w.mine w.seen w.changes w.texts

-- the event was added behind all that was seen before and all that was told
pub record Adds (v : View) (e : Event) (w : View) : Type 0 where
  pub before : List Event
  pub seen : w.seen ≡ before ++ e ∷ []
  pub since : IsBeginning v.seen before
  pub later : v.changes ≤ w.changes
  pub covers : All (λ m. GoesOn m record { history = before; changes = w.changes; texts = [] }) v.told
  pub processors : w.processors ≡ v.processors
  pub role : w.role ≡ v.role
  pub mine : w.mine ≡ v.mine ++ e ∷ []
  pub shown : w.shown ≡ v.shown
  pub told : w.told ≡ []
  pub done : w.done ≡ v.done
  pub texts : KnowsTexts v w
  pub sound : IsSound w.processors w.role w.mine w.seen w.changes w.texts

abbrev pub Sat : Type 0
Sat = Me Slot View

-- load of the index word. Nobody but the engine changes it, so the engine finds it as it left it
abbrev pub looked : TableStep Slot → Sat → ℕ → Sat → Type 0
looked st m n m' = (m'.1 ≡ m.1) × Sees (LoadIndex n) m.0 m'.0 × (n ≡ index_word m'.0.changes) × (st.word ≡ index_place) × ((k : ℕ) → m.0.role ≡ Driver k → m'.0.changes ≡ m.0.changes)

-- the index word, as it was at a moment that is no older than so many changes
pub record IsIndexWord (n changes : ℕ) : Type 0 where
  pub moment : ℕ
  pub word : n ≡ index_word moment
  pub not_before : changes ≤ moment

-- just what was told is seen: the seat's maker made no event that is not there. The step is noted, and nothing else changes. A processor had seen what is known of it
pub record Admits (n : ℕ) (o : Moment) (v w : View) : Type 0 where
  pub processors : w.processors ≡ v.processors
  pub role : w.role ≡ v.role
  pub mine : w.mine ≡ v.mine
  pub right : w.right ≡ v.right
  pub told : w.told ≡ []
  pub steps : (m : Maker) → IsMaker v.role m → steps_of m w.done ≡ steps_of m v.done ++ LoadIndex n ∷ []
  pub seen : w.seen ≡ o.history
  pub changes : w.changes ≡ o.changes
  pub texts : w.texts ≡ o.texts
  pub texts_since : IsBeginning v.seen o.history → IsStart v.texts o.texts
  pub found : IsIndexWord n o.changes
  pub heard : (p changes : ℕ) → v.role ≡ Cpu p → v.shown ≡ To p changes → changes ≤ v.changes
  pub sound : IsSound w.processors w.role w.mine w.seen w.changes w.texts

-- load of the index word by one that was told of a history
abbrev pub admitted : TableStep Slot → Sat → ℕ → Sat → Type 0
admitted st m n m' = (m'.1 ≡ m.1) × (st.word ≡ index_place) × ((o : Moment) → m.0.told ≡ o ∷ [] → Admits n o m.0 m'.0)

-- increment of a lock counter: a section that never was begins, which may end anywhere or here alone
abbrev pub began : Bool → TableStep Slot → Sat → ℕ → Sat → Type 0
began held st m n m' = (m'.1 ≡ m.1) × ((p : ℕ) (i : Index) → m.0.role ≡ Cpu p → st.word ≡ lock_place p i
    → (s : ℕ) × Adds m.0 (Begin s p i (Processor p)) m'.0 × (m'.0.right ≡ Section s p i [] None) × (is_held s ≡ held))

-- increment of an unlock counter: the section of the seat's right ends
abbrev pub ended : TableStep Slot → Sat → ℕ → Sat → Type 0
ended st m n m' = (m'.1 ≡ m.1) × (m'.0.right ≡ Nothing) × ((s p q : ℕ) (i : Index) → m.0.role ≡ Cpu q → m.0.right ≡ Section s p i [] None
    → Adds m.0 (End s q (Processor q)) m'.0 × (p ≡ q → begins_of s m.0.mine ≡ 1))

-- the number was found, as it then was
pub record FindsNumber (n : ℕ) (w : View) : Type 0 where
  pub current : n ≡ number_word w.changes
  pub room : n + 4 ≤ 2 ^ 61

-- load of the number: a cookie is given
abbrev pub noted : TableStep Slot → Sat → ℕ → Sat → Type 0
noted st m n m' = (m'.1 ≡ m.1) × (m'.0.right ≡ m.0.right) × FindsNumber n m'.0 × ((p : ℕ) → m.0.role ≡ Cpu p → Adds m.0 (Note (cookie_at n) (Processor p)) m'.0)

-- load of the number: somebody asks after this cookie
abbrev pub asked : ℕ → TableStep Slot → Sat → ℕ → Sat → Type 0
asked cookie st m n m' = (m'.1 ≡ m.1) × (m'.0.right ≡ m.0.right) × FindsNumber n m'.0 × ((p : ℕ) → m.0.role ≡ Cpu p → Adds m.0 (Ask cookie (done_at n cookie) (Processor p)) m'.0)

-- Counters
-- Nobody but the engine changes the words, so it finds as many changes as it has made

-- load of an unlock counter
abbrev pub counted_unlocks : TableStep Slot → Sat → ℕ → Sat → Type 0
counted_unlocks st m n m' = (m'.1 ≡ m.1) × ((k : ℕ) → m.0.role ≡ Driver k → m'.0.changes ≡ m.0.changes) × ((q : ℕ) (i : Index) → st.word ≡ unlock_place q i → Sees (LoadUnlocks q i n (length m'.0.seen)) m.0 m'.0 × (n ≡ unlocks q i m'.0.seen) × (all_locks m.0.processors i m'.0.seen ≤ 2 ^ 60))

-- load of a lock counter
abbrev pub counted_locks : TableStep Slot → Sat → ℕ → Sat → Type 0
counted_locks st m n m' = (m'.1 ≡ m.1) × ((k : ℕ) → m.0.role ≡ Driver k → m'.0.changes ≡ m.0.changes) × ((p : ℕ) (i : Index) → st.word ≡ lock_place p i → Sees (LoadLocks p i n (length m'.0.seen)) m.0 m'.0 × (n ≡ locks p i m'.0.seen) × (all_locks m.0.processors i m'.0.seen ≤ 2 ^ 60))

-- Cells

-- load of a cell by the seat with the right to a section, which finds what is there
abbrev pub found : TableStep Slot → Sat → ℕ → Sat → Type 0
found st m n m' = (m'.1 ≡ m.1) × (m'.0.right ≡ m.0.right) × ((s p q c : ℕ) (i : Index) (us : List Lent) → m.0.role ≡ Cpu p → m.0.right ≡ Section s q i us None → st.word ≡ cell_place m.0.processors c
    → Adds m.0 (Find s c (n % 16) (n / 16) (Processor p)) m'.0 × IsKnown c (n / 16) m'.0.texts × (n % 16 < 8))

-- load of a word of a slot by the seat with the right to a section, which was told that the section has found that slot. The word is that of the version that was found
abbrev pub loaded : TableStep Slot → Sat → ℕ → Sat → Type 0
loaded st m n m' = (m'.1 ≡ m.1) × (m'.0.right ≡ m.0.right) × ((s q c x v i : ℕ) (j : Index) (a b : Moment) → m.0.right ≡ Section s q j [] None → m.0.told ≡ a ∷ b ∷ [] → HasFound b.history s c x v → x < 8 → i < 16 → st.word ≡ word_place m.0.processors c x i
    → Sees (LoadWord c v i n) m.0 m'.0 × (n ≡ word_of c v i m'.0.texts))

-- The words that only the seat with the right to a cell changes

-- store to a cell: the next version is put. Its words are those of the slot, and what it offers is what was laid there
abbrev pub put : TableStep Slot → Sat → ℕ → Sat → Type 0
put st m n m' = (m'.1 ≡ m.1) × ((p c x : ℕ) (own : List ℕ) (h : List Event) (q : Plan) → m.0.role ≡ Cpu p → m.0.right ≡ Shelf c own h q → x < 8 → st.word ≡ cell_place m.0.processors c → n ≡ 16 * (version_of c h + 1) + x
    → Adds m.0 (Put c x (version_of c h + 1) (Processor p)) m'.0 × (m'.0.right ≡ Shelf c own m'.0.seen (plan_put q x)) × EndsWithText c (slot_words x own) m'.0.texts × ComesFrom c h m'.0.seen (Put c x (version_of c h + 1) (Processor p)) × (offer_of c (version_of c h + 1) m'.0.texts ≡ offered q x))

-- what is seen covers what was seen before, what was told, and what goes with the right. Nothing was put into the cell since
pub record Keeps (c : ℕ) (h : List Event) (v w : View) : Type 0 where
  pub processors : w.processors ≡ v.processors
  pub role : w.role ≡ v.role
  pub mine : w.mine ≡ v.mine
  pub shown : w.shown ≡ v.shown
  pub told : w.told ≡ []
  pub done : w.done ≡ v.done
  pub since : IsBeginning v.seen w.seen
  pub later : v.changes ≤ w.changes
  pub covers : All (λ m. GoesOn m (moment_of w)) v.told
  pub goes_on : IsBeginning h w.seen
  pub same : version_of c w.seen ≡ version_of c h
  pub legal : IsLegal w.seen

-- load of a cell by the seat with the right to it
abbrev pub refreshed : TableStep Slot → Sat → ℕ → Sat → Type 0
refreshed st m n m' = (m'.1 ≡ m.1) × ((c : ℕ) (own : List ℕ) (h : List Event) (q : Plan) → m.0.right ≡ Shelf c own h q → Keeps c h m.0 m'.0 × (m'.0.right ≡ Shelf c own m'.0.seen q))

-- store of a word of a slot that nobody can read, in a domain of so many processors
abbrev pub stored : ℕ → TableStep Slot → Sat → ℕ → Sat → Type 0
stored processors st m n m' = (m'.1 ≡ m.1) × ((c x i : ℕ) (own : List ℕ) (h : List Event) (q : Plan) → m.0.right ≡ Shelf c own h q → x < 8 → i < 16 → st.word ≡ word_place processors c x i
    → Keeps c h m.0 m'.0 × (m'.0.right ≡ Shelf c (slice_set own (16 * x + i) n) m'.0.seen q) × IsClear m'.0.seen c x)

-- The engine's

-- addition of 1 to the number, at rest: a grace period starts
abbrev pub started : TableStep Slot → Sat → ℕ → Sat → Type 0
started st m n m' = (m'.1 ≡ m.1) × (m'.0.right ≡ m.0.right) × (m'.0.changes ≡ m.0.changes + 1) × Adds m.0 (Start Engine) m'.0

-- addition of 1 to the index word
abbrev pub flipped : TableStep Slot → Sat → ℕ → Sat → Type 0
flipped st m n m' = (m'.1 ≡ m.1) × (m'.0.changes ≡ m.0.changes + 1) × Sees (AddIndex (n + 1)) m.0 m'.0 × (n + 1 ≡ index_word m'.0.changes)

-- addition of 1 to the number, behind the flip
abbrev pub moved_on : TableStep Slot → Sat → ℕ → Sat → Type 0
moved_on st m n m' = (m'.1 ≡ m.1) × (m'.0.changes ≡ m.0.changes + 1) × Sees (AddNumber (n + 1)) m.0 m'.0 × (n + 1 ≡ number_word m'.0.changes)

-- addition of 2 to the number: the grace period ends
abbrev pub finished : TableStep Slot → Sat → ℕ → Sat → Type 0
finished st m n m' = (m'.1 ≡ m.1) × (m'.0.right ≡ m.0.right) × (m'.0.changes ≡ m.0.changes + 1) × Adds m.0 (Finish Engine) m'.0
