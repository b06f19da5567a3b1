-- What the writer of a cell does.
use Rattle.std.specs.Prelude.{zero, suc, [], length, if◌then◌else◌, ◌≡◌, ◌≢◌, ℕ, ◌+◌, ◌*◌, ◌%◌, ◌^◌, ◌<◌, ◌≤◌, ◌⊎◌, Bool, true, false, List, ◌∷◌, ◌++◌, slice_set, slice_index_or}
use Rattle.onedom.specs.declared.event.Maker.{Maker}
use Rattle.onedom.specs.declared.event.Event.{Event}
use Rattle.onedom.specs.declared.event.Event.TheVariants.{Note, Ask, Put}
use Rattle.onedom.specs.Histories.{slot_of, finds_of, IsClear, IsBeginning}
use Rattle.sections.specs.declared.writer.Standing.{Standing}
use Rattle.sections.specs.declared.writer.Standing.TheVariants.{Blank, Out, Current, Retired}
use Rattle.onedom.specs.declared.event.Maker.TheVariants.{Processor}
use Rattle.sseq.specs.Numbers.{cookie_at}
use Rattle.sections.specs.Shelves.{IsStart, slot_words, offer_of}
use Rattle.sections.specs.Banks.{offered, plan_put}
use Rattle.sections.specs.Plays.{EndsWithText}
use Rattle.sections.specs.Views.{CpuView}
use Rattle.sections.specs.Calls.{IsSeenBy, IsSameCpu, AddsEvent, Notes, Asks}
use Rattle.sections.specs.WriterViews.{WriterView, SlotView}

abbrev pub standing_of : WriterView → ℕ → Standing
standing_of w x = slice_index_or w.standings x Blank

-- the slot was given out by this writer, and not given back
pub record IsOwn (w : WriterView) (s : SlotView) : Type 0 where
  pub domain : s.domain ≡ w.domain
  pub cell : s.cell ≡ w.cell
  pub inside : s.slot < w.slots
  pub out : standing_of w s.slot ≡ Out

-- the same writer, which has put nothing
pub record IsSameWriter (w w' : WriterView) : Type 0 where
  pub domain : w'.domain ≡ w.domain
  pub cell : w'.cell ≡ w.cell
  pub slots : w'.slots ≡ w.slots
  pub version : w'.version ≡ w.version
  pub current : w'.current ≡ w.current

-- one word was stored. What is then seen goes on from what was seen before, and nobody can read the slot there
pub record Sets (slot place value : ℕ) (w w' : WriterView) : Type 0 where
  pub same : IsSameWriter w w'
  pub standings : w'.standings ≡ w.standings
  pub words : w'.words ≡ slice_set w.words (16 * slot + place) value
  pub plan : w'.plan ≡ w.plan
  pub since : IsBeginning w.seen w'.seen
  pub clear : IsClear w'.seen w.cell slot

pub record GivesBack (slot : ℕ) (w w' : WriterView) : Type 0 where
  pub same : IsSameWriter w w'
  pub standings : w'.standings ≡ slice_set w.standings slot Blank
  pub words : w'.words ≡ w.words
  pub plan : w'.plan ≡ w.plan
  pub seen : w'.seen ≡ w.seen

-- What a put does
-- the slot was put as the next version, behind all that the two had seen, and then a cookie was given, of this number. The slot that was current is retired with it. The version has the words that the slot had, and offers the parts that are there
pub record PutsSlot (slot cookie : ℕ) (w : WriterView) (c : CpuView) (w' : WriterView) (c' : CpuView) : Type 0 where
  pub between : CpuView
  pub number : ℕ
  pub puts : AddsEvent w.seen w.changes (Put w.cell slot (w.version + 1) (Processor c.processor)) c between
  pub text : EndsWithText w.cell (slot_words slot w.words) between.texts
  pub notes : Notes number between c'
  pub cookie_is : cookie ≡ cookie_at number
  pub cell : w'.cell ≡ w.cell
  pub domain : w'.domain ≡ w.domain
  pub slots : w'.slots ≡ w.slots
  pub version : w'.version ≡ w.version + 1
  pub current : w'.current ≡ slot
  pub standings : w'.standings ≡ slice_set (slice_set w.standings w.current (Retired cookie)) slot Current
  pub words : w'.words ≡ w.words
  pub plan : w'.plan ≡ plan_put w.plan slot
  pub offers : offer_of w.cell w'.version c'.texts ≡ offered w.plan slot
  pub since : IsBeginning c'.seen w'.seen

-- What a reclaim does

-- somebody asked after the cookie of the slot, behind all that the two had seen, and the slot is blank again just where it is done
pub record ReclaimsSlot (slot number : ℕ) (answer : Bool) (w : WriterView) (c : CpuView) (w' : WriterView) (c' : CpuView) : Type 0 where
  pub asks : Asks w.seen w.changes number answer c c'
  pub same : IsSameWriter w w'
  pub done : answer ≡ true → w'.standings ≡ slice_set w.standings slot Blank
  pub waits : answer ≡ false → w'.standings ≡ w.standings
  pub words : w'.words ≡ w.words
  pub plan : w'.plan ≡ w.plan
  pub since : IsBeginning w.seen w'.seen
  pub covers : IsBeginning c'.seen w'.seen

-- a retired slot is blank once its cookie is done. Each other one stays as it is
abbrev pub reclaimed : Bool → Standing → Standing
reclaimed done Blank = Blank
reclaimed done Out = Out
reclaimed done Current = Current
reclaimed done (Retired number) = if done then Blank else Retired number

-- the one question about a retired slot, with its answer
abbrev pub question : ℕ → Bool → Standing → List Event
question p done Blank = []
question p done Out = []
question p done Current = []
question p done (Retired number) = Ask number done (Processor p) ∷ []

-- those about the slots below this one, in their order
abbrev pub questions : ℕ → (ℕ → Bool) → WriterView → ℕ → List Event
questions p done w zero = []
questions p done w (suc x) = questions p done w x ++ question p (done x) (standing_of w x)

-- what was seen ends with the processor's own last event
pub record EndsWithOwn (c : CpuView) : Type 0 where
  pub own : List Event
  pub before : List Event
  pub last : Event
  pub mine : c.mine ≡ own ++ last ∷ []
  pub seen : c.seen ≡ before ++ last ∷ []

-- of each retired slot below this one it was asked once whether its cookie is done, and it is blank again just where it is
pub record ReclaimsBelow (slots : ℕ) (w : WriterView) (c : CpuView) (w' : WriterView) (c' : CpuView) : Type 0 where
  pub done : ℕ → Bool
  pub standings : (x : ℕ) → x < slots → standing_of w' x ≡ reclaimed (done x) (standing_of w x)
  pub mine : c'.mine ≡ c.mine ++ questions c.processor done w slots
  pub steps : c'.steps ≡ c.steps
  pub none : length (questions c.processor done w slots) ≡ 0 → (w' ≡ w) × (c' ≡ c)
  pub some : 0 < length (questions c.processor done w slots) → EndsWithOwn c' × IsBeginning w.seen c'.seen × IsBeginning c'.seen w'.seen × IsSeenBy c'
  pub same : IsSameWriter w w' × IsSameCpu c c'
  pub words : w'.words ≡ w.words
  pub plan : w'.plan ≡ w.plan
  pub since : IsBeginning c.seen c'.seen × (c.changes ≤ c'.changes) × IsStart c.texts c'.texts × IsBeginning w.seen w'.seen

-- all slots of the writer
abbrev pub Reclaims : WriterView → CpuView → WriterView → CpuView → Type 0
Reclaims w c w' c' = ReclaimsBelow w.slots w c w' c'

-- Which slot is given out
-- a blank slot was given out, which nobody can read, and fewer than 2 ^ 54 versions were put. All slots together have 128 words
pub record Gives (w w' : WriterView) (s : SlotView) : Type 0 where
  pub room : w.version < 2 ^ 54
  pub long : length w.words ≡ 128
  pub low : s.slot < 8
  pub own : IsOwn w' s
  pub blank : standing_of w s.slot ≡ Blank
  pub clear : IsClear w'.seen w.cell s.slot
  pub same : IsSameWriter w w'
  pub standings : w'.standings ≡ slice_set w.standings s.slot Out
  pub words : w'.words ≡ w.words
  pub plan : w'.plan ≡ w.plan
  pub seen : w'.seen ≡ w.seen

abbrev pub NoneBlank : WriterView → Type 0
NoneBlank w = (x : ℕ) → x < w.slots → standing_of w x ≢ Blank

-- none was blank, or 2 ^ 54 versions were put
pub record GivesNone (w w' : WriterView) : Type 0 where
  pub none : 2 ^ 54 ≤ w.version ⊎ NoneBlank w
  pub same : w' ≡ w

-- this slot was given out, which was blank
abbrev pub GivesAt : ℕ → WriterView → WriterView → SlotView → Type 0
GivesAt x w w' s = (s.slot ≡ x) × Gives w w' s

-- it was not blank, or 2 ^ 54 versions were put
pub record GivesNotAt (x : ℕ) (w w' : WriterView) : Type 0 where
  pub none : 2 ^ 54 ≤ w.version ⊎ standing_of w x ≢ Blank
  pub same : w' ≡ w

-- How slots stand

abbrev pub is_out : Standing → Bool
is_out Out = true
is_out s = false

-- the slot was not current any more when the cookie of this number was given, and nobody has found it since
pub record IsRetired (seen : List Event) (c x number : ℕ) : Type 0 where
  pub before : List Event
  pub by : Maker
  pub since : List Event
  pub whole : seen ≡ before ++ Note number by ∷ since
  pub unfound : (s : ℕ) → finds_of s c x seen ≡ finds_of s c x before
  pub resting : x ≢ slot_of c seen
  pub multiple : number % 4 ≡ 0

abbrev pub Stands : List Event → ℕ → ℕ → Standing → Type 0
Stands seen c x Blank = IsClear seen c x
Stands seen c x Out = IsClear seen c x
Stands seen c x Current = x ≡ slot_of c seen
Stands seen c x (Retired number) = IsRetired seen c x number
