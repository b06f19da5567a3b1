-- What a section reads of versions.
use Rattle.std.specs.Prelude.{◌≡◌, ℕ, ◌+◌, ◌<◌, ◌≤◌, List, [], ◌∷◌, ◌++◌, length, slice_index_or}
use Rattle.onedom.specs.declared.event.Maker.TheVariants.{Processor}
use Rattle.onedom.specs.declared.event.Event.TheVariants.{Find}
use Rattle.onedom.specs.Histories.{slot_of, version_of, HasFound, IsBeginning}
use Rattle.sections.specs.declared.view.Step.{Step}
use Rattle.sections.specs.declared.view.Step.TheVariants.{LoadWord}
use Rattle.sections.specs.Shelves.{IsKnown, IsStart, word_of}
use Rattle.sections.specs.Views.{CpuView, ReadingView, FoundView}
use Rattle.sections.specs.Calls.{IsSameCpu, IsSeenBy, Loads, AddsEvent}

-- the section of the reading has found this
abbrev pub IsPinned : ReadingView → FoundView → Type 0
IsPinned r f = (f.domain ≡ r.domain) × HasFound f.seen r.section f.cell f.slot f.version

-- one load of the cell, in the section of the reading, found what is current there in the history that is then seen: a version that is no older than any that the processor had seen there
pub record Finds (cell : ℕ) (r : ReadingView) (c d : CpuView) (f : FoundView) : Type 0 where
  pub adds : AddsEvent r.seen r.changes (Find r.section cell f.slot f.version (Processor c.processor)) c d
  pub current : (f.slot ≡ slot_of cell d.seen) × (f.version ≡ version_of cell d.seen)
  pub not_older : version_of cell c.seen ≤ f.version
  pub low : f.slot < 8
  pub known : IsKnown cell f.version d.texts
  pub found_is : f ≡ record { domain = c.domain; cell = cell; slot = f.slot; version = f.version; seen = d.seen; changes = d.changes; texts = d.texts }

-- one load of a word, in the section that found the version, behind all that the section had seen then. It is the word of that version, as it was when it was found and ever since it was put
pub record ReadsWord (r : ReadingView) (f : FoundView) (i word : ℕ) (c d : CpuView) : Type 0 where
  pub load : Loads (LoadWord f.cell f.version i word) c d
  pub covers_reading : IsBeginning r.seen d.seen
  pub covers : IsBeginning f.seen d.seen
  pub not_before : f.changes ≤ d.changes
  pub texts : IsStart f.texts d.texts
  pub value : word ≡ word_of f.cell f.version i f.texts

-- All words of a version

-- loads of its words, one behind the other, from word i on
abbrev pub word_loads : ℕ → ℕ → ℕ → List ℕ → List Step
word_loads c v i [] = []
word_loads c v i (w ∷ ws) = LoadWord c v i w ∷ word_loads c v (i + 1) ws

-- these are the sixteen words of the version that was found
pub record AreWords (f : FoundView) (words : List ℕ) : Type 0 where
  pub long : length words ≡ 16
  pub each : (i : ℕ) → i < 16 → slice_index_or words i 0 ≡ word_of f.cell f.version i f.texts

-- these were loaded one behind the other, in the section that found the version, behind all that the section had seen then
pub record ReadsWords (r : ReadingView) (f : FoundView) (words : List ℕ) (c d : CpuView) : Type 0 where
  pub words_are : AreWords f words
  pub same : IsSameCpu c d
  pub mine : d.mine ≡ c.mine
  pub steps : d.steps ≡ c.steps ++ word_loads f.cell f.version 0 words
  pub since : IsBeginning c.seen d.seen
  pub later : c.changes ≤ d.changes
  pub texts_since : IsStart c.texts d.texts
  pub history : IsSeenBy d
  pub covers_reading : IsBeginning r.seen d.seen
  pub covers : IsBeginning f.seen d.seen
  pub not_before : f.changes ≤ d.changes
  pub texts : IsStart f.texts d.texts
