-- What a caller knows of the seats, lists and batches of a domain's callbacks.
use Rattle.std.specs.Prelude.{◌≡◌, ℕ, ◌+◌, ◌≤◌, List, Option, length}
use Rattle.atomic_table.specs.Seated.{TableId}
use Rattle.segs.specs.MarkedList.{Mark}
use Rattle.sections.specs.Sights.{SightView}
use Rattle.sections.specs.Views.{CookieView}
use Rattle.calls.specs.declared.entry.Entry.{Entry}
use Rattle.calls.specs.declared.view.Deed.{Deed}
use Rattle.calls.specs.Lines.{count_out, gathered, line_in}
use Rattle.calls.specs.Tallies.{finished_in}

-- `domain` is the domain of the jobs' cookies, and `tallies` are the tally words, for so many processors. `seen` is what was done on them, as far as the seat of this processor has seen it
pub record CallSeatView (J : Type 0) : Type 0 where
  pub domain : TableId
  pub tallies : TableId
  pub processors : ℕ
  pub processor : ℕ
  pub seen : List (Deed J)

-- what its giver had seen of what was done on these tally words
pub record NoteView (J : Type 0) : Type 0 where
  pub tallies : TableId
  pub seen : List (Deed J)

-- the job of this number, among all that were ever queued on the processor, and the cookie it waits for. `seen` is what its giver had seen of what was done on these tally words
pub record ReceiptView (J : Type 0) : Type 0 where
  pub tallies : TableId
  pub processor : ℕ
  pub k : ℕ
  pub cookie : CookieView
  pub seen : List (Deed J)

-- what never changes in a list, and what its lock knows of it: the domain, the tally words, and the processor
pub record ListKey : Type 0 where
  pub domain : TableId
  pub tallies : TableId
  pub processor : ℕ

-- `entries` are those that were moved here and not taken, in order, with their marks; so many of them since something was last taken out.
-- So many were finished before, and so many are in the batch that is out; so many were queued, at least. `given` goes as far as each of those who queued them, and `sight` as far as those who took some out
pub record ListView (J : Type 0) : Type 0 where
  pub tallies : TableId
  pub processor : ℕ
  pub counted : ℕ
  pub finished : ℕ
  pub out : Option ℕ
  pub moved : ℕ
  pub entries : List (Entry J × Mark)
  pub given : SightView
  pub sight : SightView

-- a batch of `count` entries, the first of which has the number `first` among all that its processor ever queued. `entries` are those that are left in it
pub record BatchView (J : Type 0) : Type 0 where
  pub tallies : TableId
  pub processor : ℕ
  pub first : ℕ
  pub count : ℕ
  pub entries : List (Entry J)

-- for each processor of the tally words, in order, how many of its calls have to be finished
pub record TicketView : Type 0 where
  pub tallies : TableId
  pub numbers : List ℕ

-- the callbacks of a domain with so many processors
pub record CallsView : Type 0 where
  pub domain : TableId
  pub tallies : TableId
  pub processors : ℕ

module _ {J : Type 0} where
  abbrev pub key_of : ListView J → ListKey
  key_of l = record { domain = l.sight.domain; tallies = l.tallies; processor = l.processor }

  -- the number of the list's first entry, among all that were queued
  abbrev pub first_of : ListView J → ℕ
  first_of l = l.finished + count_out l.out

  -- and the number that the next one will have that is moved
  abbrev pub next_of : ListView J → ℕ
  next_of l = first_of l + length l.entries

  -- for one who has seen this, the list is the one of its processor, once so many of those that came in are moved
  pub record IsListIn (seen : List (Deed J)) (l : ListView J) : Type 0 where
    pub finished : l.finished ≡ finished_in l.processor seen
    pub out : l.out ≡ (line_in l.processor seen).out
    pub few : l.moved ≤ length (line_in l.processor seen).coming
    pub entries : l.entries ≡ (gathered l.moved (line_in l.processor seen)).waiting
