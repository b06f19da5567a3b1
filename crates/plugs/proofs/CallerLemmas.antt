-- For the proofs of callers: what was put is read.
use Rattle.std.proofs.Common.{◌≡◌, ℕ, ◌<◌, Option, List, get_or, sym, ap, ◌∙◌, arith, ext_get_or}
use Rattle.sections.specs.Shelves.{words_of}
use Rattle.sections.specs.Views.{ReadingView, FoundView}
use Rattle.sections.specs.Reads.{AreWords}
use Rattle.sections.specs.WriterViews.{WriterView}
use Rattle.domain.specs.Views.{CpuView}
use Rattle.domain.specs.Waiting.{HasNoneOpen}
use Rattle.sections.specs.Calls.{Unlocks}
use Rattle.domain.proofs.CallerLemmas.{same_all_loaded, same_found, same_put, same_reclaimed, none_still, none_enclosed, none_held, none_ended}
use Rattle.plugs.specs.declared.rows.Row.{Row}
use Rattle.plugs.specs.Parts.{rows_in}
use Rattle.plugs.specs.Tables.{plug_of, IsTable, text_of}
use Rattle.plugs.specs.Views.{LeaseView}
use Rattle.domain.specs.Publishing.{FindsNone}
use Rattle.plugs.specs.Changes.{Publishes}
use Rattle.plugs.specs.Reading.{LoadsRows, LooksUp, Leases, Gets}
use Rattle.plugs.proofs.Texts.{text_long, read_back as rows_out}

-- the version has the text of this table
abbrev pub HasTable : FoundView → List Row → Type 0
HasTable f rows = IsTable rows × (words_of f.cell f.version f.texts ≡ text_of rows)

words_put : (f : FoundView) (rows : List Row) (words : List ℕ) → HasTable f rows → AreWords f words → words ≡ text_of rows
words_put f rows words has are = ext_get_or 0 words (text_of rows) (are.long ∙ sym (text_long rows has.0.few))
    (λ i lt. let li : i < 16 = (let n = are.long in omega (arith, lt, n)) in are.each i li ∙ ap (λ l. get_or l i 0) has.1)

-- the rows come out of the text of their table
pub read_back : (rows : List Row) → IsTable rows → rows_in (text_of rows) ≡ rows
read_back rows table = rows_out rows table

module _ {J : Type 0} where
  -- these rows are read
  pub rows_put : (r : ReadingView) (f : FoundView) (put rows : List Row) (c c' : CpuView J) → HasTable f put → LoadsRows r f rows c c' → rows ≡ put
  rows_put r f put rows c c' has h = h.read.whole put has.0 (words_put f put h.words has h.loads.words_are)

  -- a key is looked up in them
  pub looked_up : (cell key : ℕ) (plug : Option ℕ) (put : List Row) (c c' : CpuView J) (h : LooksUp cell key plug c c') → HasTable h.finds.found put → plug ≡ plug_of put key
  looked_up cell key plug put c c' h has = h.plug_is ∙ ap (λ l. plug_of l key) (rows_put h.reading h.finds.found put h.rows h.finds.at h.at has h.finds.loads)

  -- and so it is by a lease
  pub got : (lease : LeaseView) (key : ℕ) (plug : Option ℕ) (put : List Row) (c c' : CpuView J) → Gets lease key plug c c' → HasTable lease.found put → plug ≡ plug_of put key
  got lease key plug put c c' h has = h.plug_is ∙ ap (λ l. plug_of l key) (rows_put lease.held lease.found put h.rows c c' has h.loads)

  -- changing a table opens no section, whether a slot was free or not
  pub none_published : (text : List ℕ) (version : ℕ) (w w' : WriterView) (c c' : CpuView J) → Publishes text version w c w' c' → HasNoneOpen c → HasNoneOpen c'
  none_published text version w w' c c' h none =
      none_still h.at c' (same_put h.slot.slot h.puts.cookie h.puts.filled w' h.at.cpu c'.cpu h.puts.puts.puts) (none_still c h.at (same_reclaimed w h.claims.freed c.cpu h.at.cpu h.claims.frees.reclaims) none)

  pub none_refused : (w w' : WriterView) (c c' : CpuView J) → FindsNone w c w' c' → HasNoneOpen c → HasNoneOpen c'
  none_refused w w' c c' h none = none_still c c' (same_reclaimed w w' c.cpu c'.cpu h.frees.reclaims) none

  -- a look in a section of its own leaves none open where none was; where it is refused, `none_looked` of domain says so
  pub none_looked_up : {cell key : ℕ} {plug : Option ℕ} (c c' : CpuView J) → LooksUp cell key plug c c' → HasNoneOpen c → HasNoneOpen c'
  none_looked_up c c' h none =
      let found = same_found _ h.reading h.finds.found h.begun.cpu h.finds.at.cpu h.finds.finds in
      none_enclosed c h.begun h.at c' h.reading h.locks (same_all_loaded h.finds.at h.at h.finds.loads.loads ∙ found) h.ends none

  -- and so does a lease that begins, is read, and is released
  pub none_leased : {cell : ℕ} {lease : LeaseView} (c c' : CpuView J) → Leases cell lease c c' → HasNoneOpen c → HasNoneOpen c'
  none_leased c c' h none = none_still h.begun c' (same_found _ _ _ h.begun.cpu c'.cpu h.finds) (none_held c h.begun _ h.downs none)

  pub none_got : {lease : LeaseView} {key : ℕ} {plug : Option ℕ} (c c' : CpuView J) → Gets lease key plug c c' → HasNoneOpen c → HasNoneOpen c'
  none_got c c' h none = none_still c c' (same_all_loaded c c' h.loads.loads) none

  pub none_released : (held : ReadingView) (c c' : CpuView J) → Unlocks held c.cpu c'.cpu → HasNoneOpen c → HasNoneOpen c'
  none_released held c c' ends none = none_ended held c c' ends none
