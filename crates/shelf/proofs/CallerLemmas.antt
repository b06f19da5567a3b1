-- For the proofs of callers: what was put is read.
use Rattle.std.proofs.Common.{◌≡◌, ℕ, ◌<◌, List, length, get_or, sym, ap, ◌∙◌, arith, ext_get_or}
use Rattle.onedom.specs.Histories.{open_sections}
use Rattle.sections.specs.Shelves.{words_of}
use Rattle.sections.specs.Views.{ReadingView, FoundView}
use Rattle.sections.specs.Calls.{IsSameCpu}
use Rattle.sections.specs.Reads.{AreWords}
use Rattle.sections.specs.WriterViews.{WriterView}
use Rattle.domain.specs.Views.{CpuView, with_cpu}
use Rattle.domain.specs.Waiting.{HasNoneOpen}
use Rattle.domain.proofs.CallerLemmas.{SameOpen, same_found, same_put, same_reclaimed, none_still}
use Rattle.shelf.specs.Reading.{Loads, Reads}
use Rattle.domain.specs.Publishing.{FindsNone}
use Rattle.shelf.specs.Replacing.{Replaces}

-- a version has the same words each time
pub same_words : (f : FoundView) (a b : List ℕ) → AreWords f a → AreWords f b → a ≡ b
same_words f a b first second = ext_get_or 0 a b (first.long ∙ sym second.long) (λ i lt. let li : i < 16 = (let n = first.long in omega (arith, lt, n)) in first.each i li ∙ sym (second.each i li))

-- where the version has the words of a value, these are read
pub words_put : (f : FoundView) (text words : List ℕ) → length text ≡ 16 → words_of f.cell f.version f.texts ≡ text → AreWords f words → words ≡ text
words_put f text words long has are = ext_get_or 0 words text (are.long ∙ sym long) (λ i lt. let li : i < 16 = (let n = are.long in omega (arith, lt, n)) in are.each i li ∙ ap (λ l. get_or l i 0) has)

module _ {J : Type 0} where
  -- replacing opens no section, whether a slot was free or not
  pub none_replaced : (text : List ℕ) (cookie : ℕ) (w w' : WriterView) (c c' : CpuView J) → Replaces text cookie w c w' c' → HasNoneOpen c → HasNoneOpen c'
  none_replaced text cookie w w' c c' h none =
      none_still h.at c' (same_put h.slot.slot h.puts.cookie h.puts.filled w' h.at.cpu c'.cpu h.puts.puts.puts) (none_still c h.at (same_reclaimed w h.claims.freed c.cpu h.at.cpu h.claims.frees.reclaims) none)

  pub none_refused : (w w' : WriterView) (c c' : CpuView J) → FindsNone w c w' c' → HasNoneOpen c → HasNoneOpen c'
  none_refused w w' c c' h none = none_still c c' (same_reclaimed w w' c.cpu c'.cpu h.frees.reclaims) none

  -- reading leaves the processor the same, in one call or in two
  pub same_loaded : {T : Type 0} (value : List ℕ → T) (r : ReadingView) (f : FoundView) (c c' : CpuView J) (x : T) → Loads value r f c c' x → IsSameCpu c.cpu c'.cpu
  same_loaded value r f c c' x h = h.loads.same

  pub same_read : {T : Type 0} (value : List ℕ → T) (cell : ℕ) (r : ReadingView) (c c' : CpuView J) (x : T) → Reads value cell r c c' x → IsSameCpu c.cpu c'.cpu
  same_read value cell r c c' x h = let f = h.finds.adds.same in let l = h.loads.loads.same in (l.0 ∙ f.0, l.1 ∙ f.1, l.2 ∙ f.2, l.3 ∙ f.3)

  -- it opens no section and closes none
  pub open_read : {T : Type 0} (value : List ℕ → T) (cell : ℕ) (r : ReadingView) (c c' : CpuView J) (x : T) → Reads value cell r c c' x → SameOpen c.cpu c'.cpu
  open_read value cell r c c' x h = ap open_sections h.loads.loads.mine ∙ same_found cell r h.found c.cpu h.between.cpu h.finds

  -- and changes nothing but the processor's seat at the domain's words
  pub rest_read : {T : Type 0} (value : List ℕ → T) (cell : ℕ) (r : ReadingView) (c c' : CpuView J) (x : T) → Reads value cell r c c' x → c' ≡ with_cpu c'.cpu c
  rest_read value cell r c c' x h = h.loads.loads.rest ∙ ap (λ (z : CpuView J). with_cpu c'.cpu z) h.only
