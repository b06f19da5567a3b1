-- What a put tells, of what each of its calls tells.
use Rattle.std.proofs.Common.{◌≡◌, ℕ, zero, suc, ◌<◌, List, [], ◌∷◌, length, get_or, set, sym, ap, ◌∙◌, subst, arith}
use Rattle.std.proofs.lemmas.List.{length-set, get_or-set_same}
use Rattle.sections.specs.declared.writer.Standing.{Standing}
use Rattle.sections.specs.declared.writer.Standing.TheVariants.{Blank, Out, Current, Retired}
use Rattle.sections.specs.Views as sections
use Rattle.sections.specs.Shelves.{offer_of}
use Rattle.sections.specs.Banks.{offered}
use Rattle.sections.specs.WriterViews.{WriterView, SlotView}
use Rattle.sections.specs.Writers.{IsSameWriter, PutsSlot, standing_of}
use Rattle.domain.specs.Views.{CpuView}
use Rattle.domain.specs.Writers.{PutsAndAsks}
use Rattle.boxes.specs.Boxes.{BoxWriterView}
use Rattle.boxes.specs.Laying.{IsSameBut, TakesFree}
use Rattle.boxes.specs.Writing.{PutsVersion}

-- the keys that are laid are no part of it
pub same_planned : (w w' : WriterView) → w' ≡ record w { plan = w'.plan } → IsSameWriter w w'
same_planned w w' rest = record {
  domain = ap (λ (z : WriterView). z.domain) rest;
  cell = ap (λ (z : WriterView). z.cell) rest;
  slots = ap (λ (z : WriterView). z.slots) rest;
  version = ap (λ (z : WriterView). z.version) rest;
  current = ap (λ (z : WriterView). z.current) rest;
}

pub same_writer : (x : ℕ) (w w' : WriterView) → IsSameBut x w w' → IsSameWriter w w'
same_writer x w w' h = same_planned w w' h.rest

pub same_trans : (a b c : WriterView) → IsSameWriter a b → IsSameWriter b c → IsSameWriter a c
same_trans a b c h k = record { domain = k.domain ∙ h.domain; cell = k.cell ∙ h.cell; slots = k.slots ∙ h.slots; version = k.version ∙ h.version; current = k.current ∙ h.current }

module _ {V A : Type 0} where
  -- the writer of the slot that was taken is the one before
  pub taken_same : (x : ℕ) (s : SlotView) (w taken : BoxWriterView V A) (at : WriterView) → TakesFree x w taken s → at ≡ taken.writer → IsSameWriter w.writer at
  taken_same x s w taken at takes is = subst (λ (z : WriterView). IsSameWriter w.writer z) (sym is) takes.gives.1.same

  -- and the slot is out
  pub taken_out : (x : ℕ) (s : SlotView) (w taken : BoxWriterView V A) (at : WriterView) → TakesFree x w taken s → at ≡ taken.writer → at.standings ≡ set w.writer.standings s.slot Out
  taken_out x s w taken at takes is = ap (λ (z : WriterView). z.standings) is ∙ takes.gives.1.standings

  -- with its words as they were, in what was seen before
  pub taken_words : (x : ℕ) (s : SlotView) (w taken : BoxWriterView V A) (at : WriterView) → TakesFree x w taken s → at ≡ taken.writer → (at.words ≡ w.writer.words) × (at.seen ≡ w.writer.seen)
  taken_words x s w taken at takes is = (ap (λ (z : WriterView). z.words) is ∙ takes.gives.1.words, ap (λ (z : WriterView). z.seen) is ∙ takes.gives.1.seen)

-- where a row has something else than what stands for nothing, it is long enough
in_row : {X : Type 0} (xs : List X) (x : ℕ) (d y : X) → get_or xs x d ≡ y → (y ≡ d → ⊥) → x < length xs
in_row [] x d y e ne = absurd (ne (sym e))
in_row (z ∷ zs) zero d y e ne = omega arith
in_row (z ∷ zs) (suc x) d y e ne = let lt = in_row zs x d y e ne in omega (arith, lt)

out_is_not_blank : Out ≡ Blank → ⊥
out_is_not_blank e = cc

-- a slot that was out and was put stands as the current one
pub put_stands : (slot cookie : ℕ) (w w' : WriterView) (c c' : sections.CpuView) → standing_of w slot ≡ Out → PutsSlot slot cookie w c w' c' → standing_of w' w'.current ≡ Current
put_stands slot cookie w w' c c' out h =
    let retired = set w.standings w.current (Retired cookie) in
    let lt : slot < length retired = subst (λ (n : ℕ). slot < n) (sym (length-set w.standings w.current (Retired cookie))) (in_row w.standings slot Blank Out out out_is_not_blank) in
    ap (λ (l : List Standing). get_or l w'.current Blank) h.standings ∙ (ap (λ (k : ℕ). get_or (set retired slot Current) k Blank) h.current ∙ get_or-set_same retired slot Current Blank lt)

pub same_standings : (x : ℕ) (w w' : WriterView) → IsSameBut x w w' → w'.standings ≡ w.standings
same_standings x w w' h = ap (λ (z : WriterView). z.standings) h.rest

module _ {V A J : Type 0} where
  -- the slot that was taken was filled and put
  abbrev pub puts_version : (cookie : ℕ) (s : SlotView) (w taken w' : BoxWriterView V A) (filled : WriterView) (c c' : CpuView J) → TakesFree s.slot w taken s
      → IsSameWriter w.writer filled → filled.standings ≡ set w.writer.standings s.slot Out → (filled.words ≡ w.writer.words) × (filled.seen ≡ w.writer.seen) → PutsAndAsks s.slot cookie filled c w'.writer c' → w'.processors ≡ w.processors → w'.vault ≡ w.vault → PutsVersion cookie w c w' c'
  puts_version cookie s w taken w' filled c c' takes same standings still puts many vault = record {
    slot = s.slot;
    inside = subst (λ (n : ℕ). s.slot < n) takes.gives.1.same.slots takes.gives.1.own.inside;
    free = (takes.none, takes.gives.1.blank);
    filled = filled;
    same = same;
    standings = standings;
    words = still.0;
    seen = still.1;
    puts = puts;
    cell = λ i. record { domain = (puts.puts.domain ∙ same.domain) i; cell = (puts.puts.cell ∙ same.cell) i; processors = many i; vault = vault i };
  }

  -- the version offers the parts that were laid
  pub offer_put : (cookie x : ℕ) (w : BoxWriterView V A) (filled put : WriterView) (c c' : CpuView J) → IsSameWriter w.writer filled → PutsAndAsks x cookie filled c put c' → offer_of w.writer.cell put.version c'.cpu.texts ≡ offered filled.plan x
  offer_put cookie x w filled put c c' same puts = subst (λ (k : ℕ). offer_of k put.version c'.cpu.texts ≡ offered filled.plan x) same.cell puts.puts.offers
