-- What the rule says of cells and slots stays so.
use Rattle.std.proofs.Common.{◌≡◌, ℕ, ◌<◌, ◌≤◌, ◌≢◌, inl, inr, ⊎_elim, false, cond, nat_le, None, List, [], ◌∷◌, ◌++◌, All, length, take, drop, get_or, set, refl, sym, ap, ◌∙◌, subst, append-nil, append_assoc, length-append, le-leb, leb-true, arith, get_or-set_other, take-append-drop}
use Rattle.std.specs.List.{cons_option}
use Rattle.std.proofs.lemmas.List.{length-map, get_or-replicate, take-take}
use Rattle.std.proofs.lemmas.List.Elements.{All-nil, All-weaker, All-push, filter_map-append}
use Rattle.std.proofs.Math.Seq.{take-length}
use Rattle.onedom.specs.declared.event.Event.{Event}
use Rattle.onedom.specs.declared.event.Event.TheVariants.{Put}
use Rattle.onedom.specs.Histories.{version_of, shelved, puts_in, puts, IsClear, MayFollow, IsLegal, IsBeginning}
use Rattle.onedom.proofs.CallerLemmas.{beginning_refl, beginning_trans, beginning_append, slot_kept, version_kept, shelved_kept, clear_until_put}
use Rattle.sections.specs.Glossary.{Bounds, Right, Moment, Step, Deed, Text, View, cells_from, cell_place, word_place, put_cell, put_cells, word_of, texts_at, IsStart, AreTextsOf, AreShelved, Writes, FitsShelf, IsTrueWord, KeepsShelf, KnowsTexts}
use Rattle.sections.specs.declared.view.Right.TheVariants.{Nothing, Section, Shelf, Undealt}
use Rattle.sections.specs.declared.view.Step.TheVariants.{LoadIndex, LoadUnlocks, LoadLocks, AddIndex, AddNumber, LoadWord}
use Rattle.sections.proofs.Knowing.{views_set, given, given_here, given_else, not_false}

-- Texts

pub texts_all : (texts : List Text) (log : List Event) → AreTextsOf texts log → texts ≡ texts_at texts log
texts_all texts log h = sym (ap (λ n. take n texts) (sym (ap length h) ∙ length-map texts (λ t. t.cell)) ∙ take-length texts)

pub start_at : (n : ℕ) (texts : List Text) → IsStart (take n texts) texts
start_at n texts = record { rest = drop n texts; whole = sym (take-append-drop n texts) }

pub fewer_puts : (seen log : List Event) → IsBeginning seen log → length (put_cells seen) ≤ length (put_cells log)
fewer_puts seen log b = let all = ap (λ l. length (put_cells l)) b.whole in let parts = ap length (filter_map-append put_cell seen b.rest) in let sum = length-append (put_cells seen) (put_cells b.rest) in omega (arith, all, parts, sum)

-- the texts of a beginning are a beginning of the texts
pub start_between : (seen more : List Event) (texts : List Text) → IsBeginning seen more → IsStart (texts_at texts seen) (texts_at texts more)
start_between seen more texts b = subst (λ (z : List Text). IsStart z (texts_at texts more)) (take-take (length (put_cells seen)) (length (put_cells more)) texts (fewer_puts seen more b)) (start_at (length (put_cells seen)) (texts_at texts more))

pub start_refl : (texts : List Text) → IsStart texts texts
start_refl texts = record { rest = []; whole = sym (append-nil texts) }

pub start_trans : {a b c : List Text} → IsStart a b → IsStart b c → IsStart a c
start_trans {a = a} ab bc = record { rest = ab.rest ++ bc.rest; whole = bc.whole ∙ (ap (λ l. l ++ bc.rest) ab.whole ∙ append_assoc a ab.rest bc.rest) }

-- who has seen no Put more knows no text more
pub same_texts : (known texts : List Text) (seen more : List Event) → IsStart known texts → AreTextsOf known seen → AreTextsOf texts more → put_cells more ≡ put_cells seen → texts ≡ known
same_texts known texts seen more start before after same =
    let a = ap length before ∙ ap length (sym same) in
    let b = ap length after in
    let c = length-map known (λ t. t.cell) in
    let d = length-map texts (λ t. t.cell) in
    let whole = ap length start.whole ∙ length-append known start.rest in
    start.whole ∙ (ap (λ l. known ++ l) (nothing start.rest (omega (arith, a, b, c, d, whole))) ∙ append-nil known)
  where
    nothing : (rest : List Text) → length rest ≡ 0 → rest ≡ []
    nothing [] e = refl
    nothing (t ∷ ts) e = absurd (omega (arith, e))

pub no_put : (e : Event) → put_cell e ≡ None → (c : ℕ) → puts_in c e ≡ false
no_put (Put d x v by) none c = absurd cc
no_put _ none c = refl

pub no_put_of : (e : Event) → put_cell e ≡ None → (c y : ℕ) → puts c y e ≡ false
no_put_of (Put d x v by) none c y = absurd cc
no_put_of _ none c y = refl

put_cells_kept : (log : List Event) (e : Event) → put_cell e ≡ None → put_cells (log ++ e ∷ []) ≡ put_cells log
put_cells_kept log e none = filter_map-append put_cell log (e ∷ []) ∙ (ap (λ o. put_cells log ++ cons_option o []) none ∙ append-nil (put_cells log))

pub texts_on : (texts : List Text) (log : List Event) (e : Event) → put_cell e ≡ None → AreTextsOf texts log → AreTextsOf texts (log ++ e ∷ [])
texts_on texts log e none h = h ∙ sym (put_cells_kept log e none)

-- Words

-- the words of cells and slots are the same
abbrev pub IsSameShelf : Bounds → List ℕ → List ℕ → Type 0
IsSameShelf bounds words after = (k : ℕ) → cells_from bounds.processors ≤ k → get_or after k 0 ≡ get_or words k 0

pub same_shelf : (bounds : Bounds) (words : List ℕ) → IsSameShelf bounds words words
same_shelf bounds words k low = refl

pub same_set : (bounds : Bounds) (words : List ℕ) (k x : ℕ) → k < cells_from bounds.processors → IsSameShelf bounds words (set words k x)
same_set bounds words k x aside j low = get_or-set_other words k j x 0 (λ h. omega (arith, aside, low, h))

pub same_at_word : (bounds : Bounds) (words after : List ℕ) → IsSameShelf bounds words after → (c x i : ℕ) → x < 8 → i < 16 → get_or after (word_place bounds.processors c x i) 0 ≡ get_or words (word_place bounds.processors c x i) 0
same_at_word bounds words after same c x i lx li = same (word_place bounds.processors c x i) (omega arith)

pub shelved_on : (bounds : Bounds) (words after : List ℕ) (log : List Event) (texts : List Text) (e : Event) → IsSameShelf bounds words after → IsLegal log → MayFollow log e → put_cell e ≡ None → AreShelved bounds words log texts → AreShelved bounds after (log ++ e ∷ []) texts
shelved_on bounds words after log texts e same legal may none h = record {
  cells = texts_on texts log e none h.cells;
  low = λ c. let s = slot_kept c log e (no_put e none c) in let l = h.low c in omega (arith, s, l);
  current = λ c lt. let v = version_kept c log e (no_put e none c) in let s = slot_kept c log e (no_put e none c) in let w = same (cell_place bounds.processors c) (omega arith) in let o = h.current c lt in omega (arith, v, s, w, o);
  slots = λ c x lc lx. ⊎_elim (λ (clear : IsClear log c x). inl (clear_until_put log e c x legal may (no_put_of e none c x) clear))
      (λ (lies : (i : ℕ) → i < 16 → get_or words (word_place bounds.processors c x i) 0 ≡ word_of c (shelved c x log) i texts).
      inr (λ i li. same_at_word bounds words after same c x i lx li ∙ (lies i li ∙ ap (λ v. word_of c v i texts) (sym (shelved_kept c x log e (no_put_of e none c x))))))
      (h.slots c x lc lx);
}

pub shelved_same : (bounds : Bounds) (words after : List ℕ) (log : List Event) (texts : List Text) → IsSameShelf bounds words after → AreShelved bounds words log texts → AreShelved bounds after log texts
shelved_same bounds words after log texts same h = record {
  cells = h.cells;
  low = h.low;
  current = λ c lt. same (cell_place bounds.processors c) (omega arith) ∙ h.current c lt;
  slots = λ c x lc lx. ⊎_elim (λ (clear : IsClear log c x). inl clear)
      (λ (lies : (i : ℕ) → i < 16 → get_or words (word_place bounds.processors c x i) 0 ≡ word_of c (shelved c x log) i texts). inr (λ i li. same_at_word bounds words after same c x i lx li ∙ lies i li))
      (h.slots c x lc lx);
}

-- Rights to cells

pub writes_on : (bounds : Bounds) (words after : List ℕ) (log more : List Event) (writer_of : ℕ → ℕ) (j : ℕ) → IsSameShelf bounds words after → IsBeginning log more
    → ((c : ℕ) → version_of c more ≡ version_of c log) → (t : Right) → Writes bounds words log writer_of j t → Writes bounds after more writer_of j t
writes_on bounds words after log more writer_of j same on versions Nothing h = tt
writes_on bounds words after log more writer_of j same on versions (Section s p i us hand) h = tt
writes_on bounds words after log more writer_of j same on versions (Shelf c own seen q) h = record {
  writer = h.writer;
  cell = h.cell;
  upto = beginning_trans h.upto on;
  all = versions c ∙ h.all;
  long = h.long;
  stored = λ x i lx li. same_at_word bounds words after same c x i lx li ∙ h.stored x i lx li;
}
writes_on bounds words after log more writer_of j same on versions (Undealt k) h = λ c le. let n = h c le in record {
  writer = n.writer;
  unput = versions c ∙ n.unput;
  zeros = λ x i lc lx li. same_at_word bounds words after same c x i lx li ∙ n.zeros x i lc lx li;
}

pub writes_event : (bounds : Bounds) (words after : List ℕ) (log : List Event) (e : Event) (writer_of : ℕ → ℕ) (j : ℕ) → IsSameShelf bounds words after → put_cell e ≡ None → (t : Right) → Writes bounds words log writer_of j t → Writes bounds after (log ++ e ∷ []) writer_of j t
writes_event bounds words after log e writer_of j same none t h = writes_on bounds words after log (log ++ e ∷ []) writer_of j same (beginning_append log (e ∷ [])) (λ c. version_kept c log e (no_put e none c)) t h

-- who has the right to which cell, after a right went to a seat
abbrev pub moved_pen : Right → ℕ → (ℕ → ℕ) → ℕ → ℕ
moved_pen (Shelf d own seen q) m writer_of c = given d m writer_of c
moved_pen (Undealt k) m writer_of c = cond (nat_le k c) m (writer_of c)
moved_pen _ m writer_of c = writer_of c

pub moved_writes : (bounds : Bounds) (words : List ℕ) (log : List Event) (writer_of : ℕ → ℕ) (j m : ℕ) (t : Right) → Writes bounds words log writer_of j t → Writes bounds words log (moved_pen t m writer_of) m t
moved_writes bounds words log writer_of j m Nothing h = tt
moved_writes bounds words log writer_of j m (Section s p i us hand) h = tt
moved_writes bounds words log writer_of j m (Shelf c own seen q) h = record { writer = given_here c m writer_of; cell = h.cell; upto = h.upto; all = h.all; long = h.long; stored = h.stored }
moved_writes bounds words log writer_of j m (Undealt k) h = λ c le. let n = h c le in record { writer = ap (λ b. cond b m (writer_of c)) (le-leb k c le); unput = n.unput; zeros = n.zeros }

pub moved_pen_else : (bounds : Bounds) (words : List ℕ) (log : List Event) (writer_of : ℕ → ℕ) (j m : ℕ) (t : Right) → Writes bounds words log writer_of j t → (k : ℕ) → k ≢ j → (c : ℕ) → writer_of c ≡ k → moved_pen t m writer_of c ≡ k
moved_pen_else bounds words log writer_of j m (Shelf d own seen q) h k other c at = given_else d m writer_of c (λ cd. other (sym at ∙ (ap writer_of cd ∙ h.writer))) ∙ at
moved_pen_else bounds words log writer_of j m (Undealt d) h k other c at = ap (λ b. cond b m (writer_of c)) (not_false (nat_le d c) (λ le. other (sym at ∙ (h c (leb-true d c le)).writer))) ∙ at
moved_pen_else bounds words log writer_of j m _ h k other c at = at

pub writes_as : (bounds : Bounds) (words : List ℕ) (log : List Event) (writer_of writer_of' : ℕ → ℕ) (j : ℕ) → ((c : ℕ) → writer_of c ≡ j → writer_of' c ≡ j) → (t : Right) → Writes bounds words log writer_of j t → Writes bounds words log writer_of' j t
writes_as bounds words log writer_of writer_of' j same Nothing h = tt
writes_as bounds words log writer_of writer_of' j same (Section s p i us hand) h = tt
writes_as bounds words log writer_of writer_of' j same (Shelf c own seen q) h = record { writer = same c h.writer; cell = h.cell; upto = h.upto; all = h.all; long = h.long; stored = h.stored }
writes_as bounds words log writer_of writer_of' j same (Undealt k) h = λ c le. let n = h c le in record { writer = same c n.writer; unput = n.unput; zeros = n.zeros }

-- What a seat knows

pub fits_shelf_on : (bounds : Bounds) (words after : List ℕ) (log more : List Event) (texts : List Text) (writer_of : ℕ → ℕ) (j : ℕ) → IsSameShelf bounds words after → IsBeginning log more → ((c : ℕ) → version_of c more ≡ version_of c log)
    → (v : View) → FitsShelf bounds words log texts writer_of j v → FitsShelf bounds after more texts writer_of j v
fits_shelf_on bounds words after log more texts writer_of j same on versions v f = record { has = f.has; told = f.told; writes = writes_on bounds words after log more writer_of j same on versions v.right f.writes }

pub fits_shelf_as : (bounds : Bounds) (words : List ℕ) (log : List Event) (texts : List Text) (writer_of writer_of' : ℕ → ℕ) (j : ℕ) → ((c : ℕ) → writer_of c ≡ j → writer_of' c ≡ j)
    → (v : View) → FitsShelf bounds words log texts writer_of j v → FitsShelf bounds words log texts writer_of' j v
fits_shelf_as bounds words log texts writer_of writer_of' j same v f = record { has = f.has; told = f.told; writes = writes_as bounds words log writer_of writer_of' j same v.right f.writes }

word_later : (log more : List Event) (texts : List Text) → ((c : ℕ) → version_of c more ≡ version_of c log) → (l : Step) → IsTrueWord log texts l → IsTrueWord more texts l
word_later log more texts versions (LoadIndex n) h = tt
word_later log more texts versions (LoadUnlocks q i n k) h = tt
word_later log more texts versions (LoadLocks p i n k) h = tt
word_later log more texts versions (AddIndex n) h = tt
word_later log more texts versions (AddNumber n) h = tt
word_later log more texts versions (LoadWord c v i n) h = let same = versions c in let low = h.0 in (omega (arith, same, low), h.1)

pub loaded_later : (deeds : List Deed) (log more : List Event) (texts : List Text) → ((c : ℕ) → version_of c more ≡ version_of c log) → All (λ d. IsTrueWord log texts d.step) deeds → All (λ d. IsTrueWord more texts d.step) deeds
loaded_later deeds log more texts versions h = All-weaker (λ d. IsTrueWord log texts d.step) (λ d. IsTrueWord more texts d.step) (λ d t. word_later log more texts versions d.step t) deeds h

-- The rule

-- an event that is no Put, with a change of no word of a cell or slot
unfoldable pub shelf_event : (bounds : Bounds) (words after : List ℕ) (views : List View) (log : List Event) (deeds : List Deed) (id : ℕ) (w : View) (e : Event) (k : KeepsShelf bounds words views log deeds)
    → IsSameShelf bounds words after → length after ≡ length words → IsLegal log → MayFollow log e → put_cell e ≡ None
    → FitsShelf bounds after (log ++ e ∷ []) k.texts k.writer_of id w → KeepsShelf bounds after (set views id w) (log ++ e ∷ []) deeds
shelf_event bounds words after views log deeds id w e k same long legal may none fits = let versions : (c : ℕ) → version_of c (log ++ e ∷ []) ≡ version_of c log = λ c. version_kept c log e (no_put e none c) in record {
  texts = k.texts;
  writer_of = k.writer_of;
  room = long ∙ k.room;
  shelved = shelved_on bounds words after log k.texts e same legal may none k.shelved;
  each = views_set (FitsShelf bounds after (log ++ e ∷ []) k.texts k.writer_of) views id w fits (λ j d _ at. fits_shelf_on bounds words after log (log ++ e ∷ []) k.texts k.writer_of j same (beginning_append log (e ∷ [])) versions d (k.each j d at));
  loaded = loaded_later deeds log (log ++ e ∷ []) k.texts versions k.loaded;
}

-- a step that is no event
unfoldable pub shelf_deed : (bounds : Bounds) (words after : List ℕ) (views : List View) (log : List Event) (deeds : List Deed) (id : ℕ) (w : View) (d : Deed) (k : KeepsShelf bounds words views log deeds) → IsSameShelf bounds words after → length after ≡ length words → IsTrueWord log k.texts d.step
    → FitsShelf bounds after log k.texts k.writer_of id w → KeepsShelf bounds after (set views id w) log (deeds ++ d ∷ [])
shelf_deed bounds words after views log deeds id w d k same long is fits = record {
  texts = k.texts;
  writer_of = k.writer_of;
  room = long ∙ k.room;
  shelved = shelved_same bounds words after log k.texts same k.shelved;
  each = views_set (FitsShelf bounds after log k.texts k.writer_of) views id w fits (λ j u _ at. fits_shelf_on bounds words after log log k.texts k.writer_of j same (beginning_refl log) (λ c. refl) u (k.each j u at));
  loaded = All-push (λ x. IsTrueWord log k.texts x.step) deeds d k.loaded is;
}

-- a seat's view is another one, and nothing else
abbrev pub shelf_set : {bounds : Bounds} {words : List ℕ} {views : List View} {log : List Event} {deeds : List Deed} (k : KeepsShelf bounds words views log deeds) (id : ℕ) (w : View) → FitsShelf bounds words log k.texts k.writer_of id w → KeepsShelf bounds words (set views id w) log deeds
shelf_set {bounds} {words} {views} {log} k id w fits = record { texts = k.texts; writer_of = k.writer_of; room = k.room; shelved = k.shelved; each = views_set (FitsShelf bounds words log k.texts k.writer_of) views id w fits (λ j d _ e. k.each j d e); loaded = k.loaded }

-- who has seen all
pub knows_texts : (bounds : Bounds) (words : List ℕ) (log : List Event) (texts : List Text) (writer_of : ℕ → ℕ) (j : ℕ) (v w : View) → FitsShelf bounds words log texts writer_of j v → w.texts ≡ texts → KnowsTexts v w
knows_texts bounds words log texts writer_of j v w f is = record {
  since = subst (λ (z : List Text × List Text). IsStart z.0 z.1) (λ i. (sym f.has i, sym is i)) (start_at (length (put_cells v.seen)) texts);
  covers = All-weaker (λ m. m.texts ≡ texts_at texts m.history) (λ m. IsStart m.texts w.texts)
      (λ m e. subst (λ (z : List Text × List Text). IsStart z.0 z.1) (λ i. (sym e i, sym is i)) (start_at (length (put_cells m.history)) texts)) v.told f.told;
}

-- what a seat knows that has seen all, and was told nothing more
pub fits_all : (bounds : Bounds) (words : List ℕ) (log : List Event) (texts : List Text) (writer_of : ℕ → ℕ) (j : ℕ) (w : View) → w.texts ≡ texts → w.seen ≡ log → w.told ≡ [] → AreTextsOf texts log → Writes bounds words log writer_of j w.right → FitsShelf bounds words log texts writer_of j w
fits_all bounds words log texts writer_of j w is seen untold cells h = record {
  has = is ∙ (texts_all texts log cells ∙ ap (texts_at texts) (sym seen));
  told = subst (λ (l : List Moment). All (λ m. m.texts ≡ texts_at texts m.history) l) (sym untold) (All-nil (λ m. m.texts ≡ texts_at texts m.history));
  writes = h;
}

-- A new domain

pub shelved_new : (bounds : Bounds) (words : List ℕ) → ((k : ℕ) → get_or words k 0 ≡ 0) → AreShelved bounds words [] []
shelved_new bounds words zeros = record {
  cells = refl;
  low = λ c. omega arith;
  current = λ c lt. zeros (cell_place bounds.processors c);
  slots = λ c x lc lx. inr (λ i li. zeros (word_place bounds.processors c x i) ∙ sym (get_or-replicate 16 i 0 0 li));
}
