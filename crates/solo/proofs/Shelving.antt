-- What is current in the cells, behind events of which none is a Put, and behind one that is.
use Rattle.std.proofs.Common.{◌≡◌, ◌≢◌, ℕ, zero, suc, ◌<◌, ◌==◌, cond, slice_index_or, List, [], ◌∷◌, ◌++◌, length, map, filter, refl, sym, ap, ◌∙◌, append-nil, append_assoc, arith, ne_eqb}
use Rattle.solo.proofs.Words.{map-append, append_cancel_left, filter-append, filter_map-append, Maker, Event, Begin, End, Start, Finish, Note, Ask, Find, Put, version_of, version_kept, version_put, Text, put_cell, put_cells, texts_of, blank_words, words_of, IsStart, AreTextsOf, same_texts}
use Rattle.solo.proofs.Words.{current_words, shelf_of, in_cell, with_current}

-- Nothing is put

pub versions_stay : (c : ℕ) (h es : List Event) → put_cells es ≡ [] → version_of c (h ++ es) ≡ version_of c h
versions_stay c h [] none = ap (version_of c) (append-nil h)
versions_stay c h (Put d x v by ∷ es) none = absurd (let n = ap length none in omega (arith, n))
versions_stay c h (Begin s p i by ∷ es) none = ap (version_of c) (sym (append_assoc h (Begin s p i by ∷ []) es)) ∙ (versions_stay c (h ++ Begin s p i by ∷ []) es none ∙ version_kept c h (Begin s p i by) refl)
versions_stay c h (End s q by ∷ es) none = ap (version_of c) (sym (append_assoc h (End s q by ∷ []) es)) ∙ (versions_stay c (h ++ End s q by ∷ []) es none ∙ version_kept c h (End s q by) refl)
versions_stay c h (Start by ∷ es) none = ap (version_of c) (sym (append_assoc h (Start by ∷ []) es)) ∙ (versions_stay c (h ++ Start by ∷ []) es none ∙ version_kept c h (Start by) refl)
versions_stay c h (Finish by ∷ es) none = ap (version_of c) (sym (append_assoc h (Finish by ∷ []) es)) ∙ (versions_stay c (h ++ Finish by ∷ []) es none ∙ version_kept c h (Finish by) refl)
versions_stay c h (Note k by ∷ es) none = ap (version_of c) (sym (append_assoc h (Note k by ∷ []) es)) ∙ (versions_stay c (h ++ Note k by ∷ []) es none ∙ version_kept c h (Note k by) refl)
versions_stay c h (Ask k b by ∷ es) none = ap (version_of c) (sym (append_assoc h (Ask k b by ∷ []) es)) ∙ (versions_stay c (h ++ Ask k b by ∷ []) es none ∙ version_kept c h (Ask k b by) refl)
versions_stay c h (Find s d x v by ∷ es) none = ap (version_of c) (sym (append_assoc h (Find s d x v by ∷ []) es)) ∙ (versions_stay c (h ++ Find s d x v by ∷ []) es none ∙ version_kept c h (Find s d x v by) refl)

no_more_puts : (h es : List Event) → put_cells es ≡ [] → put_cells (h ++ es) ≡ put_cells h
no_more_puts h es none = filter_map-append put_cell h es ∙ (ap (λ l. put_cells h ++ l) none ∙ append-nil (put_cells h))

module _ (h es h' : List Event) (whole : h' ≡ h ++ es) (none : put_cells es ≡ []) where
  pub texts_stay : (known texts : List Text) → IsStart known texts → AreTextsOf known h → AreTextsOf texts h' → texts ≡ known
  texts_stay known texts start before after = same_texts known texts h h' start before after (ap put_cells whole ∙ no_more_puts h es none)

  words_stay : (known texts : List Text) → texts ≡ known → (cell : ℕ) → current_words h' texts cell ≡ current_words h known cell
  words_stay known texts same cell = λ z. words_of cell ((ap (version_of cell) whole ∙ versions_stay cell h es none) z) (same z)

  pub shelf_stays : (known texts : List Text) → IsStart known texts → AreTextsOf known h → AreTextsOf texts h' → shelf_of h' texts ≡ shelf_of h known
  shelf_stays known texts start before after =
      let same = texts_stay known texts start before after in
      λ z. words_stay known texts same 0 z ∷ words_stay known texts same 1 z ∷ words_stay known texts same 2 z ∷ words_stay known texts same 3 z ∷ []

  -- and so are the words of any cell
  pub words_as_before : (known texts : List Text) → IsStart known texts → AreTextsOf known h → AreTextsOf texts h' → (cell : ℕ) → current_words h' texts cell ≡ current_words h known cell
  words_as_before known texts start before after cell = words_stay known texts (texts_stay known texts start before after) cell

-- A version is put

texts_on : (c : ℕ) (a b : List Text) → texts_of c (a ++ b) ≡ texts_of c a ++ texts_of c b
texts_on c a b = ap (map (λ t. t.words)) (filter-append (λ t. t.cell == c) a b) ∙ map-append (λ t. t.words) (filter (λ t. t.cell == c) a) (filter (λ t. t.cell == c) b)

-- a text of another cell
texts_else : (c cell : ℕ) (ts : List Text) → c ≢ cell → map (λ t. t.cell) ts ≡ cell ∷ [] → texts_of c ts ≡ []
texts_else c cell [] other is = refl
texts_else c cell (t ∷ u ∷ ts) other is = absurd (let n = ap length is in omega (arith, n))
texts_else c cell (t ∷ []) other is = ap (λ b. map (λ (x : Text). x.words) (cond b (t ∷ []) [])) (ne_eqb t.cell c (λ same. other (sym same ∙ head_is t.cell cell is)))
  where
    head_is : (m n : ℕ) → m ∷ [] ≡ n ∷ [] → m ≡ n
    head_is m n e = cc

abbrev words_in : ℕ → List (List ℕ) → List ℕ
words_in v ts = slice_index_or (blank_words ∷ ts) v blank_words

-- one of four is another
each_cell : (cell : ℕ) → cell < 4 → (f g : ℕ → List ℕ) (words : List ℕ) → f cell ≡ words → ((c : ℕ) → c ≢ cell → f c ≡ g c) → f 0 ∷ f 1 ∷ f 2 ∷ f 3 ∷ [] ≡ with_current cell words (g 0 ∷ g 1 ∷ g 2 ∷ g 3 ∷ [])
each_cell zero low f g words here away = λ i. here i ∷ away 1 (λ e. omega (arith, e)) i ∷ away 2 (λ e. omega (arith, e)) i ∷ away 3 (λ e. omega (arith, e)) i ∷ []
each_cell (suc zero) low f g words here away = λ i. away 0 (λ e. omega (arith, e)) i ∷ here i ∷ away 2 (λ e. omega (arith, e)) i ∷ away 3 (λ e. omega (arith, e)) i ∷ []
each_cell (suc (suc zero)) low f g words here away = λ i. away 0 (λ e. omega (arith, e)) i ∷ away 1 (λ e. omega (arith, e)) i ∷ here i ∷ away 3 (λ e. omega (arith, e)) i ∷ []
each_cell (suc (suc (suc zero))) low f g words here away = λ i. away 0 (λ e. omega (arith, e)) i ∷ away 1 (λ e. omega (arith, e)) i ∷ away 2 (λ e. omega (arith, e)) i ∷ here i ∷ []
each_cell (suc (suc (suc (suc n)))) low f g words here away = absurd (omega (arith, low))

-- the words of one cell
pub in_cell_is : (cell : ℕ) → cell < 4 → (h : List Event) (texts : List Text) → in_cell cell (shelf_of h texts) ≡ current_words h texts cell
in_cell_is zero low h texts = refl
in_cell_is (suc zero) low h texts = refl
in_cell_is (suc (suc zero)) low h texts = refl
in_cell_is (suc (suc (suc zero))) low h texts = refl
in_cell_is (suc (suc (suc (suc n)))) low h texts = absurd (omega (arith, low))

-- and behind a change of one
pub in_cell_put : (cell : ℕ) → cell < 4 → (h : List Event) (texts : List Text) (words : List ℕ) → in_cell cell (with_current cell words (shelf_of h texts)) ≡ words
in_cell_put zero low h texts words = refl
in_cell_put (suc zero) low h texts words = refl
in_cell_put (suc (suc zero)) low h texts words = refl
in_cell_put (suc (suc (suc zero))) low h texts words = refl
in_cell_put (suc (suc (suc (suc n)))) low h texts words = absurd (omega (arith, low))

module _ (h asks h' : List Event) (cell slot version cookie : ℕ) (by : Maker) (whole : h' ≡ h ++ (asks ++ Put cell slot version by ∷ Note cookie by ∷ [])) (none : put_cells asks ≡ [])
    (known texts : List Text) (start : IsStart known texts) (before : AreTextsOf known h) (after : AreTextsOf texts h') where
  abbrev behind_asks : List Event
  behind_asks = h ++ asks

  in_steps : h' ≡ (behind_asks ++ Put cell slot version by ∷ []) ++ Note cookie by ∷ []
  in_steps = whole ∙ (sym (append_assoc h asks (Put cell slot version by ∷ Note cookie by ∷ [])) ∙ sym (append_assoc behind_asks (Put cell slot version by ∷ []) (Note cookie by ∷ [])))

  version_is : version_of cell h' ≡ version
  version_is = ap (version_of cell) in_steps ∙ (version_kept cell (behind_asks ++ Put cell slot version by ∷ []) (Note cookie by) refl ∙ version_put cell slot version by behind_asks)

  version_else : (c : ℕ) → c ≢ cell → version_of c h' ≡ version_of c h
  version_else c other =
      ap (version_of c) in_steps
      ∙ (version_kept c (behind_asks ++ Put cell slot version by ∷ []) (Note cookie by) refl
      ∙ (version_kept c behind_asks (Put cell slot version by) (ne_eqb cell c (λ same. other (sym same))) ∙ versions_stay c h asks none))

  puts_are : put_cells h' ≡ put_cells h ++ cell ∷ []
  puts_are = ap put_cells whole ∙ (filter_map-append put_cell h (asks ++ Put cell slot version by ∷ Note cookie by ∷ [])
      ∙ ap (λ l. put_cells h ++ l) (filter_map-append put_cell asks (Put cell slot version by ∷ Note cookie by ∷ []) ∙ ap (λ l. l ++ cell ∷ []) none))

  one_text : map (λ t. t.cell) start.rest ≡ cell ∷ []
  one_text = append_cancel_left (put_cells h) (map (λ t. t.cell) start.rest) (cell ∷ [])
      (ap (λ l. l ++ map (λ t. t.cell) start.rest) (sym before) ∙ (sym (map-append (λ t. t.cell) known start.rest) ∙ (ap (map (λ t. t.cell)) (sym start.whole) ∙ (after ∙ puts_are))))

  others_texts : (c : ℕ) → c ≢ cell → texts_of c texts ≡ texts_of c known
  others_texts c other = ap (texts_of c) start.whole ∙ (texts_on c known start.rest ∙ (ap (λ l. texts_of c known ++ l) (texts_else c cell start.rest other one_text) ∙ append-nil (texts_of c known)))

  module _ (words : List ℕ) (has : words_of cell version texts ≡ words) where
    -- in this cell, and in another
    words_here : current_words h' texts cell ≡ words
    words_here = ap (λ v. words_of cell v texts) version_is ∙ has

    words_else : (c : ℕ) → c ≢ cell → current_words h' texts c ≡ current_words h known c
    words_else c other = λ i. words_in (version_else c other i) (others_texts c other i)

    pub shelf_put : cell < 4 → shelf_of h' texts ≡ with_current cell words (shelf_of h known)
    shelf_put low = each_cell cell low (current_words h' texts) (current_words h known) words words_here words_else
