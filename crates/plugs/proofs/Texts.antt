-- Sixteen words are read as the table whose text they are.
use Rattle.std.proofs.Common.{◌≡◌, ◌≢◌, ℕ, zero, suc, ◌+◌, ◌-◌, ◌*◌, ◌/◌, ◌%◌, ◌^◌, ◌<◌, ◌≤◌, List, [], ◌∷◌, ◌++◌, All, length, get_or, map, take, drop, replicate, refl, sym, ap, ◌∙◌, subst, arith, get_or-take, get_or-drop}
use Rattle.std.proofs.lemmas.List.{length-map, length-append, length-take, length-drop, length-replicate, get_or-map, take_at, get_or_append_left, get_or-append_right, get_or-replicate, ext_get_or}
use mathlib.Core.Logic.{dite}
use native.Mathlib.Decide.{dec_lt}
use Rattle.std.proofs.lemmas.List.Elements.{All-head, All-tail}
use Rattle.plugs.specs.declared.rows.Row.{Row}
use Rattle.plugs.specs.Tables.{IsNarrow, IsTable, row_word, text_of, AreRead}
use Rattle.plugs.specs.Parts.{IsText, row_at, rows_in}
use Rattle.plugs.proofs.Changing.{rises_far}

row_back : (r : Row) → IsNarrow r → row_at (row_word r) ≡ r
row_back r narrow =
    let low = narrow.1 in
    let key : (r.key * 4294967296 + r.plug) / 4294967296 ≡ r.key = omega (arith, low) in
    let plug : (r.key * 4294967296 + r.plug) % 4294967296 ≡ r.plug = omega (arith, low) in
    λ i. record { key = key i; plug = plug i }

rows_back : (rows : List Row) → All IsNarrow rows → map row_at (map row_word rows) ≡ rows
rows_back [] narrow = refl
rows_back (r ∷ rs) narrow = λ i. row_back r (All-head IsNarrow r rs narrow) i ∷ rows_back rs (All-tail IsNarrow r rs narrow) i

-- the rows come out of the text
pub read_back : (rows : List Row) → IsTable rows → rows_in (text_of rows) ≡ rows
read_back rows table = ap (map row_at) (take_at (map row_word rows) (replicate (15 - length rows) 0) (length rows) (length-map rows row_word)) ∙ rows_back rows table.narrow

no_rows : IsTable []
no_rows = record { few = omega arith; rising = λ i j d lt lj. absurd (omega (arith, lj)); narrow = λ i d lt. absurd (omega (arith, lt)) }

-- words that are the text of these rows, and words that are no text
pub reads_whole : (words : List ℕ) (rows : List Row) → IsTable rows → text_of rows ≡ words → AreRead words rows
reads_whole words rows table same = record {
  table = table;
  whole = λ r is e. sym (read_back rows table) ∙ (ap rows_in (same ∙ e) ∙ read_back r is);
  none = λ other. absurd (other rows table (sym same));
}

pub reads_none : (words : List ℕ) → ((r : List Row) → IsTable r → words ≢ text_of r) → AreRead words []
reads_none words other = record { table = no_rows; whole = λ r is e. absurd (other r is e); none = λ _. refl }

-- The other way round

pub text_long : (rows : List Row) → length rows ≤ 15 → length (text_of rows) ≡ 16
text_long rows few =
    let a = length-append (map row_word rows) (replicate (15 - length rows) 0) in
    let m = length-map rows row_word in let r = length-replicate {A = ℕ} (15 - length rows) 0 in omega (arith, a, m, r, few)

word_of_row : (rows : List Row) (i : ℕ) (d : Row) → i < length rows → get_or (map row_word rows) i 0 ≡ row_word (get_or rows i d)
word_of_row [] i d lt = absurd (omega (arith, lt))
word_of_row (r ∷ rs) zero d lt = refl
word_of_row (r ∷ rs) (suc i) d lt = word_of_row rs i d (omega (arith, lt))

-- where each row and each zero stands
module _ (rows : List Row) (i : ℕ) where
  next : (words : List ℕ) (n : ℕ) → get_or (n ∷ words) (i + 1) 0 ≡ get_or words i 0
  next words n = ap (λ j. get_or (n ∷ words) j 0) (let e : i + 1 ≡ suc i = omega arith in e)

  row_there : (d : Row) → i < length rows → get_or (text_of rows) (i + 1) 0 ≡ row_word (get_or rows i d)
  row_there d low = next (map row_word rows ++ replicate (15 - length rows) 0) (length rows)
      ∙ (get_or_append_left (map row_word rows) (replicate (15 - length rows) 0) 0 i (let m = length-map rows row_word in omega (arith, low, m)) ∙ word_of_row rows i d low)

  zero_there : length rows ≤ i → i < 15 → get_or (text_of rows) (i + 1) 0 ≡ 0
  zero_there le lt = next (map row_word rows ++ replicate (15 - length rows) 0) (length rows)
      ∙ (get_or-append_right (map row_word rows) (replicate (15 - length rows) 0) (length rows) i 0 (length-map rows row_word) le
      ∙ get_or-replicate (15 - length rows) (i - length rows) 0 0 (omega (arith, le, lt)))

-- words of which each is that of the text
module _ (rows : List Row) (words : List ℕ) (few : length rows ≤ 15) (long : length words ≡ 16) (count : get_or words 0 0 ≡ length rows)
    (stored : (i : ℕ) (d : Row) → i < length rows → get_or words (i + 1) 0 ≡ row_word (get_or rows i d))
    (zeros : (i : ℕ) → length rows ≤ i → i < 15 → get_or words (i + 1) 0 ≡ 0) where
  each_word : (i : ℕ) → i < 16 → get_or words i 0 ≡ get_or (text_of rows) i 0
  each_word zero lt = count
  each_word (suc i) lt = let e : suc i ≡ i + 1 = omega arith in
      ap (λ j. get_or words j 0) e
      ∙ (dite (dec_lt i (length rows))
      (λ low. let d : Row = record { key = 0; plug = 0 } in stored i d low ∙ sym (row_there rows i d low))
      (λ n. zeros i (omega (arith, n)) (omega (arith, lt)) ∙ sym (zero_there rows i (omega (arith, n)) (omega (arith, lt))))
      ∙ ap (λ j. get_or (text_of rows) j 0) (sym e))

  pub text_from : words ≡ text_of rows
  text_from = ext_get_or 0 words (text_of rows) (long ∙ sym (text_long rows few)) (λ i lt. each_word i (omega (arith, lt, long)))

-- Words are looked at where they lie

no_row : Row
no_row = record { key = 0; plug = 0 }

-- the text of a table is one, by its words
pub text_is : (words : List ℕ) (rows : List Row) → IsTable rows → words ≡ text_of rows → IsText words
text_is words rows table is = subst IsText (sym is) (record { few = table.few; rising = rising; zeros = zeros })
  where
    key_there : (i : ℕ) → i < length rows → get_or (text_of rows) (i + 1) 0 / 4294967296 ≡ (get_or rows i no_row).key
    key_there i lt = let w = row_there rows i no_row lt in let n = table.narrow i no_row lt in let low = n.1 in omega (arith, w, low)

    rising : (i : ℕ) → 1 ≤ i → i < length rows → get_or (text_of rows) i 0 / 4294967296 < get_or (text_of rows) (i + 1) 0 / 4294967296
    rising i ge lt =
        let e : (i - 1) + 1 ≡ i = omega (arith, ge) in
        let a = subst (λ j. get_or (text_of rows) j 0 / 4294967296 ≡ (get_or rows (i - 1) no_row).key) e (key_there (i - 1) (omega (arith, lt))) in
        let b = key_there i lt in
        let up = table.rising (i - 1) i no_row (omega (arith, ge)) lt in omega (arith, a, b, up)

    zeros : (i : ℕ) → length rows < i → i < 16 → get_or (text_of rows) i 0 ≡ 0
    zeros i gt lt = subst (λ j. get_or (text_of rows) j 0 ≡ 0) (let e : (i - 1) + 1 ≡ i = omega (arith, gt) in e) (zero_there rows (i - 1) (omega (arith, gt)) (omega (arith, gt, lt)))

-- and sixteen words that are such a text are that of the rows in them
module _ (words : List ℕ) (long : length words ≡ 16) (small : (i : ℕ) → get_or words i 0 < 2 ^ 64) (h : IsText words) where
  count_in : length (rows_in words) ≡ get_or words 0 0
  count_in =
      let f = h.few in let m = length-map (take (get_or words 0 0) (drop 1 words)) row_at in
      let t = length-take (get_or words 0 0) (drop 1 words) in let d = length-drop 1 words in omega (arith, f, m, t, d, long)

  row_in : (i : ℕ) (d : Row) → i < length (rows_in words) → get_or (rows_in words) i d ≡ row_at (get_or words (i + 1) 0)
  row_in i d lt =
      let n = count_in in let m = length-map (take (get_or words 0 0) (drop 1 words)) row_at in
      get_or-map row_at (take (get_or words 0 0) (drop 1 words)) i 0 d (omega (arith, lt, m))
      ∙ ap row_at (get_or-take (get_or words 0 0) (drop 1 words) i 0 (omega (arith, lt, n)) ∙ (get_or-drop 1 words i 0 ∙ ap (λ j. get_or words j 0) (let e : 1 + i ≡ i + 1 = omega arith in e)))

  narrow_at : (w : ℕ) → w < 2 ^ 64 → IsNarrow (row_at w)
  narrow_at w lt = (omega (arith, lt), omega (arith, lt))

  word_back : (w : ℕ) → w ≡ row_word (row_at w)
  word_back w = omega arith

  pub table_in : IsTable (rows_in words)
  table_in = record {
    few = let n = count_in in let f = h.few in omega (arith, n, f);
    rising = rises_far (rows_in words) (λ k d lt. let n = count_in in
        subst (λ (z : Row × Row). z.0.key < z.1.key) (λ t. (sym (row_in k d (omega (arith, lt))) t, sym (row_in (k + 1) d lt) t)) (h.rising (k + 1) (omega arith) (omega (arith, lt, n))));
    narrow = λ i d lt. subst IsNarrow (sym (row_in i d lt)) (narrow_at (get_or words (i + 1) 0) (small (i + 1)));
  }

  pub whole_text : text_of (rows_in words) ≡ words
  whole_text = sym (text_from (rows_in words) words table_in.few long (sym count_in)
      (λ i d lt. word_back (get_or words (i + 1) 0) ∙ ap row_word (sym (row_in i d lt)))
      (λ i le lt. let n = count_in in h.zeros (i + 1) (omega (arith, le, n)) (omega (arith, lt))))

  pub reads_in : AreRead words (rows_in words)
  reads_in = reads_whole words (rows_in words) table_in whole_text

-- others are no text
pub reads_nothing : (words : List ℕ) → ¬ IsText words → AreRead words []
reads_nothing words none = reads_none words (λ r is e. none (text_is words r is e))
