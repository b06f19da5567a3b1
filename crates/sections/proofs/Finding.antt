-- What an open section finds in a cell, and the words of the slot that it found.
use Rattle.std.specs.Prelude.{None}
use Rattle.std.proofs.Common.{◌≡◌, ℕ, ◌+◌, ◌*◌, ◌/◌, ◌%◌, ◌<◌, ◌≤◌, ⊎_elim, Bool, true, false, cond, eqb, ◌&&◌, List, [], ◌∷◌, ◌++◌, All, get_or, length, map, filter, count_by, refl, sym, ap, ◌∙◌, subst, eq-eqb, eqb-true, append_assoc, arith}
use Rattle.std.proofs.lemmas.List.{map-append, get_or_append_left}
use Rattle.std.proofs.lemmas.List.Elements.{All-head, All-tail, filter-append, filter_map-append}
use mathlib.Core.Option.{none, some}
use lib.ListN.{get_elem?}
use Rattle.atomic_table.specs.Table.{State, step, Allows}
use Rattle.sseq.specs.declared.index.Index.{Index}
use Rattle.onedom.specs.declared.event.Maker.{Maker}
use Rattle.onedom.specs.declared.event.Maker.TheVariants.{Processor}
use Rattle.onedom.specs.declared.event.Event.{Event}
use Rattle.onedom.specs.declared.event.Event.TheVariants.{Begin, End, Start, Finish, Note, Ask, Find, Put}
use Rattle.onedom.specs.Histories.{IsOpen, slot_of, version_of, shelved, finds, finds_of, HasFound, IsClear, MayFollow, IsLegal, IsBeginning}
use Rattle.onedom.proofs.CallerLemmas.{bit, count_push, count_cons, count_append, along, legal_after_append, versions_up, version_kept, version_put, found_stays}
use Rattle.sections.specs.Glossary.{Slot, Bounds, Lent, Moment, Text, View, cell_place, word_place, word_count, put_cell, put_cells, texts_of, blank_words, words_of, word_of, IsStart, IsKnown, AreTextsOf, AreShelved, GoesOn, IsMaker, Has, Kept, Sees, Adds, Sat, found, loaded}
use Rattle.sections.specs.declared.view.Role.TheVariants.{Cpu}
use Rattle.sections.specs.declared.view.Right.TheVariants.{Section}
use Rattle.sections.specs.declared.view.Step.TheVariants.{LoadWord}
use Rattle.sections.proofs.Knowing.{now, has_at}
use Rattle.sections.proofs.Steps.{same_section, same_cpu, tells_at, loads_here}

-- Texts of a cell

abbrev is_cell : ℕ → ℕ → Bool
is_cell c d = eqb d c

texts_counted : (c : ℕ) (texts : List Text) → length (texts_of c texts) ≡ count_by (is_cell c) (map (λ t. t.cell) texts)
texts_counted c [] = refl
texts_counted c (t ∷ ts) = head (texts_counted c ts) (eqb t.cell c) refl
  where
    head : length (texts_of c ts) ≡ count_by (is_cell c) (map (λ t. t.cell) ts) → (b : Bool) → eqb t.cell c ≡ b → length (texts_of c (t ∷ ts)) ≡ count_by (is_cell c) (map (λ t. t.cell) (t ∷ ts))
    head r true is = let n = count_cons (is_cell c) t.cell (map (λ t. t.cell) ts) in let one : bit (eqb t.cell c) ≡ 1 = ap bit is in
        ap (λ b. length (map (λ u. u.words) (cond b (t ∷ filter (λ u. eqb u.cell c) ts) (filter (λ u. eqb u.cell c) ts)))) is ∙ omega (arith, r, n, one)
    head r false is = let n = count_cons (is_cell c) t.cell (map (λ t. t.cell) ts) in let zero : bit (eqb t.cell c) ≡ 0 = ap bit is in
        ap (λ b. length (map (λ u. u.words) (cond b (t ∷ filter (λ u. eqb u.cell c) ts) (filter (λ u. eqb u.cell c) ts)))) is ∙ omega (arith, r, n, zero)

-- so many Puts of a cell as it has versions
puts_counted : (c : ℕ) (h : List Event) → IsLegal h → count_by (is_cell c) (put_cells h) ≡ version_of c h
puts_counted c h legal = along (λ l. count_by (is_cell c) (put_cells l) ≡ version_of c l) refl on h legal
  where
    plain : (l : List Event) (e : Event) → put_cells (l ++ e ∷ []) ≡ put_cells l ++ [] → version_of c (l ++ e ∷ []) ≡ version_of c l → count_by (is_cell c) (put_cells l) ≡ version_of c l → count_by (is_cell c) (put_cells (l ++ e ∷ [])) ≡ version_of c (l ++ e ∷ [])
    plain l e same version was = let n = count_append (is_cell c) (put_cells l) [] in ap (count_by (is_cell c)) same ∙ omega (arith, n, version, was)

    on : (l : List Event) (e : Event) → IsLegal l → MayFollow l e → count_by (is_cell c) (put_cells l) ≡ version_of c l → count_by (is_cell c) (put_cells (l ++ e ∷ [])) ≡ version_of c (l ++ e ∷ [])
    on l (Begin s p i by) legal may was = plain l (Begin s p i by) (filter_map-append put_cell l (Begin s p i by ∷ [])) (version_kept c l (Begin s p i by) refl) was
    on l (End s q by) legal may was = plain l (End s q by) (filter_map-append put_cell l (End s q by ∷ [])) (version_kept c l (End s q by) refl) was
    on l (Start by) legal may was = plain l (Start by) (filter_map-append put_cell l (Start by ∷ [])) (version_kept c l (Start by) refl) was
    on l (Finish by) legal may was = plain l (Finish by) (filter_map-append put_cell l (Finish by ∷ [])) (version_kept c l (Finish by) refl) was
    on l (Note k by) legal may was = plain l (Note k by) (filter_map-append put_cell l (Note k by ∷ [])) (version_kept c l (Note k by) refl) was
    on l (Ask k b by) legal may was = plain l (Ask k b by) (filter_map-append put_cell l (Ask k b by ∷ [])) (version_kept c l (Ask k b by) refl) was
    on l (Find s d x v by) legal may was = plain l (Find s d x v by) (filter_map-append put_cell l (Find s d x v by ∷ [])) (version_kept c l (Find s d x v by) refl) was
    on l (Put d x v by) legal may was = either (eqb d c) refl
      where
        n : count_by (is_cell c) (put_cells (l ++ Put d x v by ∷ [])) ≡ count_by (is_cell c) (put_cells l) + bit (eqb d c)
        n = ap (count_by (is_cell c)) (filter_map-append put_cell l (Put d x v by ∷ [])) ∙ count_push (is_cell c) (put_cells l) d

        either : (b : Bool) → eqb d c ≡ b → count_by (is_cell c) (put_cells (l ++ Put d x v by ∷ [])) ≡ version_of c (l ++ Put d x v by ∷ [])
        either true is = let dc : d ≡ c = eqb-true d c is in let one : bit (eqb d c) ≡ 1 = ap bit is in
            let next : version_of c (l ++ Put d x v by ∷ []) ≡ v = ap (λ z. version_of z (l ++ Put d x v by ∷ [])) (sym dc) ∙ version_put d x v by l in let up : v ≡ version_of c l + 1 = may.1 ∙ ap (λ z. version_of z l + 1) dc in omega (arith, n, one, next, up, was)
        either false is = let zero : bit (eqb d c) ≡ 0 = ap bit is in let same = version_kept c l (Put d x v by) is in omega (arith, n, zero, same, was)

-- a cell has as many texts as its version is
pub texts_are : (c : ℕ) (texts : List Text) (h : List Event) → IsLegal h → AreTextsOf texts h → length (texts_of c texts) ≡ version_of c h
texts_are c texts h legal all = texts_counted c texts ∙ (ap (count_by (is_cell c)) all ∙ puts_counted c h legal)

pub texts_of_append : (c : ℕ) (a b : List Text) → texts_of c (a ++ b) ≡ texts_of c a ++ texts_of c b
texts_of_append c a b = ap (map (λ t. t.words)) (filter-append (λ t. eqb t.cell c) a b) ∙ map-append (λ t. t.words) (filter (λ t. eqb t.cell c) a) (filter (λ t. eqb t.cell c) b)

-- the words of a version stay
pub words_stay : (c v : ℕ) (a b : List Text) → IsStart a b → IsKnown c v a → words_of c v b ≡ words_of c v a
words_stay c v a b start known = ap (words_of c v) start.whole ∙ (ap (λ l. get_or (blank_words ∷ l) v blank_words) (texts_of_append c a start.rest) ∙ get_or_append_left (blank_words ∷ texts_of c a) (texts_of c start.rest) blank_words v (omega (arith, known)))

-- What was found

pub found_later : (h log : List Event) (s c x v : ℕ) → IsBeginning h log → HasFound h s c x v → HasFound log s c x v
found_later h log s c x v b f = record { before = f.before; by = f.by; after = f.after ++ b.rest; whole = b.whole ∙ (ap (λ l. l ++ b.rest) f.whole ∙ append_assoc f.before (Find s c x v f.by ∷ f.after) b.rest) }

pub found_counts : (h : List Event) (s c x v : ℕ) → HasFound h s c x v → 0 < finds_of s c x h
found_counts h s c x v f = let e : Event = Find s c x v f.by in
    let a : finds_of s c x h ≡ finds_of s c x f.before + finds_of s c x (e ∷ f.after) = ap (finds_of s c x) f.whole ∙ count_append (finds s c x) f.before (e ∷ f.after) in
    let d = count_cons (finds s c x) e f.after in
    let one : bit (finds s c x e) ≡ 1 = ap bit (ap (λ b. b && (eqb c c && eqb x x)) (eq-eqb s s refl) ∙ (ap (λ b. b && eqb x x) (eq-eqb c c refl) ∙ eq-eqb x x refl)) in omega (arith, a, d, one)

pub found_version : (h : List Event) (s c x v : ℕ) → IsLegal h → HasFound h s c x v → v ≤ version_of c h
found_version h s c x v legal f = let e : Event = Find s c x v f.by in let parts = subst IsLegal f.whole legal in
    let split = (legal_after_append [] f.before (e ∷ f.after) parts).1.0 in let up = versions_up c f.before (e ∷ f.after) parts in
    let whole = ap (version_of c) f.whole in let is = split.2 in omega (arith, up, whole, is)

-- an open section finds the words of its version
pub there : (bounds : Bounds) (words : List ℕ) (log : List Event) (texts : List Text) (s c x v i : ℕ) → AreShelved bounds words log texts → IsLegal log
    → IsOpen log s → HasFound log s c x v → c < bounds.cells → x < 8 → i < 16 → get_or words (word_place bounds.processors c x i) 0 ≡ word_of c v i texts
there bounds words log texts s c x v i h legal is_open f lc lx li = ⊎_elim
    (λ (clear : IsClear log c x). let none = clear.unread s is_open in let some = found_counts log s c x v f in absurd (omega (arith, none, some)))
    (λ (lies : (i : ℕ) → i < 16 → get_or words (word_place bounds.processors c x i) 0 ≡ word_of c (shelved c x log) i texts). lies i li ∙ ap (λ z. word_of c z i texts) (found_stays log s c x v legal is_open f))
    (h.slots c x lc lx)

pub same_cell : (n c d : ℕ) → cell_place n c ≡ cell_place n d → c ≡ d
same_cell n c d e = omega arith

pub same_slot : (n c d x y i j : ℕ) → x < 8 → y < 8 → i < 16 → j < 16 → word_place n c x i ≡ word_place n d y j → (c ≡ d) × (x ≡ y) × (i ≡ j)
same_slot n c d x y i j lx ly li lj e = (omega (arith, lx, ly, li, lj, e), omega (arith, lx, ly, li, lj, e), omega (arith, lx, ly, li, lj, e))

pub cell_there : (n words c k : ℕ) {cells : ℕ} → c < cells → words ≡ word_count n cells → k ≡ cell_place n c → k < words
cell_there n words c k lc wide place = omega (arith, lc, wide, place)

pub word_there : (n words c x i k : ℕ) {cells : ℕ} → c < cells → x < 8 → i < 16 → words ≡ word_count n cells → k ≡ word_place n c x i → k < words
word_there n words c x i k lc lx li wide place = omega (arith, lc, lx, li, wide, place)

module _ (bounds : Bounds) where
  pub finds_here : (slots id k : ℕ) (me : Sat) (s p q c : ℕ) (i : Index) (us : List Lent) → me.0.processors ≡ bounds.processors → me.0.role ≡ Cpu p → p < bounds.processors → me.0.right ≡ Section s q i us None → c < bounds.cells → k ≡ cell_place bounds.processors c
      → Allows (Kept bounds) slots id me k (λ x. x) (found (step slots k 0 0 none) me)
  finds_here slots id k me s p q c i us sized is lt right lc place = tells_at bounds slots id k me p (λ n. Find s c (n % 16) (n / 16) (Processor p)) (found (step slots k 0 0 none) me) sized is lt
      (λ n. record { by = refl; no_start = refl; no_finish = refl; no_lock = λ _ _. refl; no_unlock = λ _ _ _. refl; no_end = λ _. refl; maker = λ m lt. lt; no_put = refl })
      (λ st r at. ((held st r at).1, slot st r, version st r))
      (λ st r w changes texts right' adds. let n : ℕ = get_or st.words k 0 in (
        refl,
        right',
        λ t o u d j vs is' there' word. let pq : p ≡ o = same_cpu p o (sym is ∙ is') in let st' : s ≡ t = (same_section s t q u i j (sym right ∙ there')).0 in let cd : c ≡ d = same_cell bounds.processors c d (sym place ∙ (word ∙ ap (λ n. cell_place n d) sized)) in
            subst (λ (z : ℕ × ℕ × ℕ). Adds me.0 (Find z.0 z.1 (n % 16) (n / 16) (Processor z.2)) w × IsKnown z.1 (n / 16) w.texts × (n % 16 < 8)) (λ h. (st' h, cd h, pq h)) (
              adds,
              subst (λ (z : List Text). IsKnown c (n / 16) z) (sym texts) (let all = texts_are c r.shelf.texts r.log r.within.legal r.shelf.shelved.cells in let v = version st r in omega (arith, all, v)),
              let low = r.shelf.shelved.low c in let x = slot st r in omega (arith, low, x),
            ),
      ))
    where
      held : (st : State Slot View) (r : Kept bounds st) → get_elem? st.views id ≡ some me.0 → Has r.truth id (Section s q i us None)
      held st r at = has_at (r.each_view id me.0 at) right

      word : (st : State Slot View) (r : Kept bounds st) → get_or st.words k 0 ≡ 16 * version_of c r.log + slot_of c r.log
      word st r = ap (λ z. get_or st.words z 0) place ∙ r.shelf.shelved.current c lc

      slot : (st : State Slot View) (r : Kept bounds st) → get_or st.words k 0 % 16 ≡ slot_of c r.log
      slot st r = let n = word st r in let low = r.shelf.shelved.low c in omega (arith, n, low)

      version : (st : State Slot View) (r : Kept bounds st) → get_or st.words k 0 / 16 ≡ version_of c r.log
      version st r = let n = word st r in let low = r.shelf.shelved.low c in omega (arith, n, low)

  pub loads_word_here : (slots id k : ℕ) (me : Sat) (m : Maker) (s q c x v i : ℕ) (j : Index) (a b : Moment) → IsMaker me.0.role m → me.0.processors ≡ bounds.processors → me.0.right ≡ Section s q j [] None → me.0.told ≡ a ∷ b ∷ []
      → HasFound b.history s c x v → c < bounds.cells → x < 8 → i < 16 → k ≡ word_place bounds.processors c x i
      → Allows (Kept bounds) slots id me k (λ x. x) (loaded (step slots k 0 0 none) me)
  loads_word_here slots id k me m s q c x v i j a b is sized right told had lc lx li place = loads_here bounds slots id k me m (λ n _. LoadWord c v i n) (loaded (step slots k 0 0 none) me) is sized
      (λ st r at. (tt, (found_version r.log s c x v r.within.legal (met st r at s x v had), word st r at)))
      (λ st r w at seen changes texts sees. let n : ℕ = get_or st.words k 0 in (
        refl,
        sees.right,
        λ s' q' c' x' v' i' j' a' b' right' told' found' lx' li' place'.
            let places = same_slot bounds.processors c c' x x' i i' lx lx' li li' (sym place ∙ (place' ∙ ap (λ n. word_place n c' x' i') sized)) in
            let ss : s ≡ s' = (same_section s s' q q' j j' (sym right ∙ right')).0 in
            let bb : b ≡ b' = second a b a' b' (sym told ∙ told') in
            let again : HasFound b.history s c x v' = subst (λ (z : Moment × ℕ × ℕ × ℕ). HasFound z.0.history z.1 z.2 z.3 v') (λ h. (sym bb h, sym ss h, sym places.0 h, sym places.1 h)) found' in
            let opened = (held st r at).1 in
            let vv : v ≡ v' = sym (found_stays r.log s c x v r.within.legal opened (met st r at s x v had)) ∙ found_stays r.log s c x v' r.within.legal opened (met st r at s x v' again) in
            subst (λ (z : ℕ × ℕ × ℕ). Sees (LoadWord z.0 z.1 z.2 n) me.0 w × (n ≡ word_of z.0 z.1 z.2 w.texts)) (λ h. (places.0 h, vv h, places.2 h)) (sees, word st r at ∙ ap (word_of c v i) (sym texts)),
      ))
    where
      second : (a b a' b' : Moment) → ◌≡◌ {A = List Moment} (a ∷ b ∷ []) (a' ∷ b' ∷ []) → b ≡ b'
      second a b a' b' e = cc

      held : (st : State Slot View) (r : Kept bounds st) → get_elem? st.views id ≡ some me.0 → Has r.truth id (Section s q j [] None)
      held st r at = has_at (r.each_view id me.0 at) right

      met : (st : State Slot View) (r : Kept bounds st) → get_elem? st.views id ≡ some me.0 → (s x v : ℕ) → HasFound b.history s c x v → HasFound r.log s c x v
      met st r at s x v f = let all = subst (λ (l : List Moment). All (λ o. GoesOn o (now r.log r.changes)) l) told (r.each_view id me.0 at).told in
          let one = All-head (λ o. GoesOn o (now r.log r.changes)) b [] (All-tail (λ o. GoesOn o (now r.log r.changes)) a (b ∷ []) all) in found_later b.history r.log s c x v one.history f

      word : (st : State Slot View) (r : Kept bounds st) → get_elem? st.views id ≡ some me.0 → get_or st.words k 0 ≡ word_of c v i r.shelf.texts
      word st r at = ap (λ z. get_or st.words z 0) place ∙ there bounds st.words r.log r.shelf.texts s c x v i r.shelf.shelved r.within.legal (held st r at).1 (met st r at s x v had) lc lx li
