-- A row is taken out, and put in.
use Rattle.std.proofs.Common.{◌≡◌, ◌≢◌, ℕ, zero, suc, ◌+◌, ◌-◌, ◌<◌, ◌≤◌, Some, None, List, ◌∷◌, ◌++◌, length, get_or, take, drop, refl, sym, ap, ◌∙◌, subst, arith}
use Rattle.std.specs.List.{insert, remove}
use Rattle.std.proofs.lemmas.List.{take-append-drop, drop_more, get_or-take, length-take}
use Rattle.std.proofs.lemmas.List.Edits.{length-insert, get_or-insert_below, get_or-insert_at, get_or-insert_above, length-remove, get_or-remove_below, get_or-remove_above}
use Rattle.std.proofs.lemmas.List.Elements.{All-from_get_or, All-append, All-take, All-drop, All-cons}
use Rattle.std.proofs.lemmas.List.Quantifiers.{all_pairs_remove}
use mathlib.Core.Logic.{dite}
use native.Mathlib.Decide.{ℕ_discrete, dec_lt}
use Rattle.plugs.specs.declared.rows.Row.{Row}
use Rattle.plugs.specs.Tables.{plug_of, IsNarrow, Rises, IsTable, IsFull, Maps, Unmaps}
use Rattle.plugs.specs.Parts.{IsFirstFrom, IsBetween}
use Rattle.plugs.proofs.Looking.{met, lacks_all, behind_others, skipped}

-- Keys rise

-- where each row has a larger key than the one before it, a later one has a larger key
rises_to : (rows : List Row) → ((k : ℕ) (d : Row) → k + 1 < length rows → (get_or rows k d).key < (get_or rows (k + 1) d).key)
    → (i n : ℕ) (d : Row) → i + (n + 1) < length rows → (get_or rows i d).key < (get_or rows (i + (n + 1)) d).key
rises_to rows near i zero d lt = near i d lt
rises_to rows near i (suc n) d lt =
    let so_far = rises_to rows near i n d (omega (arith, lt)) in
    let next = near (i + (n + 1)) d (omega (arith, lt)) in
    let same : i + (n + 1) + 1 ≡ i + (suc n + 1) = omega arith in
    subst (λ j. (get_or rows i d).key < (get_or rows j d).key) same (omega (arith, so_far, next))

pub rises_far : (rows : List Row) → ((k : ℕ) (d : Row) → k + 1 < length rows → (get_or rows k d).key < (get_or rows (k + 1) d).key) → Rises rows
rises_far rows near i j d lt lj =
    let same : i + ((j - (i + 1)) + 1) ≡ j = omega (arith, lt) in
    subst (λ z. (get_or rows i d).key < (get_or rows z d).key) same (rises_to rows near i (j - (i + 1)) d (omega (arith, lt, lj)))

-- A row is taken out

no_row : Row
no_row = record { key = 0; plug = 0 }

-- where each row has a smaller key or a larger one, none has the key
pub between_lacks : (place key : ℕ) (rows : List Row) → IsBetween place key rows → plug_of rows key ≡ None
between_lacks place key rows h = lacks_all rows key (All-from_get_or (λ r. r.key ≢ key) rows no_row each)
  where
    each : (i : ℕ) → i < length rows → (get_or rows i no_row).key ≢ key
    each i li e = dite (dec_lt i place)
        (λ lt. let b = h.below i no_row lt in absurd (omega (arith, b, e)))
        (λ ge. let a = h.above i no_row (omega (arith, ge)) li in absurd (omega (arith, a, e)))

-- no row of the key is there
module _ (place key : ℕ) (rows : List Row) (table : IsTable rows) (first : IsFirstFrom place key rows) where
  pub none_there : ((d : Row) → place < length rows → (get_or rows place d).key ≢ key) → IsBetween place key rows
  none_there other = record { inside = first.inside; below = first.below; above = above }
    where
      above : (i : ℕ) (d : Row) → place ≤ i → i < length rows → key < (get_or rows i d).key
      above i d le li = dite (ℕ_discrete i place)
          (λ e. let here : place < length rows = omega (arith, e, li) in let f = first.found d here in let o = other d here in subst (λ j. key < (get_or rows j d).key) (sym e) (omega (arith, f, o)))
          (λ n. let here : place < length rows = omega (arith, le, li) in let f = first.found d here in let up = table.rising place i d (omega (arith, n, le)) li in omega (arith, f, up))

  pub kept : IsBetween place key rows → Unmaps key rows rows
  kept h = record { table = table; here = between_lacks place key rows h; others = λ k other. refl }

  -- a row of the key is there
  module _ (r : Row) (here : place < length rows) (is : r ≡ get_or rows place r) (same : r.key ≡ key) where
    pub taken_between : IsBetween place key (remove rows place)
    taken_between = record {
      inside = let l = length-remove rows place here in omega (arith, l, here);
      below = λ i d lt. subst (λ (x : Row). x.key < key) (sym (get_or-remove_below rows place d i lt here)) (first.below i d lt);
      above = λ i d le li. subst (λ (x : Row). key < x.key) (sym (get_or-remove_above rows place d i le here))
          (let l = length-remove rows place here in let up = table.rising place (i + 1) d (omega (arith, le)) (omega (arith, l, li)) in let f = first.found d here in omega (arith, up, f));
    }

    split : rows ≡ take place rows ++ r ∷ drop (suc place) rows
    split = sym (take-append-drop place rows) ∙ ap (λ b. take place rows ++ b) (drop_more rows place r here ∙ (λ i. sym is i ∷ drop (next i) rows))
      where
        next : place + 1 ≡ suc place
        next = omega arith

    pub taken_out : Unmaps key rows (remove rows place)
    taken_out = record {
      table = record {
        few = let l = length-remove rows place here in let f = table.few in omega (arith, l, f);
        rising = all_pairs_remove (λ a b. a.key < b.key) rows place here table.rising;
        narrow = All-append IsNarrow (take place rows) (drop (suc place) rows) (All-take IsNarrow place rows table.narrow) (All-drop IsNarrow (suc place) rows table.narrow);
      };
      here = between_lacks place key (remove rows place) taken_between;
      others = λ k other. sym (ap (λ l. plug_of l k) split ∙ skipped (take place rows) r (drop (suc place) rows) k (λ e. other (sym e ∙ same)));
    }

    pub room_taken : length (remove rows place) ≡ 15 → IsFull key rows
    room_taken all = absurd (let l = length-remove rows place here in let f = table.few in omega (arith, l, f, all))

-- A row is put in

module _ (place : ℕ) (r : Row) (rows : List Row) (between : IsBetween place r.key rows) where
  -- where the rows stand then
  at_below : (i : ℕ) (d : Row) → i < place → get_or (insert rows place r) i d ≡ get_or rows i d
  at_below i d lt = get_or-insert_below rows place r d i lt between.inside

  at_place : (i : ℕ) (d : Row) → i ≡ place → get_or (insert rows place r) i d ≡ r
  at_place i d e = ap (λ j. get_or (insert rows place r) j d) e ∙ get_or-insert_at rows place r d between.inside

  at_above : (i j : ℕ) (d : Row) → i ≡ j + 1 → place ≤ j → get_or (insert rows place r) i d ≡ get_or rows j d
  at_above i j d e le = ap (λ k. get_or (insert rows place r) k d) e ∙ get_or-insert_above rows place r d j le between.inside

  smaller : (x y x' y' : Row) → x' ≡ x → y' ≡ y → x.key < y.key → x'.key < y'.key
  smaller x y x' y' ex ey lt = subst (λ (z : Row × Row). z.0.key < z.1.key) (λ t. (sym ex t, sym ey t)) lt

  rises_more : Rises rows → Rises (insert rows place r)
  rises_more up i j d lt lj =
      let long = length-insert rows place r between.inside in
      let inside = between.inside in
      dite (dec_lt j place)
      (λ low. smaller _ _ _ _ (at_below i d (omega (arith, lt, low))) (at_below j d low) (up i j d lt (omega (arith, low, inside))))
      (λ n. dite (ℕ_discrete j place)
      (λ e. smaller _ _ _ _ (at_below i d (omega (arith, lt, e))) (at_place j d e) (between.below i d (omega (arith, lt, e))))
      (λ o. let ej : j ≡ (j - 1) + 1 = omega (arith, lt) in let le : place ≤ j - 1 = omega (arith, n, o) in let lk : j - 1 < length rows = omega (arith, lj, long, lt) in
      dite (dec_lt i place)
      (λ low. smaller _ _ _ _ (at_below i d low) (at_above j (j - 1) d ej le) (up i (j - 1) d (omega (arith, low, le)) lk))
      (λ m. dite (ℕ_discrete i place)
      (λ e. smaller _ _ _ _ (at_place i d e) (at_above j (j - 1) d ej le) (between.above (j - 1) d le lk))
      (λ p. smaller _ _ _ _ (at_above i (i - 1) d (omega (arith, m, p)) (omega (arith, m, p))) (at_above j (j - 1) d ej le) (up (i - 1) (j - 1) d (omega (arith, lt, m, p)) lk)))))

  table_more : IsTable rows → IsNarrow r → length rows < 15 → IsTable (insert rows place r)
  table_more table narrow room = record {
    few = let l = length-insert rows place r between.inside in omega (arith, l, room);
    rising = rises_more table.rising;
    narrow = All-append IsNarrow (take place rows) (r ∷ drop place rows) (All-take IsNarrow place rows table.narrow) (All-cons IsNarrow r (drop place rows) narrow (All-drop IsNarrow place rows table.narrow));
  }

  here_more : plug_of (insert rows place r) r.key ≡ Some r.plug
  here_more = behind_others (take place rows) (r ∷ drop place rows) r.key (All-from_get_or (λ x. x.key ≢ r.key) (take place rows) r each) ∙ met r (drop place rows) r.key refl
    where
      each : (i : ℕ) → i < length (take place rows) → (get_or (take place rows) i r).key ≢ r.key
      each i li e =
          let t = length-take place rows in let lt : i < place = omega (arith, li, t) in
          let b = between.below i r lt in let is = ap (λ (x : Row). x.key) (get_or-take place rows i r lt) in absurd (omega (arith, b, is, e))

  others_more : (k : ℕ) → k ≢ r.key → plug_of (insert rows place r) k ≡ plug_of rows k
  others_more k other = skipped (take place rows) r (drop place rows) k (λ e. other (sym e)) ∙ ap (λ l. plug_of l k) (take-append-drop place rows)

-- the key was taken out before that
pub put_in : (place : ℕ) (r : Row) (before rows : List Row) → IsBetween place r.key rows → Unmaps r.key before rows → IsNarrow r → length rows < 15 → Maps r.key r.plug before (insert rows place r)
put_in place r before rows between unmaps narrow room = record {
  table = table_more place r rows between unmaps.table narrow room;
  here = here_more place r rows between;
  others = λ k other. others_more place r rows between k other ∙ unmaps.others k other;
}
