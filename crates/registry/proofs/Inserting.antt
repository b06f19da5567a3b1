-- A device is put in, and taken out again.
use Rattle.std.proofs.Common.{◌≡◌, ℕ, ◌+◌, ◌-◌, ◌<◌, ◌≤◌, List, length, map, get_or, All, sym, ap, ◌∙◌, subst, arith, ⊎_elim}
use Rattle.std.specs.List.{AllPairs, AllWithin, insert, remove}
use Rattle.std.specs.Cmp.{IsTotalOrder}
use Rattle.std.specs.Ordering.{ordering_reverse}
use Rattle.std.specs.declared.cmp.Ordering.{Ordering}
use Rattle.std.specs.declared.cmp.Ordering.TheVariants.{Less, Greater}
use Rattle.std.proofs.lemmas.Bool.{cases_lt, cases_eq}
use Rattle.std.proofs.lemmas.List.{get_or-map, get_or_read, length-map, same_lists}
use Rattle.std.proofs.lemmas.List.Quantifiers.{all_pairs_remove}
use Rattle.std.proofs.lemmas.List.Edits.{length-insert, length-remove, get_or-insert_below, get_or-insert_at, get_or-insert_above, get_or-remove_below, get_or-remove_above}
use Rattle.registry.specs.declared.device.Device.{Device}
use Rattle.registry.specs.Order.{AreInOrder}
use Rattle.registry.specs.Names.{kept_of, all_kept, swap, Lends}
use Rattle.registry.specs.Registry.{keys_of}
use Rattle.registry.proofs.Order.{at_two}
use Rattle.registry.proofs.Parts.{kept_length, kept_at, there}
use Rattle.registry.proofs.Keeping.{All-insert, All-remove, map-insert, map-remove}

pub within_map : {X Y : Type 0} (f : X → Y) (P : Y → Type 0) (xs : List X) (lo hi : ℕ) → hi ≤ length xs → AllWithin (λ x. P (f x)) xs lo hi → AllWithin P (map f xs) lo hi
within_map f P xs lo hi le h k y a b =
    let l : k < length xs = omega (arith, le, b) in
    let t = there xs k l in subst P (sym (get_or-map f xs k t.0 y l)) (h k t.0 a b)

below_above : {X : Type 0} (xs : List X) (i : ℕ) (y d : X) (k : ℕ) → i < k → i ≤ length xs → get_or (insert xs i y) k d ≡ get_or xs (k - 1) d
below_above xs i y d k lt le = let e : (k - 1) + 1 ≡ k = omega (arith, lt) in subst (λ (j : ℕ). get_or (insert xs i y) j d ≡ get_or xs (k - 1) d) e (get_or-insert_above xs i y d (k - 1) (omega (arith, lt)) le)

at_same : {X : Type 0} (xs : List X) (i : ℕ) (y d : X) (k : ℕ) → k ≡ i → i ≤ length xs → get_or (insert xs i y) k d ≡ y
at_same xs i y d k is le = subst (λ (j : ℕ). get_or (insert xs i y) j d ≡ y) (sym is) (get_or-insert_at xs i y d le)

both_at : {X : Type 0} (R : X → X → Type 0) (u v u' v' : X) → u' ≡ u → v' ≡ v → R u v → R u' v'
both_at R u v u' v' e f h = subst (λ a. R a v') (sym e) (subst (λ b. R u b) (sym f) h)

pub all_pairs_insert : {X : Type 0} (R : X → X → Type 0) (xs : List X) (i : ℕ) (y : X) → i ≤ length xs → AllPairs R xs → AllWithin (λ x. R x y) xs 0 i → AllWithin (R y) xs i (length xs) → AllPairs R (insert xs i y)
all_pairs_insert R xs i y le h low high a b d lt l =
    let n = length-insert xs i y le in
    ⊎_elim
    (λ b_low. both_at R _ _ _ _ (get_or-insert_below xs i y d a (omega (arith, lt, b_low)) le) (get_or-insert_below xs i y d b b_low le) (h a b d lt (omega (arith, b_low, le))))
    (λ b_not. ⊎_elim
    (λ is. both_at R _ _ _ _ (get_or-insert_below xs i y d a (omega (arith, lt, is)) le) (at_same xs i y d b is le) (low a d (omega arith) (omega (arith, lt, is))))
    (λ b_ne.
    let b_high : i < b = omega (arith, b_not, b_ne) in
    let at_b = below_above xs i y d b b_high le in
    ⊎_elim
    (λ a_low. both_at R _ _ _ _ (get_or-insert_below xs i y d a a_low le) at_b (h a (b - 1) d (omega (arith, a_low, b_high)) (omega (arith, n, l, b_high))))
    (λ a_not. ⊎_elim
    (λ is. both_at R _ _ _ _ (at_same xs i y d a is le) at_b (high (b - 1) d (omega (arith, b_high)) (omega (arith, n, l, b_high))))
    (λ a_ne. let a_high : i < a = omega (arith, a_not, a_ne) in both_at R _ _ _ _ (below_above xs i y d a a_high le) at_b (h (a - 1) (b - 1) d (omega (arith, lt, a_high)) (omega (arith, n, l, b_high))))
    (cases_eq a i))
    (cases_lt a i))
    (cases_eq b i))
    (cases_lt b i)

remove_insert : {X : Type 0} (xs : List X) (i : ℕ) (y : X) → i ≤ length xs → remove (insert xs i y) i ≡ xs
remove_insert xs i y le =
    let n = length-insert xs i y le in
    let l : i < length (insert xs i y) = omega (arith, n, le) in
    let m = length-remove (insert xs i y) i l in
    same_lists (remove (insert xs i y) i) xs (omega (arith, n, m)) (λ k d lt. ⊎_elim
    (λ low. get_or-remove_below (insert xs i y) i d k low l ∙ get_or-insert_below xs i y d k low le)
    (λ high. get_or-remove_above (insert xs i y) i d k high l ∙ get_or-insert_above xs i y d k high le)
    (cases_lt k i))

insert_remove : {X : Type 0} (xs : List X) (i : ℕ) (y : X) → i < length xs → y ≡ get_or xs i y → insert (remove xs i) i y ≡ xs
insert_remove xs i y lt r =
    let n = length-remove xs i lt in
    let le : i ≤ length (remove xs i) = omega (arith, n, lt) in
    let m = length-insert (remove xs i) i y le in
    same_lists (insert (remove xs i) i y) xs (omega (arith, n, m)) (λ k d b. ⊎_elim
    (λ low. get_or-insert_below (remove xs i) i y d k low le ∙ get_or-remove_below xs i d k low lt)
    (λ high. ⊎_elim
    (λ is. at_same (remove xs i) i y d k is le ∙ subst (λ (j : ℕ). y ≡ get_or xs j d) (sym is) (get_or_read xs i y lt r d))
    (λ ne.
    let above : i < k = omega (arith, high, ne) in
    let e : (k - 1) + 1 ≡ k = omega (arith, above) in
    below_above (remove xs i) i y d k above le ∙ (get_or-remove_above xs i d (k - 1) (omega (arith, above)) lt ∙ ap (λ j. get_or xs j d) e))
    (cases_eq k i))
    (cases_lt k i))

module _ {K V A : Type 0} where
  -- the keys are in order behind it
  pub order_insert : {cmp : K → K → Ordering} (o : IsTotalOrder cmp) (ds : List (Device K V A)) (i : ℕ) (d : Device K V A) (key : K) → d.key ≡ key → i ≤ length ds → AreInOrder cmp (keys_of ds)
      → AllWithin (λ (x : Device K V A). cmp x.key key ≡ Less) ds 0 i → AllWithin (λ (x : Device K V A). cmp x.key key ≡ Greater) ds i (length ds) → AreInOrder cmp (keys_of (insert ds i d))
  order_insert {cmp} o ds i d key e le h low high =
      let f : Device K V A → K = λ x. x.key in
      let n = length-map ds f in
      let front = within_map f (λ k. cmp k d.key ≡ Less) ds 0 i le (λ k x a b. ap (cmp (get_or ds k x).key) e ∙ low k x a b) in
      let back = within_map f (λ k. cmp d.key k ≡ Less) ds i (length ds) (omega arith) (λ k x a b. o.antisymm d.key (get_or ds k x).key ∙ ap ordering_reverse (ap (cmp (get_or ds k x).key) e ∙ high k x a b)) in
      subst (AreInOrder cmp) (sym (map-insert f ds i d)) (all_pairs_insert (λ a b. cmp a b ≡ Less) (map f ds) i d.key (omega (arith, n, le)) h front (λ k y a b. back k y a (omega (arith, n, b))))

  -- it was taken out again
  pub taken_is : (ds ys : List (Device K V A)) (i : ℕ) (d x : Device K V A) → i ≤ length ds → Lends 0 (insert ds i d) ys → x ≡ get_or ys i x → (kept_of x ≡ kept_of d) × (x.out ≡ d.out)
  taken_is ds ys i d x le l r =
      let n = length-insert ds i d le in
      let lt : i < length (insert ds i d) = omega (arith, n, le) in
      let at = get_or-insert_at ds i d x le in
      let o = l.out i x lt in
      let p = ap (λ z. z.out) r in
      let q = ap (λ z. z.out) at in
      (ap kept_of r ∙ (kept_at (insert ds i d) ys l.kept i x lt ∙ ap kept_of at), omega (arith, o, p, q))

  pub taken_rest : (ds ys : List (Device K V A)) (i : ℕ) (d : Device K V A) → i ≤ length ds → Lends 0 (insert ds i d) ys → Lends 0 ds (remove ys i)
  taken_rest ds ys i d le l =
      let n = length-insert ds i d le in
      let m = kept_length (insert ds i d) ys l.kept in
      let lt : i < length ys = omega (arith, n, m, le) in record {
        kept = map-remove kept_of ys i ∙ (ap (λ xs. remove xs i) (l.kept ∙ map-insert kept_of ds i d) ∙ remove_insert (all_kept ds) i (kept_of d) (omega (arith, le, length-map ds kept_of)));
        out = λ k x b. ⊎_elim
            (λ low. ap (λ z. z.out) (get_or-remove_below ys i x k low lt) ∙ (l.out k x (omega (arith, n, b)) ∙ ap (λ z. z.out + 0) (get_or-insert_below ds i d x k low le)))
            (λ high. ap (λ z. z.out) (get_or-remove_above ys i x k high lt) ∙ (l.out (k + 1) x (omega (arith, n, b)) ∙ ap (λ z. z.out + 0) (get_or-insert_above ds i d x k high le)))
            (cases_lt k i);
      }

  -- the keys are in order without it
  pub order_remove : (cmp : K → K → Ordering) (ds : List (Device K V A)) (i : ℕ) → i < length ds → AreInOrder cmp (keys_of ds) → AreInOrder cmp (keys_of (remove ds i))
  order_remove cmp ds i l h =
      let f : Device K V A → K = λ x. x.key in
      let n = length-map ds f in
      subst (AreInOrder cmp) (sym (map-remove f ds i)) (all_pairs_remove (λ a b. cmp a b ≡ Less) (map f ds) i (omega (arith, n, l)) h)

  -- it was put back
  pub put_back : (ds ys : List (Device K V A)) (i : ℕ) (x : Device K V A) → i < length ds → x ≡ get_or ds i x → Lends 0 (remove ds i) ys → Lends 0 ds (insert ys i x)
  put_back ds ys i x lt r l =
      let n = length-remove ds i lt in
      let m = kept_length (remove ds i) ys l.kept in
      let le : i ≤ length ys = omega (arith, n, m, lt) in record {
        kept = map-insert kept_of ys i x ∙ (ap (λ xs. insert xs i (kept_of x)) (l.kept ∙ map-remove kept_of ds i) ∙ insert_remove (all_kept ds) i (kept_of x) (omega (arith, lt, length-map ds kept_of)) (ap kept_of r ∙ sym (get_or-map kept_of ds i x (kept_of x) lt)));
        out = λ k y b. ⊎_elim
            (λ low. ap (λ z. z.out) (get_or-insert_below ys i x y k low le) ∙ (l.out k y (omega (arith, n, b, low, lt)) ∙ ap (λ z. z.out + 0) (get_or-remove_below ds i y k low lt)))
            (λ high. ⊎_elim
            (λ is. ap (λ z. z.out) (at_same ys i x y k is le) ∙ (let at = subst (λ (j : ℕ). x ≡ get_or ds j y) (sym is) (get_or_read ds i x lt r y) in let o = ap (λ z. z.out) at in omega (arith, o)))
            (λ ne.
            let above : i < k = omega (arith, high, ne) in
            let e : (k - 1) + 1 ≡ k = omega (arith, above) in
            let down : get_or (remove ds i) (k - 1) y ≡ get_or ds k y = get_or-remove_above ds i y (k - 1) (omega (arith, above)) lt ∙ ap (λ j. get_or ds j y) e in
            ap (λ z. z.out) (below_above ys i x y k above le) ∙ (l.out (k - 1) y (omega (arith, n, b, above)) ∙ ap (λ z. z.out + 0) down))
            (cases_eq k i))
            (cases_lt k i);
      }

  -- without a device, the keys before its place are less than its own, and the others are greater
  pub round_of : {cmp : K → K → Ordering} (o : IsTotalOrder cmp) (ds : List (Device K V A)) (i : ℕ) (d : Device K V A) → i < length ds → d ≡ get_or ds i d → AreInOrder cmp (keys_of ds)
      → AllWithin (λ (x : Device K V A). cmp x.key d.key ≡ Less) (remove ds i) 0 i × AllWithin (λ (x : Device K V A). cmp x.key d.key ≡ Greater) (remove ds i) i (length (remove ds i))
  round_of {cmp} o ds i d lt r h =
      let f : Device K V A → K = λ x. x.key in
      let n = length-remove ds i lt in (
        λ k x a b. ap (λ z. cmp z.key d.key) (get_or-remove_below ds i x k b lt) ∙ (ap (λ z. cmp (get_or ds k x).key z.key) (get_or_read ds i d lt r x) ∙ at_two o f ds k i x h b lt),
        λ k x a b. ap (λ z. cmp z.key d.key) (get_or-remove_above ds i x k a lt)
            ∙ (ap (λ z. cmp (get_or ds (k + 1) x).key z.key) (get_or_read ds i d lt r x) ∙ (o.antisymm (get_or ds (k + 1) x).key (get_or ds i x).key ∙ ap ordering_reverse (at_two o f ds i (k + 1) x h (omega (arith, a)) (omega (arith, b, n))))),
      )

  -- the keys are in order with another device under the key
  pub order_swap : {cmp : K → K → Ordering} (o : IsTotalOrder cmp) (ds : List (Device K V A)) (i : ℕ) (d e : Device K V A) → i < length ds → d ≡ get_or ds i d → e.key ≡ d.key → AreInOrder cmp (keys_of ds) → AreInOrder cmp (keys_of (swap ds i e))
  order_swap {cmp} o ds i d e lt r k h =
      let n = length-remove ds i lt in
      let round = round_of o ds i d lt r h in order_insert o (remove ds i) i e d.key k (omega (arith, n, lt)) (order_remove cmp ds i lt h) round.0 round.1

  pub all_swap : (P : Device K V A → Type 0) (ds : List (Device K V A)) (i : ℕ) (d e : Device K V A) → i < length ds → d ≡ get_or ds i d → P e → All P ds → All P (swap ds i e)
  all_swap P ds i d e lt r p h = All-insert P (remove ds i) i e p (All-remove P ds i d lt r h)

  pub length_swap : (ds : List (Device K V A)) (i : ℕ) (e : Device K V A) → i < length ds → length (swap ds i e) ≡ length ds
  length_swap ds i e lt = let n = length-remove ds i lt in let m = length-insert (remove ds i) i e (omega (arith, n, lt)) in omega (arith, n, m, lt)

  -- the first one was put back
  pub swap_back : (ds ys : List (Device K V A)) (i : ℕ) (d e : Device K V A) → i < length ds → d ≡ get_or ds i d → Lends 0 (swap ds i e) ys → Lends 0 ds (swap ys i d)
  swap_back ds ys i d e lt r l = let n = length-remove ds i lt in put_back ds (remove ys i) i d lt r (taken_rest (remove ds i) ys i e (omega (arith, n, lt)) l)

  -- and the other one is as it was
  pub swapped_is : (ds ys : List (Device K V A)) (i : ℕ) (e x : Device K V A) → i < length ds → Lends 0 (swap ds i e) ys → x ≡ get_or ys i x → (kept_of x ≡ kept_of e) × (x.out ≡ e.out)
  swapped_is ds ys i e x lt l r = let n = length-remove ds i lt in taken_is (remove ds i) ys i e x (omega (arith, n, lt)) l r
