-- A list keeps its entries in options. What the definitions say of those holds of the entries.
use Rattle.std.proofs.Common.{◌≡◌, ℕ, zero, suc, ◌+◌, ◌<◌, Bool, true, false, cond, nat_eq, get_or, drop, List, [], ◌∷◌, ◌++◌, Option, Some, None, map, length, refl, sym, ap, ◌∙◌, arith}
use Rattle.std.specs.Prelude.{count_by, slice_index}
use Rattle.std.specs.List.{filter_map, dedup, slice_get}
use Rattle.std.proofs.lemmas.List.Sums.{sum_by-cons}
use Rattle.segs.specs.MarkedList.{Mark, Done, At, Next, number_of, is_done, is_at, is_next, marked, remarked, awaited, number_given, next_becomes, assigned, reached, advanced, count_done, count_at, count_next, lens, numbers, EndsInNext}
use Rattle.calls.specs.Glossary.{Entry, last_number, wrapped, entries_of}

pub zero_unless : (n : ℕ) → (0 < n → false ≡ true) → n ≡ 0
zero_unless zero h = refl
zero_unless (suc n) h = let wrong : false ≡ true = h (omega arith) in cc

module _ {J : Type 0} where
  pub entries_wrap : (l : List (Entry J)) → entries_of (map Some l) ≡ l
  entries_wrap [] = refl
  entries_wrap (e ∷ es) = ap (λ z. e ∷ z) (entries_wrap es)

  pub wrapped_push : (l : List (Entry J × Mark)) (e : Entry J) → wrapped (l ++ (e, Next) ∷ []) ≡ wrapped l ++ (Some e, Next) ∷ []
  wrapped_push [] e = refl
  wrapped_push (x ∷ xs) e = ap (λ z. (Some x.0, x.1) ∷ z) (wrapped_push xs e)

  -- Marks

  pub remarked_wrapped : (change : Mark → Mark) (l : List (Entry J × Mark)) → remarked change (wrapped l) ≡ wrapped (remarked change l)
  remarked_wrapped change [] = refl
  remarked_wrapped change (x ∷ xs) = ap (λ z. (Some x.0, change x.1) ∷ z) (remarked_wrapped change xs)

  numbers_wrapped : (l : List (Entry J × Mark)) → filter_map (λ (e : Option (Entry J) × Mark). number_of e.1) (wrapped l) ≡ filter_map (λ (e : Entry J × Mark). number_of e.1) l
  numbers_wrapped [] = refl
  numbers_wrapped (x ∷ xs) = with_number (number_of x.1) (numbers_wrapped xs)
    where
      with_number : (n : Option ℕ) {a b : List ℕ} → a ≡ b → Rattle.std.specs.List.cons_option n a ≡ Rattle.std.specs.List.cons_option n b
      with_number n e = ap (λ z. Rattle.std.specs.List.cons_option n z) e

  pub awaited_wrapped : (l : List (Entry J × Mark)) → awaited (wrapped l) ≡ awaited l
  awaited_wrapped l = ap (dedup (λ n m. Rattle.std.specs.Prelude.nat_eq n m)) (numbers_wrapped l)

  pub assigned_wrapped : (s : ℕ) (l : List (Entry J × Mark)) → assigned s (wrapped l) ≡ wrapped (assigned s l)
  assigned_wrapped s l = ap (λ (ns : List ℕ). remarked (next_becomes (number_given s ns)) (wrapped l)) (awaited_wrapped l) ∙ remarked_wrapped (next_becomes (number_given s (awaited l))) l

  pub advanced_wrapped : (n : ℕ) (l : List (Entry J × Mark)) → advanced n (wrapped l) ≡ wrapped (advanced n l)
  advanced_wrapped n l = remarked_wrapped (reached n) l

  -- Counts

  count_wrapped : (p : Mark → Bool) (l : List (Entry J × Mark)) → count_by (λ (e : Option (Entry J) × Mark). p e.1) (wrapped l) ≡ count_by (λ (e : Entry J × Mark). p e.1) l
  count_wrapped p [] = refl
  count_wrapped p (x ∷ xs) =
      let a = sum_by-cons (λ (e : Option (Entry J) × Mark). cond (p e.1) 1 0) (Some x.0, x.1) (wrapped xs) in
      let b = sum_by-cons (λ (e : Entry J × Mark). cond (p e.1) 1 0) x xs in
      a ∙ (ap (λ z. cond (p x.1) 1 0 + z) (count_wrapped p xs) ∙ sym b)

  pub count_done_wrapped : (l : List (Entry J × Mark)) → count_done (wrapped l) ≡ count_done l
  count_done_wrapped l = count_wrapped is_done l

  pub count_next_wrapped : (l : List (Entry J × Mark)) → count_next (wrapped l) ≡ count_next l
  count_next_wrapped l = count_wrapped is_next l

  waiting_wrapped : (l : List (Entry J × Mark)) (ns : List ℕ) → map (count_at (wrapped l)) ns ≡ map (count_at l) ns
  waiting_wrapped l [] = refl
  waiting_wrapped l (n ∷ ns) = λ i. count_wrapped (is_at n) l i ∷ waiting_wrapped l ns i

  pub lens_wrapped : (l : List (Entry J × Mark)) → lens (wrapped l) ≡ lens l
  lens_wrapped l =
      let w : map (count_at (wrapped l)) (awaited (wrapped l)) ≡ map (count_at l) (awaited l) = ap (map (count_at (wrapped l))) (awaited_wrapped l) ∙ waiting_wrapped l (awaited l) in
      λ i. count_done_wrapped l i ∷ slice_index (w i) 0 ∷ slice_index (w i) 1 ∷ count_next_wrapped l i ∷ []

  pub numbers_lens_wrapped : (l : List (Entry J × Mark)) → numbers (wrapped l) ≡ numbers l
  numbers_lens_wrapped l = ap (λ (ns : List ℕ). slice_index ns 0 ∷ slice_index ns 1 ∷ []) (awaited_wrapped l)

  -- The last entry

  item_of : List (Option (Entry J) × Mark) → Option (Entry J)
  item_of [] = None
  item_of (z ∷ zs) = z.0

  mark_of : List (Option (Entry J) × Mark) → Mark
  mark_of [] = Next
  mark_of (z ∷ zs) = z.1

  behind : List (Option (Entry J) × Mark) → List (Option (Entry J) × Mark)
  behind [] = []
  behind (z ∷ zs) = zs

  no_none : (front : List (Option (Entry J) × Mark)) (l : List (Entry J × Mark)) → wrapped l ≡ front ++ (None, Next) ∷ [] → ⊥
  unfolding item_of behind
  no_none [] [] h = cc
  no_none [] (x ∷ xs) h = let e : Some x.0 ≡ None = ap (λ (z : List (Option (Entry J) × Mark)). item_of z) h in cc
  no_none (y ∷ ys) [] h = cc
  no_none (y ∷ ys) (x ∷ xs) h = no_none ys xs (ap (λ (z : List (Option (Entry J) × Mark)). behind z) h)

  pub none_wrapped : (l : List (Entry J × Mark)) → EndsInNext (wrapped l) None → ⊥
  none_wrapped l h = no_none h.0 l h.1

  abbrev nothing : List (Option (Entry J) × Mark)
  nothing = []

  -- what comes last has the last number
  last_is : (front : List (Option (Entry J) × Mark)) (l : List (Entry J × Mark)) (e : Entry J) → wrapped l ≡ front ++ (Some e, Next) ∷ [] → last_number l ≡ e.cookie.number
  unfolding item_of behind
  last_is [] [] e h = cc
  last_is [] (x ∷ []) e h = let s : Some x.0 ≡ Some e = ap (λ (z : List (Option (Entry J) × Mark)). item_of z) h in ap (λ (z : Entry J). z.cookie.number) (same_some x.0 e s)
    where
      same_some : (a b : Entry J) → Some a ≡ Some b → a ≡ b
      same_some a b h = cc
  last_is [] (x ∷ y ∷ ys) e h = let n : wrapped (y ∷ ys) ≡ [] = ap (λ (z : List (Option (Entry J) × Mark)). behind z) h in cc
  last_is (z ∷ zs) [] e h = cc
  last_is (z ∷ []) (x ∷ []) e h = let n : nothing ≡ (Some e, Next) ∷ [] = ap (λ (z : List (Option (Entry J) × Mark)). behind z) h in cc
  last_is (z ∷ w ∷ ws) (x ∷ []) e h = let n : nothing ≡ (w ∷ ws) ++ (Some e, Next) ∷ [] = ap (λ (z : List (Option (Entry J) × Mark)). behind z) h in cc
  last_is (z ∷ zs) (x ∷ y ∷ ys) e h = last_is zs (y ∷ ys) e (ap (λ (z : List (Option (Entry J) × Mark)). behind z) h)

  pub last_wrapped : (l : List (Entry J × Mark)) (e : Entry J) → EndsInNext (wrapped l) (Some e) → last_number l ≡ e.cookie.number
  last_wrapped l e h = last_is h.0 l e h.1

  -- where all have a number, none gets another
  pub none_next : (given : Mark) (l : List (Entry J × Mark)) → count_next l ≡ 0 → remarked (next_becomes given) l ≡ l
  none_next given [] none = refl
  none_next given ((e, Done) ∷ xs) none = let one = sum_by-cons (λ (x : Entry J × Mark). cond (is_next x.1) 1 0) (e, Done) xs in let rest : count_next xs ≡ 0 = omega (arith, one, none) in ap (λ z. (e, Done) ∷ z) (none_next given xs rest)
  none_next given ((e, At n) ∷ xs) none = let one = sum_by-cons (λ (x : Entry J × Mark). cond (is_next x.1) 1 0) (e, At n) xs in let rest : count_next xs ≡ 0 = omega (arith, one, none) in ap (λ z. (e, At n) ∷ z) (none_next given xs rest)
  none_next given ((e, Next) ∷ xs) none = let one = sum_by-cons (λ (x : Entry J × Mark). cond (is_next x.1) 1 0) (e, Next) xs in absurd (omega (arith, one, none))

  -- What is taken out

  pub record IsSplit (items : List (Option (Entry J))) (left : List (Option (Entry J) × Mark)) (l : List (Entry J × Mark)) : Type 0 where
    pub gone : List (Entry J)
    pub items_are : items ≡ map Some gone
    pub rest : List (Entry J × Mark)
    pub left_is : left ≡ wrapped rest
    pub whole : l ≡ marked Done gone ++ rest

  pub split_wrapped : (items : List (Option (Entry J))) (left : List (Option (Entry J) × Mark)) (l : List (Entry J × Mark)) → wrapped l ≡ marked Done items ++ left → IsSplit items left l
  unfolding item_of mark_of behind
  split_wrapped [] left l h = record { gone = []; items_are = refl; rest = l; left_is = sym h; whole = refl }
  split_wrapped (i ∷ is) left [] h = cc
  split_wrapped (i ∷ is) left (e ∷ es) h =
      let first : Some e.0 ≡ i = ap (λ (z : List (Option (Entry J) × Mark)). item_of z) h in
      let mark : e.1 ≡ Done = ap (λ (z : List (Option (Entry J) × Mark)). mark_of z) h in
      let s = split_wrapped is left es (ap (λ (z : List (Option (Entry J) × Mark)). behind z) h) in
      record { gone = e.0 ∷ s.gone; items_are = λ k. sym first k ∷ s.items_are k; rest = s.rest; left_is = s.left_is; whole = λ k. (e.0, mark k) ∷ s.whole k }

  some_length : (l : List (Entry J)) → length (map Some l) ≡ length l
  some_length [] = refl
  some_length (x ∷ xs) = ap suc (some_length xs)

  pub items_length : (items : List (Option (Entry J))) (l : List (Entry J)) → items ≡ map Some l → length items ≡ length l
  items_length items l h = ap length h ∙ some_length l

  -- the first of a batch
  pub record IsFirst (items : List (Option (Entry J))) (r : Option (Entry J)) (rest : List (Option (Entry J))) : Type 0 where
    pub entry : Entry J
    pub result : r ≡ Some entry
    pub entries : entries_of items ≡ entry ∷ entries_of rest

  none_first : (l : List (Entry J)) (is : List (Option (Entry J))) → None ∷ is ≡ map Some l → ⊥
  none_first [] is h = cc
  none_first (x ∷ xs) is h = cc

  pub first_entry : (items : List (Option (Entry J))) (r : Option (Entry J)) (rest : List (Option (Entry J))) (b : Bool) → items ≡ map Some (entries_of items) → b ≡ nat_eq (length items) 0 → b ≡ false → r ≡ get_or items 0 r → rest ≡ drop 1 items → IsFirst items r rest
  first_entry [] r rest b h long some value left = let wrong : true ≡ false = sym long ∙ some in cc
  first_entry (None ∷ is) r rest b h long some value left = absurd (none_first (entries_of is) is h)
  first_entry (Some e ∷ is) r rest b h long some value left = record { entry = e; result = value; entries = ap (λ (z : List (Option (Entry J))). e ∷ entries_of z) (sym left) }

  -- the first of a batch is an entry
  pub first_not_none : (items : List (Option (Entry J))) → items ≡ map Some (entries_of items) → slice_get items 0 ≡ Some None → ⊥
  first_not_none [] h is = cc
  first_not_none (None ∷ is) h first = none_first (entries_of is) is h
  first_not_none (Some e ∷ is) h first = let wrong : Some (Some e) ≡ Some None = first in cc
