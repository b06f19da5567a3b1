-- Four segments as four lists, and what the definitions say of them.
use Rattle.std.proofs.Common.{◌≡◌, ℕ, ◌+◌, ◌<◌, ◌≤◌, Bool, true, false, cond, List, [], ◌∷◌, ◌++◌, length, suc, refl, ap, ◌∙◌, arith}
use Rattle.std.specs.Prelude.{count_by, All, AllPairs, ◌==◌}
use Rattle.std.specs.List.{filter_map, dedup_from}
use Rattle.std.proofs.lemmas.List.{map-append}
use Rattle.std.proofs.lemmas.List.Sums.{sum_by-append, sum_by-cons}
use Rattle.std.proofs.lemmas.List.Elements.{All-nil, All-cons, All-append}
use Rattle.std.proofs.lemmas.List.Kept.{AllPairs-cons}
use Rattle.std.proofs.lemmas.Bool.{eq-eqb, ne_eqb}
use Rattle.segs.specs.MarkedList.{Mark, Done, At, Next, number_of, is_done, is_at, is_next, marked, remarked, awaited, count_done, count_at, count_next, IsNotAfter}

pub counted_none : (b : Bool) → ◌≡◌ {A = ℕ} 0 (cond b 0 0)
counted_none true = refl
counted_none false = refl

counted_more : (b : Bool) (count n : ℕ) → count ≡ cond b n 0 → cond b 1 0 + count ≡ cond b (suc n) 0
counted_more true count n e = omega arith
counted_more false count n e = omega arith

module _ {T : Type 0} where
  abbrev pub in_segments : List T → ℕ → List T → ℕ → List T → List T → List (T × Mark)
  in_segments d n w m r x = marked Done d ++ (marked (At n) w ++ (marked (At m) r ++ marked Next x))

  -- Marks that change

  pub remarked_marked : (change : Mark → Mark) (mark : Mark) (xs : List T) → remarked change (marked mark xs) ≡ marked (change mark) xs
  remarked_marked change mark [] = refl
  remarked_marked change mark (x ∷ xs) = ap (λ l. (x, change mark) ∷ l) (remarked_marked change mark xs)

  pub remarked-append : (change : Mark → Mark) (xs ys : List (T × Mark)) → remarked change (xs ++ ys) ≡ remarked change xs ++ remarked change ys
  remarked-append change xs ys = map-append _ xs ys

  pub remarked-in_segments : (change : Mark → Mark) (d : List T) (n : ℕ) (w : List T) (m : ℕ) (r x : List T) → remarked change (in_segments d n w m r x) ≡ marked (change Done) d ++ (marked (change (At n)) w ++ (marked (change (At m)) r ++ marked (change Next) x))
  remarked-in_segments change d n w m r x = simp (remarked-append, remarked_marked)

  pub marked-append : (mark : Mark) (xs ys : List T) → marked mark (xs ++ ys) ≡ marked mark xs ++ marked mark ys
  marked-append mark xs ys = map-append _ xs ys

  -- Numbers that are awaited

  pub awaited-done : (d : List T) (rest : List (T × Mark)) → awaited (marked Done d ++ rest) ≡ awaited rest
  awaited-done [] rest = refl
  awaited-done (y ∷ d) rest = awaited-done d rest

  pub awaited-next : (x : List T) → awaited (marked Next x) ≡ []
  awaited-next [] = refl
  awaited-next (y ∷ x) = awaited-next x

  -- the numbers behind an entry that waits for n
  abbrev pub awaited_from : ℕ → List (T × Mark) → List ℕ
  awaited_from n rest = dedup_from (λ a b. a == b) n (filter_map (λ e. number_of e.1) rest)

  pub awaited_from-same : (n : ℕ) (w : List T) (rest : List (T × Mark)) → awaited_from n (marked (At n) w ++ rest) ≡ awaited_from n rest
  awaited_from-same n [] rest = refl
  awaited_from-same n (y ∷ w) rest = rw (eq-eqb n n refl) (awaited_from-same n w rest)

  pub awaited_from-next : (n : ℕ) (x : List T) → awaited_from n (marked Next x) ≡ n ∷ []
  awaited_from-next n [] = refl
  awaited_from-next n (y ∷ x) = awaited_from-next n x

  pub awaited_none : (d x : List T) (n m : ℕ) → awaited (in_segments d n [] m [] x) ≡ []
  awaited_none d x n m = awaited-done d (marked Next x) ∙ awaited-next x

  pub awaited_one : (d : List T) (n : ℕ) (y : T) (w : List T) (m : ℕ) (x : List T) → awaited (in_segments d n (y ∷ w) m [] x) ≡ n ∷ []
  awaited_one d n y w m x = awaited-done d _ ∙ awaited_from-same n w (marked Next x) ∙ awaited_from-next n x

  pub awaited_two : (d : List T) (n : ℕ) (y : T) (w : List T) (m : ℕ) (z : T) (r x : List T) → n < m → awaited (in_segments d n (y ∷ w) m (z ∷ r) x) ≡ n ∷ m ∷ []
  awaited_two d n y w m z r x l =
      awaited-done d _ ∙ awaited_from-same n w _ ∙ rw (ne_eqb m n (λ e. omega arith)) (ap (λ ns. n ∷ ns) (awaited_from-same m r (marked Next x) ∙ awaited_from-next m x))

  -- Counts

  pub count_marked : (p : Mark → Bool) (mark : Mark) (xs : List T) → count_by (λ e. p e.1) (marked mark xs) ≡ cond (p mark) (length xs) 0
  count_marked p mark [] = counted_none (p mark)
  count_marked p mark (y ∷ xs) = sum_by-cons _ (y, mark) (marked mark xs) ∙ counted_more (p mark) _ _ (count_marked p mark xs)

  pub count-append : (p : Mark → Bool) (xs ys : List (T × Mark)) → count_by (λ e. p e.1) (xs ++ ys) ≡ count_by (λ e. p e.1) xs + count_by (λ e. p e.1) ys
  count-append p xs ys = sum_by-append _ xs ys

  pub count-in_segments : (p : Mark → Bool) (d : List T) (n : ℕ) (w : List T) (m : ℕ) (r x : List T) → count_by (λ e. p e.1) (in_segments d n w m r x) ≡ cond (p Done) (length d) 0 + (cond (p (At n)) (length w) 0 + (cond (p (At m)) (length r) 0 + cond (p Next) (length x) 0))
  count-in_segments p d n w m r x =
      rw (count-append p (marked Done d) _, count-append p (marked (At n) w) _, count-append p (marked (At m) r) _, count_marked p Done d, count_marked p (At n) w, count_marked p (At m) r, count_marked p Next x) refl

  pub count_at_first : (d : List T) (n : ℕ) (w : List T) (m : ℕ) (r x : List T) → cond (m == n) (length r) 0 ≡ 0 → count_at (in_segments d n w m r x) n ≡ length w
  count_at_first d n w m r x e =
      let counted = count-in_segments (is_at n) d n w m r x in
      let same = eq-eqb n n refl in
      rw (counted, same, e) (omega arith)

  pub count_at_second : (d : List T) (n : ℕ) (w : List T) (m : ℕ) (r x : List T) → n < m → count_at (in_segments d n w m r x) m ≡ length r
  count_at_second d n w m r x l =
      let counted = count-in_segments (is_at m) d n w m r x in
      let same = eq-eqb m m refl in
      let other = ne_eqb n m (λ e. omega arith) in
      rw (counted, same, other) (omega arith)

  pub count_done_is : (d : List T) (n : ℕ) (w : List T) (m : ℕ) (r x : List T) → count_done (in_segments d n w m r x) ≡ length d
  count_done_is d n w m r x = let counted = count-in_segments is_done d n w m r x in rw counted (omega arith)

  pub count_next_is : (d : List T) (n : ℕ) (w : List T) (m : ℕ) (r x : List T) → count_next (in_segments d n w m r x) ≡ length x
  count_next_is d n w m r x = let counted = count-in_segments is_next d n w m r x in rw counted (omega arith)

  -- The order

  abbrev pub IsAfter : Mark → (T × Mark) → Type 0
  IsAfter mark e = IsNotAfter mark e.1

  pub All-marked : (P : T × Mark → Type 0) (mark : Mark) → ((y : T) → P (y, mark)) → (xs : List T) → All P (marked mark xs)
  All-marked P mark h [] = All-nil P
  All-marked P mark h (y ∷ xs) = All-cons P (y, mark) (marked mark xs) (h y) (All-marked P mark h xs)

  pub rising-marked : (mark : Mark) → IsNotAfter mark mark → (xs : List T) (rest : List (T × Mark)) → All (IsAfter mark) rest → AllPairs (λ a b. IsNotAfter a.1 b.1) rest → AllPairs (λ a b. IsNotAfter a.1 b.1) (marked mark xs ++ rest)
  rising-marked mark h [] rest later rising = rising
  rising-marked mark h (y ∷ xs) rest later rising =
      AllPairs-cons (λ a b. IsNotAfter a.1 b.1) (y, mark) (marked mark xs ++ rest) (All-append (IsAfter mark) (marked mark xs) rest (All-marked (IsAfter mark) mark (λ z. h) xs) later) (rising-marked mark h xs rest later rising)

  pub rising-next : (x : List T) → AllPairs (λ a b. IsNotAfter a.1 b.1) (marked Next x)
  rising-next [] = λ i j d l k. absurd (omega arith)
  rising-next (y ∷ x) = AllPairs-cons (λ a b. IsNotAfter a.1 b.1) (y, Next) (marked Next x) (All-marked (IsAfter Next) Next (λ z. tt) x) (rising-next x)

  pub rising-in_segments : (d : List T) (n : ℕ) (w : List T) (m : ℕ) (r x : List T) → (n ≤ m) → AllPairs (λ a b. IsNotAfter a.1 b.1) (in_segments d n w m r x)
  rising-in_segments d n w m r x l =
      let from_next_ready = rising-marked (At m) (omega arith) r (marked Next x) (All-marked (IsAfter (At m)) Next (λ z. tt) x) (rising-next x) in
      let later = All-append (IsAfter (At n)) (marked (At m) r) (marked Next x) (All-marked (IsAfter (At n)) (At m) (λ z. l) r) (All-marked (IsAfter (At n)) Next (λ z. tt) x) in
      let from_wait = rising-marked (At n) (omega arith) w (marked (At m) r ++ marked Next x) later from_next_ready in
      let first = All-append (IsAfter Done) (marked (At n) w) (marked (At m) r ++ marked Next x) (All-marked (IsAfter Done) (At n) (λ z. tt) w) (All-append (IsAfter Done) (marked (At m) r) (marked Next x) (All-marked (IsAfter Done) (At m) (λ z. tt) r) (All-marked (IsAfter Done) Next (λ z. tt) x)) in
      rising-marked Done tt d (marked (At n) w ++ (marked (At m) r ++ marked Next x)) first from_wait
