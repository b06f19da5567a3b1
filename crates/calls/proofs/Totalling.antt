-- Where one seat only loads and all others rest, no count changes, and the loads find the counts.
use Rattle.std.proofs.Common.{◌≡◌, ◌≢◌, ℕ, suc, ◌+◌, ◌<◌, cond, List, [], ◌∷◌, ◌++◌, map, length, get_or, sum, refl, sym, ap, ◌∙◌, subst, eq-eqb, ne_eqb, length-append, append_assoc, arith}
use Rattle.std.proofs.lemmas.List.Sums.{sum_by-cons}
use mathlib.Core.Logic.{dite}
use native.Mathlib.Decide.{ℕ_discrete}
use Rattle.calls.specs.Glossary.{Act, Deed, deed, queued_in, finished_by, finished_in, deeds_of, IsTaker, AreTakers, IsBeginning, CallSeatView, IsCountBetween, queued_loads, finished_loads, added, TotalsAreExact}
use Rattle.calls.specs.declared.view.Act.TheVariants.{Queue, Take, Finish, LackRoom, LoadQueued, LoadFinished}
use Rattle.calls.proofs.Counting.{same_queued, queued_deeds, later_takers}
use Rattle.calls.proofs.Loading.{begins_on, queued_append, finished_append, queued_later, finished_later}
use Rattle.calls.proofs.Counting.{deeds_append, none_more, own_between}

-- Deeds of one processor

module _ {J : Type 0} where
  not_first : (x : Deed J) (xs : List (Deed J)) → deeds_of x.by (x ∷ xs) ≡ [] → ⊥
  not_first x xs is = let h : x ∷ deeds_of x.by xs ≡ [] = sym (ap (λ b. cond b (x ∷ deeds_of x.by xs) (deeds_of x.by xs)) (eq-eqb x.by x.by refl)) ∙ is in cc

  none_behind : (q : ℕ) (x : Deed J) (xs : List (Deed J)) → deeds_of q (x ∷ xs) ≡ [] → deeds_of q xs ≡ []
  none_behind q x xs is = dite (ℕ_discrete x.by q)
      (λ e. let h : x ∷ deeds_of q xs ≡ [] = sym (ap (λ b. cond b (x ∷ deeds_of q xs) (deeds_of q xs)) (eq-eqb x.by q e)) ∙ is in absurd (some_first x (deeds_of q xs) h))
      (λ n. sym (ap (λ b. cond b (x ∷ deeds_of q xs) (deeds_of q xs)) (ne_eqb x.by q n)) ∙ is)
    where
      some_first : (y : Deed J) (ys : List (Deed J)) → y ∷ ys ≡ [] → ⊥
      some_first y ys h = cc

  not_finished : (n p by : ℕ) (act : Act J) → IsTaker n by act → (by < n → ⊥) → finished_by p act ≡ 0
  not_finished n p by (Queue e) h away = refl
  not_finished n p by (Take q number max moved) h away = refl
  not_finished n p by (Finish q k) h away = absurd (away h)
  not_finished n p by (LackRoom q moved) h away = refl
  not_finished n p by (LoadQueued q k) h away = refl
  not_finished n p by (LoadFinished q k) h away = refl

  -- where only one processor of those that are there did something, and finished nothing, nothing is finished
  none_finished : (n me p : ℕ) (l : List (Deed J)) → AreTakers n l → ((q : ℕ) → q < n → q ≢ me → deeds_of q l ≡ []) → finished_in p (deeds_of me l) ≡ 0 → finished_in p l ≡ 0
  none_finished n me p [] h others mine = refl
  none_finished n me p (x ∷ xs) h others mine = dite (ℕ_discrete x.by me)
      (λ e. let kept : finished_in p (deeds_of me (x ∷ xs)) ≡ finished_by p x.act + finished_in p (deeds_of me xs) = ap (λ b. finished_in p (cond b (x ∷ deeds_of me xs) (deeds_of me xs))) (eq-eqb x.by me e) in
      let rest = none_finished n me p xs h.1 (λ q lt ne. none_behind q x xs (others q lt ne)) (omega (arith, kept, mine)) in omega (arith, kept, mine, rest))
      (λ ne. let kept : finished_in p (deeds_of me (x ∷ xs)) ≡ finished_in p (deeds_of me xs) = ap (λ b. finished_in p (cond b (x ∷ deeds_of me xs) (deeds_of me xs))) (ne_eqb x.by me ne) in
      let first = not_finished n p x.by x.act h.0 (λ lt. not_first x xs (others x.by lt ne)) in
      let rest = none_finished n me p xs h.1 (λ q lt away. none_behind q x xs (others q lt away)) (omega (arith, kept, mine)) in omega (arith, first, rest))

-- Loads

module _ (J : Type 0) where
  queued_by_loads : (by p k : ℕ) (ns : List ℕ) → (queued_in p (map (deed by) (queued_loads {J = J} k ns)) ≡ 0) × (finished_in p (map (deed by) (queued_loads {J = J} k ns)) ≡ 0)
  queued_by_loads by p k [] = (refl, refl)
  queued_by_loads by p k (n ∷ ns) = let r = queued_by_loads by p (k + 1) ns in let q = r.0 in let f = r.1 in (omega (arith, q), omega (arith, f))

  finished_by_loads : (by p k : ℕ) (ns : List ℕ) → (queued_in p (map (deed by) (finished_loads {J = J} k ns)) ≡ 0) × (finished_in p (map (deed by) (finished_loads {J = J} k ns)) ≡ 0)
  finished_by_loads by p k [] = (refl, refl)
  finished_by_loads by p k (n ∷ ns) = let r = finished_by_loads by p (k + 1) ns in let q = r.0 in let f = r.1 in (omega (arith, q), omega (arith, f))

-- No count changes

module _ {J : Type 0} (n me : ℕ) (a l mine : List (Deed J)) (since : IsBeginning a l) (own : deeds_of me l ≡ deeds_of me a ++ mine) (others : (q : ℕ) → q < n → q ≢ me → deeds_of q l ≡ deeds_of q a) where
  rest_of_others : (q : ℕ) → q < n → q ≢ me → deeds_of q since.rest ≡ []
  rest_of_others q lt ne =
      let whole = ap (λ z. length (deeds_of q z)) since.whole in
      let parts = ap length (deeds_append q a since.rest) ∙ length-append (deeds_of q a) (deeds_of q since.rest) in
      let same = ap length (others q lt ne) in
      none_more (deeds_of q since.rest) (omega (arith, whole, parts, same))

  pub same_finished : AreTakers n l → (p : ℕ) → finished_in p mine ≡ 0 → finished_in p l ≡ finished_in p a
  same_finished takers p none =
      let whole = ap (finished_in p) since.whole ∙ finished_append p a since.rest in
      let both : finished_in p (deeds_of me a) + finished_in p (deeds_of me since.rest) ≡ finished_in p (deeds_of me a) + finished_in p mine =
      sym (ap (λ z. finished_in p (deeds_of me z)) since.whole ∙ (ap (finished_in p) (deeds_append me a since.rest) ∙ finished_append p (deeds_of me a) (deeds_of me since.rest))) ∙ (ap (finished_in p) own ∙ finished_append p (deeds_of me a) mine) in
      let rest = none_finished n me p since.rest (later_takers n a since.rest (subst (λ z. AreTakers n z) since.whole takers)) rest_of_others (omega (arith, both, none)) in
      omega (arith, whole, rest)

  pub same_queued_there : (p : ℕ) → p < n → queued_in me mine ≡ 0 → queued_in p l ≡ queued_in p a
  same_queued_there p lt none = dite (ℕ_discrete p me)
      (λ e. subst (λ z. queued_in z l ≡ queued_in z a) (sym e) (let all = ap (queued_in me) own ∙ queued_append me (deeds_of me a) mine in let l_is = queued_deeds me l in let a_is = queued_deeds me a in omega (arith, all, l_is, a_is, none)))
      (λ ne. same_queued p l a (others p lt ne))

-- What the loads found

module _ {J : Type 0} where
  queued_exact : (p k : ℕ) {a b l : List (Deed J)} → IsCountBetween (queued_in p) k a b → IsBeginning b l → queued_in p l ≡ queued_in p a → k ≡ queued_in p l
  queued_exact p k h on same = let low = queued_later p h.not_before in let up = queued_later p (begins_on h.not_after on) in let is = h.counted in omega (arith, low, up, is, same)

  finished_exact : (p k : ℕ) {a b l : List (Deed J)} → IsCountBetween (finished_in p) k b l → IsBeginning a b → finished_in p l ≡ finished_in p a → k ≡ finished_in p l
  finished_exact p k h on same = let low = finished_later p (begins_on on h.not_before) in let up = finished_later p h.not_after in let is = h.counted in omega (arith, low, up, is, same)

sum_is : (count : ℕ → ℕ) (p : ℕ) (ns : List ℕ) → ((k : ℕ) → k < length ns → get_or ns k 0 ≡ count (p + k)) → sum ns ≡ added count p (length ns)
sum_is count p [] each = refl
sum_is count p (x ∷ xs) each =
    let first : x ≡ count p = each 0 (omega arith) ∙ ap count (let e : p + 0 ≡ p = omega arith in e) in
    let rest = sum_is count (p + 1) xs (λ k lt. each (suc k) (omega (arith, lt)) ∙ ap count (let e : p + suc k ≡ p + 1 + k = omega arith in e)) in
    let cut = sum_by-cons (λ z. z) x xs in
    omega (arith, first, rest, cut)

module _ {J : Type 0} where
  pub totals_exact : TotalsAreExact J
  totals_exact s t all done h others =
      let n : ℕ = s.processors in
      let me : ℕ = s.processor in
      let m : CallSeatView J = h.between in
      let one = h.queued in
      let two = h.finished in
      let many : m.processors ≡ n = one.loads.same.1 in
      let first : List (Deed J) = map (deed me) (queued_loads 0 one.found) in
      let second : List (Deed J) = map (deed me) (finished_loads 0 two.found) in
      let mine : List (Deed J) = first ++ second in
      let since : IsBeginning s.seen t.seen = begins_on one.loads.since two.loads.since in
      let later : deeds_of me t.seen ≡ deeds_of me m.seen ++ second = subst (λ (z : ℕ). deeds_of z t.seen ≡ deeds_of z m.seen ++ map (deed z) (finished_loads 0 two.found)) one.loads.same.2 two.loads.own in
      let own : deeds_of me t.seen ≡ deeds_of me s.seen ++ mine = later ∙ (ap (λ l. l ++ second) one.loads.own ∙ append_assoc (deeds_of me s.seen) first second) in
      let takers : AreTakers n t.seen = subst (λ (z : ℕ). AreTakers z t.seen) many two.takers in
      let no_finish : (p : ℕ) → finished_in p mine ≡ 0 = λ p. let cut = finished_append p first second in let f = (queued_by_loads J me p 0 one.found).1 in let g = (finished_by_loads J me p 0 two.found).1 in omega (arith, cut, f, g) in
      let no_queue : queued_in me mine ≡ 0 = let cut = queued_append me first second in let f = (queued_by_loads J me me 0 one.found).0 in let g = (finished_by_loads J me me 0 two.found).0 in omega (arith, cut, f, g) in
      record {
        queued =
            one.total_is ∙ (sum_is (λ p. queued_in p t.seen) 0 one.found
            (λ p lt. let below : p < n = (let long = one.one_each in omega (arith, lt, long)) in queued_exact p _ (one.each p below) two.loads.since (same_queued_there n me s.seen t.seen mine since own others p below no_queue) ∙ ap (λ k. queued_in k t.seen) (let e : p ≡ 0 + p = omega arith in e))
            ∙ ap (λ k. added (λ p. queued_in p t.seen) 0 k) one.one_each);
        finished =
            two.total_is ∙ (sum_is (λ p. finished_in p t.seen) 0 two.found
            (λ p lt. let below : p < m.processors = (let long = two.one_each in omega (arith, lt, long)) in
            finished_exact p _ (two.each p below) one.loads.since (same_finished n me s.seen t.seen mine since own others takers p (no_finish p)) ∙ ap (λ k. finished_in k t.seen) (let e : p ≡ 0 + p = omega arith in e))
            ∙ ap (λ k. added (λ p. finished_in p t.seen) 0 k) (two.one_each ∙ many));
      }

  -- who has the same deeds in a list as in one of which the first goes on, did nothing since any between
  pub rested : (q : ℕ) (o a l : List (Deed J)) → IsBeginning o a → IsBeginning a l → deeds_of q l ≡ deeds_of q o → deeds_of q l ≡ deeds_of q a
  rested q o a l covered on same = same ∙ sym (own_between q o a l covered on same)
