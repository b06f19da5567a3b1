-- What holds of each two elements of a list.
use Rattle.std.proofs.Common.{◌≡◌, ℕ, ◌+◌, ◌-◌, ◌≤◌, List, ◌++◌, All, length, take, drop, get_or, sym, subst, arith, get_or-take, get_or-drop}
use mathlib.Core.Logic.{dite}
use Rattle.std.specs.List.{AllPairs}
use Rattle.std.proofs.Math.Decide.{dec_lt}
use Rattle.std.proofs.lemmas.List.{length-take, length-drop, length-append, get_or_append_left, get_or-append_right}

module _ {X : Type 0} (R : X → X → Type 0) where
  both : (a b c d : X) → a ≡ c → b ≡ d → R c d → R a b
  both a b c d ac bd h = subst (λ (x : X). R x b) (sym ac) (subst (λ (y : X). R c y) (sym bd) h)

  pub pairs_take : (n : ℕ) (xs : List X) → AllPairs R xs → AllPairs R (take n xs)
  pairs_take n xs h i j d ij lt =
      let t = length-take n xs in
      both _ _ _ _ (get_or-take n xs i d (omega (arith, t, lt, ij))) (get_or-take n xs j d (omega (arith, t, lt))) (h i j d ij (omega (arith, t, lt)))

  pub pairs_drop : (n : ℕ) (xs : List X) → AllPairs R xs → AllPairs R (drop n xs)
  pairs_drop n xs h i j d ij lt =
      let t = length-drop n xs in
      both _ _ _ _ (get_or-drop n xs i d) (get_or-drop n xs j d) (h (n + i) (n + j) d (omega (arith, ij)) (omega (arith, t, lt)))

  pub pairs_append : (xs ys : List X) → AllPairs R xs → AllPairs R ys → All (λ x. All (R x) ys) xs → AllPairs R (xs ++ ys)
  pairs_append xs ys hx hy cross i j d ij lt =
      let long = length-append xs ys in
      dite (dec_lt j (length xs))
      (λ jx. both _ _ _ _ (get_or_append_left xs ys d i (omega (arith, ij, jx))) (get_or_append_left xs ys d j jx) (hx i j d ij jx))
      (λ jy. dite (dec_lt i (length xs))
      (λ ix. both _ _ _ _ (get_or_append_left xs ys d i ix) (right j (omega (arith, jy))) (cross i d ix (j - length xs) d (omega (arith, long, lt, jy))))
      (λ iy. both _ _ _ _ (right i (omega (arith, iy))) (right j (omega (arith, jy))) (hy (i - length xs) (j - length xs) d (omega (arith, ij, iy, jy)) (omega (arith, long, lt, jy)))))
    where
      right : (k : ℕ) → length xs ≤ k → get_or (xs ++ ys) k d ≡ get_or ys (k - length xs) d
      right k le = get_or-append_right xs ys (length xs) k d (λ i. length xs) le
