-- Lists that are filled from the front.
use Rattle.std.proofs.Common.{◌≡◌, ℕ, ◌+◌, ◌-◌, ◌<◌, ◌≤◌, List, [], ◌∷◌, ◌++◌, length, map, take, replicate, get_or, set, sym, ap, ◌∙◌, arith, append_assoc, length-append, add-one, suc}
use Rattle.std.proofs.lemmas.List.{length-map, length-take, map-append}
use Rattle.std.proofs.Math.Seq.{take-suc, set-append_seam}
use Rattle.notify.specs.Blocks.{padded}

-- a word behind the others
pub padded_more : (n : ℕ) (xs : List ℕ) (y : ℕ) → length xs < n → set (padded n xs) (length xs) y ≡ padded n (xs ++ y ∷ [])
padded_more n xs y lt =
    ap (λ m. set (xs ++ replicate m 0) (length xs) y) (one_less (length xs) n lt)
    ∙ (set-append_seam xs 0 (replicate (n - (length xs + 1)) 0) y
    ∙ (sym (append_assoc xs (y ∷ []) (replicate (n - (length xs + 1)) 0))
    ∙ ap (λ m. (xs ++ y ∷ []) ++ replicate (n - m) 0) (sym (length-append xs (y ∷ [])))))
  where
    one_less : (l k : ℕ) → l < k → k - l ≡ suc (k - (l + 1))
    one_less l k h = omega (arith, h)

module _ {X : Type 0} where
  pub map_more : (f : X → ℕ) (xs : List X) (i : ℕ) (d : X) → i < length xs → map f (take (i + 1) xs) ≡ map f (take i xs) ++ f (get_or xs i d) ∷ []
  map_more f xs i d lt = ap (λ j. map f (take j xs)) (add-one i) ∙ (ap (map f) (take-suc xs i d lt) ∙ map-append f (take i xs) (get_or xs i d ∷ []))

  -- one more of the list is written, behind what stands before it
  pub map_stored : (n : ℕ) (head : List ℕ) (f : X → ℕ) (xs : List X) (i j y : ℕ) (d : X) → i < length xs → length head + length xs ≤ n → j ≡ length head + i → y ≡ f (get_or xs i d) → set (padded n (head ++ map f (take i xs))) j y ≡ padded n (head ++ map f (take (i + 1) xs))
  map_stored n head f xs i j y d lt room place value =
      let long : length (head ++ map f (take i xs)) ≡ length head + i = length-append head (map f (take i xs)) ∙ ap (λ m. length head + m) (length-map (take i xs) f ∙ taken) in
      ap (λ m. set (padded n (head ++ map f (take i xs))) m y) (place ∙ sym long)
      ∙ (padded_more n (head ++ map f (take i xs)) y (omega (arith, long, lt, room))
      ∙ (ap (padded n) (append_assoc head (map f (take i xs)) (y ∷ []))
      ∙ ap (λ m. padded n (head ++ m)) (ap (λ z. map f (take i xs) ++ z ∷ []) value ∙ sym (map_more f xs i d lt))))
    where
      taken : length (take i xs) ≡ i
      taken = let t = length-take i xs in omega (arith, t, lt)
