-- How the ids of blocks are kept: in fifteen places, those behind them being 0.
use Rattle.std.specs.Prelude.{◌≡◌, ℕ, ◌-◌, ◌≤◌, List, ◌++◌, length, take, drop, replicate}
use Rattle.std.proofs.Common.{sym, ap, ◌∙◌, take-append-drop, length-take, arith}
use Rattle.requests.specs.declared.block_ids.BlockIds.TheInside.{Inside}

pub record ArePadded (n : ℕ) (ids : List ℕ) : Type 0 where
  pub wide : length ids ≡ 15
  pub fits : n ≤ 15
  pub rest : drop n ids ≡ replicate (15 - n) 0

abbrev pub padded : List ℕ → List ℕ
padded ids = ids ++ replicate (15 - length ids) 0

pub padded_again : (n : ℕ) (ids : List ℕ) → ArePadded n ids → ◌≡◌ {A = Inside} (record { ids = padded (take n ids); count = length (take n ids) }) (record { ids = ids; count = n })
padded_again n ids h =
    let same : length (take n ids) ≡ n = omega (arith, length-take n ids, h.wide, h.fits) in
    let whole : padded (take n ids) ≡ ids = ap (λ k. take n ids ++ replicate (15 - k) 0) same ∙ ap (λ r. take n ids ++ r) (sym h.rest) ∙ take-append-drop n ids in
    λ i. record { ids = whole i; count = same i }
