-- How the names of jobs are kept: in eight places, those behind them having a blank name.
use Rattle.std.specs.Prelude.{◌≡◌, ℕ, ◌-◌, ◌≤◌, List, ◌++◌, length, take, drop, replicate, codes}
use Rattle.std.proofs.Common.{sym, ap, ◌∙◌, take-append-drop, length-take, arith}
use Rattle.requests.specs.declared.job_names.JobNames.TheInside.{Inside}

abbrev pub blank : List ℕ
blank = codes "0"

pub record ArePadded (n : ℕ) (names : List (List ℕ)) : Type 0 where
  pub wide : length names ≡ 8
  pub fits : n ≤ 8
  pub rest : drop n names ≡ replicate (8 - n) blank

abbrev pub padded : List (List ℕ) → List (List ℕ)
padded names = names ++ replicate (8 - length names) blank

pub padded_again : (n : ℕ) (names : List (List ℕ)) → ArePadded n names → ◌≡◌ {A = Inside} (record { names = padded (take n names); count = length (take n names) }) (record { names = names; count = n })
padded_again n names h =
    let same : length (take n names) ≡ n = omega (arith, length-take n names, h.wide, h.fits) in
    let whole : padded (take n names) ≡ names = ap (λ k. take n names ++ replicate (8 - k) blank) same ∙ ap (λ r. take n names ++ r) (sym h.rest) ∙ take-append-drop n names in
    λ i. record { names = whole i; count = same i }
