-- How a name is kept: in sixteen bytes, those behind it being 0.
use Rattle.std.specs.Prelude.{◌≡◌, ℕ, ◌-◌, ◌≤◌, true, List, ◌++◌, length, take, drop, replicate}
use Rattle.std.proofs.Common.{sym, ap, ◌∙◌, take-append-drop, length-take, arith}
use Rattle.lines.specs.declared.name.Name.TheInside.{Inside}
use Rattle.lines.specs.Lines.{is_name}

pub record IsPadded (n : ℕ) (bytes : List ℕ) : Type 0 where
  pub wide : length bytes ≡ 16
  pub fits : n ≤ 16
  pub named : is_name (take n bytes) ≡ true
  pub rest : drop n bytes ≡ replicate (16 - n) 0

abbrev pub padded : List ℕ → List ℕ
padded w = w ++ replicate (16 - length w) 0

pub padded_again : (n : ℕ) (bytes : List ℕ) → IsPadded n bytes → ◌≡◌ {A = Inside} (record { bytes = padded (take n bytes); len = length (take n bytes) }) (record { bytes = bytes; len = n })
padded_again n bytes h =
    let same : length (take n bytes) ≡ n = omega (arith, length-take n bytes, h.wide, h.fits) in
    let whole : padded (take n bytes) ≡ bytes = ap (λ k. take n bytes ++ replicate (16 - k) 0) same ∙ ap (λ r. take n bytes ++ r) (sym h.rest) ∙ take-append-drop n bytes in
    λ i. record { bytes = whole i; len = same i }
