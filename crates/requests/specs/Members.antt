-- How the members of a set are kept: in eight places, those behind them being blank.
use Rattle.std.specs.Prelude.{◌≡◌, ℕ, ◌-◌, ◌≤◌, List, ◌++◌, length, take, drop, replicate}
use Rattle.std.proofs.Common.{sym, ap, ◌∙◌, take-append-drop, length-take, arith}
use Rattle.requests.specs.declared.members.Member.{Member}
use Rattle.requests.specs.declared.members.Members.TheInside.{Inside}

abbrev pub blank : Member
blank = record { domain = 0; processor = 0 }

pub record ArePadded (n : ℕ) (members : List Member) : Type 0 where
  pub wide : length members ≡ 8
  pub fits : n ≤ 8
  pub rest : drop n members ≡ replicate (8 - n) blank

abbrev pub padded : List Member → List Member
padded members = members ++ replicate (8 - length members) blank

pub padded_again : (n : ℕ) (members : List Member) → ArePadded n members → ◌≡◌ {A = Inside} (record { members = padded (take n members); count = length (take n members) }) (record { members = members; count = n })
padded_again n members h =
    let same : length (take n members) ≡ n = omega (arith, length-take n members, h.wide, h.fits) in
    let whole : padded (take n members) ≡ members = ap (λ k. take n members ++ replicate (8 - k) blank) same ∙ ap (λ r. take n members ++ r) (sym h.rest) ∙ take-append-drop n members in
    λ i. record { members = whole i; count = same i }
