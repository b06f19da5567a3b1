-- What a caller's rule says.
use Rattle.std.specs.Prelude.{ℕ, ◌+◌, ◌≤◌, ◌≡◌, Bool, true, false, List}
use mathlib.Core.Option.{Option}
use Rattle.annals.specs.declared.view.Role.{Role}
use Rattle.annals.specs.declared.view.Role.TheVariants.{Nobody, Dealer, Sits}
use Rattle.annals.specs.Logs.{Maker}
use Rattle.annals.specs.Logs.Maker.{Head, Sitter}

-- whose entries a seat makes
abbrev pub StandsFor : Role → Maker → Type 0
StandsFor Nobody m = ⊥
StandsFor (Dealer k) Head = Unit {0}
StandsFor (Dealer k) (Sitter n) = k ≤ n
StandsFor (Sits n) Head = ⊥
StandsFor (Sits n) (Sitter m) = m ≡ n

-- `World` is what there is beside words, log and deeds. `agrees` says how these fit together, and `knows` what a seat's part of a view says of them. A right is with one seat alone: `has` says whether it is with a seat of this role and part. `may_deal` says which seats may be dealt
pub record Client (K S E D C : Type 0) : Type 1 where
  pub World : Type 0
  pub by : E → Maker
  pub doer : D → Maker
  pub Right : Type 0
  pub has : Role → C → Right → Bool
  pub agrees : K → World → List ℕ → List (Option S) → List E → List D → Type 0
  pub knows : K → World → Role → List E → C → Type 0
  pub may_deal : K → ℕ → Type 0
  pub first : K → C
  pub blank : C
  pub dealt : ℕ → C → C
  -- laws: a seat that is nobody's may know nothing, and the next seat may be dealt
  pub nobody : (key : K) (w : World) (log : List E) → knows key w Nobody log blank
  pub bare : (x : Right) → has Nobody blank x ≡ false
  pub fewer : (key : K) (w : World) (log : List E) (c : C) (k : ℕ) → knows key w (Dealer k) log c → knows key w (Dealer (k + 1)) log c
  pub next : (key : K) (w : World) (log : List E) (c : C) (k : ℕ) → may_deal key k → knows key w (Dealer k) log c → knows key w (Sits k) log (dealt k c)
  pub fewer_rights : (c : C) (k : ℕ) (x : Right) → has (Dealer (k + 1)) c x ≡ true → (has (Dealer k) c x ≡ true) × (has (Sits k) (dealt k c) x ≡ false)
  pub next_rights : (c : C) (k : ℕ) (x : Right) → has (Sits k) (dealt k c) x ≡ true → has (Dealer k) c x ≡ true
