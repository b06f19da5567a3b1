-- A part that is shown to a closure.
use Rattle.std.specs.Prelude.{◌≡◌, ℕ}
use Rattle.std.specs.Fn.{Once, FnOnceReturnsAt}
use denote.Ref.{Bor}
use Rattle.parts.specs.declared.part.Part.{Part}

module _ {X F U : Type 0} (g : Once F (Bor (Part X) × Unit {0}) U) where
  -- parts of this round were shown to the closure once, which returned this. All parts of a round read one value
  abbrev pub ShowsPart : F → ℕ → U → Type 0
  ShowsPart show round shown = (part : Part X) × (part.round ≡ round) × FnOnceReturnsAt g show part shown
