-- Sections that a processor begins and ends one after the other.
use Rattle.std.specs.Prelude.{◌≡◌, ℕ, zero, suc, ◌+◌, ◌<◌, ◌≤◌, length, List, [], ◌∷◌, ◌++◌}
use Rattle.sseq.specs.declared.index.Index.{Index}
use Rattle.onedom.specs.declared.event.Maker.TheVariants.{Processor}
use Rattle.onedom.specs.declared.event.Event.{Event}
use Rattle.onedom.specs.declared.event.Event.TheVariants.{Begin, End}
use Rattle.sections.specs.Views.{CpuView}
use Rattle.sections.specs.Calls.{IsSameCpu, IsExhausted}

-- from the first events to the last ones so many sections were added, each of them begun and ended on this processor before the next one begins
abbrev pub AddsPairs : ℕ → ℕ → List Event → List Event → Type 0
AddsPairs p zero before after = after ≡ before
AddsPairs p (suc n) before after = (between : List Event) × (section : ℕ) × (index : Index)
    × AddsPairs p n before between × (after ≡ (between ++ Begin section p index (Processor p) ∷ []) ++ End section p (Processor p) ∷ [])

-- the processor made so many pairs, and no other event
pub record MakesPairs (n : ℕ) (c d : CpuView) : Type 0 where
  pub same : IsSameCpu c d
  pub mine : AddsPairs c.processor n c.mine d.mine

-- all pairs were made that were asked for, with one load of the index word for each
pub record AllMade (pairs made : ℕ) (c d : CpuView) : Type 0 where
  pub all : made ≡ pairs
  pub steps : length d.steps ≡ length c.steps + made

-- fewer were made, since no more sections of the index that was loaded then may be begun here
pub record StopsEarly (pairs made : ℕ) (c d : CpuView) : Type 0 where
  pub fewer : made < pairs
  pub steps : length d.steps ≡ length c.steps + made + 1
  pub index : Index
  pub full : IsExhausted d index

-- nothing was done here, and so many sections of an index may begin
pub record HasRoom (pairs : ℕ) (c : CpuView) : Type 0 where
  pub unused : c.mine ≡ []
  pub room : pairs ≤ c.sections
