-- Held sections that begin on one processor and end on another.
use Rattle.std.specs.Prelude.{◌≡◌, ℕ, zero, suc, List, [], ◌∷◌, ◌++◌}
use Rattle.atomic_table.specs.Seated.{TableId}
use Rattle.sseq.specs.declared.index.Index.{Index}
use Rattle.onedom.specs.declared.event.Maker.TheVariants.{Processor}
use Rattle.onedom.specs.declared.event.Event.{Event}
use Rattle.onedom.specs.declared.event.Event.TheVariants.{Begin, End}
use Rattle.sections.specs.Views.{CpuView}
use Rattle.sections.specs.Calls.{IsSameCpu, new_cpu}
use Rattle.srcubench.specs.Pairs.{AllMade}

-- so many sections were added, one after the other: each begins among the events of processor p, and ends among those of processor q
abbrev pub AddsHeldPairs : ℕ → ℕ → ℕ → List Event × List Event → List Event × List Event → Type 0
AddsHeldPairs p q zero before after = after ≡ before
AddsHeldPairs p q (suc n) before after = (between : List Event × List Event) × (section : ℕ) × (index : Index)
    × AddsHeldPairs p q n before between × (after ≡ (between.0 ++ Begin section p index (Processor p) ∷ [], between.1 ++ End section q (Processor q) ∷ []))

-- two processors made so many, and no other event, and the second one no load
pub record MakesHeldPairs (n : ℕ) (c d c' d' : CpuView) : Type 0 where
  pub first : IsSameCpu c c'
  pub second : IsSameCpu d d'
  pub mine : AddsHeldPairs c.processor d.processor n (c.mine, d.mine) (c'.mine, d'.mine)
  pub none : d'.steps ≡ d.steps

-- the two processors of a new domain made all of them, with one load of the index word for each
pub record HaveMadeHeldPairs (pairs : ℕ) : Type 0 where
  pub domain : TableId
  pub first : CpuView
  pub second : CpuView
  pub pairs_made : MakesHeldPairs pairs (new_cpu domain 2 pairs 0) (new_cpu domain 2 pairs 1) first second
  pub loads : AllMade pairs pairs (new_cpu domain 2 pairs 0) first
