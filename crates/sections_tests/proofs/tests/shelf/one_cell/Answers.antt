use Rattle.std.proofs.Common.{◌≡◌, ◌-◌, ◌<◌, ℕ, get_or, Some, ap, ◌∙◌, sym, subst, arith}
use Rattle.atomic_table.specs.Seated.{TableId}
use Rattle.sections.specs.Words.{cells_in}
use Rattle.sections.specs.Views.{CpuView, EngineView}
use Rattle.sections.specs.WriterViews.{WriterView}
use Rattle.sections_tests.proofs.tests.shelf.one_cell.Goals as goal

pub returns : goal.returns
returns c =
    let m = c.in_ok-cpus.ensures.made in
    let ws = c.in_ok-cpus.ensures.writers in
    let cells = c.in_ok-cpus.ensures.cells in
    let d : CpuView = c.unwrap-cpu.result in
    let w : WriterView = c.unwrap-writer.result in
    let n : ℕ = c.in_ok-cpus.field-0.cpus.len in
    let k : ℕ = c.in_ok-cpus.field-0.writers.len in
    let two = m.count in
    let one = ws.count in
    let cpus : n ≡ 2 = omega (arith, two) in
    let writers : k ≡ 1 = omega (arith, one) in
    let popped = c.pop.ensures.value d (omega (arith, cpus)) in
    let popped_writer = c.pop-2.ensures.value w (omega (arith, writers)) in
    let a : Some d ≡ Some (get_or c.in_ok-cpus.field-0.cpus.items 1 d) = sym c.unwrap-cpu.ensures ∙ (popped ∙ ap (λ z. Some (get_or c.in_ok-cpus.field-0.cpus.items (z - 1) d)) cpus) in
    let b : Some w ≡ Some (get_or c.in_ok-cpus.field-0.writers.items 0 w) = sym c.unwrap-writer.ensures ∙ (popped_writer ∙ ap (λ z. Some (get_or c.in_ok-cpus.field-0.writers.items (z - 1) w)) writers) in
    let cpu : d ≡ get_or c.in_ok-cpus.field-0.cpus.items 1 d = cc a in
    let writer : w ≡ get_or c.in_ok-cpus.field-0.writers.items 0 w = cc b in
    let home : d.domain ≡ c.in_ok-cpus.field-0.engine.domain = ap (λ (z : CpuView). z.domain) (cpu ∙ m.cpus_new 1 d (omega (arith, two))) in
    let pen : w.domain ≡ c.in_ok-cpus.field-0.engine.domain = ap (λ (z : WriterView). z.domain) (writer ∙ ws.each 0 w (omega arith)) in (
      sym home,
      pen ∙ sym home,
      subst (λ (t : TableId). 0 < cells_in t) (sym home) (omega (arith, cells)),
      ap (λ (z : EngineView). z.processors) m.engine_new,
      ap (λ (z : EngineView). z.changes) m.engine_new,
      ap (λ (z : EngineView). z.periods) m.engine_new,
      ap (λ (z : CpuView). z.processors) (cpu ∙ m.cpus_new 1 d (omega (arith, two))),
      ap (λ (z : WriterView). z.plan) (writer ∙ ws.each 0 w (omega arith)),
    )
