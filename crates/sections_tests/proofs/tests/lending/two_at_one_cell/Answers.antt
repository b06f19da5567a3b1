use Rattle.std.proofs.Common.{◌≡◌, ℕ, ◌-◌, ◌<◌, List, Some, get_or, take, ap, ◌∙◌, sym, subst, arith}
use Rattle.std.proofs.lemmas.List.{get_or-take}
use Rattle.std.specs.Vec.{vec_len}
use Rattle.atomic_table.specs.Seated.{TableId}
use Rattle.sections.specs.Words.{cells_in}
use Rattle.sections.specs.Views.{CpuView}
use Rattle.sections.specs.WriterViews.{WriterView}
use Rattle.sections_tests.proofs.tests.lending.two_at_one_cell.Goals as goal

pub returns : goal.returns
returns c =
    let m = c.in_ok-cpus.ensures.made in
    let ws = c.in_ok-cpus.ensures.writers in
    let cells = c.in_ok-cpus.ensures.cells in
    let d : CpuView = c.unwrap-second.result in
    let w : WriterView = c.unwrap-writer.result in
    let ys : List CpuView = c.in_ok-cpus.field-0.cpus.items in
    let n : ℕ = c.in_ok-cpus.field-0.cpus.len in
    let k : ℕ = c.in_ok-cpus.field-0.writers.len in
    let two = m.count in
    let one = ws.count in
    let len : n ≡ 2 = omega (arith, two) in
    let writers : k ≡ 1 = omega (arith, one) in
    let one_less = rw c.unwrap-second.ensures at c.pop.ensures.len in
    let left : vec_len c.pop.new.self ≡ 1 = omega (arith, one_less, len) in
    let popped = c.pop.ensures.value d (omega (arith, len)) in
    let popped_first = c.pop-2.ensures.value d (omega (arith, left)) in
    let popped_writer = c.pop-3.ensures.value w (omega (arith, writers)) in
    let second : Some d ≡ Some (get_or ys 1 d) = sym c.unwrap-second.ensures ∙ (popped ∙ ap (λ k. Some (get_or ys (k - 1) d)) len) in
    let first : Some c.unwrap-first.result ≡ Some (get_or ys 0 d) = sym c.unwrap-first.ensures ∙ (popped_first ∙ (ap (λ l. Some (get_or l (vec_len c.pop.new.self - 1) d)) c.pop.ensures.rest
    ∙ (ap (λ k. Some (get_or (take (n - 1) ys) (k - 1) d)) left ∙ ap Some (get_or-take (n - 1) ys 0 d (omega (arith, len)))))) in
    let written : Some w ≡ Some (get_or c.in_ok-cpus.field-0.writers.items 0 w) = sym c.unwrap-writer.ensures ∙ (popped_writer ∙ ap (λ z. Some (get_or c.in_ok-cpus.field-0.writers.items (z - 1) w)) writers) in
    let a : c.unwrap-first.result ≡ get_or ys 0 d = cc first in
    let b : d ≡ get_or ys 1 d = cc second in
    let writer : w ≡ get_or c.in_ok-cpus.field-0.writers.items 0 w = cc written in
    let zero = a ∙ m.cpus_new 0 d (omega (arith, two)) in
    let other = b ∙ m.cpus_new 1 d (omega (arith, two)) in
    let pen = writer ∙ ws.each 0 w (omega (arith, one)) in
    let home : c.unwrap-first.result.domain ≡ c.in_ok-cpus.field-0.engine.domain = ap (λ (z : CpuView). z.domain) zero in (
      ap (λ (z : CpuView). z.domain) other ∙ sym home,
      ap (λ (z : WriterView). z.domain) pen ∙ sym home,
      subst (λ (t : TableId). 0 < cells_in t) (sym home) (omega (arith, cells)),
      ap (λ (z : CpuView). z.processors) zero,
      ap (λ (z : CpuView). z.processors) other,
      ap (λ (z : WriterView). z.plan) pen,
      ap (λ (z : WriterView). z.cell) pen,
    )
