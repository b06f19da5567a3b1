use Rattle.std.proofs.Common.{◌≡◌, ℕ, ◌-◌, List, get_or, take, ap, ◌∙◌, sym, arith, Some}
use Rattle.std.proofs.lemmas.List.{get_or-take}
use Rattle.std.specs.Vec.{vec_len}
use Rattle.sections.specs.Views.{CpuView, EngineView}
use Rattle.sections_tests.proofs.tests.two_in_new_domain.Goals as goal

pub returns : goal.returns
returns c =
    let m = c.in_ok-cpus.ensures.made in
    let d : CpuView = c.unwrap-second.result in
    let ys : List CpuView = c.in_ok-cpus.field-0.cpus.items in
    let n : ℕ = c.in_ok-cpus.field-0.cpus.len in
    let two = m.count in
    let len : n ≡ 2 = omega (arith, two) in
    let one_less = rw c.unwrap-second.ensures at c.pop.ensures.len in
    let left : vec_len c.pop.new.self ≡ 1 = omega (arith, one_less, len) in
    let popped = c.pop.ensures.value d (omega (arith, len)) in
    let popped_first = c.pop-2.ensures.value d (omega (arith, left)) in
    let second : Some d ≡ Some (get_or ys 1 d) = sym c.unwrap-second.ensures ∙ (popped ∙ ap (λ k. Some (get_or ys (k - 1) d)) len) in
    let first : Some c.unwrap-first.result ≡ Some (get_or ys 0 d) = sym c.unwrap-first.ensures ∙ (popped_first ∙ (ap (λ l. Some (get_or l (vec_len c.pop.new.self - 1) d)) c.pop.ensures.rest
    ∙ (ap (λ k. Some (get_or (take (n - 1) ys) (k - 1) d)) left ∙ ap Some (get_or-take (n - 1) ys 0 d (omega (arith, len)))))) in
    let one = ap (λ (z : CpuView). z.domain) (m.cpus_new 1 d (omega (arith, two))) in
    let zero = ap (λ (z : CpuView). z.domain) (m.cpus_new 0 d (omega (arith, two))) in
    let s = ap (λ (z : EngineView). z.domain) m.engine_new in
    let a : c.unwrap-first.result ≡ get_or ys 0 d = cc first in
    let b : d ≡ get_or ys 1 d = cc second in
    (ap (λ (z : CpuView). z.domain) a ∙ (zero ∙ sym s), ap (λ (z : CpuView). z.domain) b ∙ (one ∙ sym s), ap (λ (z : EngineView). z.periods) m.engine_new ∙ c.limits.ensures, ap (λ (z : EngineView). z.processors) m.engine_new, ap (λ (z : EngineView). z.changes) m.engine_new)
