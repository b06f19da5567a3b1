-- The one processor is a new one of the domain.
use Rattle.std.proofs.Common.{◌≡◌, ◌<◌, ℕ, All, ap, ◌∙◌, arith}
use Rattle.std.proofs.lemmas.List.Elements.{All-pop}
use Rattle.sections.specs.Views.{CpuView, EngineView}
use Rattle.calls_tests.proofs.tests.rooms.new_domain.Goals as goal

first : (k n : ℕ) → n ≡ 1 → k < n → k ≡ 0
first k n one lt = omega (arith, one, lt)

pub returns : goal.returns
returns c =
    let m = c.in_ok-cpus.ensures.made in
    let P : CpuView → Type 0 = λ z. (z.domain ≡ c.in_ok-cpus.field-0.engine.domain) × (z.processor ≡ 0) in
    let all : All P c.in_ok-cpus.field-0.cpus.items = λ k d lt. (ap (λ (z : CpuView). z.domain) (m.cpus_new k d lt), ap (λ (z : CpuView). z.processor) (m.cpus_new k d lt) ∙ first k _ m.count lt) in
    let cpu = rw c.unwrap-cpu.ensures at (All-pop P _ _ _ c.pop.ensures.items all).1 in
    (cpu.0, cpu.1, ap (λ (z : EngineView). z.processors) m.engine_new)
