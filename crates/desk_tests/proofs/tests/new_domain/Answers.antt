use Rattle.std.proofs.Common.{◌≡◌, All, ap}
use Rattle.std.proofs.lemmas.List.Elements.{All-pop}
use Rattle.sections.specs.Views.{CpuView}
use Rattle.desk_tests.proofs.tests.new_domain.Goals as goal

pub returns : goal.returns
returns c =
    let m = c.in_ok-cpus.ensures.made in
    let P : CpuView → Type 0 = λ z. z.domain ≡ c.in_ok-cpus.field-0.engine.domain in
    let all : All P c.in_ok-cpus.field-0.cpus.items = λ k d lt. ap (λ (z : CpuView). z.domain) (m.cpus_new k d lt) in
    let last = All-pop P _ _ _ c.pop.ensures.items all in
    let next = All-pop P _ _ _ c.pop-2.ensures.items last.0 in
    (rw c.unwrap-here.ensures at next.1, rw c.unwrap-there.ensures at last.1)
