-- All processors are of the domain, and so is each that was taken out; likewise its writer.
use Rattle.std.proofs.Common.{◌≡◌, ◌<◌, All, sym, subst, arith}
use Rattle.std.proofs.lemmas.List.Elements.{All-pop}
use Rattle.atomic_table.specs.Seated.{TableId}
use Rattle.sections.specs.Words.{cells_in}
use Rattle.sections.specs.WriterViews.{WriterView}
use Rattle.domain.specs.Views.{CpuView, IsOf}
use Rattle.domain.proofs.CallerLemmas.{writers_here}
use Rattle.domain_tests.proofs.tests.versions.domain_of_three.Goals as goal

pub returns-clause-writer : goal.returns-clause-writer
returns-clause-writer c =
    let P : CpuView _ → Type 0 = IsOf c.in_ok-domain.domain in
    let last = All-pop P _ _ _ c.pop-2.ensures.items c.in_ok-domain.ensures.all.here in
    let W : WriterView → Type 0 = λ w. (w.domain ≡ c.in_ok-domain.domain.domain) × (w.cell < 1) in
    let writer : W c.unwrap-writer.result = rw c.unwrap-writer.ensures at (All-pop W _ _ _ c.pop.ensures.items (writers_here _ _ _ _ c.in_ok-domain.ensures.writers)).1 in
    (rw c.unwrap-last.ensures at last.1, writer.0)

pub returns-clause-readers : goal.returns-clause-readers
returns-clause-readers c =
    let P : CpuView _ → Type 0 = IsOf c.in_ok-domain.domain in
    let last = All-pop P _ _ _ c.pop-2.ensures.items c.in_ok-domain.ensures.all.here in
    let second = All-pop P _ _ _ c.pop-3.ensures.items last.0 in
    let first = All-pop P _ _ _ c.pop-4.ensures.items second.0 in
    let at_second : P c.unwrap-second.result = rw c.unwrap-second.ensures at second.1 in
    let at_first : P c.unwrap-first.result = rw c.unwrap-first.ensures at first.1 in
    let cells = c.in_ok-domain.ensures.cells in
    let There : TableId → Type 0 = λ t. 0 < cells_in t in
    let there : There c.in_ok-domain.domain.domain = omega (arith, cells) in
    (subst There (sym at_first.domain) there, subst There (sym at_second.domain) there)
