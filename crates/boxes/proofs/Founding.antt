-- The writers of a new domain.
use Rattle.std.proofs.Common.{◌≡◌, ℕ, ◌<◌, List, All, ap, arith}
use Rattle.atomic_table.specs.Seated.{TableId}
use Rattle.sections.specs.WriterViews.{WriterView}
use Rattle.sections.specs.Dealing.{AreNewWriters}
use Rattle.boxes.specs.Writing.{IsPlain}

-- each is of it, and none is of a cell of boxes yet
pub writers_at_home : (home : TableId) (cells slots : ℕ) (writers : List WriterView) → AreNewWriters home cells slots writers → All (λ (w : WriterView). (w.domain ≡ home) × IsPlain w) writers
writers_at_home home cells slots writers new = λ k w lt.
    let count = new.count in
    let there : k < cells = omega (arith, lt, count) in
    (ap (λ (z : WriterView). z.domain) (new.each k w there), ap (λ (z : WriterView). z.plan) (new.each k w there))
