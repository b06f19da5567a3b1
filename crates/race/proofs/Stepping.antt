-- Who has begun fewer sections than the limit is not refused one.
use Rattle.std.proofs.Common.{ℕ, ◌≤◌, ◌<◌, Bool, true, false, List, [], ◌∷◌, ap, arith}
use Rattle.race.proofs.Words.{Event, Begin, End, Start, Finish, Note, Ask, Find, Put, bit, count_cons, is_begin, locks_at, locks, opened_in, LooksInVain}
use Rattle.sseq.specs.declared.index.Index.{Index}
use Rattle.sections.specs.Glossary.{CpuView}

at_most_one : (p : ℕ) (i : Index) (e : Event) → bit (locks_at p i e) ≤ bit (is_begin e)
at_most_one p i (Begin s q j by) = low (locks_at p i (Begin s q j by)) where
  low : (b : Bool) → bit b ≤ 1
  low true = omega arith
  low false = omega arith
at_most_one p i (End s q by) = omega arith
at_most_one p i (Start by) = omega arith
at_most_one p i (Finish by) = omega arith
at_most_one p i (Note c by) = omega arith
at_most_one p i (Ask c b by) = omega arith
at_most_one p i (Find s c x v by) = omega arith
at_most_one p i (Put c x v by) = omega arith

locks_few : (p : ℕ) (i : Index) (l : List Event) → locks p i l ≤ opened_in l
locks_few p i [] = omega arith
locks_few p i (e ∷ es) =
    let a = count_cons (locks_at p i) e es in
    let b = count_cons is_begin e es in
    let one = at_most_one p i e in
    let rest = locks_few p i es in
    omega (arith, a, b, one, rest)

pub not_in_vain : (c d : CpuView) → opened_in c.mine < c.sections → LooksInVain c d → ⊥
not_in_vain c d few h =
    let many = h.exhausted in
    let at_most = locks_few d.processor h.look.index d.mine in
    let same = ap opened_in h.looks.load.mine in
    let limit = h.looks.load.same.2 in
    omega (arith, few, many, at_most, same, limit)
