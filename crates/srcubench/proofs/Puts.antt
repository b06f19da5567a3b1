-- Values that are put one behind the other, by a new processor.
use Rattle.std.proofs.Common.{◌≡◌, ℕ, ◌+◌, ◌-◌, ◌<◌, List, length, slice_index_or, sym, ap, ◌∙◌, subst, add-one, arith}
use Rattle.sections.specs.declared.view.Bounds.{Bounds}
use Rattle.sections.specs.WriterViews.{WriterView}
use Rattle.sections.specs.Dealing.{new_writer, AreNewWriters}
use Rattle.domain.specs.Views.{DomainView, CpuView, IsOf}
use Rattle.domain.specs.Making.{new_cpu, IsMade}
use Rattle.domain.specs.Meetings.{IsAllOf}
use Rattle.srcubench.specs.Putting.{PutsOnce, PutsOften, HavePut}

module _ {J : Type 0} where
  -- one more
  pub one_put : (n : ℕ) (w : WriterView) (c : CpuView J) (x : WriterView) (d : CpuView J) (w' : WriterView) (c' : CpuView J) → PutsOften n w c x d → PutsOnce n x d w' c' → PutsOften (n + 1) w c w' c'
  one_put n w c x d w' c' before once = subst (λ k. PutsOften k w c w' c') (sym (add-one n)) (x, d, before, once)

abbrev of_one : ℕ → Bounds
of_one times = record { processors = 1; sections = 1; periods = times; cells = 1 }

-- the writer of the one cell
pub new_pen : (d : DomainView) (writers : List WriterView) (w : WriterView) → AreNewWriters d.domain 1 2 writers → w ≡ slice_index_or writers (length writers - 1) w → w ≡ new_writer d.domain 0 2
new_pen d writers w new at =
    let count = new.count in
    let last : length writers - 1 ≡ 0 = omega (arith, count) in
    at ∙ (ap (λ k. slice_index_or writers k w) last ∙ new.each 0 w (omega arith))

-- the processor of a new domain of one
module _ (times : ℕ) (d : DomainView) (cpus : List (CpuView (Unit {0}))) (c : CpuView (Unit {0})) (made : IsMade (of_one times) d cpus) (some : 0 < length cpus) (is : c ≡ slice_index_or cpus (length cpus - 1) c) where
  new_one : c ≡ new_cpu d (of_one times) (record { processors = 1; nodes = made.nodes }) 0
  new_one =
      let count = made.count in
      let last : length cpus - 1 ≡ 0 = omega (arith, count) in
      is ∙ (ap (λ k. slice_index_or cpus k c) last ∙ made.each 0 c some)

  pub of_this : IsAllOf d cpus → IsOf d c
  of_this all = subst (λ (z : CpuView (Unit {0})). IsOf d z) (sym is) (all.here (length cpus - 1) c (omega (arith, some)))

  pub have_put : (w w' : WriterView) (c' : CpuView (Unit {0})) → w ≡ new_writer d.domain 0 2 → PutsOften times w c w' c' → HavePut times
  have_put w w' c' new puts = record {
    domain = d;
    shape = record { processors = 1; nodes = made.nodes };
    last_writer = w';
    last = c';
    puts = subst (λ (z : WriterView × CpuView (Unit {0})). PutsOften times z.0 z.1 w' c') (λ k. (new k, new_one k)) puts;
  }
