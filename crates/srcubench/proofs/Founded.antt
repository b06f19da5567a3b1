-- The readers, the changer and the writer of a new domain.
use Rattle.std.proofs.Common.{◌≡◌, ℕ, ◌+◌, ◌-◌, ◌<◌, List, [], ◌∷◌, ◌++◌, All, Option, Some, length, slice_index_or, sym, ap, ◌∙◌, subst, length-append, arith}
use Rattle.std.proofs.lemmas.List.{get_or_append_left}
use Rattle.std.proofs.Math.Seq.{get_or-append_seam}
use Rattle.std.specs.Option.{option_to_list}
use Rattle.sections.specs.Words.{cells_in}
use Rattle.shelf.specs.Cells.{CellView, IsCellIn, cell_of}
use Rattle.sections.specs.WriterViews.{WriterView}
use Rattle.sections.specs.Dealing.{AreNewWriters}
use Rattle.domain.specs.Views.{DomainView, CpuView, IsOf}
use Rattle.domain.specs.Making.{new_cpu, IsMade}
use Rattle.domain.specs.Meetings.{IsAllOf}
use Rattle.srcubench.specs.Founding.{bounds_for, IsNew}
use Rattle.srcubench.proofs.Puts.{new_pen}

-- the last one was popped
pub whole_of : {X : Type 0} (cpus rest : List X) (o : Option X) (c : X) → cpus ≡ rest ++ option_to_list o → o ≡ Some c → cpus ≡ rest ++ c ∷ []
whole_of cpus rest o c whole is = whole ∙ ap (λ x. rest ++ option_to_list x) is

module _ {J : Type 0} (readers : ℕ) (d : DomainView) (cpus rest : List (CpuView J)) (last : CpuView J) (made : IsMade (bounds_for readers) d cpus) (whole : cpus ≡ rest ++ last ∷ []) where
  many : length rest ≡ readers
  many =
      let count = made.count in
      let long = ap length whole in
      let more = length-append rest (last ∷ []) in
      omega (arith, count, long, more)

  there : readers < length cpus
  there = let count = made.count in omega (arith, count)

  new_each : (k : ℕ) (c : CpuView J) → k < readers → slice_index_or rest k c ≡ new_cpu d (bounds_for readers) (record { processors = readers + 1; nodes = made.nodes }) k
  new_each k c lt =
      let few = many in
      let count = made.count in
      sym (get_or_append_left rest (last ∷ []) c k (omega (arith, lt, few))) ∙ (sym (ap (λ l. slice_index_or l k c) whole) ∙ made.each k c (omega (arith, lt, count)))

  pub last_there : slice_index_or cpus readers last ≡ last
  last_there = ap (λ l. slice_index_or l readers last) whole ∙ (sym (ap (λ k. slice_index_or (rest ++ last ∷ []) k last) many) ∙ get_or-append_seam rest last [] last)

  pub is_new : (writers : List WriterView) (w : WriterView) → AreNewWriters d.domain 1 2 writers → w ≡ slice_index_or writers (length writers - 1) w → IsNew readers d rest last w
  is_new writers w new at = record {
    shape = record { processors = readers + 1; nodes = made.nodes };
    count = many;
    each = new_each;
    last = sym last_there ∙ made.each readers last there;
    pen = new_pen d writers w new at;
  }

  -- each of the others is the domain's
  pub others_here : IsAllOf d cpus → All (IsOf d) rest
  others_here all = λ k c lt.
      let at : slice_index_or rest k c ≡ slice_index_or cpus k c = sym (get_or_append_left rest (last ∷ []) c k lt) ∙ sym (ap (λ l. slice_index_or l k c) whole) in
      let few = many in
      let count = made.count in
      subst (λ (z : CpuView J). IsOf d z) (sym at) (all.here k c (omega (arith, lt, few, count)))

  pub changer_here : IsAllOf d cpus → IsOf d last
  changer_here all = subst (λ (z : CpuView J). IsOf d z) last_there (all.here readers last there)

-- each reader reads the one cell
pub reads_cell : {J : Type 0} (readers : ℕ) (place : CellView) (d : DomainView) (cpus : List (CpuView J)) (changer : CpuView J) (w : WriterView) → IsNew readers d cpus changer w → cells_in d.domain ≡ 1 → place ≡ cell_of w → All (λ c. IsCellIn c.cpu.domain place) cpus
reads_cell readers place d cpus changer w new one is = λ k c lt.
    let few = new.count in
    let here : (slice_index_or cpus k c).cpu.domain ≡ d.domain = ap (λ (z : CpuView _). z.cpu.domain) (new.each k c (omega (arith, lt, few))) in
    let cells : cells_in (slice_index_or cpus k c).cpu.domain ≡ 1 = ap cells_in here ∙ one in
    let first : place.cell ≡ 0 = ap (λ (z : CellView). z.cell) is ∙ ap (λ (z : WriterView). z.cell) new.pen in
    let domain : place.domain ≡ d.domain = ap (λ (z : CellView). z.domain) is ∙ ap (λ (z : WriterView). z.domain) new.pen in
    (domain ∙ sym here, omega (arith, cells, first))
