use Rattle.std.proofs.Common.{ℕ, List, length, refl, sym, ap, ◌∙◌, subst}
use Rattle.domain.specs.Views.{DomainView, CpuView, IsOf}
use Rattle.domain.proofs.Staying.{still_with_cpu}
use Rattle.domain.proofs.Watchers.{each_tell, each_same, many_unlocks, many_locks, filled, each_acts}
use Rattle.domain.proofs.domain.Domain.counters.Goals as goal

pub load_sums-ended-requires-clause-all : goal.load_sums-ended-requires-clause-all
load_sums-ended-requires-clause-all g c = c.self.invariant.count ∙ (ap (λ (z : DomainView). z.processors) c.self.view_is ∙ sym (ap (λ (z : CpuView _). z.cpu.processors) c.cpu.view_is ∙ c.requires.here.many))

pub load_sums-ended-requires-clause-unlocks : goal.load_sums-ended-requires-clause-unlocks
load_sums-ended-requires-clause-unlocks g c = ap (λ (l : List ℕ). length l) c.as_mut_slice.ensures.value ∙ c.requires.room.0 ∙ sym (c.self.invariant.count ∙ ap (λ (z : DomainView). z.processors) c.self.view_is)

pub load_sums-ended-requires-clause-locks : goal.load_sums-ended-requires-clause-locks
load_sums-ended-requires-clause-locks g c = ap (λ (l : List ℕ). length l) c.as_mut_slice-2.ensures.value ∙ c.requires.room.1 ∙ sym (c.self.invariant.count ∙ ap (λ (z : DomainView). z.processors) c.self.view_is)

pub returns-clause-here : goal.returns-clause-here
returns-clause-here g c =
    let at = subst (λ (z : CpuView _). IsOf c.args.self.now z) (sym c.cpu.view_is) c.requires.here in
    still_with_cpu _ (record { cpu = c.cpu.inside.cpu; needs = c.cpu.inside.needs; turn = c.cpu.inside.turn; calls = c.cpu.inside.calls }) _ at (each_same c.load_sums-ended.ensures) refl

pub returns-clause-counts : goal.returns-clause-counts
returns-clause-counts g c =
    let many = ap (λ (z : CpuView _). z.cpu.processors) c.cpu.view_is ∙ c.requires.here.many in
    rw (← c.cpu.view_is) (filled c.load_sums-ended.ensures c.args.room.0 c.args.room.1 (c.requires.room.0 ∙ sym many) (c.requires.room.1 ∙ sym many))

pub returns-clause-many : goal.returns-clause-many
returns-clause-many g c =
    let many = ap (λ (z : CpuView _). z.cpu.processors) c.cpu.view_is ∙ c.requires.here.many in
    let all = filled c.load_sums-ended.ensures c.args.room.0 c.args.room.1 (c.requires.room.0 ∙ sym many) (c.requires.room.1 ∙ sym many) in
    (many_unlocks all ∙ many, many_locks all ∙ many)

pub returns-clause-tells : goal.returns-clause-tells
returns-clause-tells g c = rw (← c.cpu.view_is) (each_tell c.load_sums-ended.ensures)

pub returns-clause-acts : goal.returns-clause-acts
returns-clause-acts g c = rw (← c.cpu.view_is) (each_acts _ _ refl c.load_sums-ended.ensures)
