use Rattle.std.proofs.Common.{refl, sym, ap, subst, arith}
use Rattle.domain.specs.Views.{CpuView, IsOf}
use Rattle.domain.proofs.Staying.{still_with_cpu}
use Rattle.domain.proofs.Watchers.{watched_loads, watched_since, watched_balanced, counted_acts}
use Rattle.domain.proofs.domain.Domain.watch.Goals as goal

pub load_four-requires : goal.load_four-requires
load_four-requires g c =
    let same = ap (λ (z : CpuView _). z.cpu.processors) c.cpu.view_is in
    let many = c.requires.domain.many in
    let there = c.requires.processor in
    omega (arith, same, many, there)

pub returns-clause-here : goal.returns-clause-here
returns-clause-here g c =
    let at = subst (λ (z : CpuView _). IsOf c.args.self.now z) (sym c.cpu.view_is) c.requires.domain in
    still_with_cpu _ (record { cpu = c.cpu.inside.cpu; needs = c.cpu.inside.needs; turn = c.cpu.inside.turn; calls = c.cpu.inside.calls }) _ at (watched_loads _ _ _ _ c.load_four.ensures).same refl

pub returns-clause-watches : goal.returns-clause-watches
returns-clause-watches g c = rw (← c.cpu.view_is) c.load_four.ensures

pub returns-clause-acts : goal.returns-clause-acts
returns-clause-acts g c = rw (← c.cpu.view_is) (counted_acts _ _ refl (watched_loads _ _ _ _ c.load_four.ensures))

pub returns-clause-since : goal.returns-clause-since
returns-clause-since g c = rw (← c.cpu.view_is) (watched_since _ _ _ _ c.load_four.ensures)

pub returns-clause-balanced : goal.returns-clause-balanced
returns-clause-balanced g c = rw (← c.cpu.view_is) (watched_balanced _ _ _ _ c.load_four.ensures)
