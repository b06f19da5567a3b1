use Rattle.std.proofs.Common.{refl, ◌∙◌}
use Rattle.sections.proofs.CpuViews.{asks_alone, rests_told}
use Rattle.sections.proofs.Staying.{stays_told}
use Rattle.sections.proofs.cpu.Cpu.poll_number.Goals as goal

pub invariant_of-self : goal.invariant_of-self
invariant_of-self g c =
    let told = c.ask_number.ensures in
    let a = told.adds c.self.inside.processor c.self.invariant.role in
    stays_told c.self.invariant told.same_table (told.bare ∙ c.self.invariant.placed.bare) (rests_told _ _ _ c.self.invariant.rests.free told.right a) refl refl a refl (λ _. refl) (λ _. refl)

pub returns : goal.returns
returns g c =
    let told = c.ask_number.ensures in
    let a = told.adds c.self.inside.processor c.self.invariant.role in
    rw (← c.self.view_is) (asks_alone told.number c.args.cookie c.ask_number.result _ _ _ _ _ c.self.inside.seat.me.0 c.ask_number.new.seat.me.0 told.same_table c.self.invariant.placed.sized c.self.invariant.role told.finds told.answer_is a)
