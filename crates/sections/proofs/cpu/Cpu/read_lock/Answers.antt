use Rattle.std.proofs.Common.{rules, ◌≡◌, ◌≢◌, length, get_or, refl}
use Rattle.sseq.specs.Indexes.{index_number}
use Rattle.onedom.specs.declared.event.Maker.TheVariants.{Processor}
use Rattle.sections.proofs.Deeds.{cpu_makes}
use Rattle.sections.proofs.Steps.{looks}
use Rattle.sections.proofs.Entering.{enters_reading, looks_in_vain, looks_and_begins}
use Rattle.sections.proofs.cpu.Cpu.read_lock.Goals as goal

pub load-requires : goal.load-requires
load-requires g c = (search rules, search rules, looks _ _ _ _ (Processor c.self.inside.processor) (cpu_makes _ _ c.self.invariant.role) (search rules))

pub returns-then-self-place : goal.returns-then-self-place
returns-then-self-place g c =
    let full : get_or c.self.inside.begun (index_number c.of_word-current.result) 0 ≡ c.self.inside.limit = rw (← c.place.ensures) c.if-self-place.true in
    rw (← c.self.view_is) (looks_in_vain c.self.invariant c.load.new.seat c.load.ensures.0 c.load.ensures.2.1 c.load.ensures.2.2 c.of_word-current.ensures full)

pub invariant_of-self-2 : goal.invariant_of-self-2
invariant_of-self-2 g c =
    let h = c.load.ensures.2.1 in
    let full : get_or c.self.inside.begun (index_number c.of_word-current.result) 0 ≢ c.self.inside.limit = rw (← c.place.ensures) c.if-self-place.false in
    let two : length c.self.inside.begun ≡ 2 = search rules in
    rw c.place-2.ensures (enters_reading c.self.invariant two full c.begin_section-seat.ensures c.load.ensures.0 h.processors h.role h.mine refl)

pub returns : goal.returns
returns g c =
    let full : get_or c.self.inside.begun (index_number c.of_word-current.result) 0 ≢ c.self.inside.limit = rw (← c.place.ensures) c.if-self-place.false in
    rw (← c.self.view_is) (looks_and_begins c.self.invariant c.load.new.seat c.load.ensures.0 c.load.ensures.2.1 c.load.ensures.2.2 c.of_word-current.ensures full c.begin_section-seat.ensures)
