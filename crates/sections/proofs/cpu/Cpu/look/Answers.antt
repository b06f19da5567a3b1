use Rattle.sections.proofs.Banking.{free_nothing, free_section, free_shelf}
use Rattle.std.proofs.Common.{rules, ap, ◌∙◌, sym}
use Rattle.sections.specs.Words.{index_word}
use Rattle.onedom.specs.declared.event.Maker.TheVariants.{Processor}
use Rattle.sections.proofs.Deeds.{cpu_makes}
use Rattle.sections.proofs.Steps.{looks}
use Rattle.sections.proofs.Sharing.{gives_token}
use Rattle.sections.proofs.CpuViews.{loads_cut}
use Rattle.sections.proofs.cpu.Cpu.look.Goals as goal

pub load-requires : goal.load-requires
load-requires g c = (search rules, search rules, looks _ _ _ _ (Processor c.self.inside.processor) (cpu_makes _ _ c.self.invariant.role) (search rules))

pub split_seat-seat-requires : goal.split_seat-seat-requires
split_seat-seat-requires g c = (search rules, search rules, gives_token _ _ _ (search (rules, free_nothing, free_section, free_shelf)))

pub returns : goal.returns
returns g c =
    let h = c.load.ensures in
    let s = c.split_seat-seat.ensures in
    rw (← c.self.view_is) (record {
      value = c.load.result;
      load = loads_cut _ _ _ _ _ _ _ _ _ (s.0 ∙ h.0) c.self.invariant.placed.sized c.self.invariant.role (ap (λ m. m.0) s.2) h.2.1;
      current = h.2.2 ∙ ap (λ m. index_word m.0.changes) (sym s.2);
      look_is = λ i. record { domain = (s.3 ∙ h.0) i; index = c.of_word-index.ensures i; seen = (ap (λ m. m.0.seen) s.4 ∙ sym (ap (λ m. m.0.seen) s.2)) i; changes = (ap (λ m. m.0.changes) s.4 ∙ sym (ap (λ m. m.0.changes) s.2)) i };
    })
