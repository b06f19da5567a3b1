use Rattle.onedom.specs.declared.event.Maker.TheVariants.{Processor}
use Rattle.sections.proofs.Deeds.{cpu_makes}
use Rattle.sections.proofs.cpu.Cpu.catch_up.Goals as goal

pub cover-requires-clause-maker : goal.cover-requires-clause-maker
cover-requires-clause-maker g c = (Processor c.self.inside.processor, cpu_makes _ _ c.self.invariant.role)
