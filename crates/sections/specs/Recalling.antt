-- What was seen of a version, as knowledge to hand about.
use Rattle.sections.specs.Views.{CpuView, FoundView}
use Rattle.sections.specs.WriterViews.{WriterView}

-- the version that is current in the writer's cell, as somebody knows it who has seen as much as the processor
abbrev pub current_in : WriterView → CpuView → FoundView
current_in w c = record { domain = c.domain; cell = w.cell; slot = w.current; version = w.version; seen = c.seen; changes = c.changes; texts = c.texts }
