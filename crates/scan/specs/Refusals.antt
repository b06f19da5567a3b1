-- The refusals of a station: which of the engine's they are.
use Rattle.scan.specs.declared.progress.NotStarted as engine
use Rattle.scan.specs.declared.progress.NotStarted.TheVariants as refused
use Rattle.scan.specs.declared.refusals.StartRefusal.{StartRefusal}
use Rattle.scan.specs.declared.refusals.StartRefusal.TheVariants as start

-- the engine's refusal, among those of a station
abbrev pub refusal_of : engine.NotStarted → StartRefusal
refusal_of refused.Running = start.Running
refusal_of refused.Exhausted = start.Exhausted
