-- The parts at the processors before this one came together.
use Rattle.boxes.specs.Laying.{CollectsSome}
use Rattle.boxes.proofs.laying.collect_all.Given as goal

abbrev pub invariant-loop-processor : goal.invariant-loop-processor
invariant-loop-processor g l = CollectsSome l.fn.processors l.processor l.fn.slot.slot l.initial.writer l.writer l.fn.rest l.all
