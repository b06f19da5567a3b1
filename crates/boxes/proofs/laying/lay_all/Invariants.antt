-- As many parts lie at each of the processors before this one.
use Rattle.std.proofs.Common.{◌≡◌, ◌-◌, ◌*◌, ◌^◌}
use Rattle.boxes.specs.Laying.{share, LaysSome}
use Rattle.boxes.proofs.laying.lay_all.Given as goal

abbrev pub invariant-loop-processor : goal.invariant-loop-processor
invariant-loop-processor g l = record {
  lays : LaysSome l.processor l.fn.slot.slot l.fn.all.round l.initial.writer l.writer;
  rest : l.rest ≡ record l.fn.all { count = 2 ^ 63 - l.processor * share };
}
