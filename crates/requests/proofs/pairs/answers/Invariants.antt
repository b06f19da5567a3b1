use Rattle.std.proofs.Common.{take}
use Rattle.requests.specs.Faults.{texts}
use Rattle.requests.proofs.Pairing.{AreRead}
use Rattle.requests.proofs.pairs.answers.Given as goal

abbrev pub invariant-loop-word : goal.invariant-loop-word
invariant-loop-word l = AreRead (take l.word-index (texts l.words)) l.named
