use Rattle.requests.specs.Faults.{texts}
use Rattle.requests.proofs.Reading.{IsSoFar}
use Rattle.requests.proofs.line.given_by.Given as goal

abbrev pub invariant-loop-argument : goal.invariant-loop-argument
invariant-loop-argument g l =
    IsSoFar (g.S.Scene.scene l.scene) l.initial.given l.fn.takes (texts l.fn.words) l.given l.argument-iterator.a.rest.now (texts l.argument-iterator.b.rest.now)
