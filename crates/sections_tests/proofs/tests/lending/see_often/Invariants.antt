-- The processor can still see.
use Rattle.sections_tests.specs.Ready.{CanSee}
use Rattle.sections_tests.proofs.tests.lending.see_often.Given as goal

abbrev pub invariant-loop : goal.invariant-loop
invariant-loop l = CanSee l.vault l.cpu
