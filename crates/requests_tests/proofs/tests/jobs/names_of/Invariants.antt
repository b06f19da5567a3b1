-- At most as many names are there as words were read.
use Rattle.std.proofs.Common.{◌≤◌, length}
use Rattle.requests_tests.proofs.tests.jobs.names_of.Given as goal

abbrev pub invariant-loop-word : goal.invariant-loop-word
invariant-loop-word l = length l.names ≤ l.word-index
