-- There is a processor, as this one is of the domain.
use Rattle.std.proofs.Common.{arith}
use Rattle.domain_tests.proofs.tests.watching.run_one_of_two.Goals as goal

pub run_on-requires-clause-there : goal.run_on-requires-clause-there
run_on-requires-clause-there g c = let there = c.requires.fits.there in omega (arith, there)
