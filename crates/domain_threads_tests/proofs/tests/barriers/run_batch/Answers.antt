-- There is a processor, as this one is of the domain.
use Rattle.std.proofs.Common.{arith}
use Rattle.domain_threads_tests.proofs.tests.barriers.run_batch.Goals as goal

pub take_ready-requires : goal.take_ready-requires
take_ready-requires g c = let there = c.requires.fits.there in (omega arith, (c.requires, omega (arith, there)))
