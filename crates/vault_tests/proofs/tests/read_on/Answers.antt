use Rattle.std.proofs.Common.{◌^◌, arith}
use Rattle.vault_tests.proofs.tests.read_on.Goals as goal

pub read_at-back-requires : goal.read_at-back-requires
read_at-back-requires g c = (2 ^ 62, c.loop.invariant, omega arith)

pub loop-preserved : goal.loop-preserved
loop-preserved g c = c.read_at-back.ensures.key _ c.loop.invariant
