-- The key is back each time.
use Rattle.std.proofs.Common.{◌^◌}
use Rattle.vault.specs.Keys.{IsKey}
use Rattle.vault_tests.proofs.tests.read_on.Given as goal

abbrev pub invariant-loop : goal.invariant-loop
invariant-loop g l = IsKey l.vault l.place (2 ^ 62) l.terms.round l.key
