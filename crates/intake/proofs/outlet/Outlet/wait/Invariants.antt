-- Nothing has changed so far.
use Rattle.std.specs.Prelude.{◌≡◌}
use Rattle.intake.proofs.outlet.Outlet.wait.Given as goal

abbrev pub invariant-loop : goal.invariant-loop
invariant-loop g l = record {
  same : l.self ≡ l.fn.self;
}
