use Rattle.driver.proofs.serving.know_that_batches_fit.Given as goal

abbrev pub invariant-loop : goal.invariant-loop
invariant-loop g l = Unit {0}
