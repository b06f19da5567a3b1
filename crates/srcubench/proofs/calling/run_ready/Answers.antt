-- A batch has eight jobs at most.
use Rattle.std.proofs.Common.{rules, ℕ, Option, subst}
use Rattle.calls.specs.Views.{BatchView}
use Rattle.calls.specs.Calls.{TakesIn}
use Rattle.domain.specs.Views.{callbacks_of}
use Rattle.srcubench.proofs.Passes.{few_taken}
use Rattle.srcubench.proofs.calling.run_ready.Goals as goal

pub run_jobs-came-requires : goal.run_jobs-came-requires
run_jobs-came-requires g c =
    let takes = subst (λ (t : Option (BatchView ℕ)). TakesIn (callbacks_of c.args.domain.now) c.args.processor 8 c.args.cpu.now.cpu c.args.cpu.now.calls t c.take_ready.new.cpu.cpu c.take_ready.new.cpu.calls) c.in-Ok-Some.field-0-is c.in-Ok-Some.ensures.takes in
    let few = few_taken _ _ _ _ _ _ _ takes in
    search rules
