-- A batch of one processor more, or nothing.
use Rattle.std.proofs.Common.{◌≡◌, ℕ, ◌+◌, ◌≤◌, Option, IfSome, refl, sym, ap, ◌∙◌, subst, arith}
use Rattle.srcubench.specs.Giving.{jobs_in}
use Rattle.srcubench.proofs.Given.{one_more_of}
use Rattle.srcubench.proofs.giving.run_each.Goals as goal
use Rattle.srcubench.proofs.giving.run_each.Goals.{in-Some, in_default}

pub loop-processor-init : goal.loop-processor-init
loop-processor-init g c = record { here = c.requires.domain; runs = (refl, refl); few = omega arith }

pub loop-processor-preserved : goal.loop-processor-preserved
loop-processor-preserved g c = elim c.match-branch-2.branch [
  | in-Some w ↦
      let some = subst (λ (o : Option ℕ). IfSome o (λ many. (1 ≤ many) × (many ≤ 8))) w.in-Some.is c.in_ok-more.ensures.some in
      let few = some.1 in
      let was = c.loop-processor.invariant.few in
      let now = w.came-is in
      record {
        here = c.run_ready.ensures.here;
        runs = one_more_of c.args.domain.now c.loop-processor.processor c.loop-processor.came c.match-branch-2.came c.in_ok-more.field-0 c.args.cpu.now c.loop-processor.cpu c.run_ready.new.cpu c.loop-processor.invariant.runs c.in_ok-more.ensures.runs
            (w.came-is ∙ ap (λ (o : Option ℕ). c.loop-processor.came + jobs_in o) (sym w.in-Some.is));
        few = omega (arith, few, was, now);
      }
  | in_default w ↦
      let zero : c.loop-processor.came ≡ c.loop-processor.came + 0 = omega arith in
      let was = c.loop-processor.invariant.few in
      let now = w.came-is in
      record {
        here = c.run_ready.ensures.here;
        runs = one_more_of c.args.domain.now c.loop-processor.processor c.loop-processor.came c.match-branch-2.came c.in_ok-more.field-0 c.args.cpu.now c.loop-processor.cpu c.run_ready.new.cpu c.loop-processor.invariant.runs c.in_ok-more.ensures.runs
            (w.came-is ∙ (zero ∙ ap (λ (o : Option ℕ). c.loop-processor.came + jobs_in o) (sym w.in_default.is)));
        few = omega (arith, was, now);
      }
]
