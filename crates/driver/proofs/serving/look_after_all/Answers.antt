-- One more list was looked at, of at most eight jobs.
use Rattle.std.proofs.Common.{◌≡◌, ℕ, [], refl, subst, arith}
use Rattle.calls.proofs.CallerLemmas.{begins_itself, begins_on}
use Rattle.domain.proofs.CallerLemmas.{same_trans}
use Rattle.driver.proofs.Rows.{same_itself, LookedAfter, looks_on}
use Rattle.driver.proofs.serving.look_after_all.Goals as goal

pub loop-processor-init : goal.loop-processor-init
loop-processor-init g c = (
  c.requires.work,
  record { here = c.requires.here; still = c.requires.none; later = begins_itself _; same = same_itself _; few = omega arith; looks = ([], refl, (refl, refl, refl)) },
)

pub look_after-looked-requires-clause-here : goal.look_after-looked-requires-clause-here
look_after-looked-requires-clause-here g c = c.loop-processor.invariant.1.here

pub look_after-looked-requires-clause-none : goal.look_after-looked-requires-clause-none
look_after-looked-requires-clause-none g c = c.loop-processor.invariant.1.still

pub look_after-looked-requires-clause-work : goal.look_after-looked-requires-clause-work
look_after-looked-requires-clause-work g c = c.loop-processor.invariant.0

pub overflow_add-jobs : goal.overflow_add-jobs
overflow_add-jobs g c =
    let so_far = c.loop-processor.invariant.1.few in
    let few = c.look_after-looked.ensures.few in
    let below = c.loop-processor-test.true in
    let fits = c.ranges.processors in
    omega (arith, so_far, few, below, fits)

pub loop-processor-preserved : goal.loop-processor-preserved
loop-processor-preserved g c =
    let so_far = c.loop-processor.invariant.1.few in
    let few = c.look_after-looked.ensures.few in (
      c.look_after-looked.ensures.work,
      record {
        here = c.look_after-looked.ensures.here;
        still = c.look_after-looked.ensures.none;
        later = begins_on c.loop-processor.invariant.1.later c.look_after-looked.ensures.later;
        same = same_trans _ _ _ c.loop-processor.invariant.1.same c.look_after-looked.ensures.same;
        few = omega (arith, so_far, few);
        looks = looks_on _ c.args.domain.now c.loop-processor.processor c.loop-processor.jobs c.look_after-looked.result.jobs _ _ _ _ _ _ c.loop-processor.invariant.1.looks c.look_after-looked.ensures.looks;
      },
    )

pub returns-clause-here : goal.returns-clause-here
returns-clause-here g c = c.loop-processor.invariant.1.here

pub returns-clause-none : goal.returns-clause-none
returns-clause-none g c = c.loop-processor.invariant.1.still

pub returns-clause-later : goal.returns-clause-later
returns-clause-later g c = c.loop-processor.invariant.1.later

pub returns-clause-looks : goal.returns-clause-looks
returns-clause-looks g c =
    let end = c.loop-processor.auto.processor-end in
    let test = c.loop-processor-test.false in
    let all : c.loop-processor.processor ≡ c.args.processors = omega (arith, end, test) in
    subst (λ (k : ℕ). LookedAfter (λ p x q. goal.F-step g p x tt q) c.args.domain.now k c.args.work.now c.args.cpu.now c.loop-processor.jobs c.loop-processor.work c.loop-processor.cpu) all c.loop-processor.invariant.1.looks

pub returns-clause-work : goal.returns-clause-work
returns-clause-work g c = c.loop-processor.invariant.0

pub returns-clause-same : goal.returns-clause-same
returns-clause-same g c = c.loop-processor.invariant.1.same
