-- Eight leave in each round.
use Rattle.std.proofs.Common.{◌≡◌, ℕ, ◌+◌, ◌-◌, ◌*◌, ◌≤◌, ◌<◌, arith, subst}
use Rattle.segs.specs.MarkedList.{Done}
use Rattle.srcubench.specs.Lists.{AreMarked}
use Rattle.srcubench.proofs.Passing.{none_left}
use Rattle.srcubench.proofs.lists.take_batches.Goals as goal

enough : (b k : ℕ) → k < b → 8 ≤ 8 * b - 8 * k
enough b k l = omega (arith, l)

less : (b k : ℕ) → 8 * b - 8 * k - 8 ≡ 8 * b - 8 * (k + 1)
less b k = omega arith

pub loop-init : goal.loop-init
loop-init c = record { came = omega arith; left = subst (λ n. AreMarked Done n c.args.list.now.entries) (omega arith) c.requires.done }

pub overflow_add-taken : goal.overflow_add-taken
overflow_add-taken c =
    let more = c.loop-test.true in
    let eight = c.take_batch-taken.ensures _ (enough _ _ more) c.loop.invariant.left in
    let one = eight.0 in
    let came = c.loop.invariant.came in
    let few = c.requires.few in
    omega (arith, one, came, few, more)

pub loop-preserved : goal.loop-preserved
loop-preserved c =
    let more = c.loop-test.true in
    let eight = c.take_batch-taken.ensures _ (enough _ _ more) c.loop.invariant.left in
    let one = eight.0 in
    let came = c.loop.invariant.came in
    record { came = omega (arith, one, came); left = subst (λ n. AreMarked Done n c.take_batch-taken.new.list.entries) (less _ _) eight.1 }

pub returns-clause-came : goal.returns-clause-came
returns-clause-came c =
    let test = c.loop-test.false in
    let end = c.loop.auto.counter-end in
    let came = c.loop.invariant.came in
    omega (arith, test, end, came)

pub returns-clause-empty : goal.returns-clause-empty
returns-clause-empty c = let test = c.loop-test.false in none_left Done _ _ (omega (arith, test)) c.loop.invariant.left
