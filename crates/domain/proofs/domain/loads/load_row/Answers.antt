use Rattle.std.proofs.Common.{ℕ, ◌+◌, ◌<◌, List, length, set, take, refl, sym, ◌∙◌, subst, arith}
use Rattle.std.proofs.lemmas.List.{take_more_set, take_all, length-set}
use Rattle.domain.specs.Loads.{LoadsEach}
use Rattle.domain.proofs.Watchers.{LoadedSoFar, loaded_none, count_fits, count_more, loaded_each}
use Rattle.domain.proofs.domain.loads.load_row.Goals as goal

pub loop-processor-init : goal.loop-processor-init
loop-processor-init g c = record { so_far = loaded_none _ _ _ _ refl; len = refl }

pub overflow_add-total : goal.overflow_add-total
overflow_add-total g c =
    let test = c.loop-processor-test.true in
    let end = c.loop-processor.auto.processor-end in
    let all = c.requires.all in
    let fits = count_fits _ _ _ _ _ _ _ _ _ c.loop-processor.invariant.so_far c.load-found.ensures (omega (arith, test, end, all)) in
    omega (arith, fits)

pub loop-processor-preserved : goal.loop-processor-preserved
loop-processor-preserved g c =
    let k : ℕ = c.loop-processor.processor in
    let n : ℕ = c.load-found.result in
    let test = c.loop-processor-test.true in
    let end = c.loop-processor.auto.processor-end in
    let all = c.requires.all in
    let len = c.loop-processor.invariant.len in
    let long = c.requires.row in
    let place : k < length c.loop-processor.row = omega (arith, test, end, len, long) in
    let more = count_more _ _ _ _ _ _ _ _ _ c.loop-processor.invariant.so_far c.load-found.ensures (omega (arith, test, end, all)) in
    let row : List ℕ = c.loop-processor.row in
    let so_far = subst (λ (l : List ℕ). LoadedSoFar c.args.counter c.args.index (k + 1) l (c.loop-processor.total + n) c.args.cpu.now c.load-found.new.cpu) (sym (take_more_set row k n place)) more in
    record {
      so_far = subst (λ j. LoadedSoFar c.args.counter c.args.index (k + 1) (take (k + 1) (set row j n)) (c.loop-processor.total + n) c.args.cpu.now c.load-found.new.cpu) (sym c.from.ensures) so_far;
      len = length-set row c.from.result n ∙ len;
    }

pub returns : goal.returns
returns g c =
    let k : ℕ = c.loop-processor.processor in
    let over = c.loop-processor-test.false in
    let end = c.loop-processor.auto.processor-end in
    let all = c.requires.all in
    let some = c.requires.some in
    let len = c.loop-processor.invariant.len in
    let long = c.requires.row in
    subst (λ (l : List ℕ). LoadsEach c.args.counter c.args.index l c.loop-processor.total c.args.cpu.now c.loop-processor.cpu) (take_all k c.loop-processor.row (omega (arith, over, end, len, long)))
    (loaded_each _ _ k _ _ _ _ (omega (arith, over, end, all)) (omega (arith, over, end, some)) c.loop-processor.invariant.so_far)
