use Rattle.std.proofs.Common.{◌+◌, ◌<◌, sym, subst, arith}
use Rattle.std.specs.Mem.Slots.{slots_len}
use Rattle.desk.proofs.Emptying.{read_at, Emptied, emptied_desk, emptied_next, emptied_skip, nothing_there}
use Rattle.desk.proofs.desk.empty.Goals.{then-slot-desk+in-None, else-slot-desk}
use Rattle.desk.proofs.desk.empty.Goals as goal

pub loop-slot-init : goal.loop-slot-init
loop-slot-init g c = emptied_desk _ _ _ c.requires.slots c.take-value.ensures.others

pub take-nothing-requires : goal.take-nothing-requires
take-nothing-requires g c =
    let h = c.loop-slot.invariant in
    let lt = c.loop-slot-test.true in
    let end = c.slot_count-slot-end.ensures in
    let count = h.count in
    let first = c.take-value.ensures.others.2 in
    let inside : c.loop-slot.slot < slots_len c.args.closed.slots = omega (arith, lt, end, first) in
    (omega (arith, inside, count), h.on c.loop-slot.slot (omega arith) inside c.if-slot-desk.true)

pub unreachable-requires : goal.unreachable-requires
unreachable-requires g c =
    let h = c.loop-slot.invariant in
    let lt = c.loop-slot-test.true in
    let end = c.slot_count-slot-end.ensures in
    let first = c.take-value.ensures.others.2 in
    let inside : c.loop-slot.slot < slots_len c.args.closed.slots = omega (arith, lt, end, first) in
    c.in_default.not-None (nothing_there _ _ _ _ _ c.requires (sym (read_at _ 0 _ 0 c.word-desk.ensures)) h inside c.if-slot-desk.true c.take-nothing.ensures.value)

pub loop-slot-preserved : goal.loop-slot-preserved
loop-slot-preserved g c = elim c.if-slot-desk.branch [
  | then-slot-desk+in-None w ↦ subst (Emptied c.word-desk.result (c.loop-slot.slot + 1) c.args.closed) (sym w.closed-is) (emptied_next _ _ _ _ _ c.loop-slot.invariant w.take-nothing.ensures.others)
  | else-slot-desk w ↦ emptied_skip _ _ _ _ _ c.loop-slot.invariant w.if-slot-desk.false w.closed-is
]

pub free-requires : goal.free-requires
free-requires g c = λ k lt.
    let h = c.loop-slot.invariant in
    let done = c.loop-slot-test.false in
    let end = c.slot_count-slot-end.ensures in
    let count = h.count in
    let first = c.take-value.ensures.others.2 in
    h.off k (omega (arith, lt, done, end, count, first))
