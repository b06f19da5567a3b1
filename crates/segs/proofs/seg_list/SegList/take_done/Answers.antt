use Rattle.std.proofs.Common.{ap, arith}
use Rattle.segs.proofs.Moves.{taken_segments, done_is}
use Rattle.segs.proofs.seg_list.SegList.take_done.Goals as goal

pub returns-clause-in_order : goal.returns-clause-in_order
returns-clause-in_order g c =
    let count = c.min-count.ensures in
    taken_segments (record { long = c.self.inside.entries.ok.0; seen = ap (λ v. v.entries) c.self.view_is; sound = c.self.invariant }) _ _ c.take_front-taken.ensures.in_order c.min-count.result c.take_front-taken.ensures.many (omega arith)

pub returns-clause-many : goal.returns-clause-many
returns-clause-many g c =
    let counted = done_is (record { long = c.self.inside.entries.ok.0; seen = ap (λ v. v.entries) c.self.view_is; sound = c.self.invariant }) in
    let first = c.min.ensures in
    let count = c.min-count.ensures in
    let many = c.take_front-taken.ensures.many in
    omega arith
