use Rattle.std.proofs.Common.{ap, sym}
use Rattle.segs.proofs.Answered.{read_of, order_of}
use Rattle.segs.proofs.seg_list.SegList.lens.Goals as goal

pub returns-clause-counts : goal.returns-clause-counts
returns-clause-counts g c = rw c.next_len-next.ensures (sym (read_of (record { long = c.self.inside.entries.ok.0; seen = ap (λ v. v.entries) c.self.view_is; sound = c.self.invariant })).lens_are)

pub returns-clause-in_order : goal.returns-clause-in_order
returns-clause-in_order g c = order_of (record { long = c.self.inside.entries.ok.0; seen = ap (λ v. v.entries) c.self.view_is; sound = c.self.invariant })
