use Rattle.std.proofs.Common.{ap, arith}
use Rattle.segs.proofs.Cuts.{next_is}
use Rattle.segs.proofs.seg_list.SegList.next_len.Goals as goal

pub returns : goal.returns
returns g c =
    let all = next_is (record { long = c.self.inside.entries.ok.0; seen = ap (λ v. v.entries) c.self.view_is; sound = c.self.invariant }) in
    omega (arith, all, c.len.ensures)
