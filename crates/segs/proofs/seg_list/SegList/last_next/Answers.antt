use Rattle.std.proofs.Common.{ap, arith}
use Rattle.std.proofs.lemmas.Option.{IfSome_then}
use Rattle.segs.proofs.Last.{last_of}
use Rattle.segs.proofs.seg_list.SegList.last_next.Goals as goal

pub returns-clause-last : goal.returns-clause-last
returns-clause-last g c =
    let some = c.if-next_len-eq0.false in
    let same = c.next_len.ensures in
    IfSome_then c.back.result c.back.ensures.lookup (λ entry found. last_of (record { long = c.self.inside.entries.ok.0; seen = ap (λ v. v.entries) c.self.view_is; sound = c.self.invariant }) (omega arith) entry.now found)
