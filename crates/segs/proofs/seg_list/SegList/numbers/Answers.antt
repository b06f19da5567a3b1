use Rattle.std.proofs.Common.{ap, sym}
use Rattle.segs.proofs.Answered.{read_of}
use Rattle.segs.proofs.seg_list.SegList.numbers.Goals as goal

pub returns : goal.returns
returns g c = sym (read_of (record { long = c.self.inside.entries.ok.0; seen = ap (λ v. v.entries) c.self.view_is; sound = c.self.invariant })).numbers_are
