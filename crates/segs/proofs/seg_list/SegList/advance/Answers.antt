use Rattle.std.proofs.Common.{ap}
use Rattle.segs.proofs.Moves.{early_advanced, wait_advanced, both_advanced}
use Rattle.segs.proofs.seg_list.SegList.advance.Goals as goal

pub returns-then-number-self-clause-entries : goal.returns-then-number-self-clause-entries
returns-then-number-self-clause-entries g c =
    early_advanced (record { long = c.self.inside.entries.ok.0; seen = ap (λ v. v.entries) c.self.view_is; sound = c.self.invariant }) c.args.number c.if-number-self.true

pub returns-then-number-self-2-clause-entries : goal.returns-then-number-self-2-clause-entries
returns-then-number-self-2-clause-entries g c =
    wait_advanced (record { long = c.self.inside.entries.ok.0; seen = ap (λ v. v.entries) c.self.view_is; sound = c.self.invariant }) c.args.number c.if-number-self.false c.if-number-self-2.true

pub returns-else-number-self-2-clause-entries : goal.returns-else-number-self-2-clause-entries
returns-else-number-self-2-clause-entries g c =
    both_advanced (record { long = c.self.inside.entries.ok.0; seen = ap (λ v. v.entries) c.self.view_is; sound = c.self.invariant }) c.args.number c.if-number-self.false c.if-number-self-2.false
