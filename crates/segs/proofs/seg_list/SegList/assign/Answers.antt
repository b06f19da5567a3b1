use Rattle.std.proofs.Common.{ap, arith}
use Rattle.segs.proofs.Cuts.{next_is}
use Rattle.segs.proofs.Moves.{nothing_assigned, first_assigned, wait_assigned, second_assigned, next_ready_assigned, stays_assigned}
use Rattle.segs.proofs.seg_list.SegList.assign.Goals as goal

pub returns-then-next-eq0-clause-entries : goal.returns-then-next-eq0-clause-entries
returns-then-next-eq0-clause-entries g c =
    let none = c.if-next-eq0.true in let same = c.next_len-next.ensures in nothing_assigned (record { long = c.self.inside.entries.ok.0; seen = ap (λ v. v.entries) c.self.view_is; sound = c.self.invariant }) c.args.number (omega arith)

pub invariant_of-self : goal.invariant_of-self
invariant_of-self g c =
    let all = next_is (record { long = c.self.inside.entries.ok.0; seen = ap (λ v. v.entries) c.self.view_is; sound = c.self.invariant }) in
    let same = c.next_len-next.ensures in
    let kept = c.self.invariant in
    record {
      within = omega arith;
      wait_first = λ e. omega arith;
      no_wait_number = λ e. omega arith;
      no_next_ready_number = λ e. omega arith;
      rising = λ l. omega arith;
    }

pub invariant_of-self-then-number-self : goal.invariant_of-self-then-number-self
invariant_of-self-then-number-self g c =
    let all = next_is (record { long = c.self.inside.entries.ok.0; seen = ap (λ v. v.entries) c.self.view_is; sound = c.self.invariant }) in
    let same = c.next_len-next.ensures in
    let kept = c.self.invariant in
    record {
      within = omega arith;
      wait_first = λ e. omega arith;
      no_wait_number = λ e. omega arith;
      no_next_ready_number = λ e. omega arith;
      rising = λ l. omega arith;
    }

pub invariant_of-self-then-number-self-2 : goal.invariant_of-self-then-number-self-2
invariant_of-self-then-number-self-2 g c =
    let all = next_is (record { long = c.self.inside.entries.ok.0; seen = ap (λ v. v.entries) c.self.view_is; sound = c.self.invariant }) in
    let same = c.next_len-next.ensures in
    let kept = c.self.invariant in
    record {
      within = omega arith;
      wait_first = λ e. omega arith;
      no_wait_number = λ e. omega arith;
      no_next_ready_number = λ e. omega arith;
      rising = λ l. omega arith;
    }

pub invariant_of-self-else-number-self-2 : goal.invariant_of-self-else-number-self-2
invariant_of-self-else-number-self-2 g c =
    let all = next_is (record { long = c.self.inside.entries.ok.0; seen = ap (λ v. v.entries) c.self.view_is; sound = c.self.invariant }) in
    let same = c.next_len-next.ensures in
    let kept = c.self.invariant in
    record {
      within = omega arith;
      wait_first = λ e. omega arith;
      no_wait_number = λ e. omega arith;
      no_next_ready_number = λ e. omega arith;
      rising = λ l. omega arith;
    }

pub returns-then-self-eq0-clause-entries : goal.returns-then-self-eq0-clause-entries
returns-then-self-eq0-clause-entries g c =
    first_assigned (record { long = c.self.inside.entries.ok.0; seen = ap (λ v. v.entries) c.self.view_is; sound = c.self.invariant }) c.args.number c.next_len-next.result c.next_len-next.ensures c.if-self-eq0.true

pub returns-then-number-self-clause-entries : goal.returns-then-number-self-clause-entries
returns-then-number-self-clause-entries g c =
    next_ready_assigned (record { long = c.self.inside.entries.ok.0; seen = ap (λ v. v.entries) c.self.view_is; sound = c.self.invariant }) c.args.number c.next_len-next.result c.next_len-next.ensures c.if-self-gt0.true c.if-number-self.true

pub returns-else-number-self-clause-entries : goal.returns-else-number-self-clause-entries
returns-else-number-self-clause-entries g c =
    stays_assigned (record { long = c.self.inside.entries.ok.0; seen = ap (λ v. v.entries) c.self.view_is; sound = c.self.invariant }) c.args.number c.if-self-gt0.true c.if-number-self.false

pub returns-then-number-self-2-clause-entries : goal.returns-then-number-self-2-clause-entries
returns-then-number-self-2-clause-entries g c =
    let some = c.if-self-eq0.false in let none = c.if-self-gt0.false in
    wait_assigned (record { long = c.self.inside.entries.ok.0; seen = ap (λ v. v.entries) c.self.view_is; sound = c.self.invariant }) c.args.number c.next_len-next.result c.next_len-next.ensures (omega arith) (omega arith) c.if-number-self-2.true

pub returns-else-number-self-2-clause-entries : goal.returns-else-number-self-2-clause-entries
returns-else-number-self-2-clause-entries g c =
    let some = c.if-self-eq0.false in let none = c.if-self-gt0.false in
    second_assigned (record { long = c.self.inside.entries.ok.0; seen = ap (λ v. v.entries) c.self.view_is; sound = c.self.invariant }) c.args.number c.next_len-next.result c.next_len-next.ensures (omega arith) (omega arith) c.if-number-self-2.false
