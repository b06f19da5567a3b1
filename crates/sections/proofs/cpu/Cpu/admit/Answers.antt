use Rattle.std.proofs.Common.{rules, ◌≡◌, sym, ap, ◌∙◌, arith}
use Rattle.sections.proofs.Seating.{same_count}
use Rattle.sections.proofs.Meeting.{accepted}
use Rattle.sections.proofs.cpu.Cpu.admit.Goals as goal

pub accept-requires-clause-role : goal.accept-requires-clause-role
accept-requires-clause-role g c =
    let same = ap (λ z. z.domain) c.other.view_is ∙ (c.requires.domain ∙ sym (ap (λ z. z.domain) c.self.view_is)) in
    let mine = c.self.invariant.placed in
    let theirs = c.other.invariant.placed in
    let wide = ap (λ t. t.words) (sym mine.seated ∙ (sym same ∙ theirs.seated)) ∙ theirs.wide in
    let count = same_count _ _ _ mine.wide wide in
    let there = c.other.invariant.there in
    (c.other.inside.processor, c.other.invariant.role, rw c.deref.ensures (omega (arith, there, count)))

pub returns-clause-other : goal.returns-clause-other
returns-clause-other g c =
    let e = c.other.invariant in
    let stayed : c.accept.new.first.table_id ≡ c.other.inside.seat.table_id = search rules in
    rw (← c.self.view_is, ← c.other.view_is) (accepted _ _ _ _ _ c.other.inside.seat.me.0 c.self.inside.seat.me.0 c.accept.new.first.me.0 stayed e.placed.sized e.role c.accept.ensures.first)
