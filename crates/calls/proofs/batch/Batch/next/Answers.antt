use Rattle.std.proofs.Common.{◌≡◌, Some, refl, ap, sym, ◌∙◌}
use Rattle.calls.specs.declared.entry.Entry.{Entry}
use Rattle.calls.proofs.Wrapping.{first_entry}
use Rattle.calls.proofs.batch.Batch.next.Goals as goal

pub unreachable-requires : goal.unreachable-requires
unreachable-requires g c =
    let f = first_entry c.self.inside.entries.items c.remove.result c.remove.new.self.items c.is_empty.result c.self.invariant.wrapping c.is_empty.ensures c.if-is_empty.false c.remove.ensures.value c.remove.ensures.items in
    c.in_default.not-Some f.entry f.result

pub returns : goal.returns
returns g c =
    let f = first_entry c.self.inside.entries.items c.remove.result c.remove.new.self.items c.is_empty.result c.self.invariant.wrapping c.is_empty.ensures c.if-is_empty.false c.remove.ensures.value c.remove.ensures.items in
    let same : Some c.in-Some.field-0 ≡ Some f.entry = sym c.in-Some.is ∙ f.result in
    let one : c.in-Some.field-0 ≡ f.entry = cc in
    rw (← c.self.view_is) (refl, (f.entry, f.entries, ap (λ (e : Entry g.row.J.Denot). e.job) one))
