use Rattle.std.proofs.Common.{Some, ap, sym, ◌∙◌}
use Rattle.std.specs.List.{slice_get}
use Rattle.std.specs.Option.{option_copied}
use Rattle.calls.proofs.Wrapping.{first_not_none}
use Rattle.calls.proofs.batch.Batch.cookie.Goals as goal

pub unreachable-requires : goal.unreachable-requires
unreachable-requires g c =
    let found = ap option_copied c.in-Some.is in
    let none = ap Some c.in_default-next.is in
    first_not_none {J = g.row.J.Denot} c.self.inside.entries.items c.self.invariant.wrapping (ap (λ xs. slice_get xs 0) (sym c.deref.ensures) ∙ (sym c.first.ensures.value ∙ (found ∙ none)))
