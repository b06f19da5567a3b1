use Rattle.std.proofs.Common.{ap, ◌∙◌, subst}
use Rattle.calls.specs.Glossary.{NoteView, Covers}
use Rattle.calls.proofs.seat.CallSeat.cover.Goals as goal

pub see-requires : goal.see-requires
see-requires g c = ap (λ (n : NoteView _). n.tallies) c.note-note.ensures.note ∙ c.requires

pub returns-clause-covers : goal.returns-clause-covers
returns-clause-covers g c = subst (λ (n : NoteView _). Covers c.args.self.now n.seen c.see.new.self) c.note-note.ensures.note c.see.ensures
