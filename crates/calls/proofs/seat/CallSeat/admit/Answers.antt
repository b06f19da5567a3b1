use Rattle.std.proofs.Common.{sym, ap, ◌∙◌, subst}
use Rattle.calls.specs.Glossary.{NoteView, IsBeginning, Accepts}
use Rattle.calls.proofs.seat.CallSeat.admit.Goals as goal

pub see_just-requires : goal.see_just-requires
see_just-requires g c = record { tallies = ap (λ (n : NoteView _). n.tallies) c.note-note.ensures.note ∙ sym c.requires.tallies; since = subst (λ (n : NoteView _). IsBeginning c.args.other.now.seen n.seen) (sym c.note-note.ensures.note) c.requires.covered }

pub returns-clause-accepts : goal.returns-clause-accepts
returns-clause-accepts g c = subst (λ (n : NoteView _). Accepts c.args.other.now n.seen c.see_just.new.self) c.note-note.ensures.note c.see_just.ensures
