use Rattle.std.proofs.Common.{ap, ◌∙◌}
use Rattle.segs.specs.MarkedList.{lens, numbers}
use Rattle.calls.specs.Glossary.{known_in, ListView}
use Rattle.calls.proofs.Wrapping.{lens_wrapped, numbers_lens_wrapped}
use Rattle.calls.proofs.Gathering.{lacks_behind, finds_behind}
use Rattle.calls.proofs.list.List.lens.Goals as goal

pub returns-in-Err : goal.returns-in-Err
returns-in-Err g c = record { found = lacks_behind c.args.self.now c.gather.new.self c.note_lack.new.self c.args.seat.now c.gather.new.seat c.note_lack.new.seat c.gather.ensures.gathers c.note_lack.ensures.notes c.note_lack.ensures.same }

pub returns-in-Ok : goal.returns-in-Ok
returns-in-Ok g c =
    let k = known_in c.self.inside.seat.me.0.client.list in
    let entries = ap (λ (l : ListView g.row.J.Denot). l.entries) c.self.view_is in
    let counts = c.lens.ensures.counts ∙ (ap lens c.self.invariant.wrapping ∙ (lens_wrapped {J = g.row.J.Denot} k.waiting ∙ ap lens entries)) in
    let awaited = c.numbers.ensures ∙ (ap numbers c.self.invariant.wrapping ∙ (numbers_lens_wrapped {J = g.row.J.Denot} k.waiting ∙ ap numbers entries)) in
    record { found = finds_behind c.args.self.now c.gather.new.self c.args.seat.now c.gather.new.seat c.look.new.self c.look.new.seat c.gather.ensures.gathers c.look.ensures _ c.in-Ok.ensures.all (λ i. (counts i, awaited i)) }
