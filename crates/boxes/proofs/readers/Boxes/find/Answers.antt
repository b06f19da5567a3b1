-- What was laid is known, and a version was found and drawn from.
use Rattle.std.proofs.Common.{sym, ap, ◌∙◌}
use Rattle.boxes.proofs.Reading.{offers_by, offers_here, finds_box, finds_no_box}
use Rattle.boxes.proofs.readers.Boxes.find.Goals as goal
use Rattle.boxes.proofs.readers.Boxes.find.Goals.{in-Ok, in-Err}

pub draw-requires-clause-vault : goal.draw-requires-clause-vault
draw-requires-clause-vault g c =
    let finds = rw c.deref_mut-2.ensures.shows at c.find_held-found.ensures.finds in
    let hears = rw c.deref_mut.ensures.shows at c.recall.ensures.hears in
    rw (c.deref_mut-3.ensures.shows) (offers_here c.self.inside.cell c.self.inside.processors _ _ _ _ _ _ _ _ c.self.invariant.knows c.recall.ensures.texts finds ((ap (λ z. z.processors) c.self.view_is ∙ c.requires.cell.1) ∙ sym (finds.adds.same.1 ∙ hears.looks.same.1)) (sym c.deref.ensures))

pub returns-clause-finds : goal.returns-clause-finds
returns-clause-finds g c =
    let finds = rw c.deref_mut-2.ensures.shows at c.find_held-found.ensures.finds in
    let hears = rw c.deref_mut.ensures.shows at c.recall.ensures.hears in
    let catches = rw c.deref_mut-3.ensures.shows at c.draw.ensures.catches in
    elim c.match-draw.branch [
      | in-Ok w ↦ let lends = w.in-Ok.ensures.lends in rw (w.result-is, ← c.self.view_is)
          (finds_box _ _ _ _ _ _ _ _ _ _ _ hears finds catches c.find_held-found.ensures.section (ap (λ z. z.section) lends.0) (ap (λ z. z.found) lends.0) (offers_by c.self.inside.cell c.self.inside.processors _ _ _ _ _ _ c.self.invariant.knows c.recall.ensures.texts finds))
      | in-Err w ↦ rw (w.result-is, ← c.self.view_is) (finds_no_box _ _ _ _ _ _ _ _ _ _ _ hears finds catches c.find_held-found.ensures.section w.in-Err.ensures.lends)
    ]
