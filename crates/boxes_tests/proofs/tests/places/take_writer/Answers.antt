-- All are of the domain, and so are the one that was taken out and the others.
use Rattle.std.proofs.Common.{◌≡◌}
use Rattle.std.proofs.lemmas.List.Elements.{All-pop}
use Rattle.sections.specs.WriterViews.{WriterView}
use Rattle.boxes.specs.Writing.{IsPlain}
use Rattle.boxes_tests.proofs.tests.places.take_writer.Goals as goal

pub returns-clause-plain : goal.returns-clause-plain
returns-clause-plain c =
    let W : WriterView → Type 0 = λ w. (w.domain ≡ c.args.domain.now.domain) × IsPlain w in
    let last = All-pop W _ _ _ c.pop.ensures.items c.requires.plain in
    rw c.unwrap.ensures at last.1

pub returns-clause-others : goal.returns-clause-others
returns-clause-others c =
    let W : WriterView → Type 0 = λ w. (w.domain ≡ c.args.domain.now.domain) × IsPlain w in
    let last = All-pop W _ _ _ c.pop.ensures.items c.requires.plain in
    last.0
