-- A turn of the engine leaves the processor as it is.
use Rattle.std.proofs.Common.{◌∙◌}
use Rattle.domain.proofs.CallerLemmas.{same_advanced_in}
use Rattle.boxes_tests.proofs.tests.places.drive.Goals as goal

pub loop-preserved : goal.loop-preserved
loop-preserved c =
    let turn = (same_advanced_in c.loop.cpu c.advance-answer.new.cpu c.advance-answer.result c.advance-answer.ensures.advances).cpu in
    let was = c.loop.invariant.same in record {
      here = c.advance-answer.ensures.here;
      same = (turn.0 ∙ was.0, turn.1 ∙ was.1, turn.2 ∙ was.2, turn.3 ∙ was.3);
    }
