-- The last value's box is where it was.
use Rattle.std.proofs.Common.{ap, ◌∙◌}
use Rattle.srcu.proofs.Living.{keeps_last}
use Rattle.srcu.proofs.live.Live.into_inner.Goals as goal

pub returns-clause-last : goal.returns-clause-last
returns-clause-last g c =
    let found = c.take-place.ensures.found in
    let place = c.take-place.ensures.place in
    let lock = c.put_back-seen.ensures.lock ∙ ap (λ z. z.lock) c.self.view_is in (
      c.take_last.ensures.writer ∙ place.writer,
      keeps_last c.args.self c.take-place.result.0.writer c.take_last.new.writer c.take-place.result.0.boxes c.take-place.result.1 c.put_back-seen.result found.0 c.args.worker.now.cpu c.take_last.new.self.cpu place found.1 lock c.put_back-seen.ensures.left c.take_last.ensures.only c.in-Err.ensures.last,
      c.in-Err.ensures.refused,
    )
