use Rattle.std.proofs.Common.{ap, sym, ◌∙◌}
use Rattle.calls.specs.Views.{CallSeatView}
use Rattle.calls.proofs.CallerLemmas.{begins_on}
use Rattle.calls_tests.proofs.tests.meeting.meet.Goals as goal

pub cover-requires : goal.cover-requires
cover-requires c = c.requires.1 ∙ sym c.requires.0

pub admit-requires-clause-tallies : goal.admit-requires-clause-tallies
admit-requires-clause-tallies c =
    let h = c.totals-totals.ensures in
    ap (λ (s : CallSeatView _). s.tallies) c.cover.ensures.other ∙ (c.requires.1 ∙ (sym c.requires.0 ∙ sym (h.finished.loads.same.0 ∙ (h.queued.loads.same.0 ∙ ap (λ (s : CallSeatView _). s.tallies) c.cover.ensures.covers.same))))

pub admit-requires-clause-covered : goal.admit-requires-clause-covered
admit-requires-clause-covered c =
    let h = c.totals-totals.ensures in
    rw (c.cover.ensures.other) (begins_on c.cover.ensures.covers.covers (begins_on h.queued.loads.since h.finished.loads.since))

pub returns : goal.returns
returns c =
    let h = c.totals-totals.ensures in
    let one = c.cover.ensures.covers.same in
    let other = c.cover.ensures.other in
    let two = c.admit.ensures.accepts.is in
    let all = c.admit.ensures.stays in (
      (
        ap (λ (s : CallSeatView _). s.tallies) all ∙ (h.finished.loads.same.0 ∙ (h.queued.loads.same.0 ∙ ap (λ (s : CallSeatView _). s.tallies) one)),
        ap (λ (s : CallSeatView _). s.processors) all ∙ (h.finished.loads.same.1 ∙ (h.queued.loads.same.1 ∙ ap (λ (s : CallSeatView _). s.processors) one)),
        ap (λ (s : CallSeatView _). s.processor) all ∙ (h.finished.loads.same.2 ∙ (h.queued.loads.same.2 ∙ ap (λ (s : CallSeatView _). s.processor) one)),
        ap (λ (s : CallSeatView _). s.domain) all ∙ (h.finished.loads.same.3 ∙ (h.queued.loads.same.3 ∙ ap (λ (s : CallSeatView _). s.domain) one)),
      ),
      (
        ap (λ (s : CallSeatView _). s.tallies) two ∙ ap (λ (s : CallSeatView _). s.tallies) other,
        ap (λ (s : CallSeatView _). s.processors) two ∙ ap (λ (s : CallSeatView _). s.processors) other,
        ap (λ (s : CallSeatView _). s.processor) two ∙ ap (λ (s : CallSeatView _). s.processor) other,
        ap (λ (s : CallSeatView _). s.domain) two ∙ ap (λ (s : CallSeatView _). s.domain) other,
      ),
    )
