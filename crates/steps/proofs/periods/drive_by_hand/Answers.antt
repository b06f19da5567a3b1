-- Each call leaves the processor in its domain, and the cookie was given there.
use Rattle.std.proofs.Common.{inr, sym, ap, ◌∙◌}
use Rattle.domain.proofs.CallerLemmas.{begun_here}
use Rattle.steps.proofs.periods.drive_by_hand.Goals as goal

pub start_poll-cookie-requires : goal.start_poll-cookie-requires
start_poll-cookie-requires c = c.requires

pub need-need-requires : goal.need-need-requires
need-need-requires c = c.start_poll-cookie.ensures.here

pub advance-started-requires : goal.advance-started-requires
advance-started-requires c = c.need-need.ensures.here

pub advance-flipped-requires : goal.advance-flipped-requires
advance-flipped-requires c = c.advance-started.ensures.here

pub advance-waiting-requires : goal.advance-waiting-requires
advance-waiting-requires c = c.advance-flipped.ensures.here

pub read_unlock-requires : goal.read_unlock-requires
read_unlock-requires c = begun_here _ _ _ c.in_ok-section.ensures.locks

pub poll-early-requires : goal.poll-early-requires
poll-early-requires c = inr (ap (λ k. k.domain) c.start_poll-cookie.ensures.starts.gives.cookie_is ∙ (c.requires.domain ∙ sym c.advance-waiting.ensures.here.domain))

pub advance-ended-requires : goal.advance-ended-requires
advance-ended-requires c = c.poll-early.ensures.stays _ c.advance-waiting.ensures.here

pub advance-idle-requires : goal.advance-idle-requires
advance-idle-requires c = c.advance-ended.ensures.here

pub poll-done-requires : goal.poll-done-requires
poll-done-requires c = inr (ap (λ k. k.domain) (c.poll-early.ensures.cookie ∙ c.start_poll-cookie.ensures.starts.gives.cookie_is) ∙ (c.requires.domain ∙ sym c.advance-idle.ensures.here.domain))

pub start-again-requires : goal.start-again-requires
start-again-requires c = c.poll-done.ensures.stays _ c.advance-idle.ensures.here

pub start-refused-requires : goal.start-refused-requires
start-refused-requires c = c.start-again.ensures.here

pub step-step-requires : goal.step-step-requires
step-step-requires c = c.start-refused.ensures.here
