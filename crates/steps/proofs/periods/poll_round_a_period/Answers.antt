-- A cookie and a poll leave the processor in its domain, and the cookie is of that.
use Rattle.std.proofs.Common.{inr, sym, ap, ◌∙◌}
use Rattle.domain.proofs.CallerLemmas.{begun_here}
use Rattle.steps.proofs.periods.poll_round_a_period.Goals as goal

pub poll-early-requires : goal.poll-early-requires
poll-early-requires c =
    let gives = c.cookie-cookie.ensures.gives in
    inr (ap (λ k. k.domain) gives.cookie_is ∙ sym gives.notes.adds.same.0)

pub read_unlock-requires : goal.read_unlock-requires
read_unlock-requires c = begun_here _ _ _ c.in_ok-section.ensures.locks

pub start-started-requires : goal.start-started-requires
start-started-requires c = c.poll-early.ensures.stays _ (c.cookie-cookie.ensures.stays _ c.requires.updater)

pub advance-flipped-requires : goal.advance-flipped-requires
advance-flipped-requires c = c.start-started.ensures.here

pub advance-ended-requires : goal.advance-ended-requires
advance-ended-requires c = c.advance-flipped.ensures.here

pub poll-late-requires : goal.poll-late-requires
poll-late-requires c =
    let given = c.cookie-cookie.ensures.gives.cookie_is in
    inr (ap (λ k. k.domain) (c.poll-early.ensures.cookie ∙ given) ∙ (c.requires.updater.domain ∙ sym c.advance-ended.ensures.here.domain))
