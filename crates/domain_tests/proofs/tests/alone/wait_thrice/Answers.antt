-- The cookie stays as it was given, and the processor stays in its domain.
use Rattle.std.proofs.Common.{inr, sym, ap, ◌∙◌}
use Rattle.domain_tests.proofs.tests.alone.wait_thrice.Goals as goal

pub poll-late-requires : goal.poll-late-requires
poll-late-requires g c =
    let gives = c.read_unlock.ensures.stays _ (c.in-Ok.ensures.stays _ c.requires.reader) in
    let polls = c.number-at_first.ensures.stays _ (c.poll-early.ensures.stays _ (c.cookie-older.ensures.stays _ gives)) in
    inr (ap (λ k. k.domain) (c.poll-early.ensures.cookie ∙ c.cookie-older.ensures.gives.cookie_is) ∙ (gives.domain ∙ sym polls.domain))
