-- The cookie is of the domain, and was given before the wait.
use Rattle.std.proofs.Common.{rules, inr, ap, ◌∙◌}
use Rattle.soak.proofs.worker.wait_for_period.Goals as goal

pub check_done-requires-clause-cookie : goal.check_done-requires-clause-cookie
check_done-requires-clause-cookie g c = ap (λ k. k.domain) c.cookie-cookie.ensures.gives.cookie_is ∙ c.requires.here.domain

pub returns-clause-waits : goal.returns-clause-waits
returns-clause-waits g c = inr record {
  cookie = c.cookie-cookie.result;
  given = c.cookie-cookie.new.self;
  gives = c.cookie-cookie.ensures.gives;
  waited = _;
  waits = search rules;
  counts = search rules;
  checks = c.check_done.ensures.checks;
}
