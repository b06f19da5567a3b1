-- Each call leaves the processor in its domain, and the cookie was given there.
use Rattle.std.proofs.Common.{ap, ◌∙◌}
use Rattle.domain_threads_tests.proofs.tests.threads.ends_in_some_turns.Goals as goal

pub loop-init : goal.loop-init
loop-init c = record {
  here = c.start_poll-cookie.ensures.here;
  cookie = ap (λ k. k.domain) c.start_poll-cookie.ensures.starts.gives.cookie_is ∙ c.requires.domain;
}
