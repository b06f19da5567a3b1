-- Each call leaves the processor in its domain, and the cookie was given there.
use Rattle.std.proofs.Common.{ap, ◌∙◌}
use Rattle.domain_threads_tests.proofs.tests.threads.drive_period.Goals as goal
use Rattle.domain_threads_tests.proofs.tests.threads.drive_period.Goals.{then-load-eq-THREADS-via-then-load-eq-THREADS, then-load-eq-THREADS-via-else-load-eq-THREADS+then-is_err}

pub loop-init : goal.loop-init
loop-init g c = record {
  here = c.start_poll-cookie.ensures.here;
  cookie = ap (λ k. k.domain) c.start_poll-cookie.ensures.starts.gives.cookie_is ∙ c.requires.domain;
}

pub returns-then-load-eq-THREADS : goal.returns-then-load-eq-THREADS
returns-then-load-eq-THREADS g c = elim c.then-load-eq-THREADS.branch [
  | then-load-eq-THREADS-via-then-load-eq-THREADS w ↦ rw w.cpu-is c.loop.invariant.here
  | then-load-eq-THREADS-via-else-load-eq-THREADS+then-is_err w ↦ rw w.cpu-is w.advance.ensures.here
]
