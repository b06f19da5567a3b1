-- Whether the barrier was started or not, the processor that comes back is the one that was taken.
use Rattle.std.proofs.Common.{◌≡◌, ℕ, sym, ◌∙◌, subst}
use Rattle.domain.specs.Views.{DomainView, CpuView, IsOf, IsSameProcessor}
use Rattle.domain.specs.Waiting.{HasNoneOpen}
use Rattle.domain.proofs.CallerLemmas.{none_at_tallies, same_trans, same_finished}
use Rattle.driver.specs.Pools.{PoolView, SlipView, IsIdle, IsOut}
use Rattle.driver_tests.proofs.tests.wait_for_own.Goals as goal
use Rattle.driver_tests.proofs.tests.wait_for_own.Goals.{in-Ok, in-Err}

goes_back : (p : PoolView) (e : DomainView) (slip : SlipView) (n : ℕ) (queued back : CpuView ℕ) → p.domain ≡ e → slip.pool ≡ p.pool → slip.processor ≡ n → queued.cpu.processor ≡ n → IsSameProcessor queued back → IsOf e back → HasNoneOpen back → IsOut p back slip
goes_back p e slip n queued back is pool number same still here none = record {
  pool = pool;
  lent = record {
    idle = subst (λ (x : DomainView). IsIdle x back) (sym is) (record { here = here; closed = none });
    number = number ∙ sym (still.cpu.3 ∙ same);
  };
}

pub give-requires : goal.give-requires
give-requires g c =
    let started = same_finished c.queue-queued.new.cpu c.barrier_start.new.cpu c.barrier_start.ensures.same c.barrier_start.ensures.rest in
    elim c.match-barrier_start.branch [
      | in-Ok w ↦ rw w.lent-is (goes_back _ _ _ _ c.queue-queued.new.cpu w.serve_until.new.cpu c.in_ok-pool.ensures c.take-lent.ensures.pool c.take-lent.ensures.lent.number c.queue-queued.ensures.same
          (same_trans c.queue-queued.new.cpu c.barrier_start.new.cpu w.serve_until.new.cpu started w.serve_until.ensures.same) w.serve_until.ensures.here w.serve_until.ensures.none)
      | in-Err w ↦ rw w.lent-is (goes_back _ _ _ _ c.queue-queued.new.cpu c.barrier_start.new.cpu c.in_ok-pool.ensures c.take-lent.ensures.pool c.take-lent.ensures.lent.number c.queue-queued.ensures.same started c.barrier_start.ensures.here
          (none_at_tallies c.queue-queued.new.cpu c.barrier_start.new.cpu c.queue-queued.ensures.idle.closed c.barrier_start.ensures.rest))
    ]
