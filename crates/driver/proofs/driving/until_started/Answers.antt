-- A barrier is tried, and then one more round is made.
use Rattle.std.proofs.Common.{inl, refl, sym, subst}
use Rattle.calls.proofs.CallerLemmas.{begins_itself, begins_on}
use Rattle.domain.specs.Views.{CpuView}
use Rattle.domain.proofs.CallerLemmas.{none_at_tallies, same_trans, same_finished}
use Rattle.driver.specs.Serving.{WorksFrom}
use Rattle.driver.proofs.Rows.{same_itself, works_from_none, works_from_on, counts_from_on, vain_from_on}
use Rattle.driver.proofs.Ending.{covers_earlier}
use Rattle.driver.proofs.driving.until_started.Goals as goal

pub loop-init : goal.loop-init
loop-init g c = (
  c.requires.work,
  record { watched = c.requires.watcher; here = c.requires.here; still = c.requires.none; later = begins_itself _; same = same_itself _; works = works_from_none (λ p x q. goal.F-step g p x tt q) c.args.domain.now c.args.work.now c.args.cpu.now c.args.before },
)

pub barrier_start-requires : goal.barrier_start-requires
barrier_start-requires g c = c.loop.invariant.1.here

pub returns-in-Ok-clause-none : goal.returns-in-Ok-clause-none
returns-in-Ok-clause-none g c = none_at_tallies c.loop.cpu c.barrier_start.new.cpu c.loop.invariant.1.still c.barrier_start.ensures.rest

pub returns-in-Ok-clause-later : goal.returns-in-Ok-clause-later
returns-in-Ok-clause-later g c = begins_on c.loop.invariant.1.later c.barrier_start.ensures.acts.adds.since

pub returns-in-Ok-clause-same : goal.returns-in-Ok-clause-same
returns-in-Ok-clause-same g c = same_trans _ _ _ c.loop.invariant.1.same (same_finished c.loop.cpu c.barrier_start.new.cpu c.barrier_start.ensures.same c.barrier_start.ensures.rest)

pub returns-in-Ok-clause-works : goal.returns-in-Ok-clause-works
returns-in-Ok-clause-works g c = counts_from_on (λ p x q. goal.F-step g p x tt q) c.args.domain.now c.args.before _ _ _ c.loop.cpu c.barrier_start.new.cpu c.loop.served c.loop.invariant.1.works record {
  ticket = c.in-Ok.ticket;
  loads = inl c.in-Ok.ensures.starts;
  rest = c.barrier_start.ensures.rest;
  none = (refl, refl, refl);
}

pub returns-in-Ok-clause-starts : goal.returns-in-Ok-clause-starts
returns-in-Ok-clause-starts g c = record { told = c.loop.cpu.calls; noted = c.barrier_start.new.cpu.calls; seat = c.loop.invariant.1.same.calls; since = c.loop.invariant.1.later; starts = c.in-Ok.ensures.starts; until = begins_itself _ }

pub returns-in-Ok-clause-covers : goal.returns-in-Ok-clause-covers
returns-in-Ok-clause-covers g c = covers_earlier c.in-Ok.ticket c.args.domain.now.processors _ _ c.loop.invariant.1.later c.in-Ok.ensures.covers

pub returns-in-Ok-clause-work : goal.returns-in-Ok-clause-work
returns-in-Ok-clause-work g c = c.loop.invariant.0

pub round-came-requires-clause-none : goal.round-came-requires-clause-none
round-came-requires-clause-none g c = none_at_tallies c.loop.cpu c.barrier_start.new.cpu c.loop.invariant.1.still c.barrier_start.ensures.rest

pub round-came-requires-clause-work : goal.round-came-requires-clause-work
round-came-requires-clause-work g c = c.loop.invariant.0

pub returns-then-is_end-clause-later : goal.returns-then-is_end-clause-later
returns-then-is_end-clause-later g c = begins_on (begins_on c.loop.invariant.1.later c.barrier_start.ensures.acts.adds.since) c.round-came.ensures.later

pub returns-then-is_end-clause-same : goal.returns-then-is_end-clause-same
returns-then-is_end-clause-same g c = same_trans _ _ _ (same_trans _ _ _ c.loop.invariant.1.same (same_finished c.loop.cpu c.barrier_start.new.cpu c.barrier_start.ensures.same c.barrier_start.ensures.rest)) c.round-came.ensures.same

pub returns-then-is_end-clause-works : goal.returns-then-is_end-clause-works
returns-then-is_end-clause-works g c = works_from_on (λ p x q. goal.F-step g p x tt q) c.args.domain.now c.args.before _ _ _ _ c.barrier_start.new.cpu _ c.loop.served c.and-served.result c.round-came.result.answer c.round-came.result.jobs
    (subst (λ (z : CpuView g.row.J.Denot). WorksFrom (λ p x q. goal.F-step g p x tt q) c.args.domain.now c.args.before c.args.work.now c.args.cpu.now c.loop.served c.loop.work z) (sym c.in_default.ensures.starts) c.loop.invariant.1.works)
    c.round-came.ensures.round c.and-served.ensures.periods c.and-served.ensures.jobs

pub returns-then-is_end-clause-vain : goal.returns-then-is_end-clause-vain
returns-then-is_end-clause-vain g c = vain_from_on (λ p x q. goal.F-step g p x tt q) c.args.domain.now c.args.before _ _ _ _ c.barrier_start.new.cpu _ c.loop.served c.and-served.result c.round-came.result.answer c.round-came.result.jobs
    (subst (λ (z : CpuView g.row.J.Denot). WorksFrom (λ p x q. goal.F-step g p x tt q) c.args.domain.now c.args.before c.args.work.now c.args.cpu.now c.loop.served c.loop.work z) (sym c.in_default.ensures.starts) c.loop.invariant.1.works)
    c.round-came.ensures.round c.and-served.ensures.periods c.and-served.ensures.jobs
    (c.is_end.ensures.0 c.if-is_end.true).0 (c.is_end.ensures.0 c.if-is_end.true).1

pub loop-preserved-then-is_rest : goal.loop-preserved-then-is_rest
loop-preserved-then-is_rest g c = (
  c.round-came.ensures.work,
  record {
    watched = c.look.ensures;
    here = c.round-came.ensures.here;
    still = c.round-came.ensures.none;
    later = begins_on (begins_on c.loop.invariant.1.later c.barrier_start.ensures.acts.adds.since) c.round-came.ensures.later;
    same = same_trans _ _ _ (same_trans _ _ _ c.loop.invariant.1.same (same_finished c.loop.cpu c.barrier_start.new.cpu c.barrier_start.ensures.same c.barrier_start.ensures.rest)) c.round-came.ensures.same;
    works = works_from_on (λ p x q. goal.F-step g p x tt q) c.args.domain.now c.args.before _ _ _ _ c.barrier_start.new.cpu _ c.loop.served c.and-served.result c.round-came.result.answer c.round-came.result.jobs
        (subst (λ (z : CpuView g.row.J.Denot). WorksFrom (λ p x q. goal.F-step g p x tt q) c.args.domain.now c.args.before c.args.work.now c.args.cpu.now c.loop.served c.loop.work z) (sym c.in_default.ensures.starts) c.loop.invariant.1.works)
        c.round-came.ensures.round c.and-served.ensures.periods c.and-served.ensures.jobs;
  },
)

pub loop-preserved : goal.loop-preserved
loop-preserved g c = (
  c.round-came.ensures.work,
  record {
    watched = c.look.ensures;
    here = c.round-came.ensures.here;
    still = c.round-came.ensures.none;
    later = begins_on (begins_on c.loop.invariant.1.later c.barrier_start.ensures.acts.adds.since) c.round-came.ensures.later;
    same = same_trans _ _ _ (same_trans _ _ _ c.loop.invariant.1.same (same_finished c.loop.cpu c.barrier_start.new.cpu c.barrier_start.ensures.same c.barrier_start.ensures.rest)) c.round-came.ensures.same;
    works = works_from_on (λ p x q. goal.F-step g p x tt q) c.args.domain.now c.args.before _ _ _ _ c.barrier_start.new.cpu _ c.loop.served c.and-served.result c.round-came.result.answer c.round-came.result.jobs
        (subst (λ (z : CpuView g.row.J.Denot). WorksFrom (λ p x q. goal.F-step g p x tt q) c.args.domain.now c.args.before c.args.work.now c.args.cpu.now c.loop.served c.loop.work z) (sym c.in_default.ensures.starts) c.loop.invariant.1.works)
        c.round-came.ensures.round c.and-served.ensures.periods c.and-served.ensures.jobs;
  },
)

pub look-requires : goal.look-requires
look-requires g c = c.loop.invariant.1.watched
