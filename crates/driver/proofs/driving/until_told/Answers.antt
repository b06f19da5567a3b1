-- One more round, and a look at the sign.
use Rattle.calls.proofs.CallerLemmas.{begins_itself, begins_on}
use Rattle.domain.proofs.CallerLemmas.{none_at_tallies, same_trans, same_finished}
use Rattle.driver.proofs.Rows.{same_itself, works_none, works_on, works_polled, vain_on}
use Rattle.driver.proofs.driving.until_told.Goals as goal

pub loop-init : goal.loop-init
loop-init g c = (
  c.requires.work,
  record {
    watched = c.requires.watcher;
    here = c.requires.here;
    still = c.requires.none;
    later = begins_itself _;
    same = same_itself _;
    works = works_none (λ p x q. goal.F-step g p x tt q) c.args.domain.now c.args.work.now c.args.cpu.now c.nothing-served.result c.nothing-served.ensures.periods c.nothing-served.ensures.jobs;
  },
)

pub round-came-requires-clause-here : goal.round-came-requires-clause-here
round-came-requires-clause-here g c = c.loop.invariant.1.here

pub round-came-requires-clause-none : goal.round-came-requires-clause-none
round-came-requires-clause-none g c = c.loop.invariant.1.still

pub round-came-requires-clause-work : goal.round-came-requires-clause-work
round-came-requires-clause-work g c = c.loop.invariant.0

pub returns-then-is_end-clause-later : goal.returns-then-is_end-clause-later
returns-then-is_end-clause-later g c = begins_on c.loop.invariant.1.later c.round-came.ensures.later

pub returns-then-is_end-clause-same : goal.returns-then-is_end-clause-same
returns-then-is_end-clause-same g c = same_trans _ _ _ c.loop.invariant.1.same c.round-came.ensures.same

pub returns-then-is_end-clause-works : goal.returns-then-is_end-clause-works
returns-then-is_end-clause-works g c =
    works_on (λ p x q. goal.F-step g p x tt q) c.args.domain.now _ _ _ _ _ _ c.loop.served c.and-served.result c.round-came.result.answer c.round-came.result.jobs c.loop.invariant.1.works c.round-came.ensures.round c.and-served.ensures.periods c.and-served.ensures.jobs

pub returns-then-is_end-clause-vain : goal.returns-then-is_end-clause-vain
returns-then-is_end-clause-vain g c = vain_on (λ p x q. goal.F-step g p x tt q) c.args.domain.now _ _ _ _ _ _ c.loop.served c.and-served.result c.round-came.result.answer
    c.round-came.result.jobs c.loop.invariant.1.works c.round-came.ensures.round c.and-served.ensures.periods c.and-served.ensures.jobs (c.is_end.ensures.0 c.if-is_end.true).0 (c.is_end.ensures.0 c.if-is_end.true).1

pub returns-in-Some-poll-clause-none : goal.returns-in-Some-poll-clause-none
returns-in-Some-poll-clause-none g c = none_at_tallies c.round-came.new.cpu c.poll.new.cpu c.round-came.ensures.none c.poll.ensures.rest

pub returns-in-Some-poll-clause-later : goal.returns-in-Some-poll-clause-later
returns-in-Some-poll-clause-later g c = begins_on (begins_on c.loop.invariant.1.later c.round-came.ensures.later) c.poll.ensures.later

pub returns-in-Some-poll-clause-same : goal.returns-in-Some-poll-clause-same
returns-in-Some-poll-clause-same g c = same_trans _ _ _ (same_trans _ _ _ c.loop.invariant.1.same c.round-came.ensures.same) (same_finished c.round-came.new.cpu c.poll.new.cpu c.poll.ensures.same c.poll.ensures.rest)

pub returns-in-Some-poll-clause-works : goal.returns-in-Some-poll-clause-works
returns-in-Some-poll-clause-works g c = works_polled (λ p x q. goal.F-step g p x tt q) c.args.domain.now _ _ _ c.round-came.new.cpu c.poll.new.cpu c.and-served.result
    (works_on (λ p x q. goal.F-step g p x tt q) c.args.domain.now _ _ _ _ _ _ c.loop.served c.and-served.result c.round-came.result.answer c.round-came.result.jobs c.loop.invariant.1.works c.round-came.ensures.round c.and-served.ensures.periods c.and-served.ensures.jobs) c.poll.ensures.polled

pub loop-preserved-then-is_idle : goal.loop-preserved-then-is_idle
loop-preserved-then-is_idle g c = (
  c.round-came.ensures.work,
  record {
    watched = c.look.ensures;
    here = c.poll.ensures.here;
    still = none_at_tallies c.round-came.new.cpu c.poll.new.cpu c.round-came.ensures.none c.poll.ensures.rest;
    later = begins_on (begins_on c.loop.invariant.1.later c.round-came.ensures.later) c.poll.ensures.later;
    same = same_trans _ _ _ (same_trans _ _ _ c.loop.invariant.1.same c.round-came.ensures.same) (same_finished c.round-came.new.cpu c.poll.new.cpu c.poll.ensures.same c.poll.ensures.rest);
    works = works_polled (λ p x q. goal.F-step g p x tt q) c.args.domain.now _ _ _ c.round-came.new.cpu c.poll.new.cpu c.and-served.result
        (works_on (λ p x q. goal.F-step g p x tt q) c.args.domain.now _ _ _ _ _ _ c.loop.served c.and-served.result c.round-came.result.answer c.round-came.result.jobs c.loop.invariant.1.works c.round-came.ensures.round c.and-served.ensures.periods c.and-served.ensures.jobs) c.poll.ensures.polled;
  },
)

pub loop-preserved-then-is_rest : goal.loop-preserved-then-is_rest
loop-preserved-then-is_rest g c = (
  c.round-came.ensures.work,
  record {
    watched = c.look.ensures;
    here = c.poll.ensures.here;
    still = none_at_tallies c.round-came.new.cpu c.poll.new.cpu c.round-came.ensures.none c.poll.ensures.rest;
    later = begins_on (begins_on c.loop.invariant.1.later c.round-came.ensures.later) c.poll.ensures.later;
    same = same_trans _ _ _ (same_trans _ _ _ c.loop.invariant.1.same c.round-came.ensures.same) (same_finished c.round-came.new.cpu c.poll.new.cpu c.poll.ensures.same c.poll.ensures.rest);
    works = works_polled (λ p x q. goal.F-step g p x tt q) c.args.domain.now _ _ _ c.round-came.new.cpu c.poll.new.cpu c.and-served.result
        (works_on (λ p x q. goal.F-step g p x tt q) c.args.domain.now _ _ _ _ _ _ c.loop.served c.and-served.result c.round-came.result.answer c.round-came.result.jobs c.loop.invariant.1.works c.round-came.ensures.round c.and-served.ensures.periods c.and-served.ensures.jobs) c.poll.ensures.polled;
  },
)

pub loop-preserved : goal.loop-preserved
loop-preserved g c = (
  c.round-came.ensures.work,
  record {
    watched = c.look.ensures;
    here = c.poll.ensures.here;
    still = none_at_tallies c.round-came.new.cpu c.poll.new.cpu c.round-came.ensures.none c.poll.ensures.rest;
    later = begins_on (begins_on c.loop.invariant.1.later c.round-came.ensures.later) c.poll.ensures.later;
    same = same_trans _ _ _ (same_trans _ _ _ c.loop.invariant.1.same c.round-came.ensures.same) (same_finished c.round-came.new.cpu c.poll.new.cpu c.poll.ensures.same c.poll.ensures.rest);
    works = works_polled (λ p x q. goal.F-step g p x tt q) c.args.domain.now _ _ _ c.round-came.new.cpu c.poll.new.cpu c.and-served.result
        (works_on (λ p x q. goal.F-step g p x tt q) c.args.domain.now _ _ _ _ _ _ c.loop.served c.and-served.result c.round-came.result.answer c.round-came.result.jobs c.loop.invariant.1.works c.round-came.ensures.round c.and-served.ensures.periods c.and-served.ensures.jobs) c.poll.ensures.polled;
  },
)

pub look-requires : goal.look-requires
look-requires g c = c.loop.invariant.1.watched
