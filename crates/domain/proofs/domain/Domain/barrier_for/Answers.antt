use Rattle.domain.proofs.Polling.{polls_none, polls_in_vain, polls_until_done, rest_at_the_end, none_at_tallies}
use Rattle.domain.proofs.Acting.{barrier_waits}
use Rattle.domain.proofs.Limited.{polls_in_vain_at_last, vain_acts}
use Rattle.domain.proofs.domain.Domain.barrier_for.Goals as goal

pub loop-init : goal.loop-init
loop-init g c = record { can = (tt, tt); polled = polls_none _ _ _ c.requires.domain }

pub barrier_poll-requires : goal.barrier_poll-requires
barrier_poll-requires g c = record { domain = c.loop.invariant.polled.here; ticket = c.requires.ticket }

pub loop-preserved : goal.loop-preserved
loop-preserved g c = record { can = (tt, tt); polled = polls_in_vain _ _ _ _ _ c.loop.invariant.polled c.barrier_poll.ensures.here c.if-barrier_poll.ensures.polls c.barrier_poll.ensures.rest }

pub returns-then-barrier_poll-clause-waits : goal.returns-then-barrier_poll-clause-waits
returns-then-barrier_poll-clause-waits g c = polls_until_done _ _ _ c.barrier_poll.new.cpu _ c.loop.invariant.polled c.if-barrier_poll.ensures.polls

pub returns-then-barrier_poll-clause-same : goal.returns-then-barrier_poll-clause-same
returns-then-barrier_poll-clause-same g c = (polls_until_done _ _ _ c.barrier_poll.new.cpu _ c.loop.invariant.polled c.if-barrier_poll.ensures.polls).loads.same

pub returns-then-barrier_poll-clause-rest : goal.returns-then-barrier_poll-clause-rest
returns-then-barrier_poll-clause-rest g c = rest_at_the_end _ _ _ _ _ c.loop.invariant.polled c.barrier_poll.ensures.rest

pub returns-then-barrier_poll-clause-still_none : goal.returns-then-barrier_poll-clause-still_none
returns-then-barrier_poll-clause-still_none g c = none_at_tallies c.args.cpu.now c.barrier_poll.new.cpu c.requires.none (rest_at_the_end _ _ _ c.barrier_poll.new.cpu _ c.loop.invariant.polled c.barrier_poll.ensures.rest)

pub returns-then-barrier_poll-clause-acts : goal.returns-then-barrier_poll-clause-acts
returns-then-barrier_poll-clause-acts g c = barrier_waits c.args.cpu.now c.barrier_poll.new.cpu (rest_at_the_end _ _ _ _ _ c.loop.invariant.polled c.barrier_poll.ensures.rest) (polls_until_done _ _ _ c.barrier_poll.new.cpu _ c.loop.invariant.polled c.if-barrier_poll.ensures.polls)

pub returns-then-is_over-clause-waits : goal.returns-then-is_over-clause-waits
returns-then-is_over-clause-waits g c = polls_in_vain_at_last _ _ _ c.barrier_poll.new.cpu _ c.loop.invariant.polled c.if-barrier_poll.ensures.polls

pub returns-then-is_over-clause-same : goal.returns-then-is_over-clause-same
returns-then-is_over-clause-same g c = (returns-then-is_over-clause-waits g c).loads.same

pub returns-then-is_over-clause-rest : goal.returns-then-is_over-clause-rest
returns-then-is_over-clause-rest g c = rest_at_the_end _ _ _ _ _ c.loop.invariant.polled c.barrier_poll.ensures.rest

pub returns-then-is_over-clause-still_none : goal.returns-then-is_over-clause-still_none
returns-then-is_over-clause-still_none g c = none_at_tallies c.args.cpu.now c.barrier_poll.new.cpu c.requires.none (rest_at_the_end _ _ _ c.barrier_poll.new.cpu _ c.loop.invariant.polled c.barrier_poll.ensures.rest)

pub returns-then-is_over-clause-acts : goal.returns-then-is_over-clause-acts
returns-then-is_over-clause-acts g c = vain_acts c.args.cpu.now c.barrier_poll.new.cpu (rest_at_the_end _ _ _ _ _ c.loop.invariant.polled c.barrier_poll.ensures.rest) _ (polls_in_vain_at_last _ _ _ c.barrier_poll.new.cpu _ c.loop.invariant.polled c.if-barrier_poll.ensures.polls)
