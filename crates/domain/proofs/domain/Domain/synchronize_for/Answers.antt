use Rattle.std.proofs.Common.{inr, sym, ◌∙◌, subst}
use Rattle.sections.specs.Views.{CookieView}
use Rattle.domain.proofs.Sameness.{same_trans, same_polled}
use Rattle.domain.proofs.Synchronizing.{HasWaited, turned, begins, turns, asks_in_vain, synchronizes, waits_in_vain, waited_for, still_none, none_in_vain}
use Rattle.domain.specs.Limited.{TimesOut}
use Rattle.domain.proofs.Limited.{times_out, none_timed_out}
use Rattle.domain.proofs.domain.Domain.synchronize_for.Goals as goal

pub loop-init : goal.loop-init
loop-init g c = record { can = (tt, tt); waited = begins _ _ _ _ c.start_poll-cookie.ensures.here c.start_poll-cookie.ensures.starts }

pub poll-requires : goal.poll-requires
poll-requires g c = let h = turns _ _ _ _ _ c.loop.invariant.waited c.in-Ok.ensures.here (turned _ _ _ c.in-Ok.ensures.turns) in inr (h.of_domain ∙ sym h.same.cpu.0)

pub returns-in-Err-clause-waits : goal.returns-in-Err-clause-waits
returns-in-Err-clause-waits g c = waits_in_vain _ _ _ _ _ c.loop.invariant.waited c.in-Err.ensures.turns

pub returns-in-Err-clause-still_none : goal.returns-in-Err-clause-still_none
returns-in-Err-clause-still_none g c = none_in_vain _ _ c.requires.none (returns-in-Err-clause-waits g c)

pub returns-then-poll-clause-waits : goal.returns-then-poll-clause-waits
returns-then-poll-clause-waits g c =
    let h = turns _ _ _ _ _ c.loop.invariant.waited c.in-Ok.ensures.here (turned _ _ _ c.in-Ok.ensures.turns) in
    synchronizes _ _ _ _ _ _ _ h c.in-Ok.ensures.turns c.if-poll.ensures.asks c.poll.ensures.rest (c.poll.ensures.closed c.if-poll.true)

pub returns-then-poll-clause-same : goal.returns-then-poll-clause-same
returns-then-poll-clause-same g c =
    let h = turns _ _ _ _ _ c.loop.invariant.waited c.in-Ok.ensures.here (turned _ _ _ c.in-Ok.ensures.turns) in
    same_trans _ _ _ h.same (same_polled _ _ c.if-poll.ensures.asks.adds.same c.poll.ensures.rest)

pub returns-then-poll-clause-still_none : goal.returns-then-poll-clause-still_none
returns-then-poll-clause-still_none g c = still_none _ _ c.requires.none (returns-then-poll-clause-waits g c)

pub returns-then-poll-clause-closed : goal.returns-then-poll-clause-closed
returns-then-poll-clause-closed g c = waited_for _ _ (returns-then-poll-clause-waits g c)

pub returns-then-is_over-clause-waits : goal.returns-then-is_over-clause-waits
returns-then-is_over-clause-waits g c =
    let h = turns _ _ _ _ _ c.loop.invariant.waited c.in-Ok.ensures.here (turned _ _ _ c.in-Ok.ensures.turns) in
    subst (λ (k : CookieView). TimesOut k c.args.cpu.now c.poll.new.self) (sym c.poll.ensures.cookie) (times_out _ _ _ _ _ _ _ h c.in-Ok.ensures.turns c.if-poll.ensures.asks c.poll.ensures.rest)

pub returns-then-is_over-clause-same : goal.returns-then-is_over-clause-same
returns-then-is_over-clause-same g c =
    let h = turns _ _ _ _ _ c.loop.invariant.waited c.in-Ok.ensures.here (turned _ _ _ c.in-Ok.ensures.turns) in
    same_trans _ _ _ h.same (same_polled _ _ c.if-poll.ensures.asks.adds.same c.poll.ensures.rest)

pub returns-then-is_over-clause-still_none : goal.returns-then-is_over-clause-still_none
returns-then-is_over-clause-still_none g c = none_timed_out _ _ _ c.requires.none (returns-then-is_over-clause-waits g c)

pub loop-preserved : goal.loop-preserved
loop-preserved g c =
    let h = turns _ _ _ _ _ c.loop.invariant.waited c.in-Ok.ensures.here (turned _ _ _ c.in-Ok.ensures.turns) in
    record {
      can = (tt, tt);
      waited = subst (λ (k : CookieView). HasWaited c.args.self.now c.args.cpu.now k c.poll.new.self c.poll.new.self) (sym c.poll.ensures.cookie) (asks_in_vain _ _ _ _ _ _ _ h c.in-Ok.ensures.turns c.if-poll.ensures.asks c.poll.ensures.rest);
    }
