-- First the rounds until it was told to stop, then those until a barrier of its own is started, then those until that is done.
use Rattle.std.proofs.Common.{arith}
use Rattle.calls.proofs.CallerLemmas.{begins_on, queued_later}
use Rattle.driver.proofs.Rows.{works_then, vain_then}
use Rattle.driver.proofs.Ending.{done_later, started_later, started_earlier}
use Rattle.driver.proofs.driving.serve_watched.Goals as goal

pub returns-in-Err-until_started-clause-works : goal.returns-in-Err-until_started-clause-works
returns-in-Err-until_started-clause-works g c = (
  c.until_started.new.work,
  works_then (λ p x q. goal.F-step g p x tt q) c.args.domain.now c.args.work c.until_told.new.work c.until_started.new.work c.args.cpu.now
      c.until_told.new.cpu c.until_started.new.cpu c.in-Ok.stopped.served c.in-Err-until_started.served c.in-Ok.ensures.works c.in-Err-until_started.ensures.works,
)

pub returns-in-Err-until_started-clause-vain : goal.returns-in-Err-until_started-clause-vain
returns-in-Err-until_started-clause-vain g c = (
  c.until_started.new.work,
  vain_then (λ p x q. goal.F-step g p x tt q) c.args.domain.now c.args.work c.until_told.new.work c.until_started.new.work c.args.cpu.now
      c.until_told.new.cpu c.until_started.new.cpu c.in-Ok.stopped.served c.in-Err-until_started.served c.in-Ok.ensures.works c.in-Err-until_started.ensures.vain,
)

pub returns-in-Ok-until_done-clause-works : goal.returns-in-Ok-until_done-clause-works
returns-in-Ok-until_done-clause-works g c = (
  c.until_done.new.work,
  works_then (λ p x q. goal.F-step g p x tt q) c.args.domain.now c.args.work c.until_started.new.work c.until_done.new.work c.args.cpu.now c.until_started.new.cpu c.until_done.new.cpu c.in-Ok-until_started.started.0 c.in-Ok-until_done.served
      (works_then (λ p x q. goal.F-step g p x tt q) c.args.domain.now c.args.work c.until_told.new.work c.until_started.new.work c.args.cpu.now c.until_told.new.cpu
      c.until_started.new.cpu c.in-Ok.stopped.served c.in-Ok-until_started.started.0 c.in-Ok.ensures.works c.in-Ok-until_started.ensures.works) c.in-Ok-until_done.ensures.works,
)

pub returns-in-Ok-until_done-clause-told : goal.returns-in-Ok-until_done-clause-told
returns-in-Ok-until_done-clause-told g c = let w = c.in-Ok.ensures.told in record { word = w.word; says = w.says; done = done_later w.word _ _ (begins_on c.until_started.ensures.later c.until_done.ensures.later) w.done }

pub returns-in-Ok-until_done-clause-stopped : goal.returns-in-Ok-until_done-clause-stopped
returns-in-Ok-until_done-clause-stopped g c = record {
  ticket = c.in-Ok-until_started.started.1;
  started = started_later c.args.cpu.now c.until_started.new.cpu c.until_done.new.cpu _ (started_earlier c.args.cpu.now c.until_told.new.cpu c.until_started.new.cpu _ c.until_told.ensures.same.calls c.until_told.ensures.later c.in-Ok-until_started.ensures.starts) c.until_done.ensures.later;
  done = c.in-Ok-until_done.ensures.done.0;
}

pub returns-in-Ok-until_done-clause-finished : goal.returns-in-Ok-until_done-clause-finished
returns-in-Ok-until_done-clause-finished g c = λ r lt queued.
    let more = queued_later r.processor c.until_told.ensures.later in
    c.in-Ok-until_done.ensures.done.1 r (c.in-Ok-until_started.ensures.covers r lt (omega (arith, queued, more)))

pub returns-clause-works : goal.returns-clause-works
returns-clause-works g c = (
  c.until_done.new.work,
  works_then (λ p x q. goal.F-step g p x tt q) c.args.domain.now c.args.work c.until_started.new.work c.until_done.new.work c.args.cpu.now c.until_started.new.cpu c.until_done.new.cpu c.in-Ok-until_started.started.0 c.in-Err-until_done.served
      (works_then (λ p x q. goal.F-step g p x tt q) c.args.domain.now c.args.work c.until_told.new.work c.until_started.new.work c.args.cpu.now c.until_told.new.cpu
      c.until_started.new.cpu c.in-Ok.stopped.served c.in-Ok-until_started.started.0 c.in-Ok.ensures.works c.in-Ok-until_started.ensures.works) c.in-Err-until_done.ensures.works,
)

pub returns-clause-vain : goal.returns-clause-vain
returns-clause-vain g c = (
  c.until_done.new.work,
  vain_then (λ p x q. goal.F-step g p x tt q) c.args.domain.now c.args.work c.until_started.new.work c.until_done.new.work c.args.cpu.now c.until_started.new.cpu c.until_done.new.cpu c.in-Ok-until_started.started.0 c.in-Err-until_done.served
      (works_then (λ p x q. goal.F-step g p x tt q) c.args.domain.now c.args.work c.until_told.new.work c.until_started.new.work c.args.cpu.now c.until_told.new.cpu
      c.until_started.new.cpu c.in-Ok.stopped.served c.in-Ok-until_started.started.0 c.in-Ok.ensures.works c.in-Ok-until_started.ensures.works) c.in-Err-until_done.ensures.vain,
)
