use Rattle.onedom.proofs.Refused.{refused_at, run_on, run_legal}
use Rattle.onedom.proofs.one_domain.legal.Goals as goal
use Rattle.onedom.proofs.one_domain.legal.Goals.{in-Memory, in_default-cause}

pub loop-event-preserved : goal.loop-event-preserved
loop-event-preserved g c = (
  run_on _ _ _ _ _ c.loop-event-test.true c.loop-event.invariant.0 c.in_default.ensures.added,
  run_legal _ _ _ c.loop-event.invariant.1 c.in_default.ensures.legal c.in_default.ensures.added,
)

pub returns-in-Err : goal.returns-in-Err
returns-in-Err g c =
    elim c.match-cause.branch [
      | in-Memory w ↦ rw w.result-is tt
      | in_default-cause w ↦ let illegal = refused_at c.args.events.now _ _ _ _ c.loop-event-test.true c.loop-event.invariant.0 c.in-Err.ensures.refused w.in_default-cause.not-Memory in
          rw w.result-is ((λ h. absurd cc), (λ l. absurd (illegal l)))
    ]
