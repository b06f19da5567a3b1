use Rattle.scan.proofs.Stepping.{at_error}
use Rattle.scan.proofs.Carrying.{not_yet, goes_on, comes_to, refused, carries_on, leads, leads_no_further, nearer}
use Rattle.scan.proofs.period.carry_on.Goals as goal

pub loop-answer-init : goal.loop-answer-init
loop-answer-init g c = record { ready = c.requires; way = not_yet _ _ }

pub go_on-requires : goal.go_on-requires
go_on-requires g c = c.loop-answer.invariant.ready

pub returns-in_err-answer-clause-carries : goal.returns-in_err-answer-clause-carries
returns-in_err-answer-clause-carries g c =
    let own = c.loop-answer.invariant in
    at_error _ _ _ c.from_residual.ensures.0 (refused g.N.Needs.loads _ _ _ own.ready.some own.ready.history own.way c.in_err-answer.ensures.goes)

pub loop-answer-smaller : goal.loop-answer-smaller
loop-answer-smaller g c =
    let own = c.loop-answer.invariant in
    nearer g.N.Needs.loads _ _ c.in_ok-answer.answer own.ready.some own.ready.history c.in_ok-answer.ensures.goes (leads _ c.in-Started.is)

pub loop-answer-preserved : goal.loop-answer-preserved
loop-answer-preserved g c =
    let own = c.loop-answer.invariant in record {
      ready = c.in_ok-answer.ensures.ready;
      way = goes_on g.N.Needs.loads _ _ c.in_ok-answer.answer (comes_to g.N.Needs.loads _ _ _ own.ready.some own.ready.history c.in_ok-answer.answer own.way c.in_ok-answer.ensures.goes) (leads _ c.in-Started.is);
    }

pub returns-in_default : goal.returns-in_default
returns-in_default g c =
    let own = c.loop-answer.invariant in record {
      ready = c.in_ok-answer.ensures.ready;
      carries = carries_on g.N.Needs.loads _ _ c.in_ok-answer.answer (comes_to g.N.Needs.loads _ _ _ own.ready.some own.ready.history c.in_ok-answer.answer own.way c.in_ok-answer.ensures.goes) (leads_no_further _ c.in_default.not-Started c.in_default.not-Flipped);
    }
