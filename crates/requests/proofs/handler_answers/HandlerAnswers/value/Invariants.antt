use Rattle.requests.proofs.Values.{IsTold}
use Rattle.requests.proofs.handler_answers.HandlerAnswers.value.Given as goal

abbrev pub invariant-loop-id : goal.invariant-loop-id
invariant-loop-id l = IsTold l.self.by_id l.id l.value
