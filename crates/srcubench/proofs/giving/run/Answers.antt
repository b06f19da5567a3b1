-- The processors were new ones.
use Rattle.std.proofs.lemmas.Result.{IfOk-weaker}
use Rattle.srcubench.proofs.giving.run.Goals as goal

pub returns-clause-given : goal.returns-clause-given
returns-clause-given g c =
    let made = c.in_ok-domain.field-0 in
    IfOk-weaker c.time_given.result _ _ (λ _ given. record { domain = made.domain; queuers = made.readers.items; giver = made.changer; writer = made.writer; new = c.in_ok-domain.ensures.new; given = given }) c.time_given.ensures.given
