use Rattle.std.proofs.Common.{◌≡◌, length, refl, arith}
use Rattle.requests.specs.declared.handler_answers.Answer.TheVariants.{Done}
use Rattle.requests.proofs.Values.{one_more_told}
use Rattle.requests.proofs.handler_answers.HandlerAnswers.value.Goals as goal

pub loop-id-preserved : goal.loop-id-preserved
loop-id-preserved c =
    let long : length c.args.self.now.by_id ≡ 16 = omega arith in
    one_more_told c.args.self.now.by_id c.loop-id.id _ Done c.loop-id.value c.code.result long c.loop-id-test.true refl c.code.ensures c.loop-id.invariant
