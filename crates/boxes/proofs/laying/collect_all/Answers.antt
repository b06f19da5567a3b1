-- The parts at one processor more came.
use Rattle.std.proofs.Common.{◌≡◌, ℕ, ◌+◌, ◌<◌, length, sym, ap, ◌∙◌, subst, arith}
use Rattle.vault.specs.Rule.{count_of}
use Rattle.sections.specs.Boxes.{Collects}
use Rattle.boxes.specs.Laying.{CollectsSome}
use Rattle.boxes.proofs.Stocks.{keys_stay, has_key, own_same, domain_same, none_counts, collects_none, collects_more}
use Rattle.boxes.proofs.laying.collect_all.Goals as goal
use Rattle.boxes.proofs.laying.collect_all.Goals.{in-Some, in_default}

pub loop-processor-init : goal.loop-processor-init
loop-processor-init g c = collects_none _ _ _ _ c.requires.new c.requires.keys.some

pub collect-found-requires-clause-here : goal.collect-found-requires-clause-here
collect-found-requires-clause-here g c = c.requires.here.0 ∙ sym (domain_same _ _ _ c.loop-processor.invariant.same)

pub collect-found-requires-clause-own : goal.collect-found-requires-clause-own
collect-found-requires-clause-own g c = own_same _ _ _ _ c.loop-processor.invariant.same c.requires.own.0

pub collect-found-requires-clause-key : goal.collect-found-requires-clause-key
collect-found-requires-clause-key g c = has_key _ c.args.processors _ _ _ _ c.requires.here.1 c.loop-processor-test.true c.requires.own.1 (keys_stay _ _ _ _ _ c.loop-processor.invariant.same.elsewhere c.requires.keys)

pub loop-processor-preserved : goal.loop-processor-preserved
loop-processor-preserved g c =
    let long = c.requires.keys.eight in
    let low = c.requires.own.1 in
    let lt : c.args.slot.now.slot < length c.args.writer.now.plan.banks = omega (arith, long, low) in
    let step : Collects c.args.processors c.loop-processor.processor c.args.slot.now.slot c.loop-processor.writer c.collect-found.new.self c.collect-found.result =
    subst (λ (n : ℕ). Collects n c.loop-processor.processor c.args.slot.now.slot c.loop-processor.writer c.collect-found.new.self c.collect-found.result) c.requires.here.1 c.collect-found.ensures in
    let had : ℕ = c.loop-processor.all.count in
    elim c.match-found.branch [
      | in-Some w ↦ collects_more c.args.processors c.loop-processor.processor c.args.slot.now.slot (had + w.in-Some.field-0.part.count) _ _ _ _ _ _ _ lt c.loop-processor.invariant step (ap (λ o. had + count_of o) (sym w.in-Some.is)) (w.all-is ∙ w.join.ensures.sum)
      | in_default w ↦ collects_more c.args.processors c.loop-processor.processor c.args.slot.now.slot had _ _ _ _ _ _ _ lt c.loop-processor.invariant step (let none = none_counts c.collect-found.result w.in_default.not-Some in omega (arith, none)) w.all-is
    ]

pub returns : goal.returns
returns g c = let done = c.loop-processor-test.false in let all : c.loop-processor.processor ≡ c.args.processors = omega (arith, done) in record {
  collects = subst (λ (n : ℕ). CollectsSome c.args.processors n c.args.slot.now.slot c.args.writer.now c.loop-processor.writer c.args.rest c.loop-processor.all) all c.loop-processor.invariant;
}
