-- As many parts are laid at one processor more.
use Rattle.std.proofs.Common.{◌≡◌, ℕ, ◌-◌, ◌*◌, ◌^◌, sym, ap, ◌∙◌, subst, arith}
use Rattle.parts.specs.declared.part.Part.{Part}
use Rattle.boxes.specs.Laying.{share, LaysSome}
use Rattle.boxes.proofs.Stocks.{keys_stay, has_key, own_same, domain_same, lays_none, lays_more, less_left, has_room, enough_left}
use Rattle.boxes.proofs.laying.lay_all.Goals as goal

pub loop-processor-init : goal.loop-processor-init
loop-processor-init g c = record {
  lays = lays_none _ _ _ c.requires.empty;
  rest = ap (λ (k : ℕ). record c.args.all { count = k }) (c.requires.whole ∙ omega arith);
}

pub split-part-requires : goal.split-part-requires
split-part-requires g c = (omega arith, enough_left c.loop-processor.processor c.args.processors _ (ap (λ (z : Part _). z.count) c.loop-processor.invariant.rest) c.loop-processor-test.true c.requires.keys.most)

pub lay-requires-clause-here : goal.lay-requires-clause-here
lay-requires-clause-here g c = c.requires.here.0 ∙ sym (domain_same _ _ _ c.loop-processor.invariant.lays.same)

pub lay-requires-clause-own : goal.lay-requires-clause-own
lay-requires-clause-own g c = own_same _ _ _ _ c.loop-processor.invariant.lays.same c.requires.own.0

pub lay-requires-clause-key : goal.lay-requires-clause-key
lay-requires-clause-key g c = has_key _ c.args.processors _ _ _ _ c.requires.here.1 c.loop-processor-test.true c.requires.own.1 (keys_stay _ _ _ _ _ c.loop-processor.invariant.lays.same.elsewhere c.requires.keys)

pub lay-requires-clause-room : goal.lay-requires-clause-room
lay-requires-clause-room g c = has_room c.loop-processor.processor c.args.processors _ _ c.args.all.round _ _ _ c.loop-processor-test.true c.requires.keys.most
    (ap (λ (z : Part _). z.count) c.split-part.ensures.part) (ap (λ (z : Part _). z.round) c.split-part.ensures.part ∙ ap (λ (z : Part _). z.round) c.loop-processor.invariant.rest) c.loop-processor.invariant.lays

pub loop-processor-preserved : goal.loop-processor-preserved
loop-processor-preserved g c = let long = c.requires.keys.eight in let low = c.requires.own.1 in record {
  lays = lays_more c.loop-processor.processor _ _ _ _ _ _ _ (omega (arith, long, low)) (ap (λ (z : Part _). z.count) c.split-part.ensures.part)
      (ap (λ (z : Part _). z.round) c.split-part.ensures.part ∙ ap (λ (z : Part _). z.round) c.loop-processor.invariant.rest) c.loop-processor.invariant.lays c.lay.ensures;
  rest = less_left c.loop-processor.processor c.args.all c.loop-processor.rest c.split-part.new.self c.loop-processor.invariant.rest c.split-part.ensures.rest;
}

pub returns-clause-lays : goal.returns-clause-lays
returns-clause-lays g c = let done = c.loop-processor-test.false in let all : c.loop-processor.processor ≡ c.args.processors = omega (arith, done) in
    subst (λ (n : ℕ). LaysSome n c.args.slot.now.slot c.args.all.round c.args.writer.now c.loop-processor.writer) all c.loop-processor.invariant.lays

pub returns-clause-rest : goal.returns-clause-rest
returns-clause-rest g c = let done = c.loop-processor-test.false in let all : c.loop-processor.processor ≡ c.args.processors = omega (arith, done) in
    c.loop-processor.invariant.rest ∙ ap (λ (n : ℕ). record c.args.all { count = 2 ^ 63 - n * share }) all
