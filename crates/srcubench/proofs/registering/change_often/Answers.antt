-- The block goes and comes once more.
use Rattle.std.proofs.Common.{◌≡◌, refl, ◌∙◌, subst, arith}
use Rattle.srcubench.specs.Chaining.{ChangesOften}
use Rattle.srcubench.proofs.Chained.{one_changed}
use Rattle.srcubench.proofs.registering.change_often.Goals as goal

pub loop-init : goal.loop-init
loop-init c = record { changes = (refl, refl); here = c.requires.here; chain = c.requires.chain; ids = c.requires.ids }

pub unregister_one-requires-clause-id : goal.unregister_one-requires-clause-id
unregister_one-requires-clause-id c = let ids = c.loop.invariant.ids in omega (arith, ids)

pub register_one-requires-clause-id : goal.register_one-requires-clause-id
register_one-requires-clause-id c = let ids = c.loop.invariant.ids in let same = c.unregister_one.ensures.same.1 in omega (arith, ids, same)

pub loop-preserved : goal.loop-preserved
loop-preserved c =
    let v = c.loop.invariant in record {
      changes = one_changed c.loop.counter c.args.chain.now c.args.cpu.now c.loop.chain c.loop.cpu c.register_one.new.chain c.register_one.new.cpu v.changes (record {
        chain = c.unregister_one.new.chain;
        cpu = c.unregister_one.new.cpu;
        goes = c.in_ok-unregister_one.ensures.unregisters;
        comes = c.in_ok-register_one.ensures.registers;
      });
      here = c.register_one.ensures.here;
      chain = c.register_one.ensures.same.0;
      ids = c.register_one.ensures.same.1 ∙ (c.unregister_one.ensures.same.1 ∙ v.ids);
    }

pub returns : goal.returns
returns c =
    let test = c.loop-test.false in
    let end = c.loop.auto.counter-end in
    let all : c.loop.counter ≡ c.args.rounds = omega (arith, test, end) in
    subst (λ n. ChangesOften n c.args.chain.now c.args.cpu.now c.loop.chain c.loop.cpu) all c.loop.invariant.changes
