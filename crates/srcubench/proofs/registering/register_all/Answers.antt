-- One block more.
use Rattle.std.proofs.Common.{◌≡◌, refl, ◌∙◌, subst, arith}
use Rattle.srcubench.specs.Chaining.{RegistersAll}
use Rattle.srcubench.proofs.Chained.{one_registered}
use Rattle.srcubench.proofs.registering.register_all.Goals as goal

pub loop-id-init : goal.loop-id-init
loop-id-init c = record { registers = (refl, refl); here = c.requires.here; chain = c.requires.chain; ids = refl }

pub register_one-requires-clause-id : goal.register_one-requires-clause-id
register_one-requires-clause-id c =
    let ids = c.loop-id.invariant.ids in
    let few = c.requires.ids in
    let test = c.loop-id-test.true in
    omega (arith, ids, few, test)

pub returns-in_err-register_one-clause-same : goal.returns-in_err-register_one-clause-same
returns-in_err-register_one-clause-same c = (c.register_one.ensures.same.0, c.register_one.ensures.same.1 ∙ c.loop-id.invariant.ids)

pub loop-id-preserved : goal.loop-id-preserved
loop-id-preserved c =
    let v = c.loop-id.invariant in record {
      registers = one_registered c.loop-id.id c.args.chain.now c.args.cpu.now c.loop-id.chain c.loop-id.cpu c.register_one.new.chain c.register_one.new.cpu v.registers c.in_ok-register_one.ensures.registers;
      here = c.register_one.ensures.here;
      chain = c.register_one.ensures.same.0;
      ids = c.register_one.ensures.same.1 ∙ v.ids;
    }

pub returns-clause-same : goal.returns-clause-same
returns-clause-same c = (c.loop-id.invariant.chain, c.loop-id.invariant.ids)

pub returns-clause-registers : goal.returns-clause-registers
returns-clause-registers c =
    let test = c.loop-id-test.false in
    let end = c.loop-id.auto.id-end in
    let all : c.loop-id.id ≡ c.args.blocks = omega (arith, test, end) in
    subst (λ n. RegistersAll n c.args.chain.now c.args.cpu.now c.loop-id.chain c.loop-id.cpu) all c.loop-id.invariant.registers
