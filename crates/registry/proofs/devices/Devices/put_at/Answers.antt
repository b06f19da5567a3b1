-- What was taken out leaves room for another one.
use Rattle.std.proofs.Common.{ap, ◌∙◌, arith}
use Rattle.std.specs.List.{insert}
use Rattle.registry.proofs.Parts.{chosen}
use Rattle.registry.proofs.devices.Devices.put_at.Goals as goal

pub insert-requires : goal.insert-requires
insert-requires g c = let n = c.remove-old.ensures.len in omega (arith, n, c.requires)

pub unwrap-requires : goal.unwrap-requires
unwrap-requires g c =
    let a = c.args.self.now.here.ok in
    let b = c.args.self.now.here.small in
    let n = c.remove-old.ensures.len in
    let cap = c.remove-old.ensures.capacity in
    c.insert.ensures.succeeds (omega (arith, n, cap, a, b, c.requires))

pub returns-clause-here : goal.returns-clause-here
returns-clause-here g c =
    let ds = c.args.self.now.here.items in
    let place = c.args.place in
    let a = c.args.self.now.here.ok in
    let b = c.args.self.now.here.small in
    let n = c.remove-old.ensures.len in
    let cap = c.remove-old.ensures.capacity in
    chosen (insert c.remove-old.new.self.items place c.args.device) c.remove-old.new.self.items c.insert.new.self.items c.insert.result c.insert.ensures.items (c.insert.ensures.succeeds (omega (arith, n, cap, a, b, c.requires))) ∙ ap (λ xs. insert xs place c.args.device) c.remove-old.ensures.items

pub returns-clause-old : goal.returns-clause-old
returns-clause-old g c = c.remove-old.ensures.value
