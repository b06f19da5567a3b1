-- One part of one device comes home.
use Rattle.std.proofs.Common.{◌≡◌, sym, subst, arith}
use Rattle.registry.specs.declared.device.Device.{Device}
use Rattle.registry.proofs.Parts.{home_none, home_set, no_other, same_round}
use Rattle.registry.proofs.devices.Devices.take_one_home.Goals as goal

pub take_home-requires : goal.take_home-requires
take_home-requires g c =
    let h = c.requires.numbered in
    let d = c.index_mut-device.result.now in
    let r = c.index_mut-device.ensures.value in
    same_round h.0 c.args.entry c.args.self.now.here.items c.in-Some.place d h.1 h.2.here_are c.in-Some.ensures.0 r (subst (λ (z : Device _ _ _). z.number ≡ c.args.entry.number) (sym r) (c.in-Some.ensures.1 d))

pub returns-in-Some-clause-here : goal.returns-in-Some-clause-here
returns-in-Some-clause-here g c =
    let d = c.index_mut-device.result.now in
    let r = c.index_mut-device.ensures.value in
    let one = c.requires.numbered.2.one c.args.entry.number in
    home_set c.args.entry c.args.self.now.here.items c.in-Some.place d c.take_home.new.self c.in-Some.ensures.0 r c.take_home.ensures (subst (λ (z : Device _ _ _). z.number ≡ c.args.entry.number) (sym r) (c.in-Some.ensures.1 d)) (omega (arith, one))

pub returns-in-Some-clause-leaving : goal.returns-in-Some-clause-leaving
returns-in-Some-clause-leaving g c = home_none c.args.entry c.args.self.now.leaving.items (no_other c.args.entry.number c.args.self.now.here.items c.args.self.now.leaving.items c.in-Some.place c.in-Some.ensures.0 c.in-Some.ensures.1 (c.requires.numbered.2.one c.args.entry.number))

pub take_one_left-requires-clause-numbered : goal.take_one_left-requires-clause-numbered
take_one_left-requires-clause-numbered g c = (c.requires.numbered.0, c.requires.numbered.1, c.requires.numbered.2.leaving_are)

pub take_one_left-requires-clause-one : goal.take_one_left-requires-clause-one
take_one_left-requires-clause-one g c = let one = c.requires.numbered.2.one c.args.entry.number in omega (arith, one)

pub returns-in-None-clause-here : goal.returns-in-None-clause-here
returns-in-None-clause-here g c = rw c.take_one_left.ensures.here (home_none c.args.entry c.args.self.now.here.items c.in-None.ensures)
