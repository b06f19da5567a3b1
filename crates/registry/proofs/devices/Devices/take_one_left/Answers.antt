-- One part of one device comes home, or none has it.
use Rattle.std.proofs.Common.{◌<◌, ◌≤◌, [], ◌∷◌, List, All, length, set, sym, ap, ◌∙◌, subst, arith}
use Rattle.std.proofs.lemmas.List.{get_or_read}
use Rattle.registry.specs.declared.device.Device.{Device}
use Rattle.registry.specs.Names.{ComesHome, HasItsNumber, times_here}
use Rattle.registry.proofs.Parts.{home_none, home_set, same_round}
use Rattle.registry.proofs.devices.Devices.take_one_left.Goals as goal

pub take_home-requires : goal.take_home-requires
take_home-requires g c =
    let s = c.loop-place.self.leaving.items in
    let i = c.loop-place.place in
    let h = c.requires.numbered in
    let n = ap (λ z. length z.leaving.items) c.loop-place.invariant.same in
    let test = c.loop-place-test.true in
    let end = c.len-place-end.ensures in
    let l : i < length s = omega (arith, n, test, end) in
    let d = c.index_mut-device.result.now in
    let r = c.index_mut-device.ensures.value in
    let number = ap (λ z. z.number) (get_or_read s i d l r c.index.result.now ∙ sym c.index.ensures) ∙ c.if-index-entry.true in
    same_round h.0 c.args.entry s i d h.1 (subst (λ (xs : List (Device _ _ _)). All (HasItsNumber h.0) xs) (ap (λ z. z.leaving.items) (sym c.loop-place.invariant.same)) h.2) l r number

pub returns-then-index-entry-clause-leaving : goal.returns-then-index-entry-clause-leaving
returns-then-index-entry-clause-leaving g c =
    let s = c.loop-place.self.leaving.items in
    let i = c.loop-place.place in
    let same = ap (λ z. z.leaving.items) c.loop-place.invariant.same in
    let n = ap length same in
    let test = c.loop-place-test.true in
    let end = c.len-place-end.ensures in
    let l : i < length s = omega (arith, n, test, end) in
    let d = c.index_mut-device.result.now in
    let r = c.index_mut-device.ensures.value in
    let number = ap (λ z. z.number) (get_or_read s i d l r c.index.result.now ∙ sym c.index.ensures) ∙ c.if-index-entry.true in
    subst (λ (xs : List (Device _ _ _)). ComesHome (c.args.entry ∷ []) xs (set s i c.take_home.new.self)) same
    (home_set c.args.entry s i d c.take_home.new.self l r c.take_home.ensures number (subst (λ (xs : List (Device _ _ _)). times_here c.args.entry.number xs ≤ 1) (sym same) c.requires.one))

pub returns-clause-leaving : goal.returns-clause-leaving
returns-clause-leaving g c =
    let test = c.loop-place-test.false in
    let end = c.len-place-end.ensures in
    rw c.loop-place.invariant.same (home_none c.args.entry c.args.self.now.leaving.items (λ k d l. c.loop-place.invariant.others k d (omega arith) (omega (arith, l, test, end))))
