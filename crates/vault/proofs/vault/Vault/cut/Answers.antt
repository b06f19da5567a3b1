use Rattle.std.proofs.Common.{◌≡◌, ℕ, ◌-◌, sym, ap, ◌∙◌, subst, arith, Option}
use Rattle.parts.specs.declared.part.Part.{Part}
use Rattle.vault.specs.declared.pile.Pile.{Pile}
use Rattle.vault.specs.declared.key.Tally.{Tally}
use Rattle.vault.specs.Rule.{Lies}
use Rattle.vault.proofs.CallerLemmas.{same_key}
use Rattle.vault.proofs.vault.Vault.cut.Goals as goal

pub shut-requires-clause-key : goal.shut-requires-clause-key
shut-requires-clause-key g c = let k = c.requires.key in ap (λ (z : Tally). z.key) (c.open-seat.ensures.key k.0 k.1 k.2).0

pub returns-in_default : goal.returns-in_default
returns-in_default g c = λ had round is. let had_it = c.open-seat.ensures.key had round is in let none : had ≡ 0 = subst (λ (z : Option (Pile g.row.T.Denot)). Lies z had round) c.in_default.is had_it.1 in
    (omega (arith, none), same_key c.args.self.now c.args.place 0 had _ round c.shut.result c.shut.ensures (sym none) (ap (λ (z : Tally). z.round) had_it.0))

pub shut-requires-then-pile-count-clause-key : goal.shut-requires-then-pile-count-clause-key
shut-requires-then-pile-count-clause-key g c = let k = c.requires.key in ap (λ (z : Tally). z.key) (c.open-seat.ensures.key k.0 k.1 k.2).0

pub returns-then-pile-count : goal.returns-then-pile-count
returns-then-pile-count g c = λ had round is. let pile = c.in-Some.pile in let there = subst (λ (z : Option (Pile g.row.T.Denot)). Lies z had round) c.in-Some.is (c.open-seat.ensures.key had round is).1 in
    let few = c.if-pile-count.true in let counted = pile.counted in let many = there.0 in
    (omega (arith, few, counted, many), same_key c.args.self.now c.args.place pile.part.count had pile.part.round round c.shut-then-pile-count.result c.shut-then-pile-count.ensures there.0 there.1)

pub shut-requires-2-clause-key : goal.shut-requires-2-clause-key
shut-requires-2-clause-key g c = let k = c.requires.key in ap (λ (z : Tally). z.key) (c.open-seat.ensures.key k.0 k.1 k.2).0

pub returns : goal.returns
returns g c = λ had round is. let pile = c.in-Some.pile in let there = subst (λ (z : Option (Pile g.row.T.Denot)). Lies z had round) c.in-Some.is (c.open-seat.ensures.key had round is).1 in
    let more = c.if-pile-count.false in let counted = pile.counted in let many = there.0 in let cut = c.split-rest.ensures in let rest = c.split-rest.result.0.part in (
      omega (arith, more, counted, many),
      ap (λ (z : Part g.row.T.Denot). z.count) cut.part,
      ap (λ (z : Part g.row.T.Denot). z.round) cut.part ∙ there.1,
      same_key c.args.self.now c.args.place rest.count (had - c.args.count) rest.round round c.shut-2.result c.shut-2.ensures (ap (λ (z : Part g.row.T.Denot). z.count) cut.rest ∙ ap (λ (j : ℕ). j - c.args.count) there.0) (ap (λ (z : Part g.row.T.Denot). z.round) cut.rest ∙ there.1),
    )
