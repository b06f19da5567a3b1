use Rattle.std.proofs.Common.{◌≡◌, ℕ, ◌+◌, sym, ap, ◌∙◌, subst, arith, Option}
use Rattle.parts.specs.declared.part.Part.{Part}
use Rattle.vault.specs.declared.pile.Pile.{Pile}
use Rattle.vault.specs.declared.key.Tally.{Tally}
use Rattle.vault.specs.Rule.{Lies}
use Rattle.vault.proofs.CallerLemmas.{same_key}
use Rattle.vault.proofs.vault.Vault.add.Goals.{in-Some, in-None}
use Rattle.vault.proofs.vault.Vault.add.Goals as goal

pub join-all-requires : goal.join-all-requires
join-all-requires g c = let k = c.requires in let pile = c.in-Some.pile in let there = subst (λ (z : Option (Pile g.row.T.Denot)). Lies z k.0 k.1) c.in-Some.is (c.open-seat.ensures.key k.0 k.1 k.2).1 in
    let counted = pile.counted in let some = pile.some in let many = there.0 in k.3 (omega (arith, counted, some, many)) ∙ sym there.1

pub shut-requires-clause-key : goal.shut-requires-clause-key
shut-requires-clause-key g c = let k = c.requires in ap (λ (z : Tally). z.key) (c.open-seat.ensures.key k.0 k.1 k.2).0

pub returns : goal.returns
returns g c = λ had round is. let k = c.requires in let it = c.open-seat.ensures.key had round is in let more = c.args.more.part in let all = c.match-found.all.part in
    let sum : (all.count ≡ had + more.count) × (all.round ≡ more.round) = elim c.match-found.branch [
      | in-Some w ↦ let pile = w.in-Some.pile in let there = subst (λ (z : Option (Pile g.row.T.Denot)). Lies z had round) w.in-Some.is it.1 in
          let first = subst (λ (z : Option (Pile g.row.T.Denot)). Lies z k.0 k.1) w.in-Some.is (c.open-seat.ensures.key k.0 k.1 k.2).1 in let counted = pile.counted in let some = pile.some in let many = first.0 in (
            ap (λ (z : Pile g.row.T.Denot). z.part.count) w.all-is ∙ (ap (λ (z : Part g.row.T.Denot). z.count) w.join-all.ensures ∙ ap (λ (n : ℕ). n + more.count) there.0),
            ap (λ (z : Pile g.row.T.Denot). z.part.round) w.all-is ∙ (ap (λ (z : Part g.row.T.Denot). z.round) w.join-all.ensures ∙ (first.1 ∙ sym (k.3 (omega (arith, counted, some, many))))),
          )
      | in-None w ↦ let none : had ≡ 0 = subst (λ (z : Option (Pile g.row.T.Denot)). Lies z had round) w.in-None.is it.1 in
          (ap (λ (z : Pile g.row.T.Denot). z.part.count) w.all-is ∙ omega (arith, none), ap (λ (z : Pile g.row.T.Denot). z.part.round) w.all-is)
    ] in same_key c.args.self.now c.args.place all.count (had + more.count) all.round more.round c.shut.result c.shut.ensures sum.0 sum.1
