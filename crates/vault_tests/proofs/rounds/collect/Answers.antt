use Rattle.std.proofs.Common.{arith, sym, ap, ◌∙◌}
use Rattle.std.proofs.lemmas.Bool.{some_since}
use Rattle.std.proofs.lemmas.Option.{MatchOption-at_some}
use Rattle.parts.specs.declared.part.Part.{Part}
use Rattle.vault_tests.proofs.rounds.collect.Goals as goal

pub unwrap-part-requires : goal.unwrap-part-requires
unwrap-part-requires g c = some_since c.empty-first.result.1 _ _ (c.empty-first.ensures _ _ c.requires.0).1 (λ none. absurd (omega (arith, none)))

pub unwrap-other-requires : goal.unwrap-other-requires
unwrap-other-requires g c = some_since c.empty-second.result.1 _ _ (c.empty-second.ensures _ _ c.requires.1).1 (λ none. absurd (omega (arith, none)))

pub join-requires : goal.join-requires
join-requires g c = let one = MatchOption-at_some _ _ c.unwrap-part.result c.unwrap-part.ensures (c.empty-first.ensures _ _ c.requires.0).1 in
    let other = MatchOption-at_some _ _ c.unwrap-other.result c.unwrap-other.ensures (c.empty-second.ensures _ _ c.requires.1).1 in other.1 ∙ sym one.1

pub returns-clause-keys : goal.returns-clause-keys
returns-clause-keys g c = ((c.empty-first.ensures _ _ c.requires.0).0, (c.empty-second.ensures _ _ c.requires.1).0)

pub returns-clause-all : goal.returns-clause-all
returns-clause-all g c = let one = MatchOption-at_some _ _ c.unwrap-part.result c.unwrap-part.ensures (c.empty-first.ensures _ _ c.requires.0).1 in
    let other = MatchOption-at_some _ _ c.unwrap-other.result c.unwrap-other.ensures (c.empty-second.ensures _ _ c.requires.1).1 in let sum = ap (λ (p : Part g.row.T.Denot). p.count) c.join.ensures.sum in let n = one.0 in let m = other.0 in
    (omega (arith, sum, n, m), ap (λ (p : Part g.row.T.Denot). p.round) c.join.ensures.sum ∙ one.1)
