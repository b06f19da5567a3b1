use Rattle.std.proofs.Common.{arith, sym}
use Rattle.std.proofs.lemmas.Bool.{some_since}
use Rattle.std.proofs.lemmas.Option.{MatchOption-at_some}
use Rattle.vault.proofs.CallerLemmas.{same_key}
use Rattle.vault_tests.proofs.rounds.read_at.Goals as goal

pub unwrap-part-requires : goal.unwrap-part-requires
unwrap-part-requires g c = let some = c.requires.2 in some_since c.cut-key.result.1 _ _ (c.cut-key.ensures _ _ c.requires.1) (λ t. let few = t.0 in absurd (omega (arith, few, some)))

pub agree-requires : goal.agree-requires
agree-requires g c = (MatchOption-at_some _ _ c.unwrap-part.result c.unwrap-part.ensures (c.cut-key.ensures _ _ c.requires.1)).2

pub invariant_of-add-clause-counted : goal.invariant_of-add-clause-counted
invariant_of-add-clause-counted g c = sym (MatchOption-at_some _ _ c.unwrap-part.result c.unwrap-part.ensures (c.cut-key.ensures _ _ c.requires.1)).1

pub add-requires : goal.add-requires
add-requires g c = let cut = MatchOption-at_some _ _ c.unwrap-part.result c.unwrap-part.ensures (c.cut-key.ensures _ _ c.requires.1) in (_, _, cut.3, (λ _. cut.2))

pub returns-clause-key : goal.returns-clause-key
returns-clause-key g c = λ had is. let cut = MatchOption-at_some _ _ c.unwrap-part.result c.unwrap-part.ensures (c.cut-key.ensures had _ is) in let more = cut.0 in let one = cut.1 in
    same_key c.args.vault.now c.args.place _ had _ _ c.add.result (c.add.ensures _ _ cut.3) (omega (arith, more, one)) cut.2
