use Rattle.std.proofs.Common.{ℕ, ◌+◌, ◌^◌, arith, sym, ap}
use Rattle.std.proofs.lemmas.Bool.{some_since}
use Rattle.std.proofs.lemmas.Option.{MatchOption-at_some}
use Rattle.vault.proofs.CallerLemmas.{same_key}
use Rattle.vault_tests.proofs.rounds.move_one.Goals as goal

pub unwrap-requires : goal.unwrap-requires
unwrap-requires g c = some_since c.cut-first.result.1 _ _ (c.cut-first.ensures _ _ c.requires.0) (λ t. let few = t.0 in absurd (omega (arith, few)))

pub invariant_of-one-clause-counted : goal.invariant_of-one-clause-counted
invariant_of-one-clause-counted g c = sym (MatchOption-at_some _ _ c.unwrap.result c.unwrap.ensures (c.cut-first.ensures _ _ c.requires.0)).1

pub add-second-requires : goal.add-second-requires
add-second-requires g c = let cut = MatchOption-at_some _ _ c.unwrap.result c.unwrap.ensures (c.cut-first.ensures _ _ c.requires.0) in (_, _, c.requires.1, (λ _. cut.2))

pub returns-clause-first : goal.returns-clause-first
returns-clause-first g c = (MatchOption-at_some _ _ c.unwrap.result c.unwrap.ensures (c.cut-first.ensures _ _ c.requires.0)).3

pub returns-clause-second : goal.returns-clause-second
returns-clause-second g c = let cut = MatchOption-at_some _ _ c.unwrap.result c.unwrap.ensures (c.cut-first.ensures _ _ c.requires.0) in
    same_key c.args.vault.now 1 _ _ _ _ c.add-second.result (c.add-second.ensures _ _ c.requires.1) (ap (λ (n : ℕ). 2 ^ 62 + n) cut.1) cut.2
