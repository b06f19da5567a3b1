use Rattle.std.proofs.Common.{refl, ap}
use Rattle.vault.specs.declared.key.Tally.{Tally}
use Rattle.vault.proofs.Calls.{emptied}
use Rattle.vault.proofs.CallerLemmas.{same_key}
use Rattle.vault.proofs.vault.Vault.empty.Goals as goal

pub shut-requires-clause-key : goal.shut-requires-clause-key
shut-requires-clause-key g c = let k = c.requires in ap (λ (z : Tally). z.key) (c.open-seat.ensures.key k.0 k.1 k.2).0

pub returns : goal.returns
returns g c = λ had round is. let had_it = c.open-seat.ensures.key had round is in
    (same_key c.args.self.now c.args.place 0 0 _ round c.shut.result c.shut.ensures refl (ap (λ (z : Tally). z.round) had_it.0), emptied c.open-seat.result.1 had round had_it.1)
