use Rattle.std.proofs.Common.{◌≡◌, length}
use Rattle.std.specs.Prelude.{All, None}
use Rattle.session.proofs.entry.cleanup.drop_all.Given as goal

abbrev pub invariant-loop-last : goal.invariant-loop-last
invariant-loop-last g l = All (λ o. o ≡ None) l.outs.items

abbrev pub decreases-loop-last : goal.decreases-loop-last
decreases-loop-last g l = length l.outs.items
