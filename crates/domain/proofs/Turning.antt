-- Lists of turns, one a beginning of another.
use Rattle.std.proofs.Common.{List, [], ◌++◌, sym, ap, ◌∙◌, append-nil}
use Rattle.std.proofs.lemmas.List.{append_assoc}
use Rattle.desk.specs.Swaps.{Swap, IsBeginning}
use Rattle.domain.specs.Views.{Engine}

pub swaps_beginning_refl : (s : List (Swap Engine)) → IsBeginning s s
swaps_beginning_refl s = record { rest = []; whole = sym (append-nil s) }

pub swaps_beginning_trans : (a b c : List (Swap Engine)) → IsBeginning a b → IsBeginning b c → IsBeginning a c
swaps_beginning_trans a b c ab bc = record { rest = ab.rest ++ bc.rest; whole = bc.whole ∙ (ap (λ l. l ++ bc.rest) ab.whole ∙ append_assoc a ab.rest bc.rest) }
