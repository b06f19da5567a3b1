-- A new tree keeps its rule.
use Rattle.std.proofs.Common.{◌≡◌, ℕ, List, [], get_or, length, refl}
use Rattle.std.proofs.lemmas.List.Elements.{All-nil}
use Rattle.atomic_table.specs.Table.{opening}
use Rattle.annals.proofs.CallerLemmas as annals
use Rattle.funnel.specs.Glossary.{Shape, word_of, IsBeginning, value, Kept, tree_client, founder}

-- a table whose words are all 0 has an empty history
pub opens : (shape : Shape) (words : List ℕ) → length words ≡ word_of shape.nodes → ((k : ℕ) → get_or words k 0 ≡ 0) → Kept shape (opening words [] (founder shape))
opens shape words wide zeros = annals.opens tree_client shape words [] tt
    record {
      legal = tt;
      wide = wide;
      nodes = λ k _. zeros (word_of k);
      loaded = record { found = All-nil (λ l. l.found ≡ value 0 l.at); ordered = tt; until = All-nil (λ l. IsBeginning l.at []) };
    }
    (refl, refl, λ p _. (refl, refl))
