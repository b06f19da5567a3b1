-- The two indexes of a domain.
use Rattle.std.specs.Prelude.{ℕ, ◌%◌, ◌==◌, Bool, true, false, List, [], ◌∷◌, if◌then◌else◌}
use Rattle.sseq.specs.declared.index.Index.{Index}
use Rattle.sseq.specs.declared.index.Index.TheVariants.{Zero, One}

abbrev pub index_number : Index → ℕ
index_number Zero = 0
index_number One = 1

-- the index that the low bit of a word names
abbrev pub low_bit : ℕ → Index
low_bit word = if word % 2 == 0 then Zero else One

abbrev pub other_index : Index → Index
other_index Zero = One
other_index One = Zero

abbrev pub same_index : Index → Index → Bool
same_index Zero Zero = true
same_index Zero One = false
same_index One Zero = false
same_index One One = true

-- `0` or `1`
abbrev pub index_text : Index → List ℕ
index_text Zero = 48 ∷ []
index_text One = 49 ∷ []
