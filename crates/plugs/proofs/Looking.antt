-- Keys are looked up in rows.
use Rattle.std.proofs.Common.{◌≡◌, ◌≢◌, ℕ, ◌==◌, cond, Some, None, List, [], ◌∷◌, ◌++◌, All, refl, ap, ◌∙◌, arith}
use Rattle.std.proofs.lemmas.List.Elements.{All-head, All-tail}
use Rattle.std.proofs.lemmas.Bool.Decides.{nat_tests}
use Rattle.plugs.specs.declared.rows.Row.{Row}
use Rattle.plugs.specs.Tables.{plug_of}

-- a row of another key says nothing
pub passed_over : (r : Row) (rs : List Row) (k : ℕ) → r.key ≢ k → plug_of (r ∷ rs) k ≡ plug_of rs k
passed_over r rs k other = grind (arith, nat_tests)

-- a row of the key says its plug
pub met : (r : Row) (rs : List Row) (k : ℕ) → r.key ≡ k → plug_of (r ∷ rs) k ≡ Some r.plug
met r rs k same = grind (arith, nat_tests)

pub lacks_all : (rows : List Row) (k : ℕ) → All (λ r. r.key ≢ k) rows → plug_of rows k ≡ None
lacks_all [] k others = refl
lacks_all (r ∷ rs) k others = passed_over r rs k (All-head (λ x. x.key ≢ k) r rs others) ∙ lacks_all rs k (All-tail (λ x. x.key ≢ k) r rs others)

-- rows without the key before others
pub behind_others : (a b : List Row) (k : ℕ) → All (λ r. r.key ≢ k) a → plug_of (a ++ b) k ≡ plug_of b k
behind_others [] b k others = refl
behind_others (r ∷ rs) b k others = passed_over r (rs ++ b) k (All-head (λ x. x.key ≢ k) r rs others) ∙ behind_others rs b k (All-tail (λ x. x.key ≢ k) r rs others)

-- a row of another key between others
pub skipped : (a : List Row) (r : Row) (b : List Row) (k : ℕ) → r.key ≢ k → plug_of (a ++ r ∷ b) k ≡ plug_of (a ++ b) k
skipped [] r b k other = passed_over r b k other
skipped (x ∷ a) r b k other = ap (λ o. cond (x.key == k) (Some x.plug) o) (skipped a r b k other)
