-- Each option of the list was looked at.
use Rattle.std.proofs.Common.{arith, ◌≡◌, ℕ, ◌+◌, ◌<◌, ◌&&◌, Bool, true, false, List, take, length, get_or, refl, sym, ◌∙◌}
use Rattle.std.specs.List.{list_all}
use Rattle.std.proofs.lemmas.List.Folds.{list_all_more}
use Rattle.options.proofs.view.odd_number.Goals as goal

one_more : {X : Type 0} (test : X → Bool) (xs : List X) (i : ℕ) (x : X) → list_all test (take i xs) ≡ true → i < length xs → test (get_or xs i x) ≡ true → list_all test (take (i + 1) xs) ≡ true
one_more test xs i x before in' h = list_all_more test xs i x in' ∙ rw (before, h)

both : (a b : Bool) → (a && b) ≡ true → (a ≡ true) × (b ≡ true)
both true b h = (refl, h)
both false b h = cc

all_four : (a b c d : Bool) → (a && (b && (c && (d && true)))) ≡ true → (a ≡ true) × (b ≡ true) × (c ≡ true) × (d ≡ true)
all_four a b c d h =
    let (first, others) = both a _ h in
    let (second, last) = both b _ others in
    let (third, fourth) = both c _ last in
    (first, second, third, (both d true fourth).0)

pub loop-id-preserved : goal.loop-id-preserved
loop-id-preserved c = one_more _ _ c.loop-id.id-index _ c.loop-id.invariant (omega arith) (sym c.has_plain.ensures ∙ c.if-not-has_plain.false)

pub returns : goal.returns
returns c =
    let end : c.loop-id.id-index ≡ 4 = omega arith in
    let (sections, periods, readers, rounds) = all_four _ _ _ _ (rw end at c.loop-id.invariant) in
    record { sections = sections; periods = periods; readers = readers; rounds = rounds }
