-- The keys are in order, so the search finds the key, or shows that none is it.
use Rattle.std.proofs.Common.{◌≡◌, ℕ, ◌<◌, Option, Result, Ok, Err, MatchOption, MatchResult, All, length, List, subst, rules}
use Rattle.std.specs.List.{AllWithin, HoldsAt}
use Rattle.std.specs.List.Sorted.{IsSearchInRange, IsBinarySearchResult}
use Rattle.registry.specs.declared.index.Entry.{Entry}
use Rattle.std.specs.Cmp.{IsTotalOrder}
use Rattle.std.specs.Result.{result_ok}
use Rattle.std.specs.declared.cmp.Ordering.{Ordering}
use Rattle.std.specs.declared.cmp.Ordering.TheVariants.{Less, Equal, Greater}
use Rattle.std.proofs.lemmas.Fn.{always_returns_same}
use Rattle.registry.proofs.Order.{missing, searched}
use Rattle.registry.proofs.index.Index.place_of.Goals as goal

found : {K X : Type 0} {cmp : K → K → Ordering} (t : IsTotalOrder cmp) (key : X → K) (q : K) (xs : List X) (r : Result ℕ ℕ) (o : Option ℕ) → o ≡ result_ok r → IsSearchInRange r (length xs)
    → MatchResult r (HoldsAt (λ x. cmp (key x) q ≡ Equal) xs) (λ i. AllWithin (λ x. cmp (key x) q ≡ Less) xs 0 i × AllWithin (λ x. cmp (key x) q ≡ Greater) xs i (length xs))
    → MatchOption o (All (λ x. cmp (key x) q ≡ Equal → ⊥) xs) (λ i. (i < length xs) × HoldsAt (λ x. cmp (key x) q ≡ Equal) xs i)
found t key q xs (Ok i) o e lt h = rw e (lt, h)
found t key q xs (Err i) o e le h = rw e (missing t key xs q i h.0 h.1)

pub returns : goal.returns
returns g c =
    let s = c.binary_search_by.ensures.position (λ e. g.K.Ord.cmp e.key c.args.key) (always_returns_same _ _ _ (λ a r f' k. search rules)) in
    rw (← c.self.view_is) (found g.met.K.Ord.total (λ (e : Entry _ _). e.key) c.args.key c.self.inside.entries.items c.binary_search_by.result c.ok.result c.ok.ensures.value
    (subst (λ (xs : List (Entry _ _)). IsSearchInRange c.binary_search_by.result (length xs)) c.deref.ensures.value c.binary_search_by.ensures.bound)
    (searched g.met.K.Ord.total (λ (e : Entry _ _). e.key) c.self.inside.entries.items c.args.key c.binary_search_by.result c.self.invariant (subst (λ (xs : List (Entry _ _)). IsBinarySearchResult (λ e. g.K.Ord.cmp e.key c.args.key) xs c.binary_search_by.result) c.deref.ensures.value s)))
