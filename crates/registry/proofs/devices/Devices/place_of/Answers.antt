-- The keys are in order, so the search finds the key, or where it belongs.
use Rattle.std.proofs.Common.{◌≡◌, ℕ, ◌<◌, ◌≤◌, Result, Ok, Err, MatchResult, length, List, subst, rules}
use Rattle.std.specs.List.{AllWithin, HoldsAt}
use Rattle.std.specs.List.Sorted.{IsSearchInRange, IsBinarySearchResult}
use Rattle.std.specs.declared.cmp.Ordering.{Ordering}
use Rattle.std.specs.declared.cmp.Ordering.TheVariants.{Less, Equal, Greater}
use Rattle.std.proofs.lemmas.Fn.{always_returns_same}
use Rattle.registry.specs.declared.device.Device.{Device}
use Rattle.registry.proofs.Order.{searched}
use Rattle.registry.proofs.devices.Devices.place_of.Goals as goal

both : {X : Type 0} (at : X → Ordering) (xs : List X) (r : Result ℕ ℕ) → IsSearchInRange r (length xs)
    → MatchResult r (HoldsAt (λ x. at x ≡ Equal) xs) (λ i. AllWithin (λ x. at x ≡ Less) xs 0 i × AllWithin (λ x. at x ≡ Greater) xs i (length xs))
    → MatchResult r (λ i. (i < length xs) × HoldsAt (λ x. at x ≡ Equal) xs i) (λ i. (i ≤ length xs) × AllWithin (λ x. at x ≡ Less) xs 0 i × AllWithin (λ x. at x ≡ Greater) xs i (length xs))
both at xs (Ok i) lt h = (lt, h)
both at xs (Err i) le h = (le, h.0, h.1)

pub returns : goal.returns
returns g c =
    let s = c.binary_search_by.ensures.position (λ e. g.K.Ord.cmp e.key c.args.key) (always_returns_same _ _ _ (λ a r f' k. search rules)) in
    both (λ (e : Device _ _ _). g.K.Ord.cmp e.key c.args.key) c.args.self.now.here.items c.binary_search_by.result (subst (λ (xs : List (Device _ _ _)). IsSearchInRange c.binary_search_by.result (length xs)) c.deref.ensures.value c.binary_search_by.ensures.bound)
    (searched g.met.K.Ord.total (λ (e : Device _ _ _). e.key) c.args.self.now.here.items c.args.key c.binary_search_by.result c.requires (subst (λ (xs : List (Device _ _ _)). IsBinarySearchResult (λ e. g.K.Ord.cmp e.key c.args.key) xs c.binary_search_by.result) c.deref.ensures.value s))
