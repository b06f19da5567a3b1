-- New callbacks.
use Rattle.std.proofs.Common.{◌≡◌, ℕ, suc, ◌<◌, List, [], ◌∷◌, ◌++◌, length, get_or, replicate, sym, ap, ◌∙◌, arith}
use Rattle.std.proofs.lemmas.List.{length-append, length-replicate, get_or-replicate, get_or_past, get_or_push, get_or_append_left}
use mathlib.Core.Logic.{dite}
use native.Mathlib.Decide.{ℕ_discrete, dec_le}
use Rattle.atomic_table.specs.Seated.{TableId}
use Rattle.keep.specs.Views.{KeepView}
use Rattle.calls.specs.Glossary.{CallSeatView, ListKey, new_seat, AreOfDomain, domain_of, tallies_of}

pub all_zero : (n : ℕ) (words : List ℕ) → words ≡ replicate n 0 → (k : ℕ) → get_or words k 0 ≡ 0
all_zero n words e k = let z : get_or (replicate n 0) k 0 ≡ 0 = dite (dec_le (suc k) n) (λ l. get_or-replicate n k 0 0 (omega (arith, l))) (λ g. get_or_past (replicate n 0) k 0 (let long = length-replicate {A = ℕ} n 0 in omega (arith, long, g))) in
    ap (λ l. get_or l k 0) e ∙ z

module _ {J : Type 0} where
  -- the seats so far
  abbrev pub AreNewSoFar : TableId → TableId → ℕ → List (CallSeatView J) → Type 0
  AreNewSoFar domain tallies processors seats = (p : ℕ) (d : CallSeatView J) → p < length seats → get_or seats p d ≡ new_seat domain tallies processors p

  pub new_so_far : (domain tallies : TableId) (processors i : ℕ) (seats : List (CallSeatView J)) (new : CallSeatView J) → length seats ≡ i → new ≡ new_seat domain tallies processors i → AreNewSoFar domain tallies processors seats → AreNewSoFar domain tallies processors (seats ++ new ∷ [])
  new_so_far domain tallies processors i seats new count is all k d lt = dite (ℕ_discrete k i)
      (λ e. get_or_push seats new d k (count ∙ sym e) ∙ (is ∙ ap (λ z. new_seat domain tallies processors z) (sym e)))
      (λ ne. let long = length-append seats (new ∷ []) in let inside : k < length seats = omega (arith, long, lt, ne, count) in get_or_append_left seats (new ∷ []) d k inside ∙ all k d inside)

-- the locks so far
pub locks_so_far : (domain tallies : TableId) (i : ℕ) (locks : List (KeepView ListKey)) (new : KeepView ListKey) → length locks ≡ i → new.key ≡ record { domain = domain; tallies = tallies; processor = i } → AreOfDomain domain tallies locks → AreOfDomain domain tallies (locks ++ new ∷ [])
locks_so_far domain tallies i locks new count is all k d lt = dite (ℕ_discrete k i)
    (λ e. ap (λ (z : KeepView ListKey). z.key) (get_or_push locks new d k (count ∙ sym e)) ∙ (is ∙ (λ j. record { domain = domain; tallies = tallies; processor = sym e j })))
    (λ ne. let long = length-append locks (new ∷ []) in let inside : k < length locks = omega (arith, long, lt, ne, count) in ap (λ (z : KeepView ListKey). z.key) (get_or_append_left locks (new ∷ []) d k inside) ∙ all k d inside)

-- all of them are of the first one's domain and tally words
pub first_key : (domain tallies : TableId) (locks : List (KeepView ListKey)) → 0 < length locks → AreOfDomain domain tallies locks → (domain_of locks ≡ domain) × (tallies_of locks ≡ tallies)
first_key domain tallies [] some all = absurd (omega (arith, some))
first_key domain tallies (lock ∷ locks) some all = let key = all 0 lock some in (ap (λ (k : ListKey). k.domain) key, ap (λ (k : ListKey). k.tallies) key)
