-- Where more sections of an index were begun later than had ended earlier, one was open in between.
use Rattle.std.proofs.Common.{◌≡◌, ℕ, ◌<◌, ◌≤◌, ◌≢◌, false, List, [], ◌∷◌, ◌++◌, All, refl, sym, ap, ◌∙◌, subst, append_assoc, append-nil, arith}
use Rattle.std.proofs.lemmas.List.Elements.{All-nil, All-cons, All-head, All-tail}
use mathlib.Core.Logic.{dite}
use native.Mathlib.Decide.{dec_le}
use Rattle.sseq.specs.declared.index.Index.{Index}
use Rattle.sseq.specs.declared.index.Index.TheVariants.{Zero, One}
use Rattle.sseq.specs.Indexes.{index_number}
use Rattle.onedom.specs.declared.event.Event.{Event}
use Rattle.onedom.specs.declared.event.Event.TheVariants.{Begin, End, Start, Finish, Note, Ask, Find, Put}
use Rattle.onedom.specs.Histories.{IsLegal, IsBeginning}
use Rattle.onedom.proofs.CallerLemmas.{legal_after_append, open_begun, index_of_begun, legal_beginning, beginning_append, beginning_refl, beginning_trans}
use Rattle.sections.specs.Glossary.{locks_at, locks, all_locks, all_unlocks, HasItsMaker}
use Rattle.sections.proofs.CallerLemmas.{sum_le, elsewhere, locks_not_at, fewer_ends}
use Rattle.scan.specs.Standings.{WasOpenIn}

front_of : (P : Event → Type 0) (xs ys : List Event) → All P (xs ++ ys) → All P xs
front_of P [] ys all = All-nil P
front_of P (x ∷ xs) ys all = All-cons P x xs (All-head P x (xs ++ ys) all) (front_of P xs ys (All-tail P x (xs ++ ys) all))

pub makers_of : (n : ℕ) (seen history : List Event) → IsBeginning seen history → All (HasItsMaker n) history → All (HasItsMaker n) seen
makers_of n seen history b all = front_of (HasItsMaker n) seen b.rest (subst (All (HasItsMaker n)) b.whole all)

all_locks_same : (n : ℕ) (i : Index) (log : List Event) (e : Event) → ((p : ℕ) → locks_at p i e ≡ false) → all_locks n i (log ++ e ∷ []) ≤ all_locks n i log
all_locks_same n i log e none = sum_le (λ p. locks p i (log ++ e ∷ [])) (λ p. locks p i log) n (λ p. let same = locks_not_at p i log e (none p) in omega (arith, same))

index_cases : {P : Type 0} (i j : Index) → (i ≡ j → P) → (i ≢ j → P) → P
index_cases Zero Zero a b = a refl
index_cases Zero One a b = b (λ e. let z : 0 ≡ 1 = ap index_number e in omega arith)
index_cases One Zero a b = b (λ e. let z : 1 ≡ 0 = ap index_number e in omega arith)
index_cases One One a b = a refl

module _ (n : ℕ) (i : Index) (first : List Event) (most : ℕ) where
  -- an event that begins no section of the index adds nothing
  on : (front : List Event) (e : Event) (es : List Event) → IsBeginning first front → IsLegal (front ++ e ∷ es) → ((p : ℕ) → locks_at p i e ≡ false) → all_locks n i front ≤ most → most < all_locks n i (front ++ e ∷ es)
      → (IsBeginning first (front ++ e ∷ []) → IsLegal ((front ++ e ∷ []) ++ es) → all_locks n i (front ++ e ∷ []) ≤ most → most < all_locks n i ((front ++ e ∷ []) ++ es) → WasOpenIn i first ((front ++ e ∷ []) ++ es))
      → WasOpenIn i first (front ++ e ∷ es)
  on front e es since legal none low high later = let same : front ++ e ∷ es ≡ (front ++ e ∷ []) ++ es = sym (append_assoc front (e ∷ []) es) in let still = all_locks_same n i front e none in
      subst (λ l. WasOpenIn i first l) (sym same) (later (beginning_trans since (beginning_append front (e ∷ []))) (subst IsLegal same legal) (omega (arith, still, low)) (subst (λ l. most < all_locks n i l) same high))

  begun_later : (front rest : List Event) → IsBeginning first front → IsLegal (front ++ rest) → all_locks n i front ≤ most → most < all_locks n i (front ++ rest) → WasOpenIn i first (front ++ rest)
  begun_later front [] since legal low high = absurd (let same : all_locks n i (front ++ []) ≡ all_locks n i front = ap (all_locks n i) (append-nil front) in omega (arith, low, high, same))
  begun_later front (Begin s p j by ∷ es) since legal low high = index_cases j i
      (λ same. let parts = legal_after_append [] front (Begin s p j by ∷ es) legal in let e : Event = Begin s p j by in record {
        moment = front ++ e ∷ [];
        since = beginning_trans since (beginning_append front (e ∷ []));
        upto = record { rest = es; whole = sym (append_assoc front (e ∷ []) es) };
        section = s;
        is_open = open_begun s p j by front parts.0 parts.1.0;
        of_index = index_of_begun s p j by front ∙ same;
      })
      (λ other. on front (Begin s p j by) es since legal (λ q. elsewhere p q j i (λ _. other)) low high (begun_later (front ++ Begin s p j by ∷ []) es))
  begun_later front (End s q by ∷ es) since legal low high = on front (End s q by) es since legal (λ _. refl) low high (begun_later (front ++ End s q by ∷ []) es)
  begun_later front (Start by ∷ es) since legal low high = on front (Start by) es since legal (λ _. refl) low high (begun_later (front ++ Start by ∷ []) es)
  begun_later front (Finish by ∷ es) since legal low high = on front (Finish by) es since legal (λ _. refl) low high (begun_later (front ++ Finish by ∷ []) es)
  begun_later front (Note c by ∷ es) since legal low high = on front (Note c by) es since legal (λ _. refl) low high (begun_later (front ++ Note c by ∷ []) es)
  begun_later front (Ask c b by ∷ es) since legal low high = on front (Ask c b by) es since legal (λ _. refl) low high (begun_later (front ++ Ask c b by ∷ []) es)
  begun_later front (Find u d x v by ∷ es) since legal low high = on front (Find u d x v by) es since legal (λ _. refl) low high (begun_later (front ++ Find u d x v by ∷ []) es)
  begun_later front (Put d x v by ∷ es) since legal low high = on front (Put d x v by) es since legal (λ _. refl) low high (begun_later (front ++ Put d x v by ∷ []) es)

pub open_between : (n : ℕ) (i : Index) (first history : List Event) → IsBeginning first history → IsLegal history → All (HasItsMaker n) history → all_unlocks n i first < all_locks n i history → WasOpenIn i first history
open_between n i first history since legal makers more = dite (dec_le (all_locks n i first) (all_unlocks n i first))
    (λ low. let whole = since.whole in subst (λ l. WasOpenIn i first l) (sym whole) (begun_later n i first (all_unlocks n i first) first since.rest (beginning_refl first) (subst IsLegal whole legal) low (subst (λ l. all_unlocks n i first < all_locks n i l) whole more)))
    (λ high. let one = fewer_ends n i first (legal_beginning since legal) (makers_of n first history since makers) (omega arith) in
    record { moment = first; since = beginning_refl first; upto = since; section = one.0; is_open = one.1; of_index = one.2 })
