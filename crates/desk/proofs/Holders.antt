-- Who holds, behind swaps that follow the rule of a bay.
use Rattle.std.proofs.Common.{◌≡◌, ◌≢◌, ℕ, ◌<◌, Bool, true, false, ◌&&◌, List, [], ◌∷◌, ◌++◌, All, Option, Some, None, is_some, is_none, refl, sym, ap, ◌∙◌, subst, append_assoc, append-nil, true≢false}
use Rattle.std.proofs.lemmas.List.Elements.{All-nil, All-cons}
use mathlib.Core.Logic.{dite}
use native.Mathlib.Decide.{ℕ_discrete}
use Rattle.desk.specs.Glossary.{Swap, lies_after, swaps_of, takes, holds_after, holds_behind, MayFollow, IsLegalAfter, HasOneHolder, OneHolds}
use Rattle.desk.proofs.Turns.{lies_push, swaps_of_other, swaps_of_own}

not_true : (b : Bool) → (b ≡ true → ⊥) → b ≡ false
not_true true h = absurd (h refl)
not_true false h = refl

module _ {T : Type 0} where
  holds_after_push : (held : Bool) (swaps : List (Swap T)) (s : Swap T) → holds_after held (swaps ++ s ∷ []) ≡ takes s
  holds_after_push held [] s = refl
  holds_after_push held (x ∷ xs) s = holds_after_push (takes x) xs s

  -- a seat's own swap decides whether it holds
  pub holds_own : (number : ℕ) (swaps : List (Swap T)) (s : Swap T) → s.by ≡ number → holds_behind number (swaps ++ s ∷ []) ≡ takes s
  holds_own number swaps s e = ap (holds_after false) (swaps_of_own number swaps s e) ∙ holds_after_push false (swaps_of number swaps) s

  -- and no other one does
  pub holds_other : (number : ℕ) (swaps : List (Swap T)) (s : Swap T) → s.by ≢ number → holds_behind number (swaps ++ s ∷ []) ≡ holds_behind number swaps
  holds_other number swaps s n = ap (holds_after false) (swaps_of_other number swaps s n)

  -- Legal swaps

  legal_push_after : (seats : ℕ) (first : Option T) (before swaps : List (Swap T)) (s : Swap T) → IsLegalAfter seats first before swaps → MayFollow seats first (before ++ swaps) s → IsLegalAfter seats first before (swaps ++ s ∷ [])
  legal_push_after seats first before [] s h m = (subst (λ b. MayFollow seats first b s) (append-nil before) m, tt)
  legal_push_after seats first before (x ∷ xs) s h m = (h.0, legal_push_after seats first (before ++ x ∷ []) xs s h.1 (subst (λ b. MayFollow seats first b s) (sym (append_assoc before (x ∷ []) xs)) m))

  pub legal_push : (seats : ℕ) (first : Option T) (swaps : List (Swap T)) (s : Swap T) → IsLegalAfter seats first [] swaps → MayFollow seats first swaps s → IsLegalAfter seats first [] (swaps ++ s ∷ [])
  legal_push seats first swaps s h m = legal_push_after seats first [] swaps s h m

  pub legal_beginning : (seats : ℕ) (first : Option T) (before swaps rest : List (Swap T)) → IsLegalAfter seats first before (swaps ++ rest) → IsLegalAfter seats first before swaps
  legal_beginning seats first before [] rest h = tt
  legal_beginning seats first before (x ∷ xs) rest h = (h.0, legal_beginning seats first (before ++ x ∷ []) xs rest h.1)

  pub legal_makers : (seats : ℕ) (first : Option T) (before swaps : List (Swap T)) → IsLegalAfter seats first before swaps → All (λ s. s.by < seats) swaps
  legal_makers seats first before [] h = All-nil (λ (s : Swap T). s.by < seats)
  legal_makers seats first before (x ∷ xs) h = All-cons (λ (s : Swap T). s.by < seats) x xs h.0.by (legal_makers seats first (before ++ x ∷ []) xs h.1)

  -- One holds

  takes_is : (s : Swap T) (left lay : Option T) → s.left ≡ left → s.found ≡ lay → takes s ≡ (is_none left && is_some lay)
  takes_is s left lay l f = λ i. is_none (l i) && is_some (f i)

  one_step : (seats : ℕ) (swaps : List (Swap T)) (s : Swap T) (left lay : Option T) → s.left ≡ left → s.found ≡ lay → s.by < seats → is_some left ≡ holds_behind s.by swaps → HasOneHolder seats swaps lay → HasOneHolder seats (swaps ++ s ∷ []) left
  one_step seats swaps s (Some x) (Some y) l f lt turn nobody = absurd (true≢false (turn ∙ nobody s.by))
  one_step seats swaps s (Some x) None l f lt turn one = λ n. dite (ℕ_discrete s.by n)
      (λ e. holds_own n swaps s e ∙ takes_is s (Some x) None l f)
      (λ ne. holds_other n swaps s ne ∙ not_true (holds_behind n swaps) (λ h. ne (one.alone s.by (sym turn) ∙ sym (one.alone n h))))
  one_step seats swaps s None (Some y) l f lt turn nobody = record {
    holder = s.by;
    there = lt;
    holding = holds_own s.by swaps s refl ∙ takes_is s None (Some y) l f;
    alone = λ n h. dite (ℕ_discrete s.by n) (λ e. sym e) (λ ne. absurd (true≢false (sym h ∙ (holds_other n swaps s ne ∙ nobody n))));
  }
  one_step seats swaps s None None l f lt turn one = record {
    holder = one.holder;
    there = one.there;
    holding = holds_other one.holder swaps s (λ e. true≢false (sym one.holding ∙ (ap (λ n. holds_behind n swaps) (sym e) ∙ sym turn))) ∙ one.holding;
    alone = λ n h. dite (ℕ_discrete s.by n) (λ e. absurd (true≢false (sym h ∙ (holds_own n swaps s e ∙ takes_is s None None l f)))) (λ ne. one.alone n (sym (holds_other n swaps s ne) ∙ h));
  }

  one_push : (seats : ℕ) (first : Option T) (swaps : List (Swap T)) (s : Swap T) → MayFollow seats first swaps s → HasOneHolder seats swaps (lies_after first swaps) → HasOneHolder seats (swaps ++ s ∷ []) (lies_after first (swaps ++ s ∷ []))
  one_push seats first swaps s m one = subst (HasOneHolder seats (swaps ++ s ∷ [])) (sym (lies_push first swaps s)) (one_step seats swaps s s.left (lies_after first swaps) refl m.finds m.by m.in_turn one)

  one_after : (seats : ℕ) (first : Option T) (before later : List (Swap T)) → IsLegalAfter seats first before later → HasOneHolder seats before (lies_after first before) → HasOneHolder seats (before ++ later) (lies_after first (before ++ later))
  one_after seats first before [] h one = subst (λ l. HasOneHolder seats l (lies_after first l)) (sym (append-nil before)) one
  one_after seats first before (s ∷ later) h one = subst (λ l. HasOneHolder seats l (lies_after first l)) (append_assoc before (s ∷ []) later) (one_after seats first (before ++ s ∷ []) later h.1 (one_push seats first before s h.0 one))

  pub one_holds : OneHolds T
  one_holds seats first swaps h = one_after seats (Some first) [] swaps h (λ n. refl)

  -- while a seat holds, nothing lies there
  pub holder_finds_nothing : (seats : ℕ) (swaps : List (Swap T)) (lay : Option T) (number : ℕ) → HasOneHolder seats swaps lay → holds_behind number swaps ≡ true → lay ≡ None
  holder_finds_nothing seats swaps None number one h = refl
  holder_finds_nothing seats swaps (Some x) number nobody h = absurd (true≢false (sym h ∙ nobody number))

  -- and where nobody holds, something lies there
  pub nobody_finds_it : (seats : ℕ) (swaps : List (Swap T)) (lay : Option T) → HasOneHolder seats swaps lay → ((n : ℕ) → n < seats → holds_behind n swaps ≡ false) → (x : T) × (lay ≡ Some x)
  nobody_finds_it seats swaps (Some x) nobody free = (x, refl)
  nobody_finds_it seats swaps None one free = absurd (true≢false (sym one.holding ∙ free one.holder one.there))
