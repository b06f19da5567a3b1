-- A list of swaps that grows by what those in hand have swapped, and by nothing else.
use Rattle.std.proofs.Common.{◌≡◌, ℕ, suc, ◌+◌, ◌<◌, ◌==◌, cond, List, [], ◌∷◌, ◌++◌, length, All, refl, ap, ◌∙◌, subst, append-nil, append_assoc, length-append, eq-eqb, arith}
use Rattle.std.proofs.lemmas.List.Elements.{filter-append, All-nil, All-cons, All-head, All-tail}
use Rattle.annals.specs.Logs.Maker.{Sitter}
use Rattle.annals.proofs.CallerLemmas as annals
use Rattle.desk.specs.Glossary.{Swap, swaps_of, IsBeginning, GrowsByOne, GrowsByTwo}

module _ {T : Type 0} where
  -- how many swaps a seat made
  abbrev made : ℕ → List (Swap T) → ℕ
  made n swaps = length (swaps_of n swaps)

  pub swaps_of_append : (n : ℕ) (a b : List (Swap T)) → swaps_of n (a ++ b) ≡ swaps_of n a ++ swaps_of n b
  swaps_of_append n a b = filter-append (λ s. s.by == n) a b

  made_append : (n : ℕ) (a b : List (Swap T)) → made n (a ++ b) ≡ made n a + made n b
  made_append n a b = ap length (swaps_of_append n a b) ∙ length-append (swaps_of n a) (swaps_of n b)

  -- a seat whose swaps are the same in two lists has just these in all that lie between
  pub own_between : (n : ℕ) (a b c : List (Swap T)) → IsBeginning a b → IsBeginning b c → swaps_of n c ≡ swaps_of n a → swaps_of n b ≡ swaps_of n a
  own_between n a b c ab bc same = annals.own_between (λ (s : Swap T). Sitter s.by) (Sitter n) a b c ab bc same

  made_first : (e : Swap T) (es : List (Swap T)) → made e.by (e ∷ es) ≡ suc (made e.by es)
  made_first e es = ap (λ b. length (cond b (e ∷ swaps_of e.by es) (swaps_of e.by es))) (eq-eqb e.by e.by refl)

  -- nobody made a swap: there is none
  nobody : (seats : ℕ) (es : List (Swap T)) → All (λ s. s.by < seats) es → ((n : ℕ) → n < seats → made n es ≡ 0) → es ≡ []
  nobody seats [] all none = refl
  nobody seats (e ∷ es) all none = let no_one = none e.by (All-head (λ (s : Swap T). s.by < seats) e es all) in let first = made_first e es in absurd (omega (arith, first, no_one))

  all_front : (P : Swap T → Type 0) (a b : List (Swap T)) → All P (a ++ b) → All P a
  all_front P [] b h = All-nil P
  all_front P (x ∷ a) b h = All-cons P x a (All-head P x (a ++ b) h) (all_front P a b (All-tail P x (a ++ b) h))

  all_back : (P : Swap T → Type 0) (a b : List (Swap T)) → All P (a ++ b) → All P b
  all_back P [] b h = h
  all_back P (x ∷ a) b h = all_back P a b (All-tail P x (a ++ b) h)

  pub grows_by_one : GrowsByOne T
  grows_by_one seats start before act all b c just = (
    b.whole ∙ (ap (λ l. start ++ l) none_before ∙ append-nil start),
    c.whole ∙ (ap (λ l. (before ++ act) ++ l) none_behind ∙ (append-nil (before ++ act) ∙ ap (λ l. l ++ act) (b.whole ∙ (ap (λ l. start ++ l) none_before ∙ append-nil start)))),
  )
    where
      P : Swap T → Type 0
      P s = s.by < seats

      whole : All P ((before ++ act) ++ c.rest)
      whole = subst (All P) c.whole just.0

      counts : (n : ℕ) → n < seats → made n b.rest + made n c.rest ≡ 0
      counts n lt =
          let there = ap length (just.1 n lt) in
          let wanted = made_append n start act in
          let parts = ap (made n) c.whole ∙ made_append n (before ++ act) c.rest in
          let inner = made_append n before act in
          let first = ap (made n) b.whole ∙ made_append n start b.rest in
          omega (arith, there, wanted, parts, inner, first)

      none_before : b.rest ≡ []
      none_before = nobody seats b.rest (all_back P start b.rest (subst (All P) b.whole (all_front P before act (all_front P (before ++ act) c.rest whole)))) (λ n lt. let none = counts n lt in omega (arith, none))

      none_behind : c.rest ≡ []
      none_behind = nobody seats c.rest (all_back P (before ++ act) c.rest whole) (λ n lt. let none = counts n lt in omega (arith, none))

  pub grows_by_two : GrowsByTwo T
  grows_by_two seats start before act between last all b c d just = (before_is, between_is, d.whole ∙ (ap (λ l. (between ++ last) ++ l) none_behind ∙ (append-nil (between ++ last) ∙ (ap (λ l. l ++ last) between_is ∙ append_assoc start act last))))
    where
      P : Swap T → Type 0
      P s = s.by < seats

      whole : All P ((between ++ last) ++ d.rest)
      whole = subst (All P) d.whole just.0

      inner : All P between
      inner = all_front P between last (all_front P (between ++ last) d.rest whole)

      innermost : All P before
      innermost = all_front P before act (all_front P (before ++ act) c.rest (subst (All P) c.whole inner))

      counts : (n : ℕ) → n < seats → (made n b.rest + made n c.rest) + made n d.rest ≡ 0
      counts n lt =
          let there = ap length (just.1 n lt) in
          let wanted = made_append n start (act ++ last) in
          let wanted_too = made_append n act last in
          let parts = ap (made n) d.whole ∙ made_append n (between ++ last) d.rest in
          let parts_too = made_append n between last in
          let middle = ap (made n) c.whole ∙ made_append n (before ++ act) c.rest in
          let middle_too = made_append n before act in
          let first = ap (made n) b.whole ∙ made_append n start b.rest in
          omega (arith, there, wanted, wanted_too, parts, parts_too, middle, middle_too, first)

      none_before : b.rest ≡ []
      none_before = nobody seats b.rest (all_back P start b.rest (subst (All P) b.whole innermost)) (λ n lt. let none = counts n lt in omega (arith, none))

      none_between : c.rest ≡ []
      none_between = nobody seats c.rest (all_back P (before ++ act) c.rest (subst (All P) c.whole inner)) (λ n lt. let none = counts n lt in omega (arith, none))

      none_behind : d.rest ≡ []
      none_behind = nobody seats d.rest (all_back P (between ++ last) d.rest whole) (λ n lt. let none = counts n lt in omega (arith, none))

      before_is : before ≡ start
      before_is = b.whole ∙ (ap (λ l. start ++ l) none_before ∙ append-nil start)

      between_is : between ≡ start ++ act
      between_is = c.whole ∙ (ap (λ l. (before ++ act) ++ l) none_between ∙ (append-nil (before ++ act) ∙ ap (λ l. l ++ act) before_is))
