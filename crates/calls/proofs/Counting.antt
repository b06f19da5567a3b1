-- What the tally words count, after one more deed.
use Rattle.std.proofs.Common.{◌≡◌, ◌≢◌, ℕ, ◌+◌, ◌==◌, Bool, true, false, cond, eqb, if◌then◌else◌, List, [], ◌∷◌, ◌++◌, refl, sym, ap, ◌∙◌, subst, eq-eqb, ne_eqb, append_assoc, append-nil, length, arith}
use Rattle.std.proofs.lemmas.List.Elements.{filter-append}
use mathlib.Core.Logic.{dite}
use native.Mathlib.Decide.{ℕ_discrete}
use Rattle.annals.specs.Logs.Maker.{Sitter}
use Rattle.annals.proofs.CallerLemmas as annals
use Rattle.calls.specs.Glossary.{Entry, Act, Deed, deed, is_queue, queued_by, queued_in, finished_by, finished_in, deeds_of, IsTaker, AreTakers, IsBeginning, IsTrueOf, AreTrueAfter, AreTrue}
use Rattle.calls.specs.declared.view.Act.TheVariants.{Queue, Finish}

abbrev one_if : Bool → ℕ
one_if b = if b then 1 else 0

abbrev many_if : ℕ → Bool → ℕ
many_if n b = if b then n else 0

-- Counts

module _ {J : Type 0} where
  pub queued_push : (p : ℕ) (l : List (Deed J)) (d : Deed J) → queued_in p (l ++ d ∷ []) ≡ queued_in p l + queued_by p d
  queued_push p [] d = omega arith
  queued_push p (x ∷ xs) d = let r = queued_push p xs d in omega (arith, r)

  pub finished_push : (p : ℕ) (l : List (Deed J)) (d : Deed J) → finished_in p (l ++ d ∷ []) ≡ finished_in p l + finished_by p d.act
  finished_push p [] d = omega arith
  finished_push p (x ∷ xs) d = let r = finished_push p xs d in omega (arith, r)

  pub queued_here : (p : ℕ) (call : Entry J) (l : List (Deed J)) → queued_in p (l ++ deed p (Queue call) ∷ []) ≡ queued_in p l + 1
  queued_here p call l = let e = queued_push p l (deed p (Queue call)) in let b : one_if (eqb p p) ≡ 1 = ap one_if (eq-eqb p p refl) in omega (arith, e, b)

  pub queued_else : (p q : ℕ) (call : Entry J) (l : List (Deed J)) → q ≢ p → queued_in p (l ++ deed q (Queue call) ∷ []) ≡ queued_in p l
  queued_else p q call l ne = let e = queued_push p l (deed q (Queue call)) in let b : one_if (eqb q p) ≡ 0 = ap one_if (ne_eqb q p ne) in omega (arith, e, b)

  -- no other act changes it
  pub queued_still : (p : ℕ) (l : List (Deed J)) (c : ℕ) (act : Act J) → is_queue act ≡ false → queued_in p (l ++ deed c act ∷ []) ≡ queued_in p l
  queued_still p l c act none = let e = queued_push p l (deed c act) in let z : queued_by p (deed c act) ≡ 0 = ap (λ (b : Bool). if b then (if eqb c p then 1 else 0) else 0) none in omega (arith, e, z)

  pub finished_here : (p n : ℕ) (l : List (Deed J)) (c : ℕ) → finished_in p (l ++ deed c (Finish p n) ∷ []) ≡ finished_in p l + n
  finished_here p n l c = let e = finished_push p l (deed c (Finish p n)) in let b : many_if n (eqb p p) ≡ n = ap (many_if n) (eq-eqb p p refl) in omega (arith, e, b)

  pub finished_else : (p q n : ℕ) (l : List (Deed J)) (c : ℕ) → q ≢ p → finished_in p (l ++ deed c (Finish q n) ∷ []) ≡ finished_in p l
  finished_else p q n l c ne = let e = finished_push p l (deed c (Finish q n)) in let b : many_if n (eqb q p) ≡ 0 = ap (many_if n) (ne_eqb q p ne) in omega (arith, e, b)

  pub finished_still : (p : ℕ) (l : List (Deed J)) (c : ℕ) (act : Act J) → finished_by p act ≡ 0 → finished_in p (l ++ deed c act ∷ []) ≡ finished_in p l
  finished_still p l c act none = let e = finished_push p l (deed c act) in omega (arith, e, none)

  -- Whose deeds

  pub deeds_own : (p : ℕ) (l : List (Deed J)) (d : Deed J) → d.by ≡ p → deeds_of p (l ++ d ∷ []) ≡ deeds_of p l ++ d ∷ []
  deeds_own p l d is = filter-append (λ x. x.by == p) l (d ∷ []) ∙ ap (λ b. deeds_of p l ++ cond b (d ∷ []) []) (eq-eqb d.by p is)

abbrev zero_if : Bool → ℕ
zero_if b = if b then 0 else 0

nothing : (b : Bool) → zero_if b ≡ 0
nothing true = refl
nothing false = refl

module _ {J : Type 0} where
  not_own : (p : ℕ) (d : Deed J) → d.by ≢ p → queued_by p d ≡ 0
  not_own p d n = ap (λ (b : Bool). if is_queue d.act then (if b then 1 else 0) else 0) (ne_eqb d.by p n) ∙ nothing (is_queue d.act)

  -- a processor's own deeds tell how many calls it has queued
  pub queued_deeds : (p : ℕ) (l : List (Deed J)) → queued_in p (deeds_of p l) ≡ queued_in p l
  queued_deeds p [] = refl
  queued_deeds p (x ∷ xs) = let r = queued_deeds p xs in dite (ℕ_discrete x.by p)
      (λ e. let kept : queued_in p (deeds_of p (x ∷ xs)) ≡ queued_by p x + queued_in p (deeds_of p xs) = ap (λ b. queued_in p (cond b (x ∷ deeds_of p xs) (deeds_of p xs))) (eq-eqb x.by p e) in kept ∙ ap (λ n. queued_by p x + n) r)
      (λ n. let kept : queued_in p (deeds_of p (x ∷ xs)) ≡ queued_in p (deeds_of p xs) = ap (λ b. queued_in p (cond b (x ∷ deeds_of p xs) (deeds_of p xs))) (ne_eqb x.by p n) in let none = not_own p x n in omega (arith, kept, r, none))

  pub same_queued : (p : ℕ) (a b : List (Deed J)) → deeds_of p a ≡ deeds_of p b → queued_in p a ≡ queued_in p b
  same_queued p a b same = sym (queued_deeds p a) ∙ (ap (queued_in p) same ∙ queued_deeds p b)

  -- Beginnings

  pub begins_itself : (l : List (Deed J)) → IsBeginning l l
  begins_itself l = record { rest = []; whole = sym (append-nil l) }

  pub begins_empty : (l : List (Deed J)) → IsBeginning [] l
  begins_empty l = record { rest = l; whole = refl }

  pub begins_pushed : {a b : List (Deed J)} (d : Deed J) → IsBeginning a b → IsBeginning a (b ++ d ∷ [])
  begins_pushed {a} {b} d h = record { rest = h.rest ++ d ∷ []; whole = ap (λ l. l ++ d ∷ []) h.whole ∙ append_assoc a h.rest (d ∷ []) }

  -- Loads

  true_push : (before l : List (Deed J)) (d : Deed J) → AreTrueAfter before l → IsTrueOf (before ++ l) d.act → AreTrueAfter before (l ++ d ∷ [])
  true_push before [] d h t = (subst (λ (z : List (Deed J)). IsTrueOf z d.act) (append-nil before) t, tt)
  true_push before (x ∷ xs) d h t = (h.0, true_push (before ++ x ∷ []) xs d h.1 (subst (λ (z : List (Deed J)). IsTrueOf z d.act) (sym (append_assoc before (x ∷ []) xs)) t))

  pub one_more_true : (l : List (Deed J)) (d : Deed J) → AreTrue l → IsTrueOf l d.act → AreTrue (l ++ d ∷ [])
  one_more_true l d h t = true_push [] l d h t

  -- Who finished batches

  pub one_more_taker : (n : ℕ) (l : List (Deed J)) (d : Deed J) → AreTakers n l → IsTaker n d.by d.act → AreTakers n (l ++ d ∷ [])
  one_more_taker n [] d h t = (t, tt)
  one_more_taker n (x ∷ xs) d h t = (h.0, one_more_taker n xs d h.1 t)

  pub earlier_takers : (n : ℕ) {a b : List (Deed J)} → IsBeginning a b → AreTakers n b → AreTakers n a
  earlier_takers n {a} {b} h all = front a (subst (λ (l : List (Deed J)). AreTakers n l) h.whole all)
    where
      front : (l : List (Deed J)) → AreTakers n (l ++ h.rest) → AreTakers n l
      front [] k = tt
      front (x ∷ xs) k = (k.0, front xs k.1)

  pub later_takers : (n : ℕ) (a b : List (Deed J)) → AreTakers n (a ++ b) → AreTakers n b
  later_takers n [] b h = h
  later_takers n (x ∷ xs) b h = later_takers n xs b h.1

-- Own deeds

module _ {J : Type 0} where
  pub deeds_append : (p : ℕ) (a b : List (Deed J)) → deeds_of p (a ++ b) ≡ deeds_of p a ++ deeds_of p b
  deeds_append p a b = filter-append (λ d. d.by == p) a b

  pub none_more : (l : List (Deed J)) → length l ≡ 0 → l ≡ []
  none_more [] e = refl
  none_more (x ∷ xs) e = absurd (omega arith)

  -- a processor whose deeds are the same in two lists has just these in all that lie between
  pub own_between : (p : ℕ) (a b c : List (Deed J)) → IsBeginning a b → IsBeginning b c → deeds_of p c ≡ deeds_of p a → deeds_of p b ≡ deeds_of p a
  own_between p a b c ab bc same = annals.own_between (λ (d : Deed J). Sitter d.by) (Sitter p) a b c ab bc same

  -- Loads

  true_front : (before a b : List (Deed J)) → AreTrueAfter before (a ++ b) → AreTrueAfter before a
  true_front before [] b h = tt
  true_front before (x ∷ xs) b h = (h.0, true_front (before ++ x ∷ []) xs b h.1)

  -- each beginning of true loads is true
  pub true_beginning : {a b : List (Deed J)} → IsBeginning a b → AreTrue b → AreTrue a
  true_beginning {a} {b} h so = true_front [] a h.rest (subst (λ (l : List (Deed J)). AreTrue l) h.whole so)
