-- The members of a crew, in rows.
use Rattle.std.proofs.Common.{◌≡◌, ℕ, zero, suc, ◌<◌, List, [], ◌∷◌, ◌++◌, get_or, length, take, drop, sym, refl, ap, ◌∙◌, subst, arith, Option, Some, None, All, append_assoc}
use Rattle.std.specs.List.{AllZip}
use Rattle.std.proofs.lemmas.List.{get_or-take, length-take-le, length-append, length-drop}
use Rattle.std.proofs.lemmas.List.Elements.{All-nil, All-cons, All-head, All-tail, All-same, All-push}
use mathlib.Core.List.{reverse, reverse-cons}
use denote.Ref.{MutBor}
use denote.Param.Members.{Shared}
use Rattle.crew.specs.declared.member.Member.{Member}
use Rattle.crew.specs.Parts.{ready, mustered, IsMustered, HasWorked, AreThose, AreBack, Takes, Gives, IsReady, Did, Does, AreDone}

-- what is in a vector when its slice, lent as these, comes back as those
abbrev pub behind : {X : Type 0} → ℕ → List X → List X → List X
behind n items new = take n (new ++ drop (length new) items)

-- at each place what was written there
kept : {X : Type 0} (new items : List X) (n i : ℕ) (d : X) → i < n → n ≡ length items → get_or (behind n items new) i d ≡ get_or new i (get_or items i d)
kept [] items n i d lt same = get_or-take n items i d lt
kept (x ∷ new) [] n i d lt same = absurd (omega (arith, lt, same))
kept (x ∷ new) (y ∷ items) zero i d lt same = absurd (omega (arith, lt))
kept (x ∷ new) (y ∷ items) (suc n) zero d lt same = refl
kept (x ∷ new) (y ∷ items) (suc n) (suc i) d lt same = kept new items n i d (omega (arith, lt)) (omega (arith, same))

as_long : {X : Type 0} (new items : List X) (n : ℕ) → n ≡ length items → length (behind n items new) ≡ n
as_long new items n same =
    let both = length-append new (drop (length new) items) in
    let rest = length-drop (length new) items in
    length-take-le n (new ++ drop (length new) items) (omega (arith, same, both, rest))

twice : {X : Type 0} (xs : List X) (i : ℕ) (d : X) → get_or xs i (get_or xs i d) ≡ get_or xs i d
twice [] i d = refl
twice (x ∷ xs) zero d = refl
twice (x ∷ xs) (suc i) d = twice xs i d

module _ {A : Type 0} (R : A → A → Type 0) where
  -- a relation of the elements at each place
  each_zip : (xs ys : List A) → length ys ≡ length xs → ((i : ℕ) (d : A) → i < length xs → R (get_or xs i d) (get_or ys i d)) → AllZip R xs ys
  each_zip [] [] same all = tt
  each_zip [] (y ∷ ys) same all = absurd (omega (arith, same))
  each_zip (x ∷ xs) [] same all = absurd (omega (arith, same))
  each_zip (x ∷ xs) (y ∷ ys) same all = (all 0 x (omega arith), each_zip xs ys (omega (arith, same)) (λ i d lt. all (suc i) d (omega (arith, lt))))

  pub all_behind : (items new : List A) (n : ℕ) → n ≡ length items → ((i : ℕ) (d : A) → i < length items → R (get_or items i d) (get_or new i d)) → AllZip R items (behind n items new)
  all_behind items new n same each = each_zip items (behind n items new) (as_long new items n same ∙ same) (λ i d lt.
      let did : R (get_or items i d) (get_or new i (get_or items i d)) = subst (λ (v : A). R v (get_or new i (get_or items i d))) (twice items i d) (each i (get_or items i d) lt) in
      subst (λ (v : A). R (get_or items i d) v) (sym (kept new items n i d (omega (arith, lt, same)) same)) did)

  -- the last of each, and those before them
  pub zip_last : (xs ys : List A) (x y : A) → AllZip R (xs ++ x ∷ []) (ys ++ y ∷ []) → AllZip R xs ys × R x y
  zip_last [] [] x y h = (tt, h.0)
  zip_last [] (b ∷ []) x y h = absurd h.1
  zip_last [] (b ∷ c ∷ ys) x y h = absurd h.1
  zip_last (a ∷ []) [] x y h = absurd h.1
  zip_last (a ∷ c ∷ xs) [] x y h = absurd h.1
  zip_last (a ∷ xs) (b ∷ ys) x y h = let t = zip_last xs ys x y h.1 in ((h.0, t.0), t.1)

-- nothing is in it
pub none_there : {A : Type 0} (xs : List A) → length xs ≡ 0 → xs ≡ []
none_there [] e = refl
none_there (x ∷ xs) e = absurd (omega (arith, e))

module _ {W P T : Type 0} where
  -- one more is mustered
  pub one_more : (w : W) (p : P) (ws : List W) (ps : List P) (ms ns : List (Member W P T)) → IsMustered ws ps ms → ns ≡ ms ++ ready w p ∷ [] → IsMustered (w ∷ ws) (p ∷ ps) ns
  one_more w p ws ps ms ns h is = is ∙ (ap (λ l. l ++ ready w p ∷ []) h ∙ sym (reverse-cons (ready w p) (mustered ws ps)))

module _ {A : Type 0} where
  reverse_push : (xs : List A) (x : A) → reverse (xs ++ x ∷ []) ≡ x ∷ reverse xs
  reverse_push [] x = refl
  reverse_push (y ∷ xs) x = reverse-cons y (xs ++ x ∷ []) ∙ (ap (λ l. l ++ y ∷ []) (reverse_push xs x) ∙ ap (λ l. x ∷ l) (sym (reverse-cons y xs)))

  -- one more has left
  pub one_less : (all old new : List A) (row : List A) (x : A) → all ≡ old ++ reverse row → old ≡ new ++ x ∷ [] → all ≡ new ++ reverse (row ++ x ∷ [])
  one_less all old new row x is was = is ∙ (ap (λ l. l ++ reverse row) was ∙ (append_assoc new (x ∷ []) (reverse row) ∙ ap (λ l. new ++ l) (sym (reverse_push row x))))

  zip_none : (R : A → A → Type 0) (ys : List A) (y : A) → AllZip R [] (ys ++ y ∷ []) → ⊥
  zip_none R [] y h = absurd h
  zip_none R (z ∷ ys) y h = absurd h

  none_zip : (R : A → A → Type 0) (xs : List A) (x : A) → AllZip R (xs ++ x ∷ []) [] → ⊥
  none_zip R [] x h = absurd h
  none_zip R (z ∷ xs) x h = absurd h

  -- the same of both in their order
  pub zip_back : (R : A → A → Type 0) (xs ys : List A) → AllZip R (reverse xs) (reverse ys) → AllZip R xs ys
  zip_back R [] [] h = tt
  zip_back R [] (y ∷ ys) h = absurd (zip_none R (reverse ys) y (subst (λ l. AllZip R [] l) (reverse-cons y ys) h))
  zip_back R (x ∷ xs) [] h = absurd (none_zip R (reverse xs) x (subst (λ l. AllZip R l []) (reverse-cons x xs) h))
  zip_back R (x ∷ xs) (y ∷ ys) h =
      let t = zip_last R (reverse xs) (reverse ys) x y (subst (λ l. AllZip R l (reverse ys ++ y ∷ [])) (reverse-cons x xs) (subst (λ l. AllZip R (reverse (x ∷ xs)) l) (reverse-cons y ys) h)) in
      (t.1, zip_back R xs ys t.0)

module _ {W P T : Type 0} where
  -- one more is back
  pub one_back : (row : List (Member W P T)) (ws : List W) (ts : List T) (m : Member W P T) (t : T) → AreThose row ws ts → m.gave ≡ Some t → AreThose (row ++ m ∷ []) (ws ++ m.worker ∷ []) (ts ++ t ∷ [])
  one_back [] [] [] m t h is = (refl, is, tt)
  one_back [] [] (u ∷ ts) m t h is = absurd h
  one_back [] (w ∷ ws) ts m t h is = absurd h
  one_back (n ∷ row) [] ts m t h is = absurd h
  one_back (n ∷ row) (w ∷ ws) [] m t h is = absurd h
  one_back (n ∷ row) (w ∷ ws) (u ∷ ts) m t h is = (h.0, h.1, one_back row ws ts m t h.2 is)

-- none is back yet
pub none_back : (W P T : Type 0) (ws : List W) (ts : List T) → length ws ≡ 0 → length ts ≡ 0 → AreThose {W = W} {P = P} {T = T} [] ws ts
none_back W P T [] [] a b = tt
none_back W P T [] (t ∷ ts) a b = absurd (omega (arith, b))
none_back W P T (w ∷ ws) ts a b = absurd (omega (arith, a))

module _ {A : Type 0} where
  all_back : (P : A → Type 0) (xs : List A) → All P xs → All P (reverse xs)
  all_back P [] h = h
  all_back P (x ∷ xs) h = All-same P (reverse (x ∷ xs)) (reverse xs ++ x ∷ []) (reverse-cons x xs) (All-push P (reverse xs) x (all_back P xs (All-tail P x xs h)) (All-head P x xs h))

  pub zip_weaker : (R S : A → A → Type 0) → ((x y : A) → R x y → S x y) → (xs ys : List A) → AllZip R xs ys → AllZip S xs ys
  zip_weaker R S imp [] [] h = tt
  zip_weaker R S imp [] (y ∷ ys) h = absurd h
  zip_weaker R S imp (x ∷ xs) [] h = absurd h
  zip_weaker R S imp (x ∷ xs) (y ∷ ys) h = (imp x y h.0, zip_weaker R S imp xs ys h.1)

module _ {A B : Type 0} where
  pub same_long : (R : A → B → Type 0) (xs : List A) (ys : List B) → AllZip R xs ys → length xs ≡ length ys
  same_long R [] [] h = refl
  same_long R [] (y ∷ ys) h = absurd h
  same_long R (x ∷ xs) [] h = absurd h
  same_long R (x ∷ xs) (y ∷ ys) h = ap suc (same_long R xs ys h.1)

module _ {F W P T : Type 0} (g : Shared F (MutBor W × (P × Unit {0})) (T × (MutBor W × Unit {0}))) (f : F) where
  all_ready : (ws : List W) (ps : List P) → AllZip (Takes g f) ws ps → All (IsReady g f) (mustered ws ps)
  all_ready [] ps h = All-nil (IsReady g f)
  all_ready (w ∷ ws) [] h = All-nil (IsReady g f)
  all_ready (w ∷ ws) (p ∷ ps) h = All-cons (IsReady g f) (ready w p) (mustered ws ps) (record { part = p; has = refl; none = refl; takes = h.0 }) (all_ready ws ps h.1)

  -- each member that was mustered has its part
  pub ready_back : (ws : List W) (ps : List P) (ms : List (Member W P T)) → IsMustered ws ps ms → AllZip (Takes g f) ws ps → All (IsReady g f) ms
  ready_back ws ps ms is h = All-same (IsReady g f) ms (reverse (mustered ws ps)) is (all_back (IsReady g f) (mustered ws ps) (all_ready ws ps h))

  pub has_worked : (ms ns : List (Member W P T)) → AllZip (Does g f) ms ns → All HasWorked ns
  has_worked [] [] h = All-nil HasWorked
  has_worked [] (n ∷ ns) h = absurd h
  has_worked (m ∷ ms) [] h = absurd h
  has_worked (m ∷ ms) (n ∷ ns) h = All-cons HasWorked n ns (record { gave = h.0.gave; gave_is = h.0.gave_is; none = h.0.done }) (has_worked ms ns h.1)

  or_this : T → Option T → T
  or_this d None = d
  or_this d (Some x) = x

  same_gave : (t u : T) (o : Option T) → o ≡ Some t → o ≡ Some u → t ≡ u
  unfolding or_this
  same_gave t u o a b = ap (or_this t) (sym a ∙ b)

  did : (m n : Member W P T) (w : W) (t : T) → Does g f m n → n.worker ≡ w → n.gave ≡ Some t → Did g f m w t
  did m n w t h same gave = record {
    part = h.part;
    had = h.had;
    did = subst (λ (v : W). Gives g f m.worker h.part v t) same (subst (λ (u : T). Gives g f m.worker h.part n.worker u) (same_gave h.gave t n.gave h.gave_is gave) h.did);
  }

  done_of : (ms row : List (Member W P T)) (ws : List W) (ts : List T) → AllZip (Does g f) ms row → AreThose row ws ts → AreDone g f ms ws ts
  done_of [] [] [] [] h k = tt
  done_of [] [] [] (t ∷ ts) h k = absurd k
  done_of [] [] (w ∷ ws) ts h k = absurd k
  done_of [] (n ∷ row) ws ts h k = absurd h
  done_of (m ∷ ms) [] ws ts h k = absurd h
  done_of (m ∷ ms) (n ∷ row) [] ts h k = absurd k
  done_of (m ∷ ms) (n ∷ row) (w ∷ ws) [] h k = absurd k
  done_of (m ∷ ms) (n ∷ row) (w ∷ ws) (t ∷ ts) h k = (did m n w t h.0 k.0 k.1, done_of ms row ws ts h.1 k.2)

  -- all came back
  pub all_done : (ws : List W) (ps : List P) (ms ns : List (Member W P T)) (ws' : List W) (ts : List T) → IsMustered ws ps ms → AllZip (Does g f) ms ns → AreBack ns ws' ts → AreDone g f (mustered ws ps) ws' ts
  all_done ws ps ms ns ws' ts is h back =
      let rows = subst (λ l. AllZip (Does g f) (reverse (mustered ws ps)) l) back.is (subst (λ l. AllZip (Does g f) l ns) is h) in
      done_of (mustered ws ps) back.row ws' ts (zip_back (Does g f) (mustered ws ps) back.row rows) back.those
