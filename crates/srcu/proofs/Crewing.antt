-- Workers that go out and come back.
use Rattle.std.proofs.Common.{◌≡◌, ℕ, zero, suc, ◌+◌, ◌<◌, ◌≤◌, List, [], ◌∷◌, ◌++◌, All, length, get_or, sym, refl, ap, ◌∙◌, subst, arith, Some, None, Option}
use Rattle.std.proofs.lemmas.List.{map-id}
use Rattle.std.proofs.lemmas.List.FromFn.{map-range_with_len_more}
use Rattle.std.proofs.lemmas.List.Elements.{All-nil, All-cons, All-head, All-tail}
use Rattle.std.specs.List.{AllZip, range_with_len}
use denote.Ref.{MutBor}
use Rattle.std.specs.Fn.{Once, FnOnceReturnsAtMut}
use denote.Param.Members.{Shared}
use Rattle.crew.specs.Parts.{Takes, Gives, Did, mustered, ready, AreDone}
use Rattle.domain.specs.Views.{DomainView}
use Rattle.srcu.specs.Workers.{WorkerView}
use Rattle.srcu.specs.Crews.{AreWorkersOf, MayRun, RunStays, Ran, AllRan, ControlStays, IsControlled, Does}

module _ {T : Type 0} where
  or_this : T → Option T → T
  or_this d (Some x) = x
  or_this d None = d

  same_part : (t u : T) → Some t ≡ Some u → t ≡ u
  unfolding or_this
  same_part t u e = ap (or_this t) e

-- a number more
pub one_number_more : (n : ℕ) → range_with_len 0 (n + 1) ≡ range_with_len 0 n ++ n ∷ []
one_number_more n = sym (map-id (range_with_len 0 (n + 1))) ∙ (map-range_with_len_more (λ k. k) 0 n n (omega arith) ∙ ap (λ (l : List ℕ). l ++ n ∷ []) (map-id (range_with_len 0 n)))

module _ {J F T : Type 0} (g : Shared F (MutBor (WorkerView J) × (ℕ × Unit {0})) (T × (MutBor (WorkerView J) × Unit {0}))) (f : F) (d : DomainView) where
  -- each worker may be called with its number
  takes_from : (many : ℕ) → MayRun g f d many → (a n : ℕ) (ws : List (WorkerView J)) → a + n ≤ many → length ws ≡ n → AreWorkersOf d ws → AllZip (Takes g f) ws (range_with_len a n)
  takes_from many may a zero [] within same here = tt
  takes_from many may a zero (w ∷ ws) within same here = absurd (omega (arith, same))
  takes_from many may a (suc n) [] within same here = absurd (omega (arith, same))
  takes_from many may a (suc n) (w ∷ ws) within same here = (
    may a w (omega (arith, within)) (All-head (λ (v : WorkerView J). v.domain ≡ d) w ws here),
    takes_from many may (a + 1) n ws (omega (arith, within)) (omega (arith, same)) (All-tail (λ (v : WorkerView J). v.domain ≡ d) w ws here),
  )

  pub takes_all : (many : ℕ) → MayRun g f d many → (ws : List (WorkerView J)) (ns : List ℕ) → ns ≡ range_with_len 0 many → length ws ≡ many → AreWorkersOf d ws → AllZip (Takes g f) ws ns
  takes_all many may ws ns is same here = subst (λ l. AllZip (Takes g f) ws l) (sym is) (takes_from many may 0 many ws (omega arith) same here)

  gave : (w w' : WorkerView J) (k : ℕ) (t : T) → Did g f (ready w k) w' t → Gives g f w k w' t
  gave w w' k t h = subst (λ (q : ℕ). Gives g f w q w' t) (sym (same_part k h.part h.had)) h.did

  -- all came back to the domain
  pub all_back : RunStays g f d → (ws : List (WorkerView J)) (ns : List ℕ) (ws' : List (WorkerView J)) (ts : List T) → AreWorkersOf d ws → AreDone g f (mustered ws ns) ws' ts → AreWorkersOf d ws'
  all_back stays [] ns [] [] here done = All-nil (λ (v : WorkerView J). v.domain ≡ d)
  all_back stays [] ns [] (t ∷ ts) here done = absurd done
  all_back stays [] ns (w' ∷ ws') ts here done = absurd done
  all_back stays (w ∷ ws) [] [] [] here done = All-nil (λ (v : WorkerView J). v.domain ≡ d)
  all_back stays (w ∷ ws) [] [] (t ∷ ts) here done = absurd done
  all_back stays (w ∷ ws) [] (w' ∷ ws') ts here done = absurd done
  all_back stays (w ∷ ws) (k ∷ ns) [] ts here done = absurd done
  all_back stays (w ∷ ws) (k ∷ ns) (w' ∷ ws') [] here done = absurd done
  all_back stays (w ∷ ws) (k ∷ ns) (w' ∷ ws') (t ∷ ts) here done =
      All-cons (λ (v : WorkerView J). v.domain ≡ d) w' ws'
      (stays w w' k t (All-head (λ (v : WorkerView J). v.domain ≡ d) w ws here) (gave w w' k t done.0))
      (all_back stays ws ns ws' ts (All-tail (λ (v : WorkerView J). v.domain ≡ d) w ws here) done.1)

  -- as many as went
  many_from : (a n : ℕ) (ws ws' : List (WorkerView J)) (ts : List T) → length ws ≡ n → AreDone g f (mustered ws (range_with_len a n)) ws' ts → length ws' ≡ n
  many_from a zero [] [] ts same done = refl
  many_from a zero [] (w' ∷ ws') ts same done = absurd done
  many_from a zero (w ∷ ws) ws' ts same done = absurd (omega (arith, same))
  many_from a (suc n) [] ws' ts same done = absurd (omega (arith, same))
  many_from a (suc n) (w ∷ ws) [] ts same done = absurd done
  many_from a (suc n) (w ∷ ws) (w' ∷ ws') [] same done = absurd done
  many_from a (suc n) (w ∷ ws) (w' ∷ ws') (t ∷ ts) same done = ap suc (many_from (a + 1) n ws ws' ts (omega (arith, same)) done.1)

  pub as_many : (many : ℕ) (ws : List (WorkerView J)) (ns : List ℕ) (ws' : List (WorkerView J)) (ts : List T) → ns ≡ range_with_len 0 many → length ws ≡ many → AreDone g f (mustered ws ns) ws' ts → length ws' ≡ many
  as_many many ws ns ws' ts is same done = many_from 0 many ws ws' ts same (subst (λ l. AreDone g f (mustered ws l) ws' ts) is done)

  -- each number was worked on, in order
  counted : (a n : ℕ) (ws ws' : List (WorkerView J)) (ts : List T) → length ws ≡ n → AreDone g f (mustered ws (range_with_len a n)) ws' ts → length ts ≡ n
  counted a zero [] [] [] same done = refl
  counted a zero [] [] (t ∷ ts) same done = absurd done
  counted a zero [] (w' ∷ ws') ts same done = absurd done
  counted a zero (w ∷ ws) ws' ts same done = absurd (omega (arith, same))
  counted a (suc n) [] ws' ts same done = absurd (omega (arith, same))
  counted a (suc n) (w ∷ ws) [] ts same done = absurd done
  counted a (suc n) (w ∷ ws) (w' ∷ ws') [] same done = absurd done
  counted a (suc n) (w ∷ ws) (w' ∷ ws') (t ∷ ts) same done = ap suc (counted (a + 1) n ws ws' ts (omega (arith, same)) done.1)

  each_from : (a n : ℕ) (ws ws' : List (WorkerView J)) (ts : List T) → length ws ≡ n → AreWorkersOf d ws → AreDone g f (mustered ws (range_with_len a n)) ws' ts → (k : ℕ) (t : T) → k < n → Ran g f d (a + k) (get_or ts k t)
  each_from a zero ws ws' ts same here done k t lt = absurd (omega (arith, lt))
  each_from a (suc n) [] ws' ts same here done k t lt = absurd (omega (arith, same))
  each_from a (suc n) (w ∷ ws) [] ts same here done k t lt = absurd done
  each_from a (suc n) (w ∷ ws) (w' ∷ ws') [] same here done k t lt = absurd done
  each_from a (suc n) (w ∷ ws) (w' ∷ ws') (x ∷ ts) same here done zero t lt =
      let first : Ran g f d a x = record { worker = w; here = All-head (λ (v : WorkerView J). v.domain ≡ d) w ws here; left = w'; gives = gave w w' a x done.0 } in
      let at : a ≡ a + 0 = omega arith in
      subst (λ (m : ℕ). Ran g f d m x) at first
  each_from a (suc n) (w ∷ ws) (w' ∷ ws') (x ∷ ts) same here done (suc k) t lt =
      let rest = each_from (a + 1) n ws ws' ts (omega (arith, same)) (All-tail (λ (v : WorkerView J). v.domain ≡ d) w ws here) done.1 k t (omega (arith, lt)) in
      let at : a + 1 + k ≡ a + suc k = omega arith in
      subst (λ (m : ℕ). Ran g f d m (get_or ts k t)) at rest

  pub all_ran : (many : ℕ) (ws : List (WorkerView J)) (ns : List ℕ) (ws' : List (WorkerView J)) (ts : List T) → ns ≡ range_with_len 0 many → length ws ≡ many → AreWorkersOf d ws → AreDone g f (mustered ws ns) ws' ts → AllRan g f d many ts
  all_ran many ws ns ws' ts is same here done =
      let whole = subst (λ l. AreDone g f (mustered ws l) ws' ts) is done in
      let at : (k : ℕ) → 0 + k ≡ k = λ k. omega arith in
      record { count = counted 0 many ws ws' ts same whole; each = λ k t lt. subst (λ (m : ℕ). Ran g f d m (get_or ts k t)) (at k) (each_from 0 many ws ws' ts same here whole k t lt) }

module _ {J G C : Type 0} (g : Once G (MutBor (WorkerView J) × Unit {0}) (C × (MutBor (WorkerView J) × Unit {0}))) (f : G) (d : DomainView) where
  gives_it : (w w' : WorkerView J) (c : C) → Does g (Some f) w c w' → FnOnceReturnsAtMut g f w c w'
  gives_it w w' c ran = subst (λ (x : G). FnOnceReturnsAtMut g x w c w') (sym (same_part f ran.control ran.is)) ran.gives

  -- the worker of this thread is of the domain still
  pub still_controlled : ControlStays g f d → (w w' : WorkerView J) (c : C) → w.domain ≡ d → Does g (Some f) w c w' → w'.domain ≡ d
  still_controlled stays w w' c here ran = stays w w' c here (gives_it w w' c ran)

  pub was_controlled : (w w' : WorkerView J) (c : C) → w.domain ≡ d → Does g (Some f) w c w' → IsControlled g f d c
  was_controlled w w' c here ran = record { worker = w; here = here; left = w'; gives = gives_it w w' c ran }
