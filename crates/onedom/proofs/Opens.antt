-- The open sections of a history with one more event.
use Rattle.std.proofs.Common.{◌≡◌, ℕ, suc, ◌+◌, ◌<◌, ◌≤◌, ◌≢◌, Bool, true, false, not, cond, ◌&&◌, ◌==◌, eqb, List, [], ◌∷◌, ◌++◌, None, length, filter, filter_map, refl, sym, ap, ◌∙◌, eq-eqb, ne_eqb, append-nil, length-append, arith}
use Rattle.std.specs.List.{cons_option}
use Rattle.std.proofs.lemmas.List.Elements.{filter_agree, filter_map-append}
use mathlib.Core.Logic.{dite}
use native.Mathlib.Decide.{ℕ_discrete}
use Rattle.sseq.specs.declared.index.Index.{Index}
use Rattle.onedom.specs.declared.event.Maker.{Maker}
use Rattle.onedom.specs.declared.event.Event.{Event}
use Rattle.onedom.specs.declared.event.Event.TheVariants.{Begin, End, Start, Finish, Note, Ask, Find, Put}
use Rattle.onedom.specs.Histories.{begins, ends, begins_of, ends_of, IsOpen, section_begun, open_sections, IsLegal}
use Rattle.onedom.specs.Laws.{times}
use Rattle.onedom.proofs.Pushes.{bit, count_cons, let_in, ends_of_push, well_used}

-- Lists of sections

pub times_cons : (s t : ℕ) (xs : List ℕ) → times s (t ∷ xs) ≡ bit (eqb t s) + times s xs
times_cons s t xs = count_cons (λ x. eqb x s) t xs

-- a filter keeps each number that passes as often as it was there
kept_case : (s x : ℕ) (p : ℕ → Bool) (xs ys : List ℕ) (b : Bool) → p x ≡ b → p s ≡ true → times s ys ≡ times s xs → times s (cond b (x ∷ ys) ys) ≡ times s (x ∷ xs)
kept_case s x p xs ys true is pass r = times_cons s x ys ∙ (ap (λ n. bit (eqb x s) + n) r ∙ sym (times_cons s x xs))
kept_case s x p xs ys false is pass r = let other : eqb x s ≡ false = ne_eqb x s (λ (e : x ≡ s). let f : p x ≡ p s = ap p e in cc) in
    let z : bit (eqb x s) ≡ 0 = ap bit other in let c = times_cons s x xs in omega (arith, r, z, c)

pub times_kept : (s : ℕ) (p : ℕ → Bool) (xs : List ℕ) → p s ≡ true → times s (filter p xs) ≡ times s xs
times_kept s p [] pass = refl
times_kept s p (x ∷ xs) pass = kept_case s x p xs (filter p xs) (p x) refl pass (times_kept s p xs pass)

-- and none that does not pass
gone_case : (s x : ℕ) (p : ℕ → Bool) (ys : List ℕ) (b : Bool) → p x ≡ b → p s ≡ false → times s ys ≡ 0 → times s (cond b (x ∷ ys) ys) ≡ 0
gone_case s x p ys true is miss r = let other : eqb x s ≡ false = ne_eqb x s (λ (e : x ≡ s). let f : p x ≡ p s = ap p e in cc) in
    let z : bit (eqb x s) ≡ 0 = ap bit other in let c = times_cons s x ys in omega (arith, r, z, c)
gone_case s x p ys false is miss r = r

pub times_gone : (s : ℕ) (p : ℕ → Bool) (xs : List ℕ) → p s ≡ false → times s (filter p xs) ≡ 0
times_gone s p [] miss = refl
times_gone s p (x ∷ xs) miss = gone_case s x p (filter p xs) (p x) refl miss (times_gone s p xs miss)

-- those that are left without a number, and how often it was there
pub without : (s : ℕ) (xs : List ℕ) → length (filter (λ u. not (eqb u s)) xs) + times s xs ≡ length xs
without s [] = refl
without s (x ∷ xs) = let r = without s xs in let c = times_cons s x xs in go (eqb x s) refl r c
  where
    go : (b : Bool) → eqb x s ≡ b → length (filter (λ u. not (eqb u s)) xs) + times s xs ≡ length xs → times s (x ∷ xs) ≡ bit (eqb x s) + times s xs
        → length (cond (not b) (x ∷ filter (λ u. not (eqb u s)) xs) (filter (λ u. not (eqb u s)) xs)) + times s (x ∷ xs) ≡ suc (length xs)
    go true is r c = let z : bit (eqb x s) ≡ 1 = ap bit is in omega (arith, r, c, z)
    go false is r c = let z : bit (eqb x s) ≡ 0 = ap bit is in omega (arith, r, c, z)

twice_case : (p q : ℕ → Bool) (x : ℕ) (ys zs : List ℕ) (b : Bool) → p x ≡ b → filter q ys ≡ zs → filter q (cond b (x ∷ ys) ys) ≡ cond (b && q x) (x ∷ zs) zs
twice_case p q x ys zs true is r = ap (λ l. cond (q x) (x ∷ l) l) r
twice_case p q x ys zs false is r = r

pub filter_twice : (p q : ℕ → Bool) (xs : List ℕ) → filter q (filter p xs) ≡ filter (λ x. p x && q x) xs
filter_twice p q [] = refl
filter_twice p q (x ∷ xs) = twice_case p q x (filter p xs) (filter (λ y. p y && q y) xs) (p x) refl (filter_twice p q xs)

-- Sections that were begun

-- the sections of all Begins, in their order
abbrev pub begun_sections : List Event → List ℕ
begun_sections history = filter_map section_begun history

-- no End of the section
abbrev pub unended : List Event → ℕ → Bool
unended history s = ends_of s history == 0

pub times_begun : (s : ℕ) (history : List Event) → times s (begun_sections history) ≡ begins_of s history
times_begun s [] = refl
times_begun s (Begin t p i by ∷ es) = let r = times_begun s es in let c = times_cons s t (begun_sections es) in let d = count_cons (begins s) (Begin t p i by) es in omega (arith, r, c, d)
times_begun s (End t q by ∷ es) = let r = times_begun s es in let d = count_cons (begins s) (End t q by) es in omega (arith, r, d)
times_begun s (Start by ∷ es) = let r = times_begun s es in let d = count_cons (begins s) (Start by) es in omega (arith, r, d)
times_begun s (Finish by ∷ es) = let r = times_begun s es in let d = count_cons (begins s) (Finish by) es in omega (arith, r, d)
times_begun s (Note cookie by ∷ es) = let r = times_begun s es in let d = count_cons (begins s) (Note cookie by) es in omega (arith, r, d)
times_begun s (Ask cookie done by ∷ es) = let r = times_begun s es in let d = count_cons (begins s) (Ask cookie done by) es in omega (arith, r, d)
times_begun s (Find u cell slot version by ∷ es) = let r = times_begun s es in let d = count_cons (begins s) (Find u cell slot version by) es in omega (arith, r, d)
times_begun s (Put cell slot version by ∷ es) = let r = times_begun s es in let d = count_cons (begins s) (Put cell slot version by) es in omega (arith, r, d)

-- a section that has not ended stands among the open ones as often as it was begun
pub times_open : (s : ℕ) (history : List Event) → ends_of s history ≡ 0 → times s (open_sections history) ≡ begins_of s history
times_open s history none = times_kept s (unended history) (begun_sections history) (eq-eqb (ends_of s history) 0 none) ∙ times_begun s history

-- and one that has ended, not at all
pub times_ended : (s : ℕ) (history : List Event) → 0 < ends_of s history → times s (open_sections history) ≡ 0
times_ended s history some = times_gone s (unended history) (begun_sections history) (ne_eqb (ends_of s history) 0 (λ (e : ends_of s history ≡ 0). absurd (omega (arith, e, some))))

pub times_open_le : (s : ℕ) (history : List Event) → times s (open_sections history) ≤ begins_of s history
times_open_le s history = dite (ℕ_discrete (ends_of s history) 0)
    (λ (e : ends_of s history ≡ 0). let t = times_open s history e in omega (arith, t))
    (λ (n : ends_of s history ≢ 0). let some : 0 < ends_of s history = omega arith in let t = times_ended s history some in omega (arith, t))

-- One more event

-- a section that begins, and that had no End
pub open_sections_begun : (history : List Event) (s p : ℕ) (i : Index) (by : Maker) → ends_of s history ≡ 0 → open_sections (history ++ Begin s p i by ∷ []) ≡ open_sections history ++ s ∷ []
open_sections_begun history s p i by none = ap (filter (unended (history ++ Begin s p i by ∷ []))) (filter_map-append section_begun history (Begin s p i by ∷ []))
    ∙ (filter_agree (unended (history ++ Begin s p i by ∷ [])) (unended history) (λ t. ap (λ n. n == 0) (same t)) (begun_sections history ++ s ∷ [])
    ∙ let_in (unended history) (begun_sections history) s (eq-eqb (ends_of s history) 0 none))
  where
    same : (t : ℕ) → ends_of t (history ++ Begin s p i by ∷ []) ≡ ends_of t history
    same t = let c = ends_of_push t history (Begin s p i by) in omega (arith, c)

-- an event that neither begins nor ends a section
pub open_sections_plain : (history : List Event) (e : Event) → section_begun e ≡ None → ((s : ℕ) → ends s e ≡ false) → open_sections (history ++ e ∷ []) ≡ open_sections history
open_sections_plain history e none other = ap (filter (unended (history ++ e ∷ []))) (filter_map-append section_begun history (e ∷ []) ∙ (ap (λ o. begun_sections history ++ cons_option o []) none ∙ append-nil (begun_sections history)))
    ∙ filter_agree (unended (history ++ e ∷ [])) (unended history) (λ t. ap (λ n. n == 0) (same t)) (begun_sections history)
  where
    same : (t : ℕ) → ends_of t (history ++ e ∷ []) ≡ ends_of t history
    same t = let c = ends_of_push t history e in let z : bit (ends t e) ≡ 0 = ap bit (other t) in omega (arith, c, z)

-- a section that ends: the others are left
pub open_sections_ended : (history : List Event) (s q : ℕ) (by : Maker) → open_sections (history ++ End s q by ∷ []) ≡ filter (λ u. not (eqb u s)) (open_sections history)
open_sections_ended history s q by = ap (filter (unended (history ++ End s q by ∷ []))) (filter_map-append section_begun history (End s q by ∷ []) ∙ append-nil (begun_sections history))
    ∙ (filter_agree (unended (history ++ End s q by ∷ [])) (λ t. unended history t && not (eqb t s)) same (begun_sections history)
    ∙ sym (filter_twice (unended history) (λ t. not (eqb t s)) (begun_sections history)))
  where
    and_true : (b : Bool) → b && true ≡ b
    and_true true = refl
    and_true false = refl

    and_false : (b : Bool) → b && false ≡ false
    and_false true = refl
    and_false false = refl

    same : (t : ℕ) → unended (history ++ End s q by ∷ []) t ≡ (unended history t && not (eqb t s))
    same t = let c = ends_of_push t history (End s q by) in dite (ℕ_discrete t s)
        (λ (y : t ≡ s). let one : bit (eqb s t) ≡ 1 = ap bit (eq-eqb s t (sym y)) in let gone : unended (history ++ End s q by ∷ []) t ≡ false = ne_eqb (ends_of t (history ++ End s q by ∷ [])) 0 (λ z. absurd (omega (arith, c, one, z))) in
        gone ∙ sym (ap (λ b. unended history t && not b) (eq-eqb t s y) ∙ and_false (unended history t)))
        (λ (n : t ≢ s). let zero : bit (eqb s t) ≡ 0 = ap bit (ne_eqb s t (λ z. n (sym z))) in let kept : ends_of t (history ++ End s q by ∷ []) ≡ ends_of t history = omega (arith, c, zero) in
        ap (λ n. n == 0) kept ∙ sym (ap (λ b. unended history t && not b) (ne_eqb t s n) ∙ and_true (unended history t)))

-- their number
pub one_more_open : (history : List Event) (s p : ℕ) (i : Index) (by : Maker) → ends_of s history ≡ 0 → length (open_sections (history ++ Begin s p i by ∷ [])) ≡ length (open_sections history) + 1
one_more_open history s p i by none = ap length (open_sections_begun history s p i by none) ∙ (length-append (open_sections history) (s ∷ []) ∙ omega arith)

pub fewer_open : (history : List Event) (s q : ℕ) (by : Maker) → length (open_sections (history ++ End s q by ∷ [])) + times s (open_sections history) ≡ length (open_sections history)
fewer_open history s q by = let a = ap length (open_sections_ended history s q by) in let w = without s (open_sections history) in omega (arith, a, w)

pub one_less_open : (history : List Event) (s q : ℕ) (by : Maker) → times s (open_sections history) ≡ 1 → length (open_sections (history ++ End s q by ∷ [])) + 1 ≡ length (open_sections history)
one_less_open history s q by one = let a = fewer_open history s q by in omega (arith, a, one)

pub same_open_plain : (history : List Event) (e : Event) → section_begun e ≡ None → ((s : ℕ) → ends s e ≡ false) → length (open_sections (history ++ e ∷ [])) ≡ length (open_sections history)
same_open_plain history e none other = ap length (open_sections_plain history e none other)

-- Legal histories

-- an open section stands among the open ones once
pub open_once : (s : ℕ) (history : List Event) → IsLegal history → IsOpen history s → times s (open_sections history) ≡ 1
open_once s history legal is_open = let t = times_open s history is_open.1 in let w = (well_used s history legal).once in let b = is_open.0 in omega (arith, t, w, b)

pub times_open_once : (s : ℕ) (history : List Event) → IsLegal history → times s (open_sections history) ≤ 1
times_open_once s history legal = let t = times_open_le s history in let w = (well_used s history legal).once in omega (arith, t, w)

-- and what stands there is open
pub open_there : (s : ℕ) (history : List Event) → 0 < times s (open_sections history) → IsOpen history s
open_there s history some = let t = times_open_le s history in (
  omega (arith, t, some),
  dite (ℕ_discrete (ends_of s history) 0) (λ (e : ends_of s history ≡ 0). e)
      (λ (n : ends_of s history ≢ 0). let more : 0 < ends_of s history = omega arith in let z = times_ended s history more in absurd (omega (arith, z, some))),
)
