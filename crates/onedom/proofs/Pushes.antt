-- Histories with one more event: counts, filters, indexes, legality.
use Rattle.std.proofs.Common.{◌≡◌, ℕ, ◌+◌, ◌<◌, ◌≤◌, ◌≢◌, Bool, true, false, cond, eqb, List, [], ◌∷◌, ◌++◌, count_by, filter, refl, sym, ap, ◌∙◌, subst, eq-eqb, ne_eqb, append_assoc, append-nil, arith}
use Rattle.std.proofs.lemmas.List.Elements.{filter-append}
use Rattle.std.proofs.lemmas.List.Sums.{fold_push, sum_by_push, sum_by-cons, sum_by-append}
use mathlib.Core.Logic.{dite}
use native.Mathlib.Decide.{ℕ_discrete}
use Rattle.sseq.specs.declared.index.Index.{Index}
use Rattle.sseq.specs.declared.index.Index.TheVariants.{Zero}
use Rattle.onedom.specs.declared.event.Maker.{Maker}
use Rattle.onedom.specs.declared.event.Maker.TheVariants.{Processor, Engine}
use Rattle.onedom.specs.declared.event.Event.{Event}
use Rattle.onedom.specs.declared.event.Event.TheVariants.{Begin, End, Start, Finish, Note, Ask, Find, Put}
use Rattle.onedom.specs.Histories.{begins, ends, begins_of, ends_of, IsOpen, index_after, index_of, is_start, starts_in, is_finish, ended_in, MayFollow, IsLegalAfter, IsLegal, maker_of, same_maker, made_by}

-- 1 for `true`, 0 for `false`
abbrev pub bit : Bool → ℕ
bit b = cond b 1 0

-- Counts

pub count_push : {X : Type 0} (p : X → Bool) (xs : List X) (x : X) → count_by p (xs ++ x ∷ []) ≡ count_by p xs + bit (p x)
count_push p xs x = sum_by_push (λ y. cond (p y) 1 0) xs x

pub count_cons : {X : Type 0} (p : X → Bool) (x : X) (xs : List X) → count_by p (x ∷ xs) ≡ bit (p x) + count_by p xs
count_cons p x xs = sum_by-cons (λ y. cond (p y) 1 0) x xs

pub count_append : {X : Type 0} (p : X → Bool) (xs ys : List X) → count_by p (xs ++ ys) ≡ count_by p xs + count_by p ys
count_append p xs ys = sum_by-append (λ y. cond (p y) 1 0) xs ys

pub begins_of_push : (s : ℕ) (history : List Event) (e : Event) → begins_of s (history ++ e ∷ []) ≡ begins_of s history + bit (begins s e)
begins_of_push s history e = count_push (begins s) history e

pub ends_of_push : (s : ℕ) (history : List Event) (e : Event) → ends_of s (history ++ e ∷ []) ≡ ends_of s history + bit (ends s e)
ends_of_push s history e = count_push (ends s) history e

pub starts_in_push : (history : List Event) (e : Event) → starts_in (history ++ e ∷ []) ≡ starts_in history + bit (is_start e)
starts_in_push history e = count_push is_start history e

pub ended_in_push : (history : List Event) (e : Event) → ended_in (history ++ e ∷ []) ≡ ended_in history + bit (is_finish e)
ended_in_push history e = count_push is_finish history e

-- a filter takes away from a count
filtered_case : (p : Event → Bool) (e : Event) (es fs : List Event) (b : Bool) → count_by p fs ≤ count_by p es → count_by p (cond b (e ∷ fs) fs) ≤ count_by p (e ∷ es)
filtered_case p e es fs true r = let c = count_cons p e fs in let d = count_cons p e es in omega (arith, c, d, r)
filtered_case p e es fs false r = let d = count_cons p e es in omega (arith, d, r)

pub count_filtered : (p q : Event → Bool) (history : List Event) → count_by p (filter q history) ≤ count_by p history
count_filtered p q [] = omega arith
count_filtered p q (e ∷ es) = filtered_case p e es (filter q es) (q e) (count_filtered p q es)

-- Filters

pub kept_out : {X : Type 0} (p : X → Bool) (xs : List X) (x : X) → p x ≡ false → filter p (xs ++ x ∷ []) ≡ filter p xs
kept_out p xs x miss = filter-append p xs (x ∷ []) ∙ (ap (λ b. filter p xs ++ cond b (x ∷ []) []) miss ∙ append-nil (filter p xs))

pub let_in : {X : Type 0} (p : X → Bool) (xs : List X) (x : X) → p x ≡ true → filter p (xs ++ x ∷ []) ≡ filter p xs ++ x ∷ []
let_in p xs x hit = filter-append p xs (x ∷ []) ∙ ap (λ b. filter p xs ++ cond b (x ∷ []) []) hit

-- the event of another maker
pub made_by_other : (m : Maker) (history : List Event) (e : Event) → same_maker (maker_of e) m ≡ false → made_by m (history ++ e ∷ []) ≡ made_by m history
made_by_other m history e miss = kept_out (λ x. same_maker (maker_of x) m) history e miss

-- an event of the maker's own
pub made_by_own : (m : Maker) (history : List Event) (e : Event) → same_maker (maker_of e) m ≡ true → made_by m (history ++ e ∷ []) ≡ made_by m history ++ e ∷ []
made_by_own m history e hit = let_in (λ x. same_maker (maker_of x) m) history e hit

pub same_maker_refl : (m : Maker) → same_maker m m ≡ true
same_maker_refl (Processor p) = eq-eqb p p refl
same_maker_refl Engine = refl

pub same_maker_false : (m n : Maker) → m ≢ n → same_maker m n ≡ false
same_maker_false (Processor p) (Processor q) h = ne_eqb p q (λ e. h (ap Processor e))
same_maker_false (Processor p) Engine h = refl
same_maker_false Engine (Processor q) h = refl
same_maker_false Engine Engine h = absurd (h refl)

pub begins_of_made : (m : Maker) (s : ℕ) (history : List Event) → begins_of s (made_by m history) ≤ begins_of s history
begins_of_made m s history = count_filtered (begins s) (λ e. same_maker (maker_of e) m) history

pub ends_of_made : (m : Maker) (s : ℕ) (history : List Event) → ends_of s (made_by m history) ≤ ends_of s history
ends_of_made m s history = count_filtered (ends s) (λ e. same_maker (maker_of e) m) history

-- Indexes

pub index_of_push : (s : ℕ) (history : List Event) (e : Event) → index_of s (history ++ e ∷ []) ≡ index_after s (index_of s history) e
index_of_push s history e = fold_push (index_after s) Zero history e

-- the section that begins
pub index_of_begun : (s p : ℕ) (i : Index) (by : Maker) (history : List Event) → index_of s (history ++ Begin s p i by ∷ []) ≡ i
index_of_begun s p i by history = index_of_push s history (Begin s p i by) ∙ ap (λ b. cond b i (index_of s history)) (eq-eqb s s refl)

pub index_after_kept : (s : ℕ) (k : Index) (e : Event) → begins s e ≡ false → index_after s k e ≡ k
index_after_kept s k (Begin t p i by) miss = ap (λ b. cond b i k) miss
index_after_kept s k (End t q by) miss = refl
index_after_kept s k (Start by) miss = refl
index_after_kept s k (Finish by) miss = refl
index_after_kept s k (Note cookie by) miss = refl
index_after_kept s k (Ask cookie done by) miss = refl
index_after_kept s k (Find u cell slot version by) miss = refl
index_after_kept s k (Put cell slot version by) miss = refl

-- any other section
pub index_of_kept : (s : ℕ) (history : List Event) (e : Event) → begins s e ≡ false → index_of s (history ++ e ∷ []) ≡ index_of s history
index_of_kept s history e miss = index_of_push s history e ∙ index_after_kept s (index_of s history) e miss

-- Legality

legal_after_push : (before history : List Event) (e : Event) → IsLegalAfter before history → MayFollow (before ++ history) e → IsLegalAfter before (history ++ e ∷ [])
legal_after_push before [] e h may = let P : List Event → Type 0 = λ l. MayFollow l e in (subst P (append-nil before) may, tt)
legal_after_push before (x ∷ xs) e h may = let P : List Event → Type 0 = λ l. MayFollow l e in
    (h.0, legal_after_push (before ++ x ∷ []) xs e h.1 (subst P (sym (append_assoc before (x ∷ []) xs)) may))

pub legal_push : (history : List Event) (e : Event) → IsLegal history → MayFollow history e → IsLegal (history ++ e ∷ [])
legal_push history e h may = legal_after_push [] history e h may

-- a push that may have been refused
pub legal_pushed : (b : Bool) (history after : List Event) (e : Event) → after ≡ cond b (history ++ e ∷ []) history → IsLegal history → MayFollow history e → IsLegal after
legal_pushed true history after e h legal may = subst IsLegal (sym h) (legal_push history e legal may)
legal_pushed false history after e h legal may = subst IsLegal (sym h) legal

-- the front and the back of a legal history
pub legal_after_append : (before front back : List Event) → IsLegalAfter before (front ++ back) → (IsLegalAfter before front) × (IsLegalAfter (before ++ front) back)
legal_after_append before [] back h = let P : List Event → Type 0 = λ l. IsLegalAfter l back in (tt, subst P (sym (append-nil before)) h)
legal_after_append before (e ∷ es) back h = let P : List Event → Type 0 = λ l. IsLegalAfter l back in
    let rest = legal_after_append (before ++ e ∷ []) es back h.1 in ((h.0, rest.0), subst P (append_assoc before (e ∷ []) es) rest.1)

-- what each event keeps, each legal history has
along_from : (P : List Event → Type 0) → ((history : List Event) (e : Event) → IsLegal history → MayFollow history e → P history → P (history ++ e ∷ []))
    → (before history : List Event) → IsLegal before → IsLegalAfter before history → P before → P (before ++ history)
along_from P step before [] legal h here = subst P (sym (append-nil before)) here
along_from P step before (e ∷ es) legal h here = subst P (append_assoc before (e ∷ []) es)
    (along_from P step (before ++ e ∷ []) es (legal_push before e legal h.0) h.1 (step before e legal h.0 here))

pub along : (P : List Event → Type 0) → P [] → ((history : List Event) (e : Event) → IsLegal history → MayFollow history e → P history → P (history ++ e ∷ [])) → (history : List Event) → IsLegal history → P history
along P first step history legal = along_from P step [] history tt legal first

-- and what each event keeps from some moment on, each legal continuation has
pub along_after : (P : List Event → Type 0) → ((history : List Event) (e : Event) → IsLegal history → MayFollow history e → P history → P (history ++ e ∷ []))
    → (before rest : List Event) → IsLegal (before ++ rest) → P before → P (before ++ rest)
along_after P step before rest legal here = let parts = legal_after_append [] before rest legal in along_from P step before rest parts.0 parts.1 here

-- Sections of legal histories

-- a section is begun once at most, and ended no more often than begun
pub record WellUsed (s : ℕ) (history : List Event) : Type 0 where
  pub once : begins_of s history ≤ 1
  pub ended_after : ends_of s history ≤ begins_of s history

used_well : (s : ℕ) (history : List Event) (e : Event) → IsLegal history → MayFollow history e → WellUsed s history → WellUsed s (history ++ e ∷ [])
used_well s history (Begin t p i by) legal may w = let c = begins_of_push s history (Begin t p i by) in let d = ends_of_push s history (Begin t p i by) in let a = w.once in let b = w.ended_after in dite (ℕ_discrete t s)
    (λ y. let unbegun : begins_of s history ≡ 0 = (λ k. begins_of (sym y k) history) ∙ may in let one : bit (eqb t s) ≡ 1 = ap bit (eq-eqb t s y) in record { once = omega (arith, c, unbegun, one); ended_after = omega (arith, c, d, b) })
    (λ n. let zero : bit (eqb t s) ≡ 0 = ap bit (ne_eqb t s n) in record { once = omega (arith, c, zero, a); ended_after = omega (arith, c, d, b) })
used_well s history (End t q by) legal may w = let c = begins_of_push s history (End t q by) in let d = ends_of_push s history (End t q by) in let a = w.once in let b = w.ended_after in dite (ℕ_discrete t s)
    (λ y. let begun : 0 < begins_of s history = subst (λ (z : ℕ). 0 < begins_of z history) y may.0 in let unended : ends_of s history ≡ 0 = (λ k. ends_of (sym y k) history) ∙ may.1 in let one : bit (eqb t s) ≡ 1 = ap bit (eq-eqb t s y) in
    record { once = omega (arith, c, a); ended_after = omega (arith, c, d, begun, unended, one) })
    (λ n. let zero : bit (eqb t s) ≡ 0 = ap bit (ne_eqb t s n) in record { once = omega (arith, c, a); ended_after = omega (arith, c, d, zero, b) })
used_well s history (Start by) legal may w = let c = begins_of_push s history (Start by) in let d = ends_of_push s history (Start by) in let a = w.once in let b = w.ended_after in
    record { once = omega (arith, c, a); ended_after = omega (arith, c, d, b) }
used_well s history (Finish by) legal may w = let c = begins_of_push s history (Finish by) in let d = ends_of_push s history (Finish by) in let a = w.once in let b = w.ended_after in
    record { once = omega (arith, c, a); ended_after = omega (arith, c, d, b) }
used_well s history (Note cookie by) legal may w = let c = begins_of_push s history (Note cookie by) in let d = ends_of_push s history (Note cookie by) in let a = w.once in let b = w.ended_after in
    record { once = omega (arith, c, a); ended_after = omega (arith, c, d, b) }
used_well s history (Ask cookie done by) legal may w = let c = begins_of_push s history (Ask cookie done by) in let d = ends_of_push s history (Ask cookie done by) in let a = w.once in let b = w.ended_after in
    record { once = omega (arith, c, a); ended_after = omega (arith, c, d, b) }
used_well s history (Find u cell slot version by) legal may w = let c = begins_of_push s history (Find u cell slot version by) in let d = ends_of_push s history (Find u cell slot version by) in let a = w.once in let b = w.ended_after in
    record { once = omega (arith, c, a); ended_after = omega (arith, c, d, b) }
used_well s history (Put cell slot version by) legal may w = let c = begins_of_push s history (Put cell slot version by) in let d = ends_of_push s history (Put cell slot version by) in let a = w.once in let b = w.ended_after in
    record { once = omega (arith, c, a); ended_after = omega (arith, c, d, b) }

pub well_used : (s : ℕ) (history : List Event) → IsLegal history → WellUsed s history
well_used s history legal = along (λ h. WellUsed s h) (record { once = omega arith; ended_after = omega arith }) (used_well s) history legal

-- what was not begun has not ended
pub no_ends : (s : ℕ) (history : List Event) → IsLegal history → begins_of s history ≡ 0 → ends_of s history ≡ 0
no_ends s history legal unbegun = let w = (well_used s history legal).ended_after in omega (arith, w, unbegun)

-- a section that was begun is not begun again
pub begun_once : (s : ℕ) (history : List Event) (e : Event) → MayFollow history e → 0 < begins_of s history → begins s e ≡ false
begun_once s history (Begin t p i by) may begun = ne_eqb t s (λ (y : t ≡ s). let none : begins_of s history ≡ 0 = (λ k. begins_of (sym y k) history) ∙ may in absurd (omega (arith, none, begun)))
begun_once s history (End t q by) may begun = refl
begun_once s history (Start by) may begun = refl
begun_once s history (Finish by) may begun = refl
begun_once s history (Note cookie by) may begun = refl
begun_once s history (Ask cookie done by) may begun = refl
begun_once s history (Find u cell slot version by) may begun = refl
begun_once s history (Put cell slot version by) may begun = refl

-- an open section neither
pub not_again : (s : ℕ) (history : List Event) (e : Event) → MayFollow history e → IsOpen history s → begins s e ≡ false
not_again s history e may is_open = begun_once s history e may is_open.0

-- and stays open until its End
pub open_stays : (s : ℕ) (history : List Event) (e : Event) → ends s e ≡ false → IsOpen history s → IsOpen (history ++ e ∷ []) s
open_stays s history e other is_open = let b = begins_of_push s history e in let d = ends_of_push s history e in let zero : bit (ends s e) ≡ 0 = ap bit other in let some = is_open.0 in let none = is_open.1 in
    (omega (arith, b, some), omega (arith, d, zero, none))

-- its index too
pub open_index_stays : (s : ℕ) (history : List Event) (e : Event) → MayFollow history e → IsOpen history s → index_of s (history ++ e ∷ []) ≡ index_of s history
open_index_stays s history e may is_open = index_of_kept s history e (not_again s history e may is_open)

-- a section that begins is open
pub open_begun : (s p : ℕ) (i : Index) (by : Maker) (history : List Event) → IsLegal history → begins_of s history ≡ 0 → IsOpen (history ++ Begin s p i by ∷ []) s
open_begun s p i by history legal new = let e : Event = Begin s p i by in let b = begins_of_push s history e in let d = ends_of_push s history e in let one : bit (eqb s s) ≡ 1 = ap bit (eq-eqb s s refl) in let none = no_ends s history legal new in
    (omega (arith, b, one), omega (arith, d, none))

-- there is a number that no section has, and no larger one has
pub record IsBound (bound : ℕ) (history : List Event) : Type 0 where
  pub above : (s : ℕ) → bound ≤ s → begins_of s history ≡ 0

pub bound : (history : List Event) → (b : ℕ) × (IsBound b history)
bound [] = (0, record { above = λ s _. refl })
bound (Begin t p i by ∷ es) = let r = bound es in (
  r.0 + t + 1,
  record {
    above = λ s le. let c = count_cons (begins s) (Begin t p i by) es in let n : eqb t s ≡ false = ne_eqb t s (λ e. omega arith) in let z : bit (eqb t s) ≡ 0 = ap bit n in
        let q : begins_of s es ≡ 0 = r.1.above s (omega arith) in omega (arith, c, z, q);
  },
)
bound (End t q by ∷ es) = let r = bound es in (r.0, record { above = λ s le. let c = count_cons (begins s) (End t q by) es in let z : begins_of s es ≡ 0 = r.1.above s le in omega (arith, c, z) })
bound (Start by ∷ es) = let r = bound es in (r.0, record { above = λ s le. let c = count_cons (begins s) (Start by) es in let z : begins_of s es ≡ 0 = r.1.above s le in omega (arith, c, z) })
bound (Finish by ∷ es) = let r = bound es in (r.0, record { above = λ s le. let c = count_cons (begins s) (Finish by) es in let z : begins_of s es ≡ 0 = r.1.above s le in omega (arith, c, z) })
bound (Note cookie by ∷ es) = let r = bound es in (r.0, record { above = λ s le. let c = count_cons (begins s) (Note cookie by) es in let z : begins_of s es ≡ 0 = r.1.above s le in omega (arith, c, z) })
bound (Ask cookie done by ∷ es) = let r = bound es in (r.0, record { above = λ s le. let c = count_cons (begins s) (Ask cookie done by) es in let z : begins_of s es ≡ 0 = r.1.above s le in omega (arith, c, z) })
bound (Find u cell slot version by ∷ es) = let r = bound es in (r.0, record { above = λ s le. let c = count_cons (begins s) (Find u cell slot version by) es in let z : begins_of s es ≡ 0 = r.1.above s le in omega (arith, c, z) })
bound (Put cell slot version by ∷ es) = let r = bound es in (r.0, record { above = λ s le. let c = count_cons (begins s) (Put cell slot version by) es in let z : begins_of s es ≡ 0 = r.1.above s le in omega (arith, c, z) })

-- a number for a new section
pub fresh : (history : List Event) → (s : ℕ) × (begins_of s history ≡ 0)
fresh history = let b = bound history in let low : b.0 ≤ b.0 = omega arith in (b.0, b.1.above b.0 low)
