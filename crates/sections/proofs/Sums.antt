-- As many sections of an index have ended as were begun just where none is open.
use Rattle.std.specs.Prelude.{None}
use Rattle.std.proofs.Common.{◌≡◌, ℕ, zero, suc, ◌+◌, ◌*◌, ◌<◌, ◌≤◌, ◌≢◌, Bool, true, false, not, cond, ◌&&◌, eqb, List, [], ◌∷◌, ◌++◌, All, count_by, filter, refl, sym, ap, ◌∙◌, eq-eqb, ne_eqb, append_assoc, append-nil, arith}
use Rattle.std.proofs.lemmas.List.Elements.{All-head, All-tail}
use mathlib.Core.Logic.{dite}
use native.Mathlib.Decide.{ℕ_discrete}
use Rattle.sseq.specs.declared.index.Index.{Index}
use Rattle.sseq.specs.declared.index.Index.TheVariants.{Zero, One}
use Rattle.sseq.specs.Indexes.{same_index}
use Rattle.onedom.specs.declared.event.Maker.{Maker}
use Rattle.onedom.specs.declared.event.Event.{Event}
use Rattle.onedom.specs.declared.event.Event.TheVariants.{Begin, End, Start, Finish, Note, Ask, Find, Put}
use Rattle.onedom.specs.Histories.{begins, ends, section_begun, open_sections, index_of, IsEmpty, MayFollow, IsLegal}
use Rattle.onedom.specs.Laws.{times}
use Rattle.onedom.proofs.CallerLemmas.{bit, count_push, count_cons, index_of_push, index_of_begun, index_of_kept, along, no_ends, count_grows, times_cons, times_open_le, open_sections_begun, open_sections_plain, open_sections_ended, open_once, open_there}
use Rattle.sections.specs.Glossary.{locks_at, locks, unlocks_at, unlocks_after, sum_below, all_locks, is_begin, is_end, opened_in, closed_in, HasItsMaker, EqualSumsAreEmpty, FewerEndsShowOne, CountersAddUp, CountersGrow}
use Rattle.sections.proofs.Counters.{same_index_refl, same_index_other, unlocks_grow, balances as all_balance}

-- Sections that pass a test

-- two tests that differ at t alone count alike where t is not
count_agree : (f g : ℕ → Bool) (t : ℕ) (xs : List ℕ) → ((u : ℕ) → u ≢ t → f u ≡ g u) → times t xs ≡ 0 → count_by f xs ≡ count_by g xs
count_agree f g t [] h none = refl
count_agree f g t (x ∷ xs) h none = let c = times_cons t x xs in let a = count_cons f x xs in let b = count_cons g x xs in
    let apart : x ≢ t = λ e. let one : bit (eqb x t) ≡ 1 = ap bit (eq-eqb x t e) in omega (arith, c, one, none) in
    let r = count_agree f g t xs h (omega (arith, c, none)) in let same : bit (f x) ≡ bit (g x) = ap bit (h x apart) in omega (arith, a, b, r, same)

parts_case : (f : ℕ → Bool) (t x : ℕ) (xs ys : List ℕ) → count_by f ys + times t xs * bit (f t) ≡ count_by f xs → Dec (x ≡ t) → count_by f (cond (not (eqb x t)) (x ∷ ys) ys) + times t (x ∷ xs) * bit (f t) ≡ count_by f (x ∷ xs)
parts_case f t x xs ys r (yes e) = let c = times_cons t x xs in let a = count_cons f x xs in let one : bit (eqb x t) ≡ 1 = ap bit (eq-eqb x t e) in let same : bit (f x) ≡ bit (f t) = ap (λ u. bit (f u)) e in
    let more : times t (x ∷ xs) ≡ times t xs + 1 = omega (arith, c, one) in let product : times t (x ∷ xs) * bit (f t) ≡ (times t xs + 1) * bit (f t) = ap (λ n. n * bit (f t)) more in
    let out : count_by f (cond (not (eqb x t)) (x ∷ ys) ys) ≡ count_by f ys = ap (λ v. count_by f (cond (not v) (x ∷ ys) ys)) (eq-eqb x t e) in omega (arith, r, a, same, product, out)
parts_case f t x xs ys r (no n) = let c = times_cons t x xs in let a = count_cons f x xs in let b = count_cons f x ys in let none : bit (eqb x t) ≡ 0 = ap bit (ne_eqb x t n) in
    let as_many : times t (x ∷ xs) ≡ times t xs = omega (arith, c, none) in let product : times t (x ∷ xs) * bit (f t) ≡ times t xs * bit (f t) = ap (λ n. n * bit (f t)) as_many in
    let out : count_by f (cond (not (eqb x t)) (x ∷ ys) ys) ≡ count_by f (x ∷ ys) = ap (λ v. count_by f (cond (not v) (x ∷ ys) ys)) (ne_eqb x t n) in omega (arith, r, a, b, product, out)

-- the others, and those that are t
count_parts : (f : ℕ → Bool) (t : ℕ) (xs : List ℕ) → count_by f (filter (λ u. not (eqb u t)) xs) + times t xs * bit (f t) ≡ count_by f xs
count_parts f t [] = omega arith
count_parts f t (x ∷ xs) = parts_case f t x xs (filter (λ u. not (eqb u t)) xs) (count_parts f t xs) (ℕ_discrete x t)

-- one that is there once
count_without : (f : ℕ → Bool) (t : ℕ) (xs : List ℕ) → times t xs ≡ 1 → count_by f (filter (λ u. not (eqb u t)) xs) + bit (f t) ≡ count_by f xs
count_without f t xs once = let parts = count_parts f t xs in let product : times t xs * bit (f t) ≡ 1 * bit (f t) = ap (λ n. n * bit (f t)) once in omega (arith, parts, product)

-- nothing is counted where none that is there passes
count_nothing : (f : ℕ → Bool) (xs : List ℕ) → ((t : ℕ) → 0 < times t xs → f t ≡ false) → count_by f xs ≡ 0
count_nothing f [] h = refl
count_nothing f (x ∷ xs) h = let a = count_cons f x xs in
    let there : 0 < times x (x ∷ xs) = (let c = times_cons x x xs in let one : bit (eqb x x) ≡ 1 = ap bit (eq-eqb x x refl) in omega (arith, c, one)) in
    let none : bit (f x) ≡ 0 = ap bit (h x there) in
    let r = count_nothing f xs (λ t some. h t (let c = times_cons t x xs in omega (arith, c, some))) in omega (arith, a, none, r)

-- Begun, ended and still open

abbrev begins_with : Index → Event → Bool
begins_with i (Begin s p j by) = same_index j i
begins_with i e = false

-- a section ends, and the events before tell that it was begun with index i
abbrev ends_with : Index → List Event → Event → Bool
ends_with i before (End s q by) = same_index (index_of s before) i
ends_with i before e = false

abbrev ended_after : Index → List Event → List Event → ℕ
ended_after i before [] = 0
ended_after i before (e ∷ es) = bit (ends_with i before e) + ended_after i (before ++ e ∷ []) es

-- how many open sections have the index
abbrev waiting : Index → List Event → ℕ
waiting i log = count_by (λ s. same_index (index_of s log) i) (open_sections log)

ended_after_push : (i : Index) (before log : List Event) (e : Event) → ended_after i before (log ++ e ∷ []) ≡ ended_after i before log + bit (ends_with i (before ++ log) e)
ended_after_push i before [] e = let same = append-nil before in rw same (omega arith)
ended_after_push i before (x ∷ xs) e = let rest = ended_after_push i (before ++ x ∷ []) xs e in let same = append_assoc before (x ∷ []) xs in
    let rest' : ended_after i (before ++ x ∷ []) (xs ++ e ∷ []) ≡ ended_after i (before ++ x ∷ []) xs + bit (ends_with i (before ++ x ∷ xs) e) = rw same at rest in omega (arith, rest')

waiting_begun : (i : Index) (log : List Event) (s p : ℕ) (j : Index) (by : Maker) → IsLegal log → MayFollow log (Begin s p j by) → waiting i (log ++ Begin s p j by ∷ []) ≡ waiting i log + bit (same_index j i)
waiting_begun i log s p j by legal may = let e : Event = Begin s p j by in
    let opened = ap (count_by (λ u. same_index (index_of u (log ++ e ∷ [])) i)) (open_sections_begun log s p j by (no_ends s log legal may)) in
    let more = count_push (λ u. same_index (index_of u (log ++ e ∷ [])) i) (open_sections log) s in
    let mine : bit (same_index (index_of s (log ++ e ∷ [])) i) ≡ bit (same_index j i) = ap (λ k. bit (same_index k i)) (index_of_begun s p j by log) in
    let new : times s (open_sections log) ≡ 0 = (let t = times_open_le s log in omega (arith, t, may)) in
    let others = count_agree (λ u. same_index (index_of u (log ++ e ∷ [])) i) (λ u. same_index (index_of u log) i) s (open_sections log)
    (λ u n. ap (λ k. same_index k i) (index_of_kept u log e (ne_eqb s u (λ q. n (sym q))))) new in
    omega (arith, opened, more, mine, others)

waiting_ended : (i : Index) (log : List Event) (s q : ℕ) (by : Maker) → IsLegal log → MayFollow log (End s q by) → waiting i (log ++ End s q by ∷ []) + bit (same_index (index_of s log) i) ≡ waiting i log
waiting_ended i log s q by legal may = let e : Event = End s q by in
    let opened : waiting i (log ++ e ∷ []) ≡ count_by (λ u. same_index (index_of u log) i) (filter (λ u. not (eqb u s)) (open_sections log)) =
    ap (count_by (λ u. same_index (index_of u (log ++ e ∷ [])) i)) (open_sections_ended log s q by) ∙ (λ k. count_by (λ u. same_index (index_of_push u log e k) i) (filter (λ u. not (eqb u s)) (open_sections log))) in
    let less = count_without (λ u. same_index (index_of u log) i) s (open_sections log) (open_once s log legal may) in omega (arith, opened, less)

waiting_plain : (i : Index) (log : List Event) (e : Event) → section_begun e ≡ None → ((s : ℕ) → begins s e ≡ false) → ((s : ℕ) → ends s e ≡ false) → waiting i (log ++ e ∷ []) ≡ waiting i log
waiting_plain i log e none begun ended = ap (count_by (λ u. same_index (index_of u (log ++ e ∷ [])) i)) (open_sections_plain log e none ended)
    ∙ (λ k. count_by (λ u. same_index (index_of_kept u log e (begun u) k) i) (open_sections log))

abbrev Balances : Index → List Event → Type 0
Balances i log = count_by (begins_with i) log ≡ ended_after i [] log + waiting i log

balances_plain : (i : Index) (log : List Event) (e : Event) → waiting i (log ++ e ∷ []) ≡ waiting i log → begins_with i e ≡ false → ends_with i log e ≡ false → Balances i log → Balances i (log ++ e ∷ [])
balances_plain i log e same no_begin no_end h = let b = count_push (begins_with i) log e in let d = ended_after_push i [] log e in
    let y : bit (begins_with i e) ≡ 0 = ap bit no_begin in let z : bit (ends_with i log e) ≡ 0 = ap bit no_end in omega (arith, b, d, same, y, z, h)

balances_push : (i : Index) (log : List Event) (e : Event) → IsLegal log → MayFollow log e → Balances i log → Balances i (log ++ e ∷ [])
balances_push i log (Begin s p j by) legal may h = let b = count_push (begins_with i) log (Begin s p j by) in let d = ended_after_push i [] log (Begin s p j by) in let w = waiting_begun i log s p j by legal may in omega (arith, b, d, w, h)
balances_push i log (End s q by) legal may h = let b = count_push (begins_with i) log (End s q by) in let d = ended_after_push i [] log (End s q by) in let w = waiting_ended i log s q by legal may in omega (arith, b, d, w, h)
balances_push i log (Start by) legal may h = balances_plain i log (Start by) (waiting_plain i log (Start by) refl (λ _. refl) (λ _. refl)) refl refl h
balances_push i log (Finish by) legal may h = balances_plain i log (Finish by) (waiting_plain i log (Finish by) refl (λ _. refl) (λ _. refl)) refl refl h
balances_push i log (Note c by) legal may h = balances_plain i log (Note c by) (waiting_plain i log (Note c by) refl (λ _. refl) (λ _. refl)) refl refl h
balances_push i log (Ask c b by) legal may h = balances_plain i log (Ask c b by) (waiting_plain i log (Ask c b by) refl (λ _. refl) (λ _. refl)) refl refl h
balances_push i log (Find u d x v by) legal may h = balances_plain i log (Find u d x v by) (waiting_plain i log (Find u d x v by) refl (λ _. refl) (λ _. refl)) refl refl h
balances_push i log (Put d x v by) legal may h = balances_plain i log (Put d x v by) (waiting_plain i log (Put d x v by) refl (λ _. refl) (λ _. refl)) refl refl h

balances : (i : Index) (log : List Event) → IsLegal log → Balances i log
balances i log legal = along (Balances i) refl (balances_push i) log legal

-- nobody waits just where no section of the index is open
none_waits : (i : Index) (log : List Event) → IsEmpty i log → waiting i log ≡ 0
none_waits i log empty = count_nothing (λ s. same_index (index_of s log) i) (open_sections log) (λ s some. same_index_other (index_of s log) i (empty s (open_there s log some)))

none_is_open : (i : Index) (log : List Event) → IsLegal log → waiting i log ≡ 0 → IsEmpty i log
none_is_open i log legal none s is_open same = let less = count_without (λ u. same_index (index_of u log) i) s (open_sections log) (open_once s log legal is_open) in
    let one : bit (same_index (index_of s log) i) ≡ 1 = ap bit (ap (λ k. same_index k i) same ∙ same_index_refl i) in omega (arith, less, one, none)

-- All processors

sum_none : (k : ℕ) → sum_below (λ q. 0) k ≡ 0
sum_none zero = refl
sum_none (suc k) = let r = sum_none k in omega (arith, r)

pub sum_plus : (f g : ℕ → ℕ) (k : ℕ) → sum_below (λ q. f q + g q) k ≡ sum_below f k + sum_below g k
sum_plus f g zero = refl
sum_plus f g (suc k) = let r = sum_plus f g k in omega (arith, r)

-- what happens on processor p counts once
sum_of_one : (p : ℕ) (c : Bool) (k : ℕ) → (p < k → sum_below (λ q. bit (eqb p q && c)) k ≡ bit c) × (k ≤ p → sum_below (λ q. bit (eqb p q && c)) k ≡ 0)
sum_of_one p c zero = (λ lt. absurd (omega arith), λ _. refl)
sum_of_one p c (suc k) = let r = sum_of_one p c k in dite (ℕ_discrete p k)
    (λ e. let none : sum_below (λ q. bit (eqb p q && c)) k ≡ 0 = r.1 (omega arith) in let here : bit (eqb p k && c) ≡ bit c = ap (λ v. bit (v && c)) (eq-eqb p k e) in (λ _. omega (arith, none, here), λ le. absurd (omega arith)))
    (λ n. let not_here : bit (eqb p k && c) ≡ 0 = ap (λ v. bit (v && c)) (ne_eqb p k n) in
    (λ lt. let rest = r.0 (omega arith) in omega (arith, rest, not_here), λ le. let rest = r.1 (omega arith) in omega (arith, rest, not_here)))

locks_once : (n : ℕ) (i : Index) (e : Event) → HasItsMaker n e → sum_below (λ p. bit (locks_at p i e)) n ≡ bit (begins_with i e)
locks_once n i (Begin s p j by) has = (sum_of_one p (same_index j i) n).0 has.0
locks_once n i _ has = sum_none n

unlocks_once : (n : ℕ) (i : Index) (before : List Event) (e : Event) → HasItsMaker n e → sum_below (λ q. bit (unlocks_at q i before e)) n ≡ bit (ends_with i before e)
unlocks_once n i before (End s q by) has = (sum_of_one q (same_index (index_of s before) i) n).0 has.0
unlocks_once n i before _ has = sum_none n

locks_are_begins : (n : ℕ) (i : Index) (log : List Event) → All (HasItsMaker n) log → all_locks n i log ≡ count_by (begins_with i) log
locks_are_begins n i [] all = sum_none n
locks_are_begins n i (e ∷ es) all =
    let each : all_locks n i (e ∷ es) ≡ sum_below (λ p. bit (locks_at p i e) + locks p i es) n = (λ k. sum_below (λ p. count_cons (locks_at p i) e es k) n) in
    let s = sum_plus (λ p. bit (locks_at p i e)) (λ p. locks p i es) n in let one = locks_once n i e (All-head (HasItsMaker n) e es all) in
    let r = locks_are_begins n i es (All-tail (HasItsMaker n) e es all) in let c = count_cons (begins_with i) e es in omega (arith, each, s, one, r, c)

unlocks_are_ends : (n : ℕ) (i : Index) (before log : List Event) → All (HasItsMaker n) log → sum_below (λ q. unlocks_after q i before log) n ≡ ended_after i before log
unlocks_are_ends n i before [] all = sum_none n
unlocks_are_ends n i before (e ∷ es) all =
    let s = sum_plus (λ q. bit (unlocks_at q i before e)) (λ q. unlocks_after q i (before ++ e ∷ []) es) n in let one = unlocks_once n i before e (All-head (HasItsMaker n) e es all) in
    let r = unlocks_are_ends n i (before ++ e ∷ []) es (All-tail (HasItsMaker n) e es all) in omega (arith, s, one, r)

pub equal_sums : EqualSumsAreEmpty
equal_sums n i log legal all = let b = balances i log legal in let l = locks_are_begins n i log all in let u = unlocks_are_ends n i [] log all in (
  omega (arith, b, l, u),
  ((λ same. none_is_open i log legal (omega (arith, b, l, u, same))), (λ empty. let none = none_waits i log empty in omega (arith, b, l, u, none))),
)

-- All sections

one_index : (i : Index) → bit (same_index i Zero) + bit (same_index i One) ≡ 1
one_index Zero = refl
one_index One = refl

begin_split : (e : Event) → bit (begins_with Zero e) + bit (begins_with One e) ≡ bit (is_begin e)
begin_split (Begin s p i by) = one_index i
begin_split _ = refl

-- each was begun with one index
begins_split : (log : List Event) → count_by (begins_with Zero) log + count_by (begins_with One) log ≡ opened_in log
begins_split [] = refl
begins_split (e ∷ es) = let z = count_cons (begins_with Zero) e es in let o = count_cons (begins_with One) e es in let c = count_cons is_begin e es in let one = begin_split e in let r = begins_split es in omega (arith, z, o, c, one, r)

end_split : (before : List Event) (e : Event) → bit (ends_with Zero before e) + bit (ends_with One before e) ≡ bit (is_end e)
end_split before (End s q by) = one_index (index_of s before)
end_split before _ = refl

ends_split : (before log : List Event) → ended_after Zero before log + ended_after One before log ≡ closed_in log
ends_split before [] = refl
ends_split before (e ∷ es) = let c = count_cons is_end e es in let one = end_split before e in let r = ends_split (before ++ e ∷ []) es in omega (arith, c, one, r)

pub counters_add_up : CountersAddUp
counters_add_up n log legal all = record {
  opened = (let z = locks_are_begins n Zero log all in let o = locks_are_begins n One log all in let s = begins_split log in omega (arith, z, o, s));
  closed = (let z = unlocks_are_ends n Zero [] log all in let o = unlocks_are_ends n One [] log all in let s = ends_split [] log in omega (arith, z, o, s));
  still_open = all_balance log legal;
}

-- One that is open

same_index_is : (i j : Index) → same_index i j ≡ true → i ≡ j
same_index_is Zero Zero h = refl
same_index_is Zero One h = absurd cc
same_index_is One Zero h = absurd cc
same_index_is One One h = refl

find_case : (f : ℕ → Bool) (x : ℕ) (xs : List ℕ) (b : Bool) → f x ≡ b → 0 < count_by f (x ∷ xs) → (0 < count_by f xs → (s : ℕ) × (f s ≡ true) × (0 < times s xs)) → (s : ℕ) × (f s ≡ true) × (0 < times s (x ∷ xs))
find_case f x xs true is positive rest = let c = times_cons x x xs in let one : bit (eqb x x) ≡ 1 = ap bit (eq-eqb x x refl) in (x, is, omega (arith, c, one))
find_case f x xs false is positive rest = let c = count_cons f x xs in let none : bit (f x) ≡ 0 = ap bit is in let r = rest (omega (arith, c, none, positive)) in let d = times_cons r.0 x xs in let found = r.2 in (r.0, r.1, omega (arith, d, found))

find_one : (f : ℕ → Bool) (xs : List ℕ) → 0 < count_by f xs → (s : ℕ) × (f s ≡ true) × (0 < times s xs)
find_one f [] positive = absurd (omega (arith, positive))
find_one f (x ∷ xs) positive = find_case f x xs (f x) refl positive (find_one f xs)

pub fewer_ends : FewerEndsShowOne
fewer_ends n i log legal all fewer = let b = balances i log legal in let l = locks_are_begins n i log all in let u = unlocks_are_ends n i [] log all in
    let found = find_one (λ s. same_index (index_of s log) i) (open_sections log) (omega (arith, b, l, u, fewer)) in (found.0, open_there found.0 log found.2, same_index_is (index_of found.0 log) i found.1)

pub counters_grow : CountersGrow
counters_grow p i seen log h = (count_grows (locks_at p i) h, unlocks_grow p i h)
