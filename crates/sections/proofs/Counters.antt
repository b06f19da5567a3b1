-- What the counters count, after one more event and in all.
use Rattle.std.specs.Prelude.{None}
use Rattle.std.proofs.Common.{◌≡◌, ℕ, zero, suc, ◌+◌, ◌*◌, ◌<◌, ◌≤◌, ◌≢◌, Bool, true, false, cond, ◌&&◌, eqb, List, [], ◌∷◌, ◌++◌, All, length, count_by, refl, sym, ap, ◌∙◌, subst, eq-eqb, ne_eqb, append_assoc, append-nil, arith}
use Rattle.std.proofs.lemmas.List.Elements.{All-append, All-cons, All-nil, All-head, All-tail}
use mathlib.Core.Logic.{dite}
use native.Mathlib.Decide.{ℕ_discrete}
use Rattle.sseq.specs.declared.index.Index.{Index}
use Rattle.sseq.specs.declared.index.Index.TheVariants.{Zero, One}
use Rattle.sseq.specs.Indexes.{index_number, same_index}
use Rattle.onedom.specs.declared.event.Maker.TheVariants.{Processor}
use Rattle.onedom.specs.declared.event.Event.{Event}
use Rattle.onedom.specs.declared.event.Event.TheVariants.{Begin, End, Start, Finish, Note, Ask, Find, Put}
use Rattle.onedom.specs.Histories.{ends, section_begun, index_of, MayFollow, IsLegal, maker_of, same_maker, made_by, open_sections, IsBeginning}
use Rattle.onedom.proofs.CallerLemmas.{bit, count_push, count_cons, along, no_ends, count_grows, one_more_open, one_less_open, same_open_plain, open_once}
use Rattle.sections.specs.Glossary.{locks_at, locks, unlocks_at, unlocks_after, unlocks, sum_below, is_begin, is_end, HasItsMaker}

-- Indexes

pub same_index_refl : (i : Index) → same_index i i ≡ true
same_index_refl Zero = refl
same_index_refl One = refl

pub same_index_other : (i j : Index) → i ≢ j → same_index i j ≡ false
same_index_other Zero Zero n = absurd (n refl)
same_index_other Zero One n = refl
same_index_other One Zero n = refl
same_index_other One One n = absurd (n refl)

pub index_low : (i : Index) → index_number i < 2
index_low Zero = omega arith
index_low One = omega arith

pub index_number_same : (i j : Index) → index_number i ≡ index_number j → i ≡ j
index_number_same Zero Zero e = refl
index_number_same Zero One e = absurd (omega arith)
index_number_same One Zero e = absurd (omega arith)
index_number_same One One e = refl

-- One more event

pub locks_push : (p : ℕ) (i : Index) (log : List Event) (e : Event) → locks p i (log ++ e ∷ []) ≡ locks p i log + bit (locks_at p i e)
locks_push p i log e = count_push (locks_at p i) log e

unlocks_after_push : (q : ℕ) (i : Index) (before log : List Event) (e : Event) → unlocks_after q i before (log ++ e ∷ []) ≡ unlocks_after q i before log + bit (unlocks_at q i (before ++ log) e)
unlocks_after_push q i before [] e = let same = append-nil before in rw same (omega arith)
unlocks_after_push q i before (x ∷ xs) e = let rest = unlocks_after_push q i (before ++ x ∷ []) xs e in let same = append_assoc before (x ∷ []) xs in
    let rest' : unlocks_after q i (before ++ x ∷ []) (xs ++ e ∷ []) ≡ unlocks_after q i (before ++ x ∷ []) xs + bit (unlocks_at q i (before ++ x ∷ xs) e) = rw same at rest in omega (arith, rest')

pub unlocks_push : (q : ℕ) (i : Index) (log : List Event) (e : Event) → unlocks q i (log ++ e ∷ []) ≡ unlocks q i log + bit (unlocks_at q i log e)
unlocks_push q i log e = unlocks_after_push q i [] log e

pub locks_here : (p : ℕ) (i : Index) → ((eqb p p) && same_index i i) ≡ true
locks_here p i = ap (λ b. b && same_index i i) (eq-eqb p p refl) ∙ same_index_refl i

pub elsewhere : (p q : ℕ) (i j : Index) → (p ≡ q → i ≢ j) → ((eqb p q) && same_index i j) ≡ false
elsewhere p q i j h = dite (ℕ_discrete p q) (λ y. ap (λ b. b && same_index i j) (eq-eqb p q y) ∙ same_index_other i j (h y)) (λ n. ap (λ b. b && same_index i j) (ne_eqb p q n))

unlocks_append : (q : ℕ) (i : Index) (before xs ys : List Event) → unlocks_after q i before (xs ++ ys) ≡ unlocks_after q i before xs + unlocks_after q i (before ++ xs) ys
unlocks_append q i before [] ys = let same = ap (λ l. unlocks_after q i l ys) (append-nil before) in omega (arith, same)
unlocks_append q i before (x ∷ xs) ys = let rest = unlocks_append q i (before ++ x ∷ []) xs ys in let same = ap (λ l. unlocks_after q i l ys) (append_assoc before (x ∷ []) xs) in omega (arith, rest, same)

pub unlocks_grow : (q : ℕ) (i : Index) {seen history : List Event} → IsBeginning seen history → unlocks q i seen ≤ unlocks q i history
unlocks_grow q i {seen = seen} {history = history} h = let whole : unlocks q i history ≡ unlocks q i (seen ++ h.rest) = ap (unlocks q i) h.whole in let parts = unlocks_append q i [] seen h.rest in omega (arith, whole, parts)

pub locks_grow : (p : ℕ) (i : Index) {seen history : List Event} → IsBeginning seen history → locks p i seen ≤ locks p i history
locks_grow p i h = count_grows (locks_at p i) h

-- A processor's own events have all of its locks

pub All-push : {X : Type 0} (P : X → Type 0) (xs : List X) (x : X) → All P xs → P x → All P (xs ++ x ∷ [])
All-push P xs x all here = All-append P xs (x ∷ []) all (All-cons P x [] here (All-nil P))

not_mine : (n p : ℕ) (i : Index) (e : Event) → HasItsMaker n e → same_maker (maker_of e) (Processor p) ≡ false → locks_at p i e ≡ false
not_mine n p i (Begin s q j by) has other = let by_q : same_maker (Processor q) (Processor p) ≡ false = ap (λ m. same_maker m (Processor p)) (sym has.1) ∙ other in ap (λ b. b && same_index j i) by_q
not_mine n p i (End s q by) has other = refl
not_mine n p i (Start by) has other = refl
not_mine n p i (Finish by) has other = refl
not_mine n p i (Note c by) has other = refl
not_mine n p i (Ask c b by) has other = refl
not_mine n p i (Find u d x v by) has other = refl
not_mine n p i (Put d x v by) has other = refl

locks_case : (p : ℕ) (i : Index) (e : Event) (es mine : List Event) (b : Bool) → (b ≡ false → locks_at p i e ≡ false) → locks p i mine ≡ locks p i es → locks p i (cond b (e ∷ mine) mine) ≡ locks p i (e ∷ es)
locks_case p i e es mine true h r = count_cons (locks_at p i) e mine ∙ (ap (λ n. bit (locks_at p i e) + n) r ∙ sym (count_cons (locks_at p i) e es))
locks_case p i e es mine false h r = let z : bit (locks_at p i e) ≡ 0 = ap bit (h refl) in let c = count_cons (locks_at p i) e es in omega (arith, c, r, z)

pub locks_mine : (n p : ℕ) (i : Index) (log : List Event) → All (HasItsMaker n) log → locks p i (made_by (Processor p) log) ≡ locks p i log
locks_mine n p i [] all = refl
locks_mine n p i (e ∷ es) all = locks_case p i e es (made_by (Processor p) es) (same_maker (maker_of e) (Processor p)) (not_mine n p i e (All-head (HasItsMaker n) e es all)) (locks_mine n p i es (All-tail (HasItsMaker n) e es all))

-- In all

abbrev Balances : List Event → Type 0
Balances log = count_by is_end log + length (open_sections log) ≡ count_by is_begin log

balances_plain : (log : List Event) (e : Event) → section_begun e ≡ None → ((s : ℕ) → ends s e ≡ false) → is_begin e ≡ false → is_end e ≡ false → Balances log → Balances (log ++ e ∷ [])
balances_plain log e none unended no_begin no_end h = let b = count_push is_begin log e in let d = count_push is_end log e in let o = same_open_plain log e none unended in
    let y : bit (is_begin e) ≡ 0 = ap bit no_begin in let z : bit (is_end e) ≡ 0 = ap bit no_end in omega (arith, b, d, o, y, z, h)

balances_push : (log : List Event) (e : Event) → IsLegal log → MayFollow log e → Balances log → Balances (log ++ e ∷ [])
balances_push log (Begin s p i by) legal may h = let b = count_push is_begin log (Begin s p i by) in let d = count_push is_end log (Begin s p i by) in let o = one_more_open log s p i by (no_ends s log legal may) in omega (arith, b, d, o, h)
balances_push log (End s q by) legal may h = let b = count_push is_begin log (End s q by) in let d = count_push is_end log (End s q by) in let o = one_less_open log s q by (open_once s log legal may) in omega (arith, b, d, o, h)
balances_push log (Start by) legal may h = balances_plain log (Start by) refl (λ _. refl) refl refl h
balances_push log (Finish by) legal may h = balances_plain log (Finish by) refl (λ _. refl) refl refl h
balances_push log (Note c by) legal may h = balances_plain log (Note c by) refl (λ _. refl) refl refl h
balances_push log (Ask c b by) legal may h = balances_plain log (Ask c b by) refl (λ _. refl) refl refl h
balances_push log (Find u d x v by) legal may h = balances_plain log (Find u d x v by) refl (λ _. refl) refl refl h
balances_push log (Put d x v by) legal may h = balances_plain log (Put d x v by) refl (λ _. refl) refl refl h

-- those that have ended and those that are open were begun
pub balances : (log : List Event) → IsLegal log → Balances log
balances log legal = along Balances refl balances_push log legal

pub sum_le : (f g : ℕ → ℕ) (k : ℕ) → ((q : ℕ) → f q ≤ g q) → sum_below f k ≤ sum_below g k
sum_le f g zero h = omega arith
sum_le f g (suc k) h = let a = sum_le f g k h in let b = h k in omega (arith, a, b)

-- one term grows
pub sum_bump : (f g : ℕ → ℕ) (p d k : ℕ) → ((q : ℕ) → f q ≤ g q) → f p + d ≤ g p → p < k → sum_below f k + d ≤ sum_below g k
sum_bump f g p d zero h up lt = absurd (omega arith)
sum_bump f g p d (suc k) h up lt = dite (ℕ_discrete p k)
    (λ e. let a = sum_le f g k h in let F : ℕ → Type 0 = λ z. f z + d ≤ g z in let b = subst F e up in omega (arith, a, b))
    (λ n. let a = sum_bump f g p d k h up (omega arith) in let b = h k in omega (arith, a, b))

pub sum_most : (f : ℕ → ℕ) (most k : ℕ) → ((q : ℕ) → f q ≤ most) → sum_below f k ≤ k * most
sum_most f most zero h = omega arith
sum_most f most (suc k) h = let a = sum_most f most k h in let b = h k in omega (arith, a, b)

abbrev both : ℕ → List Event → ℕ
both p log = locks p Zero log + locks p One log

both_cons : (p : ℕ) (e : Event) (es : List Event) → both p es ≤ both p (e ∷ es)
both_cons p e es = let a = count_cons (locks_at p Zero) e es in let b = count_cons (locks_at p One) e es in omega (arith, a, b)

one_of_both : (p : ℕ) (i : Index) → bit (eqb p p && same_index i Zero) + bit (eqb p p && same_index i One) ≡ 1
one_of_both p Zero = let e = eq-eqb p p refl in rw e refl
one_of_both p One = let e = eq-eqb p p refl in rw e refl

-- each section was begun on one of the processors
begun_somewhere : (n : ℕ) (log : List Event) → All (HasItsMaker n) log → count_by is_begin log ≤ sum_below (λ p. both p log) n
begun_somewhere n [] all = omega arith
begun_somewhere n (Begin s p i by ∷ es) all =
    let rest = begun_somewhere n es (All-tail (HasItsMaker n) (Begin s p i by) es all) in
    let c = count_cons is_begin (Begin s p i by) es in
    let a = count_cons (locks_at p Zero) (Begin s p i by) es in
    let b = count_cons (locks_at p One) (Begin s p i by) es in
    let one = one_of_both p i in
    let up = sum_bump (λ q. both q es) (λ q. both q (Begin s p i by ∷ es)) p 1 n (λ q. both_cons q (Begin s p i by) es) (omega (arith, a, b, one)) (All-head (HasItsMaker n) (Begin s p i by) es all).0 in
    omega (arith, rest, c, up)
begun_somewhere n (End s q by ∷ es) all = let rest = begun_somewhere n es (All-tail (HasItsMaker n) (End s q by) es all) in let c = count_cons is_begin (End s q by) es in
    let up = sum_le (λ p. both p es) (λ p. both p (End s q by ∷ es)) n (λ p. both_cons p (End s q by) es) in omega (arith, rest, c, up)
begun_somewhere n (Start by ∷ es) all = let rest = begun_somewhere n es (All-tail (HasItsMaker n) (Start by) es all) in let c = count_cons is_begin (Start by) es in
    let up = sum_le (λ p. both p es) (λ p. both p (Start by ∷ es)) n (λ p. both_cons p (Start by) es) in omega (arith, rest, c, up)
begun_somewhere n (Finish by ∷ es) all = let rest = begun_somewhere n es (All-tail (HasItsMaker n) (Finish by) es all) in let c = count_cons is_begin (Finish by) es in
    let up = sum_le (λ p. both p es) (λ p. both p (Finish by ∷ es)) n (λ p. both_cons p (Finish by) es) in omega (arith, rest, c, up)
begun_somewhere n (Note k by ∷ es) all = let rest = begun_somewhere n es (All-tail (HasItsMaker n) (Note k by) es all) in let c = count_cons is_begin (Note k by) es in
    let up = sum_le (λ p. both p es) (λ p. both p (Note k by ∷ es)) n (λ p. both_cons p (Note k by) es) in omega (arith, rest, c, up)
begun_somewhere n (Ask k b by ∷ es) all = let rest = begun_somewhere n es (All-tail (HasItsMaker n) (Ask k b by) es all) in let c = count_cons is_begin (Ask k b by) es in
    let up = sum_le (λ p. both p es) (λ p. both p (Ask k b by ∷ es)) n (λ p. both_cons p (Ask k b by) es) in omega (arith, rest, c, up)
begun_somewhere n (Find u d x v by ∷ es) all = let rest = begun_somewhere n es (All-tail (HasItsMaker n) (Find u d x v by) es all) in let c = count_cons is_begin (Find u d x v by) es in
    let up = sum_le (λ p. both p es) (λ p. both p (Find u d x v by ∷ es)) n (λ p. both_cons p (Find u d x v by) es) in omega (arith, rest, c, up)
begun_somewhere n (Put d x v by ∷ es) all = let rest = begun_somewhere n es (All-tail (HasItsMaker n) (Put d x v by) es all) in let c = count_cons is_begin (Put d x v by) es in
    let up = sum_le (λ p. both p es) (λ p. both p (Put d x v by ∷ es)) n (λ p. both_cons p (Put d x v by) es) in omega (arith, rest, c, up)

unlocks_at_end : (q : ℕ) (i : Index) (before : List Event) (e : Event) → bit (unlocks_at q i before e) ≤ bit (is_end e)
unlocks_at_end q i before (End s p by) = small (eqb p q && same_index (index_of s before) i)
  where
    small : (b : Bool) → bit b ≤ 1
    small true = omega arith
    small false = omega arith
unlocks_at_end q i before _ = omega arith

unlocks_are_ends : (q : ℕ) (i : Index) (before log : List Event) → unlocks_after q i before log ≤ count_by is_end log
unlocks_are_ends q i before [] = omega arith
unlocks_are_ends q i before (e ∷ es) = let rest = unlocks_are_ends q i (before ++ e ∷ []) es in let c = count_cons is_end e es in let a = unlocks_at_end q i before e in omega (arith, rest, c, a)

-- no unlock counter passes what all processors may lock
pub unlocks_bounded : (n limit q : ℕ) (i : Index) (log : List Event) → IsLegal log → All (HasItsMaker n) log → ((p : ℕ) (j : Index) → locks p j log ≤ limit) → unlocks q i log ≤ 2 * n * limit
unlocks_bounded n limit q i log legal all limited =
    let a = unlocks_are_ends q i [] log in let b = balances log legal in let c = begun_somewhere n log all in
    let d = sum_most (λ p. both p log) (2 * limit) n (λ p. let x = limited p Zero in let y = limited p One in omega (arith, x, y)) in omega (arith, a, b, c, d)
