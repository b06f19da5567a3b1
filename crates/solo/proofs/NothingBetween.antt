-- A history that grows by what those in hand have done, and by nothing else.
use Rattle.std.proofs.Common.{◌≡◌, ◌≢◌, ℕ, suc, ◌+◌, ◌<◌, ◌≤◌, cond, Bool, true, false, append_assoc, List, [], ◌∷◌, ◌++◌, length, All, refl, sym, ap, ◌∙◌, subst, append-nil, length-append, arith, rules}
use Rattle.solo.proofs.Words.{append_cancel_left, dite, ℕ_discrete, filter-append, All-head, All-tail, All-cons, Maker, Processor, Engine, Event, Begin, End, Start, Finish, Note, Ask, Find, Put, maker_of, same_maker, made_by, IsBeginning, same_maker_refl, HasItsMaker, IsProcessor}

-- how many events a maker made
abbrev pub made : Maker → List Event → ℕ
made m history = length (made_by m history)

abbrev pub IsMaker : ℕ → Maker → Type 0
IsMaker n (Processor p) = p < n
IsMaker n Engine = Unit {0}

pub made_by_append : (m : Maker) (a b : List Event) → made_by m (a ++ b) ≡ made_by m a ++ made_by m b
made_by_append m a b = filter-append (λ e. same_maker (maker_of e) m) a b

pub made_append : (m : Maker) (a b : List Event) → made m (a ++ b) ≡ made m a + made m b
made_append m a b = ap length (made_by_append m a b) ∙ length-append (made_by m a) (made_by m b)

a_processor : (n : ℕ) (by : Maker) → IsProcessor n by → IsMaker n by
a_processor n (Processor p) h = h
a_processor n Engine h = absurd h

its_maker : (n : ℕ) (e : Event) → HasItsMaker n e → IsMaker n (maker_of e)
its_maker n (Begin s p i by) h = subst (IsMaker n) (sym h.1) h.0
its_maker n (End s q by) h = subst (IsMaker n) (sym h.1) h.0
its_maker n (Start by) h = subst (IsMaker n) (sym h) tt
its_maker n (Finish by) h = subst (IsMaker n) (sym h) tt
its_maker n (Note c by) h = a_processor n by h
its_maker n (Ask c b by) h = a_processor n by h
its_maker n (Find s c x v by) h = a_processor n by h
its_maker n (Put c x v by) h = a_processor n by h

-- no more than there are
made_few : (m : Maker) (es : List Event) → made m es ≤ length es
made_few m [] = omega arith
made_few m (e ∷ es) = one_few e (made_by m es) es (made_few m es) (same_maker (maker_of e) m)
  where
    one_few : (e : Event) (fs es : List Event) → length fs ≤ length es → (b : Bool) → length (cond b (e ∷ fs) fs) ≤ length (e ∷ es)
    one_few e fs es few true = omega (arith, few)
    one_few e fs es few false = omega (arith, few)

made_first : (e : Event) (es : List Event) → made (maker_of e) (e ∷ es) ≡ suc (made (maker_of e) es)
made_first e es = ap (λ b. length (cond b (e ∷ made_by (maker_of e) es) (made_by (maker_of e) es))) (same_maker_refl (maker_of e))

all_front : {X : Type 0} (P : X → Type 0) (a b : List X) → All P (a ++ b) → All P a
all_front P [] b h = search rules
all_front P (x ∷ a) b h = All-cons P x a (All-head P x (a ++ b) h) (all_front P a b (All-tail P x (a ++ b) h))

all_back : {X : Type 0} (P : X → Type 0) (a b : List X) → All P (a ++ b) → All P b
all_back P [] b h = h
all_back P (x ∷ a) b h = all_back P a b (All-tail P x (a ++ b) h)

-- nobody made an event: there is none
nobody : (n : ℕ) (es : List Event) → All (HasItsMaker n) es → ((m : Maker) → IsMaker n m → made m es ≡ 0) → es ≡ []
nobody n [] all none = refl
nobody n (e ∷ es) all none =
    let no_one = none (maker_of e) (its_maker n e (All-head (HasItsMaker n) e es all)) in
    absurd (omega (arith, made_first e es, no_one))

-- in a history that goes on from what was before, from events of others and from an act, each maker has just its events of before and of the act: there are none of others, and it goes on no further
pub nothing_between : (n : ℕ) (before others act all : List Event) → IsBeginning (before ++ (others ++ act)) all → All (HasItsMaker n) all → ((m : Maker) → IsMaker n m → made m all ≡ made m (before ++ act)) → (others ≡ []) × (all ≡ before ++ act)
nothing_between n before others act all b makers same = (none_of_others, b.whole ∙ (ap (λ l. (before ++ (others ++ act)) ++ l) none_further ∙ (append-nil (before ++ (others ++ act)) ∙ ap (λ l. before ++ (l ++ act)) none_of_others)))
  where
    whole : All (HasItsMaker n) ((before ++ (others ++ act)) ++ b.rest)
    whole = subst (All (HasItsMaker n)) b.whole makers

    counts : (m : Maker) → IsMaker n m → made m others + made m b.rest ≡ 0
    counts m is =
        let there = same m is in
        let parts = ap (made m) b.whole ∙ made_append m (before ++ (others ++ act)) b.rest in
        let inner = made_append m before (others ++ act) in
        let innermost = made_append m others act in
        let wanted = made_append m before act in
        omega (arith, there, parts, inner, innermost, wanted)

    none_of_others : others ≡ []
    none_of_others = nobody n others (all_front (HasItsMaker n) others act (all_back (HasItsMaker n) before (others ++ act) (all_front (HasItsMaker n) (before ++ (others ++ act)) b.rest whole))) (λ m is. let none = counts m is in omega (arith, none))

    none_further : b.rest ≡ []
    none_further = nobody n b.rest (all_back (HasItsMaker n) (before ++ (others ++ act)) b.rest whole) (λ m is. let none = counts m is in omega (arith, none))

-- only one maker made events
all_of_one : (n p : ℕ) (es : List Event) → All (HasItsMaker n) es → ((m : Maker) → IsMaker n m → m ≢ Processor p → made m es ≡ 0) → made_by (Processor p) es ≡ es
all_of_one n p [] all none = refl
all_of_one n p (e ∷ es) all none =
    either (all_of_one n p es (All-tail (HasItsMaker n) e es all) (λ m is other. let whole = none m is other in let cut = made_append m (e ∷ []) es in omega (arith, whole, cut))) (maker_of e) refl
  where
    no_other : maker_of e ≢ Processor p → ⊥
    no_other other = let no_one = none (maker_of e) (its_maker n e (All-head (HasItsMaker n) e es all)) other in omega (arith, made_first e es, no_one)

    his : made_by (Processor p) es ≡ es → maker_of e ≡ Processor p → made_by (Processor p) (e ∷ es) ≡ e ∷ es
    his rest is = ap (λ b. cond b (e ∷ made_by (Processor p) es) (made_by (Processor p) es)) (ap (λ m. same_maker m (Processor p)) is ∙ same_maker_refl (Processor p)) ∙ ap (λ l. e ∷ l) rest

    not_engine : Engine ≡ Processor p → ⊥
    not_engine e = cc

    same_number : (q : ℕ) → Processor q ≡ Processor p → q ≡ p
    same_number q e = cc

    either : made_by (Processor p) es ≡ es → (m : Maker) → maker_of e ≡ m → made_by (Processor p) (e ∷ es) ≡ e ∷ es
    either rest Engine is = absurd (no_other (λ same. not_engine (sym is ∙ same)))
    either rest (Processor q) is = dite (ℕ_discrete q p)
        (λ same. his rest (is ∙ ap Processor same))
        (λ other. absurd (no_other (λ same. other (same_number q (sym is ∙ same)))))

-- in a history that goes on from what was before, each maker has just its events of before and of an act of one processor: it goes on with the act, and no further
pub only_the_act : (n p : ℕ) (before act all : List Event) → IsBeginning before all → All (HasItsMaker n) all → ((m : Maker) → IsMaker n m → made_by m all ≡ made_by m (before ++ act)) → p < n → made_by (Processor p) act ≡ act → ((m : Maker) → IsMaker n m → m ≢ Processor p → made_by m act ≡ []) → all ≡ before ++ act
only_the_act n p before act all b makers same lt own others = b.whole ∙ ap (λ l. before ++ l) (sym (all_of_one n p b.rest rest_makers (λ m is other. ap length (parts m is ∙ others m is other))) ∙ (parts (Processor p) lt ∙ own))
  where
    rest_makers : All (HasItsMaker n) b.rest
    rest_makers = all_back (HasItsMaker n) before b.rest (subst (All (HasItsMaker n)) b.whole makers)

    parts : (m : Maker) → IsMaker n m → made_by m b.rest ≡ made_by m act
    parts m is = append_cancel_left (made_by m before) (made_by m b.rest) (made_by m act) (sym (made_by_append m before b.rest) ∙ (ap (made_by m) (sym b.whole) ∙ (same m is ∙ made_by_append m before act)))

-- who has seen as many of them has seen all
pub all_seen : (p : ℕ) (before act seen all : List Event) → IsBeginning before seen → IsBeginning seen all → all ≡ before ++ act → made (Processor p) before + length act ≤ made (Processor p) seen → seen ≡ all
all_seen p before act seen all low high whole many = sym (high.whole ∙ (ap (λ l. seen ++ l) (none_left high.rest no_more) ∙ append-nil seen))
  where
    rest_is : low.rest ++ high.rest ≡ act
    rest_is = append_cancel_left before (low.rest ++ high.rest) act (sym (append_assoc before low.rest high.rest) ∙ (ap (λ l. l ++ high.rest) (sym low.whole) ∙ (sym high.whole ∙ whole)))

    no_more : length high.rest ≡ 0
    no_more =
        let long = ap length rest_is in
        let cut = length-append low.rest high.rest in
        let here = ap (made (Processor p)) low.whole ∙ made_append (Processor p) before low.rest in
        let few = made_few (Processor p) low.rest in
        omega (arith, long, cut, here, few, many)

    none_left : (rest : List Event) → length rest ≡ 0 → rest ≡ []
    none_left [] none = refl
    none_left (e ∷ es) none = absurd (omega (arith, none))
