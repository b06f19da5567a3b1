-- What lies in the slots of a legal history, and for how long.
use Rattle.std.proofs.Common.{◌≡◌, ℕ, ◌+◌, ◌<◌, ◌≤◌, ◌≢◌, ◌&&◌, Bool, true, false, cond, eqb, List, [], ◌∷◌, ◌++◌, refl, sym, ap, ◌∙◌, subst, eq-eqb, eqb-true, append_assoc, arith}
use Rattle.std.proofs.lemmas.List.Sums.{fold_push}
use Rattle.onedom.specs.declared.event.Maker.{Maker}
use Rattle.onedom.specs.declared.event.Event.{Event}
use Rattle.onedom.specs.declared.event.Event.TheVariants.{Begin, End, Start, Finish, Note, Ask, Find, Put}
use Rattle.onedom.specs.Histories.{begins_of, ends_of, IsOpen, slot_after, slot_of, version_after, version_of, shelved_after, shelved, puts_in, puts, finds, finds_of, MayFollow, IsLegal, IsBeginning}
use Rattle.onedom.specs.Laws.{CurrentIsShelved, FoundStays, ClearUntilPut, ReclaimLaw}
use Rattle.onedom.proofs.Pushes.{bit, count_push, begins_of_push, ends_of_push, along, along_after}
use Rattle.onedom.proofs.Beginnings.{legal_beginning, beginning_append, beginning_trans, ends_grow, begins_grow}
use Rattle.onedom.proofs.Refused.{legal_split}
use Rattle.onedom.proofs.Periods.{law}

-- One event more

pub slot_push : (c : ℕ) (h : List Event) (e : Event) → slot_of c (h ++ e ∷ []) ≡ slot_after c (slot_of c h) e
slot_push c h e = fold_push (slot_after c) 0 h e

pub version_push : (c : ℕ) (h : List Event) (e : Event) → version_of c (h ++ e ∷ []) ≡ version_after c (version_of c h) e
version_push c h e = fold_push (version_after c) 0 h e

pub shelved_push : (c x : ℕ) (h : List Event) (e : Event) → shelved c x (h ++ e ∷ []) ≡ shelved_after c x (shelved c x h) e
shelved_push c x h e = fold_push (shelved_after c x) 0 h e

-- that is no Put of the cell
slot_after_kept : (c k : ℕ) (e : Event) → puts_in c e ≡ false → slot_after c k e ≡ k
slot_after_kept c k (Begin t p i by) miss = refl
slot_after_kept c k (End t q by) miss = refl
slot_after_kept c k (Start by) miss = refl
slot_after_kept c k (Finish by) miss = refl
slot_after_kept c k (Note cookie by) miss = refl
slot_after_kept c k (Ask cookie done by) miss = refl
slot_after_kept c k (Find u cell slot version by) miss = refl
slot_after_kept c k (Put cell slot version by) miss = ap (λ b. cond b slot k) miss

version_after_kept : (c k : ℕ) (e : Event) → puts_in c e ≡ false → version_after c k e ≡ k
version_after_kept c k (Begin t p i by) miss = refl
version_after_kept c k (End t q by) miss = refl
version_after_kept c k (Start by) miss = refl
version_after_kept c k (Finish by) miss = refl
version_after_kept c k (Note cookie by) miss = refl
version_after_kept c k (Ask cookie done by) miss = refl
version_after_kept c k (Find u cell slot version by) miss = refl
version_after_kept c k (Put cell slot version by) miss = ap (λ b. cond b version k) miss

shelved_after_kept : (c x k : ℕ) (e : Event) → puts c x e ≡ false → shelved_after c x k e ≡ k
shelved_after_kept c x k (Begin t p i by) miss = refl
shelved_after_kept c x k (End t q by) miss = refl
shelved_after_kept c x k (Start by) miss = refl
shelved_after_kept c x k (Finish by) miss = refl
shelved_after_kept c x k (Note cookie by) miss = refl
shelved_after_kept c x k (Ask cookie done by) miss = refl
shelved_after_kept c x k (Find u cell slot version by) miss = refl
shelved_after_kept c x k (Put cell slot version by) miss = ap (λ b. cond b version k) miss

pub slot_kept : (c : ℕ) (h : List Event) (e : Event) → puts_in c e ≡ false → slot_of c (h ++ e ∷ []) ≡ slot_of c h
slot_kept c h e miss = slot_push c h e ∙ slot_after_kept c (slot_of c h) e miss

pub version_kept : (c : ℕ) (h : List Event) (e : Event) → puts_in c e ≡ false → version_of c (h ++ e ∷ []) ≡ version_of c h
version_kept c h e miss = version_push c h e ∙ version_after_kept c (version_of c h) e miss

pub shelved_kept : (c x : ℕ) (h : List Event) (e : Event) → puts c x e ≡ false → shelved c x (h ++ e ∷ []) ≡ shelved c x h
shelved_kept c x h e miss = shelved_push c x h e ∙ shelved_after_kept c x (shelved c x h) e miss

-- a Put of the cell
pub slot_put : (c x v : ℕ) (by : Maker) (h : List Event) → slot_of c (h ++ Put c x v by ∷ []) ≡ x
slot_put c x v by h = slot_push c h (Put c x v by) ∙ ap (λ b. cond b x (slot_of c h)) (eq-eqb c c refl)

pub version_put : (c x v : ℕ) (by : Maker) (h : List Event) → version_of c (h ++ Put c x v by ∷ []) ≡ v
version_put c x v by h = version_push c h (Put c x v by) ∙ ap (λ b. cond b v (version_of c h)) (eq-eqb c c refl)

pub shelved_put : (c x v : ℕ) (by : Maker) (h : List Event) → shelved c x (h ++ Put c x v by ∷ []) ≡ v
shelved_put c x v by h = shelved_push c x h (Put c x v by) ∙ ap (λ b. cond b v (shelved c x h)) (ap (λ b. b && eqb x x) (eq-eqb c c refl) ∙ eq-eqb x x refl)

pub finds_push : (s c x : ℕ) (h : List Event) (e : Event) → finds_of s c x (h ++ e ∷ []) ≡ finds_of s c x h + bit (finds s c x e)
finds_push s c x h e = count_push (finds s c x) h e

-- Finds

both_true : (a b : Bool) → (a && b) ≡ true → (a ≡ true) × (b ≡ true)
both_true true b h = (refl, h)
both_true false b h = absurd cc

not_both : (a b : Bool) → (a && b) ≡ false → a ≡ true → b ≡ false
not_both true b h is = h
not_both false b h is = absurd cc

-- what a Find of the slot tells
pub find_is : (s c x : ℕ) (h : List Event) (e : Event) → MayFollow h e → finds s c x e ≡ true → IsOpen h s × (x ≡ slot_of c h)
find_is s c x h (Begin t p i by) may is = absurd cc
find_is s c x h (End t q by) may is = absurd cc
find_is s c x h (Start by) may is = absurd cc
find_is s c x h (Finish by) may is = absurd cc
find_is s c x h (Note cookie by) may is = absurd cc
find_is s c x h (Ask cookie done by) may is = absurd cc
find_is s c x h (Find t d y w by) may is =
    let one = both_true (eqb t s) (eqb d c && eqb y x) is in let two = both_true (eqb d c) (eqb y x) one.1 in
    let ts : t ≡ s = eqb-true t s one.0 in let dc : d ≡ c = eqb-true d c two.0 in let yx : y ≡ x = eqb-true y x two.1 in
    (subst (λ (z : ℕ). IsOpen h z) ts may.0, sym yx ∙ (may.1 ∙ ap (λ z. slot_of z h) dc))
find_is s c x h (Put d y w by) may is = absurd cc

bit_case : {P : Type 0} (b : Bool) → (b ≡ true → P) → (b ≡ false → P) → P
bit_case true hit missed = hit refl
bit_case false hit missed = missed refl

-- a section that has found something was begun
pub found_begun : (s c x : ℕ) (h : List Event) → IsLegal h → 0 < finds_of s c x h → 0 < begins_of s h
found_begun s c x h legal = along (λ l. 0 < finds_of s c x l → 0 < begins_of s l) (λ some. absurd (omega (arith, some))) step h legal
  where
    step : (l : List Event) (e : Event) → IsLegal l → MayFollow l e → (0 < finds_of s c x l → 0 < begins_of s l) → 0 < finds_of s c x (l ++ e ∷ []) → 0 < begins_of s (l ++ e ∷ [])
    step l e legal may before some = let b = begins_of_push s l e in bit_case (finds s c x e)
        (λ hit. let begun = (find_is s c x l e may hit).0.0 in omega (arith, b, begun))
        (λ missed. let f = finds_push s c x l e in let z : bit (finds s c x e) ≡ 0 = ap bit missed in let begun = before (omega (arith, f, z, some)) in omega (arith, b, begun))

-- Slots that nobody can read

rests_on : (c x : ℕ) (h : List Event) (e : Event) → puts c x e ≡ false → x ≢ slot_of c h → x ≢ slot_of c (h ++ e ∷ [])
rests_on c x h (Begin t p i by) miss rests = λ q. rests (q ∙ slot_kept c h (Begin t p i by) refl)
rests_on c x h (End t q by) miss rests = λ k. rests (k ∙ slot_kept c h (End t q by) refl)
rests_on c x h (Start by) miss rests = λ q. rests (q ∙ slot_kept c h (Start by) refl)
rests_on c x h (Finish by) miss rests = λ q. rests (q ∙ slot_kept c h (Finish by) refl)
rests_on c x h (Note cookie by) miss rests = λ q. rests (q ∙ slot_kept c h (Note cookie by) refl)
rests_on c x h (Ask cookie done by) miss rests = λ q. rests (q ∙ slot_kept c h (Ask cookie done by) refl)
rests_on c x h (Find u cell slot version by) miss rests = λ q. rests (q ∙ slot_kept c h (Find u cell slot version by) refl)
rests_on c x h (Put d y w by) miss rests = bit_case (eqb d c)
    (λ hit q. let now : slot_of c (h ++ Put d y w by ∷ []) ≡ y = slot_push c h (Put d y w by) ∙ ap (λ b. cond b y (slot_of c h)) hit in
    let missed : eqb y x ≡ false = not_both (eqb d c) (eqb y x) miss hit in let is : eqb y x ≡ true = eq-eqb y x (sym (q ∙ now)) in
    let w : false ≡ true = sym missed ∙ is in absurd cc)
    (λ missed q. rests (q ∙ slot_kept c h (Put d y w by) missed))

pub resting_on : (c x : ℕ) (h : List Event) (e : Event) → puts c x e ≡ false → x ≢ slot_of c h → x ≢ slot_of c (h ++ e ∷ [])
resting_on = rests_on

-- a Find of a slot that is not current can't be
pub unfound_on : (s c x : ℕ) (h : List Event) (e : Event) → MayFollow h e → x ≢ slot_of c h → finds_of s c x (h ++ e ∷ []) ≡ finds_of s c x h
unfound_on s c x h e may rests = bit_case (finds s c x e) (λ hit. absurd (rests (find_is s c x h e may hit).1))
    (λ missed. let f = finds_push s c x h e in let z : bit (finds s c x e) ≡ 0 = ap bit missed in omega (arith, f, z))

pub clear_until_put : ClearUntilPut
clear_until_put h e c x legal may miss clear = record {
  resting = rests_on c x h e miss clear.resting;
  unread = λ s is_open. unfound_on s c x h e may clear.resting ∙ unread s is_open.1;
}
  where
    unread : (s : ℕ) → ends_of s (h ++ e ∷ []) ≡ 0 → finds_of s c x h ≡ 0
    unread s none = let d = ends_of_push s h e in zero_of (finds_of s c x h) (λ some. let begun = found_begun s c x h legal some in let z = clear.unread s (begun, omega (arith, d, none)) in omega (arith, z, some))
      where
        zero_of : (n : ℕ) → (0 < n → ⊥) → n ≡ 0
        zero_of n f = omega arith

-- What lies in a slot

pub current_is_shelved : CurrentIsShelved
current_is_shelved h c legal = along (λ l. shelved c (slot_of c l) l ≡ version_of c l) refl step h legal
  where
    kept : (l : List Event) (e : Event) → puts_in c e ≡ false → ((x : ℕ) → puts c x e ≡ false) → shelved c (slot_of c l) l ≡ version_of c l → shelved c (slot_of c (l ++ e ∷ [])) (l ++ e ∷ []) ≡ version_of c (l ++ e ∷ [])
    kept l e miss misses was = ap (λ z. shelved c z (l ++ e ∷ [])) (slot_kept c l e miss) ∙ (shelved_kept c (slot_of c l) l e (misses (slot_of c l)) ∙ (was ∙ sym (version_kept c l e miss)))

    step : (l : List Event) (e : Event) → IsLegal l → MayFollow l e → shelved c (slot_of c l) l ≡ version_of c l → shelved c (slot_of c (l ++ e ∷ [])) (l ++ e ∷ []) ≡ version_of c (l ++ e ∷ [])
    step l (Begin t p i by) legal may was = kept l (Begin t p i by) refl (λ _. refl) was
    step l (End t q by) legal may was = kept l (End t q by) refl (λ _. refl) was
    step l (Start by) legal may was = kept l (Start by) refl (λ _. refl) was
    step l (Finish by) legal may was = kept l (Finish by) refl (λ _. refl) was
    step l (Note cookie by) legal may was = kept l (Note cookie by) refl (λ _. refl) was
    step l (Ask cookie done by) legal may was = kept l (Ask cookie done by) refl (λ _. refl) was
    step l (Find u d x w by) legal may was = kept l (Find u d x w by) refl (λ _. refl) was
    step l (Put d y w by) legal may was = bit_case (eqb d c)
        (λ hit. let dc : d ≡ c = eqb-true d c hit in subst (λ (z : ℕ). shelved c (slot_of c (l ++ Put z y w by ∷ [])) (l ++ Put z y w by ∷ []) ≡ version_of c (l ++ Put z y w by ∷ [])) (sym dc)
        (ap (λ z. shelved c z (l ++ Put c y w by ∷ [])) (slot_put c y w by l) ∙ (shelved_put c y w by l ∙ sym (version_put c y w by l))))
        (λ missed. kept l (Put d y w by) missed (λ x. ap (λ b. b && eqb y x) missed) was)

-- as long as the section is open
record Lies (s c x v : ℕ) (h : List Event) : Type 0 where
  begun : 0 < begins_of s h
  found : 0 < finds_of s c x h
  there : IsOpen h s → shelved c x h ≡ v

lies_on : (s c x v : ℕ) (h : List Event) (e : Event) → IsLegal h → MayFollow h e → Lies s c x v h → Lies s c x v (h ++ e ∷ [])
lies_on s c x v h e legal may l = let b = begins_of_push s h e in let f = finds_push s c x h e in let begun = l.begun in let found = l.found in record {
  begun = omega (arith, b, begun);
  found = omega (arith, f, found);
  there = λ is_open. let d = ends_of_push s h e in let none = is_open.1 in let was : IsOpen h s = (begun, omega (arith, d, none)) in
      shelved_kept c x h e (unput e may was) ∙ l.there was;
}
  where
    -- nothing is put into a slot that an open section has found
    unput : (e : Event) → MayFollow h e → IsOpen h s → puts c x e ≡ false
    unput (Begin t p i by) may was = refl
    unput (End t q by) may was = refl
    unput (Start by) may was = refl
    unput (Finish by) may was = refl
    unput (Note cookie by) may was = refl
    unput (Ask cookie done by) may was = refl
    unput (Find u d y w by) may was = refl
    unput (Put d y w by) may was = bit_case (eqb d c && eqb y x)
        (λ hit. let two = both_true (eqb d c) (eqb y x) hit in let found = l.found in
        let none : finds_of s c x h ≡ 0 = subst (λ (z : ℕ × ℕ). finds_of s z.0 z.1 h ≡ 0) (λ k. (eqb-true d c two.0 k, eqb-true y x two.1 k)) (may.0.unread s was) in absurd (omega (arith, none, found)))
        (λ missed. missed)

pub found_stays : FoundStays
found_stays h s c x v legal is_open found =
    let e : Event = Find s c x v found.by in
    let parts : IsLegal (found.before ++ e ∷ found.after) = subst IsLegal found.whole legal in
    let may : MayFollow found.before e = legal_split found.before e found.after parts in
    let first : IsLegal found.before = legal_beginning (beginning_append found.before (e ∷ found.after)) parts in
    let start : Lies s c x v (found.before ++ e ∷ []) = record {
      begun = let b = begins_of_push s found.before e in let some = may.0.0 in omega (arith, b, some);
      found = let f = finds_push s c x found.before e in let one : bit (finds s c x e) ≡ 1 = ap bit (ap (λ b. b && (eqb c c && eqb x x)) (eq-eqb s s refl) ∙ (ap (λ b. b && eqb x x) (eq-eqb c c refl) ∙ eq-eqb x x refl)) in omega (arith, f, one);
      there = λ _. shelved_kept c x found.before e refl ∙ (ap (λ z. shelved c z found.before) may.1 ∙ (current_is_shelved found.before c first ∙ sym may.2));
    } in
    let same : found.before ++ e ∷ found.after ≡ (found.before ++ e ∷ []) ++ found.after = sym (append_assoc found.before (e ∷ []) found.after) in
    let all : Lies s c x v ((found.before ++ e ∷ []) ++ found.after) = along_after (Lies s c x v) (lies_on s c x v) (found.before ++ e ∷ []) found.after (subst IsLegal same parts) start in
    (subst (λ (l : List Event). Lies s c x v l) (sym (found.whole ∙ same)) all).there is_open

-- Reclamation

pub reclaim : ReclaimLaw
reclaim before between after cookie asked c x giver asker legal le same rests = let whole : List Event = before ++ Note cookie giver ∷ between ++ Ask asked true asker ∷ after in record {
  resting = rests;
  unread = λ s is_open. same s ∙ zero_of (finds_of s c x before) (λ some.
      let front : IsBeginning before (before ++ Note cookie giver ∷ between) = beginning_append before (Note cookie giver ∷ between) in
      let upto : IsBeginning (before ++ Note cookie giver ∷ between) whole = beginning_append (before ++ Note cookie giver ∷ between) (Ask asked true asker ∷ after) in
      let mid : IsBeginning before whole = beginning_trans front upto in
      let first : IsLegal before = legal_beginning mid legal in
      let begun = found_begun s c x before first some in
      let few = ends_grow s mid in let fewer = ends_grow s upto in let none = is_open.1 in
      let more = begins_grow s front in
      law before between after cookie asked giver asker legal le s (begun, omega (arith, few, none)) (omega (arith, begun, more), omega (arith, fewer, none)));
}
  where
    zero_of : (n : ℕ) → (0 < n → ⊥) → n ≡ 0
    zero_of n f = omega arith

-- A cell into which nothing is put

-- a version is one more for each Put of the cell, so where it stays nothing was put
record Quiet (Q : List Event → Type 0) (c from : ℕ) (h : List Event) : Type 0 where
  up : from ≤ version_of c h
  keeps : version_of c h ≡ from → Q h

pub versions_grow : (c : ℕ) (h : List Event) (e : Event) → MayFollow h e → (puts_in c e ≡ true → version_of c (h ++ e ∷ []) ≡ version_of c h + 1)
versions_grow c h (Begin t p i by) may is = absurd cc
versions_grow c h (End t q by) may is = absurd cc
versions_grow c h (Start by) may is = absurd cc
versions_grow c h (Finish by) may is = absurd cc
versions_grow c h (Note cookie by) may is = absurd cc
versions_grow c h (Ask cookie done by) may is = absurd cc
versions_grow c h (Find u cell slot version by) may is = absurd cc
versions_grow c h (Put d y w by) may is = let dc : d ≡ c = eqb-true d c is in ap (λ z. version_of z (h ++ Put d y w by ∷ [])) (sym dc) ∙ (version_put d y w by h ∙ (may.1 ∙ ap (λ z. version_of z h + 1) dc))

pub quiet : (Q : List Event → Type 0) (c : ℕ) → ((h : List Event) (e : Event) → IsLegal h → MayFollow h e → puts_in c e ≡ false → Q h → Q (h ++ e ∷ []))
    → (before rest : List Event) → IsLegal (before ++ rest) → version_of c (before ++ rest) ≡ version_of c before → Q before → Q (before ++ rest)
quiet Q c step before rest legal same start = (along_after (Quiet Q c (version_of c before)) on before rest legal (record { up = omega arith; keeps = λ _. start })).keeps same
  where
    on : (h : List Event) (e : Event) → IsLegal h → MayFollow h e → Quiet Q c (version_of c before) h → Quiet Q c (version_of c before) (h ++ e ∷ [])
    on h e legal may q = let up = q.up in bit_case (puts_in c e)
        (λ hit. let v = versions_grow c h e may hit in record { up = omega (arith, v, up); keeps = λ is. absurd (omega (arith, v, up, is)) })
        (λ missed. let v = version_kept c h e missed in record { up = omega (arith, v, up); keeps = λ is. step h e legal may missed (q.keeps (omega (arith, v, is))) })

pub version_up : (c : ℕ) (h : List Event) (e : Event) → MayFollow h e → version_of c h ≤ version_of c (h ++ e ∷ [])
version_up c h e may = bit_case (puts_in c e) (λ hit. let v = versions_grow c h e may hit in omega (arith, v)) (λ missed. let v = version_kept c h e missed in omega (arith, v))

pub versions_up : (c : ℕ) (before rest : List Event) → IsLegal (before ++ rest) → version_of c before ≤ version_of c (before ++ rest)
versions_up c before rest legal = along_after (λ l. version_of c before ≤ version_of c l) (λ l e _ may up. let v = version_up c l e may in omega (arith, v, up)) before rest legal (omega arith)
