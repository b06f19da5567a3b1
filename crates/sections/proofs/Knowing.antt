-- What the seats of a domain know, and how it stays so.
use Rattle.std.proofs.Common.{◌≡◌, ℕ, zero, suc, ◌+◌, ◌<◌, ◌≤◌, ◌≢◌, ◌⊎◌, Bool, true, false, cond, eqb, List, [], ◌∷◌, ◌++◌, All, length, set, refl, sym, ap, ◌∙◌, subst, inl, inr, ⊎_elim, eq-eqb, ne_eqb, arith, append-nil, length-append, length-set}
use Rattle.std.proofs.lemmas.List.Elements.{All-weaker, All-nil}
use mathlib.Core.Logic.{dite}
use mathlib.Core.Option.{some, some-injective, some-ne-none}
use native.Mathlib.Decide.{ℕ_discrete}
use lib.ListN.{get_elem?}
use Rattle.atomic_table.proofs.Lists.{at_set}
use Rattle.onedom.specs.declared.event.Maker.{Maker}
use Rattle.onedom.specs.declared.event.Maker.TheVariants.{Processor, Engine}
use Rattle.onedom.specs.declared.event.Event.{Event}
use Rattle.onedom.specs.Histories.{begins, ends, begins_of, IsOpen, MayFollow, maker_of, same_maker, made_by, IsBeginning}
use Rattle.onedom.proofs.CallerLemmas.{bit, made_by_other, made_by_own, begins_of_push, not_again, open_stays, open_index_stays, beginning_push, beginning_made_by, beginning_refl}
use Rattle.sections.specs.Glossary.{Moment, Role, Right, Shown, Text, View, HasReached, GoesOn, Makes, Has, Knows, Fits, Truth, Owns}
use Rattle.sections.specs.declared.view.Role.TheVariants.{Bearer, Cpu, Driver}
use Rattle.sections.specs.declared.view.Right.TheVariants.{Section}
use Rattle.sections.specs.declared.view.Shown.TheVariants.{Unknown, To}

-- Lists of views

-- the last of a list has the list's length as its number
pub at_snoc : {A : Type 0} (l : List A) (a b : A) (j : ℕ) → get_elem? (l ++ a ∷ []) j ≡ some b → ((j ≢ length l) × (get_elem? l j ≡ some b)) ⊎ ((j ≡ length l) × (a ≡ b))
at_snoc [] a b zero e = inr (refl, some-injective a b e)
at_snoc [] a b (suc j) e = absurd (some-ne-none b (sym e))
at_snoc (x ∷ xs) a b zero e = inl ((λ h. omega arith), e)
at_snoc (x ∷ xs) a b (suc j) e = ⊎_elim (λ t. let n = t.0 in inl ((λ h. n (omega arith)), t.1)) (λ t. inr (ap suc t.0, t.1)) (at_snoc xs a b j e)

pub at_below : {A : Type 0} (l : List A) (a : A) (j : ℕ) → get_elem? l j ≡ some a → j < length l
at_below [] a j e = absurd (some-ne-none a (sym e))
at_below (x ∷ xs) a zero e = omega arith
at_below (x ∷ xs) a (suc j) e = let r = at_below xs a j e in omega arith

-- one seat has another view
pub views_set : (K : ℕ → View → Type 0) (vs : List View) (me : ℕ) (w : View) → K me w → ((j : ℕ) (d : View) → j ≢ me → get_elem? vs j ≡ some d → K j d)
    → (j : ℕ) (d : View) → get_elem? (set vs me w) j ≡ some d → K j d
views_set K vs me w mine others j d e = ⊎_elim (λ (t : (j ≡ me) × (w ≡ d)). subst (λ (x : ℕ × View). K x.0 x.1) (λ i. (sym t.0 i, t.1 i)) mine)
    (λ (t : (j ≢ me) × (get_elem? vs j ≡ some d)). others j d t.0 t.1) (at_set vs me j w d e)

-- one seat has another view, and there is a new seat
pub views_split : (K : ℕ → View → Type 0) (vs : List View) (id : ℕ) (v left right : View) → get_elem? vs id ≡ some v → K id left → K (length vs) right → ((j : ℕ) (d : View) → j ≢ id → get_elem? vs j ≡ some d → K j d)
    → (j : ℕ) (d : View) → get_elem? (set vs id left ++ right ∷ []) j ≡ some d → K j d
views_split K vs id v left right at a b others j d e = ⊎_elim
    (λ (t : (j ≢ length (set vs id left)) × (get_elem? (set vs id left) j ≡ some d)). views_set K vs id left a others j d t.1)
    (λ (t : (j ≡ length (set vs id left)) × (right ≡ d)). subst (λ (x : ℕ × View). K x.0 x.1) (λ i. (sym (t.0 ∙ length-set vs id left) i, t.1 i)) b)
    (at_snoc (set vs id left) right d j e)

-- Who makes and who holds what

abbrev pub now : List Event → ℕ → Moment
now log changes = record { history = log; changes = changes; texts = [] }

abbrev pub given : ℕ → ℕ → (ℕ → ℕ) → ℕ → ℕ
given t id holder u = cond (eqb u t) id (holder u)

pub given_here : (t id : ℕ) (holder : ℕ → ℕ) → given t id holder t ≡ id
given_here t id holder = ap (λ b. cond b id (holder t)) (eq-eqb t t refl)

pub given_else : (t id : ℕ) (holder : ℕ → ℕ) (u : ℕ) → u ≢ t → given t id holder u ≡ holder u
given_else t id holder u n = ap (λ b. cond b id (holder u)) (ne_eqb u t n)

-- the maker's seat
abbrev pub seat_at : Truth → Maker → ℕ
seat_at b (Processor p) = b.seat_of p
seat_at b Engine = b.engine

has_as : (b : Truth) (holder' : ℕ → ℕ) (j : ℕ) → ((s : ℕ) → b.holder s ≡ j → holder' s ≡ j) → (t : Right) → Has b j t → Has (record b { holder = holder' }) j t
has_as b holder' j same (Section s p i us hand) h = (same s h.0, h.1, h.2, h.3)
has_as b holder' j same _ h = h

-- a seat whose rights stay with it
pub reheld : (b : Truth) (holder' : ℕ → ℕ) (j : ℕ) → ((s : ℕ) → b.holder s ≡ j → holder' s ≡ j) → (v : View) → Fits b j v → Fits (record b { holder = holder' }) j v
reheld b holder' j same v f = record { seen = f.seen; knows = f.knows; told = f.told; makes = f.makes; has = has_as b holder' j same v.right f.has; shown = f.shown }

-- more is known of processors

knows_reached : (b : Truth) (reached' : ℕ → ℕ) (j : ℕ) (m : Role) (known : ℕ) → ((p : ℕ) → m ≡ Cpu p → reached' p ≤ known) → Knows b j m known → Knows (record b { reached = reached' }) j m known
knows_reached b reached' j (Cpu p) known low h = (low p refl, h.1)
knows_reached b reached' j _ known low h = h

shown_reached : (reached reached' : ℕ → ℕ) → ((p : ℕ) → reached p ≤ reached' p) → (x : Shown) → HasReached reached x → HasReached reached' x
shown_reached reached reached' more Unknown h = h
shown_reached reached reached' more (To p n) h = let up = more p in omega (arith, up, h)

pub reached_more : (b : Truth) (reached' : ℕ → ℕ) (j : ℕ) → ((p : ℕ) → b.reached p ≤ reached' p) → (v : View) → ((p : ℕ) → v.role ≡ Cpu p → reached' p ≤ v.changes) → Fits b j v → Fits (record b { reached = reached' }) j v
reached_more b reached' j more v low f = record {
  seen = f.seen;
  knows = knows_reached b reached' j v.role v.changes low f.knows;
  told = f.told;
  makes = f.makes;
  has = f.has;
  shown = shown_reached b.reached reached' more v.shown f.shown;
}

-- who holds the sections, after this right went to a seat
abbrev pub moved : Right → ℕ → (ℕ → ℕ) → ℕ → ℕ
moved (Section t p i us hand) m holder u = given t m holder u
moved _ m holder u = holder u

pub moved_has : (b : Truth) (j m : ℕ) (t : Right) → Has b j t → Has (record b { holder = moved t m b.holder }) m t
moved_has b j m (Section t p i us hand) h = (given_here t m b.holder, h.1, h.2, h.3)
moved_has b j m _ h = h

pub moved_else : (b : Truth) (j m : ℕ) (t : Right) → Has b j t → (k : ℕ) → k ≢ j → (s : ℕ) → b.holder s ≡ k → moved t m b.holder s ≡ k
moved_else b j m (Section t p i us hand) h k other s at = given_else t m b.holder s (λ st. other (sym at ∙ (ap b.holder st ∙ h.0))) ∙ at
moved_else b j m _ h k other s at = at

-- What a seat knows stays so where another seat's maker adds an event

makes_stay : (b : Truth) (j : ℕ) (e : Event) → ((m : Maker) → seat_at b m ≡ j → same_maker (maker_of e) m ≡ false) → (role : Role) (mine : List Event) → Makes b j role mine → Makes (record b { log = b.log ++ e ∷ [] }) j role mine
makes_stay b j e other Bearer mine h = tt
makes_stay b j e other (Cpu p) mine h = (h.0, h.1 ∙ sym (made_by_other (Processor p) b.log e (other (Processor p) h.0)))
makes_stay b j e other (Driver k) mine h =
    (h.0, h.1 ∙ sym (made_by_other Engine b.log e (other Engine h.0)), λ p le. let q = h.2 p le in (q.0, made_by_other (Processor p) b.log e (other (Processor p) q.0) ∙ q.1))

pub own_begins_case : (s : ℕ) (m : Maker) (log : List Event) (e : Event) (b : Bool) → same_maker (maker_of e) m ≡ b → begins s e ≡ false → begins_of s (made_by m (log ++ e ∷ [])) ≡ begins_of s (made_by m log)
own_begins_case s m log e true is miss = let c = begins_of_push s (made_by m log) e in let z : bit (begins s e) ≡ 0 = ap bit miss in ap (begins_of s) (made_by_own m log e is) ∙ omega (arith, c, z)
own_begins_case s m log e false is miss = ap (begins_of s) (made_by_other m log e is)

pub own_begins_stay : (s : ℕ) (m : Maker) (log : List Event) (e : Event) → begins s e ≡ false → begins_of s (made_by m (log ++ e ∷ [])) ≡ begins_of s (made_by m log)
own_begins_stay s m log e miss = own_begins_case s m log e (same_maker (maker_of e) m) refl miss

pub has_stays : (b : Truth) (holder' : ℕ → ℕ) (j : ℕ) (e : Event) → MayFollow b.log e → ((s : ℕ) → b.holder s ≡ j → ends s e ≡ false) → ((s : ℕ) → IsOpen b.log s → holder' s ≡ b.holder s)
    → (t : Right) → Has b j t → Has (record b { log = b.log ++ e ∷ []; holder = holder' }) j t
has_stays b holder' j e may unended same (Section s p i us hand) h =
    (same s h.1 ∙ h.0, open_stays s b.log e (unended s h.0) h.1, open_index_stays s b.log e may h.1 ∙ h.2, own_begins_stay s (Processor p) b.log e (not_again s b.log e may h.1) ∙ h.3)
has_stays b holder' j e may unended same _ h = h

-- what was told is covered, whatever texts go with the moment
pub covers_as : (told : List Moment) (log : List Event) (changes : ℕ) (texts : List Text) → All (λ m. GoesOn m (now log changes)) told → All (λ m. GoesOn m record { history = log; changes = changes; texts = texts }) told
covers_as told log changes texts h = All-weaker (λ m. GoesOn m (now log changes)) (λ m. GoesOn m record { history = log; changes = changes; texts = texts }) (λ m g. record { history = g.history; changes = g.changes }) told h

pub told_push : (told : List Moment) (log : List Event) (changes : ℕ) (e : Event) → All (λ m. GoesOn m (now log changes)) told → All (λ m. GoesOn m (now (log ++ e ∷ []) changes)) told
told_push told log changes e h = All-weaker (λ m. GoesOn m (now log changes)) (λ m. GoesOn m (now (log ++ e ∷ []) changes)) (λ m g. record { history = beginning_push e g.history; changes = g.changes }) told h

pub fits_stay : (b : Truth) (holder' : ℕ → ℕ) (j : ℕ) (e : Event) → MayFollow b.log e → ((m : Maker) → seat_at b m ≡ j → same_maker (maker_of e) m ≡ false)
    → ((s : ℕ) → b.holder s ≡ j → ends s e ≡ false) → ((s : ℕ) → IsOpen b.log s → holder' s ≡ b.holder s) → (v : View) → Fits b j v → Fits (record b { log = b.log ++ e ∷ []; holder = holder' }) j v
fits_stay b holder' j e may other unended same v f = record {
  seen = beginning_push e f.seen;
  knows = f.knows;
  told = told_push v.told b.log b.changes e f.told;
  makes = makes_stay b j e other v.role v.mine f.makes;
  has = has_stays b holder' j e may unended same v.right f.has;
  shown = f.shown;
}

-- What a seat knows stays so where the engine's seat changes a word

pub told_later : (told : List Moment) (log : List Event) (changes changes' : ℕ) → changes ≤ changes' → All (λ m. GoesOn m (now log changes)) told → All (λ m. GoesOn m (now log changes')) told
told_later told log changes changes' le h = All-weaker (λ m. GoesOn m (now log changes)) (λ m. GoesOn m (now log changes')) (λ m g. let low = g.changes in record { history = g.history; changes = omega (arith, low, le) }) told h

knows_later : (b : Truth) (changes' j : ℕ) → b.changes ≤ changes' → (b.engine ≡ j → changes' ≡ b.changes) → (m : Role) (known : ℕ) (mine : List Event) → Makes b j m mine → Knows b j m known → Knows (record b { changes = changes' }) j m known
knows_later b changes' j le same Bearer known mine makes h = omega (arith, h, le)
knows_later b changes' j le same (Cpu p) known mine makes h = let most = h.1 in (h.0, omega (arith, most, le))
knows_later b changes' j le same (Driver k) known mine makes h = h ∙ sym (same makes.0)

pub fits_later : (b : Truth) (changes' j : ℕ) → b.changes ≤ changes' → (b.engine ≡ j → changes' ≡ b.changes) → (v : View) → Fits b j v → Fits (record b { changes = changes' }) j v
fits_later b changes' j le same v f = record {
  seen = f.seen;
  knows = knows_later b changes' j le same v.role v.changes v.mine f.makes f.knows;
  told = told_later v.told b.log b.changes changes' le f.told;
  makes = f.makes;
  has = f.has;
  shown = f.shown;
}

-- what a view knows by its role or right
pub makes_at : {b : Truth} {j : ℕ} {v : View} {m : Role} → Fits b j v → v.role ≡ m → Makes b j m v.mine
makes_at {b} {j} {v} f is = subst (λ m. Makes b j m v.mine) is f.makes

pub knows_at : {b : Truth} {j : ℕ} {v : View} {m : Role} → Fits b j v → v.role ≡ m → Knows b j m v.changes
knows_at {b} {j} {v} f is = subst (λ m. Knows b j m v.changes) is f.knows

pub has_at : {b : Truth} {j : ℕ} {v : View} {t : Right} → Fits b j v → v.right ≡ t → Has b j t
has_at {b} {j} f is = subst (Has b j) is f.has

-- nobody knows of a change that was not made
pub known_before : {b : Truth} {j : ℕ} {v : View} → Fits b j v → v.changes ≤ b.changes
known_before {b} {j} {v} f = go v.role v.changes f.knows
  where
    go : (m : Role) (known : ℕ) → Knows b j m known → known ≤ b.changes
    go Bearer known h = h
    go (Cpu p) known h = h.1
    go (Driver k) known h = omega (arith, h)

-- who has seen all knows of all changes
pub knows_all : (b : Truth) (j : ℕ) → ((p : ℕ) → b.reached p ≤ b.changes) → (m : Role) → Knows b j m b.changes
knows_all b j most Bearer = omega arith
knows_all b j most (Cpu p) = (most p, omega arith)
knows_all b j most (Driver k) = refl

-- a seat that has seen all, and was told nothing more
pub fits_now : (b : Truth) (j : ℕ) (w : View) → ((p : ℕ) → b.reached p ≤ b.changes) → w.seen ≡ b.log → w.changes ≡ b.changes → w.told ≡ [] → Makes b j w.role w.mine → Has b j w.right → HasReached b.reached w.shown → Fits b j w
fits_now b j w most seen changes untold makes has shown = record {
  seen = subst (λ l. IsBeginning l b.log) (sym seen) (beginning_refl b.log);
  knows = subst (Knows b j w.role) (sym changes) (knows_all b j most w.role);
  told = subst (All (λ m. GoesOn m (now b.log b.changes))) (sym untold) (All-nil (λ m. GoesOn m (now b.log b.changes)));
  makes = makes;
  has = has;
  shown = shown;
}

pub owns_from_makes : {b : Truth} {j : ℕ} {v : View} → Fits b j v → Owns v.role v.mine b.log
owns_from_makes {b} {j} {v} f = go v.role v.mine f.makes
  where
    go : (m : Role) (mine : List Event) → Makes b j m mine → Owns m mine b.log
    go Bearer mine h = tt
    go _ mine h = h.1

-- What is made between two histories

pub nothing_more : (rest : List Event) → length rest ≡ 0 → rest ≡ []
nothing_more [] e = refl
nothing_more (x ∷ xs) e = absurd (omega arith)

-- a list between two equal ones
pub between : {x y z : List Event} → IsBeginning x y → IsBeginning y z → z ≡ x → y ≡ x
between {x} {y} {z} a b e =
    let up : length y ≡ length x + length a.rest = ap length a.whole ∙ length-append x a.rest in
    let over : length z ≡ length y + length b.rest = ap length b.whole ∙ length-append y b.rest in
    let same : length z ≡ length x = ap length e in
    a.whole ∙ (ap (λ r. x ++ r) (nothing_more a.rest (omega (arith, up, over, same))) ∙ append-nil x)

-- a maker whose events do not change from one history to another has just these in all that lie between
pub owns_between : (role : Role) (mine a b c : List Event) → Owns role mine a → IsBeginning a b → IsBeginning b c → Owns role mine c → Owns role mine b
owns_between Bearer mine a b c from ab bc to = tt
owns_between (Cpu p) mine a b c from ab bc to = from ∙ sym (between (beginning_made_by (Processor p) ab) (beginning_made_by (Processor p) bc) (sym to ∙ from))
owns_between (Driver k) mine a b c from ab bc to = from ∙ sym (between (beginning_made_by Engine ab) (beginning_made_by Engine bc) (sym to ∙ from))

pub not_false : (b : Bool) → (b ≡ true → ⊥) → b ≡ false
not_false true h = absurd (h refl)
not_false false h = refl

pub false≠true : false ≡ true → ⊥
false≠true h = cc

pub hits : (t u : ℕ) → eqb t u ≡ true → t ≡ u
hits t u h = dite (ℕ_discrete t u) (λ y. y) (λ y. absurd (false≠true (sym (ne_eqb t u y) ∙ h)))
