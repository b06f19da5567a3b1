-- What lies in the cells, and who can read a slot.
use Rattle.std.proofs.Common.{◌≡◌, ℕ, ◌+◌, ◌<◌, ◌≢◌, ◌&&◌, ◌↔◌, IsTrue, Bool, true, false, eqb, List, take, get_or, length, refl, sym, ap, ◌∙◌, subst, not, eq-eqb, eqb-true, arith}
use Rattle.std.proofs.Math.Seq.{take-length}
use Rattle.std.proofs.lemmas.List.{take_more}
use Rattle.onedom.specs.declared.event.Maker.{Maker}
use Rattle.onedom.specs.declared.event.Event.{Event}
use Rattle.onedom.specs.declared.event.Event.TheVariants.{Find}
use Rattle.onedom.specs.Histories.{IsOpen, slot_of, finds, finds_of, IsClear}
use Rattle.onedom.proofs.Pushes.{bit, count_push}

-- Who reads a slot, among the first events

abbrev pub IsUnreadUpto : List Event → ℕ → ℕ → ℕ → Type 0
IsUnreadUpto history cell slot n = (s : ℕ) → IsOpen history s → finds_of s cell slot (take n history) ≡ 0

not_true : (b : Bool) → (b ≡ true → ⊥) → b ≡ false
not_true true h = absurd (h refl)
not_true false h = refl

-- one event more, which is no Find of the slot by an open section
pub unread_on : (history : List Event) (cell slot n : ℕ) (d : Event) → n < length history → ((s : ℕ) → IsOpen history s → finds s cell slot (get_or history n d) ≡ true → ⊥) → IsUnreadUpto history cell slot n → IsUnreadUpto history cell slot (n + 1)
unread_on history cell slot n d inside none unread s is_open = let c = count_push (finds s cell slot) (take n history) (get_or history n d) in
    let z : bit (finds s cell slot (get_or history n d)) ≡ 0 = ap bit (not_true (finds s cell slot (get_or history n d)) (none s is_open)) in
    let m = ap (finds_of s cell slot) (take_more history n d inside) in let before = unread s is_open in omega (arith, c, z, m, before)

pub unread_all : (history : List Event) (cell slot n : ℕ) → n ≡ length history → IsUnreadUpto history cell slot n → (s : ℕ) → IsOpen history s → finds_of s cell slot history ≡ 0
unread_all history cell slot n end unread s is_open = ap (finds_of s cell slot) (sym (take-length history) ∙ ap (λ k. take k history) (sym end)) ∙ unread s is_open

-- a Find of that slot
pub reads : (history : List Event) (cell slot t : ℕ) (version : ℕ) (by : Maker) (b : Bool) (e : Event) → e ≡ Find t cell slot version by → (IsTrue b ↔ IsOpen history t) → IsTrue b ↔ ((s : ℕ) × IsOpen history s × (finds s cell slot e ≡ true))
reads history cell slot t version by b e is h = (
  (λ yes. (t, h.0 yes, ap (finds t cell slot) is ∙ ap (λ c. c && (eqb cell cell && eqb slot slot)) (eq-eqb t t refl) ∙ ap (λ c. c && eqb slot slot) (eq-eqb cell cell refl) ∙ eq-eqb slot slot refl)),
  (λ found. h.1 (subst (λ (s : ℕ). IsOpen history s) (same t found.0 (both (eqb t found.0) (eqb cell cell && eqb slot slot) (sym (ap (finds found.0 cell slot) is) ∙ found.2))) found.1)),
)
  where
    both : (a c : Bool) → (a && c) ≡ true → a ≡ true
    both true c q = refl
    both false c q = absurd cc

    same : (t s : ℕ) → eqb t s ≡ true → s ≡ t
    same t s q = sym (eqb-true t s q)

-- who can't be read
pub clear_as : (history : List Event) (cell slot : ℕ) (b : Bool) → slot ≢ slot_of cell history → (IsTrue b ↔ ((s : ℕ) × IsOpen history s × (0 < finds_of s cell slot history))) → IsTrue (not b) ↔ IsClear history cell slot
clear_as history cell slot true resting h = ((λ no. let w : false ≡ true = no in absurd cc), (λ clear. let found = h.0 refl in let none = clear.unread found.0 found.1 in let some = found.2 in absurd (omega (arith, none, some))))
clear_as history cell slot false resting h = (
  (λ _. record { resting = resting; unread = λ s is_open. zero_of (finds_of s cell slot history) (λ some. let w : false ≡ true = h.1 (s, is_open, some) in cc) }),
  (λ _. refl),
)
  where
    zero_of : (n : ℕ) → (0 < n → ⊥) → n ≡ 0
    zero_of n h = omega arith

pub same_section : {s t c d x y v w : ℕ} {a b : Maker} → Find s c x v a ≡ Find t d y w b → s ≡ t
same_section h = cc
