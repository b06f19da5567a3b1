-- From what a step tells a seat of a bay's table to what the calls say of it.
use Rattle.std.proofs.Common.{◌≡◌, ◌≢◌, ℕ, ◌&&◌, true, false, List, [], ◌∷◌, Option, Some, None, IfSome, is_some, is_none, refl, sym, ap, ◌∙◌, subst, arith}
use Rattle.atomic_table.specs.Seated.{TableId}
use Rattle.atomic_table.specs.Table.{Allows, rest}
use Rattle.desk.specs.Glossary.{Swap, IsBeginning, lies_after, swaps_of, holds_after, holds_behind, BaySeatView, holds, lies, HasSeenLegal, MakesSwap, IsHeldElsewhere, Covers, Accepts, StandsFor, word_of, bay_client, as_bay_seat, carried, Takes, Puts, emptied}
use Rattle.desk.specs.declared.bay.view.Plan.{Plan}
use Rattle.annals.specs.declared.view.Role.TheVariants.{Sits}
use Rattle.annals.specs.Glossary.{Sitter, number_of, IsAt, MadeNone}
use Rattle.desk.specs.BayRule.{View, Kept}
use Rattle.desk.specs.BayPlays.{Sat}
use Rattle.desk.proofs.Turns.{lies_push}
use Rattle.desk.proofs.Holders.{holds_own}
use Rattle.desk.proofs.BaySteps.{history_at, takes_here, puts_here}

module _ {T : Type 0} where
  abbrev first_held : Option T → List (ℕ × Option T) → Option T
  first_held default [] = default
  first_held default (p ∷ ps) = p.1

  -- a seat of the bay is one that sits, was told nothing, and has the slot while it holds
  abbrev pub HasRole : Sat T → Type 0
  HasRole m = m.0.role ≡ Sits (number_of m.0.role)

  abbrev pub AtBay : Sat T → Type 0
  AtBay m = m ≡ (record m.0 { role = Sits (number_of m.0.role); told = [] }, emptied (holds_behind (number_of m.0.role) m.0.seen))

  pub at_bay : (m : Sat T) → HasRole m → m.0.told ≡ [] → m.1 ≡ emptied (holds_behind (number_of m.0.role) m.0.seen) → AtBay m
  at_bay m r t s = λ i. (record m.0 { role = r i; told = t i }, s i)

  -- another view in the same role
  same_role : (m m' : Sat T) → m'.0.role ≡ m.0.role → HasRole m → HasRole m'
  same_role m m' e r = e ∙ (r ∙ sym (ap (λ z. Sits (number_of z)) e))

  pub role_of : (m : Sat T) → AtBay m → HasRole m
  role_of m is = ap (λ (z : Sat T). z.0.role) is

  told_of : (m : Sat T) → AtBay m → m.0.told ≡ []
  told_of m is = ap (λ (z : Sat T). z.0.told) is

  slot_of : (m : Sat T) → AtBay m → m.1 ≡ emptied (holds_behind (number_of m.0.role) m.0.seen)
  slot_of m is = ap (λ (z : Sat T). z.1) is

  -- a swap decides whether its seat holds
  pub makes_holds : (v : BaySeatView T) (left found : Option T) (w : BaySeatView T) → MakesSwap v left found w → holds w ≡ (is_none left && is_some found)
  makes_holds v left found w h = ap (λ (z : BaySeatView T). holds_behind z.number w.seen) h.same ∙ (ap (holds_behind v.number) h.seen ∙ holds_own v.number h.before record { by = v.number; left = left; found = found } refl)

  -- and what lies there
  pub makes_lie : (v : BaySeatView T) (left found : Option T) (w : BaySeatView T) → MakesSwap v left found w → lies w ≡ left
  makes_lie v left found w h = ap (λ (z : BaySeatView T). lies_after z.first w.seen) h.same ∙ (ap (lies_after v.first) h.seen ∙ lies_push v.first h.before record { by = v.number; left = left; found = found })

  makes_as : (v : BaySeatView T) (t t' : TableId) (left found found' : Option T) (w w' : View T) → t' ≡ t → found' ≡ found → w' ≡ w → MakesSwap v left found (as_bay_seat t w) → MakesSwap v left found' (as_bay_seat t' w')
  makes_as v t t' left found found' w w' a b c = subst (λ (z : (TableId × Option T) × View T). MakesSwap v left z.0.1 (as_bay_seat z.0.0 z.1)) (λ q. ((sym a q, sym b q), sym c q))

  -- Taking

  word_none : (found : Option T) (n : ℕ) → n ≡ word_of found → n ≡ 1 → found ≡ None
  word_none None n is e = refl
  word_none (Some x) n is e = absurd (omega (arith, is, e))

  word_some : (found : Option T) (n : ℕ) → n ≡ word_of found → n ≢ 1 → (x : T) × (found ≡ Some x)
  word_some None n is e = absurd (e is)
  word_some (Some x) n is e = (x, refl)

  pub takes_as : (domain : T → TableId) (like : T → T → Type 0) (plan : Plan T) (slots id : ℕ) (m : Sat T) → AtBay m → holds_behind (number_of m.0.role) m.0.seen ≡ false → Allows (Kept domain like plan) slots id m 0 (λ _. 1) (Takes domain like m)
  takes_as domain like plan slots id m is free = subst (λ (z : Sat T). Allows (Kept domain like plan) slots id z 0 (λ _. 1) (Takes domain like z)) (sym (is ∙ ap (λ b. (record m.0 { role = Sits (number_of m.0.role); told = [] }, emptied b)) free))
      (takes_here domain like plan slots id m.0.client (number_of m.0.role) m.0.seen m.0.done free)

  module _ (domain : T → TableId) (like : T → T → Type 0) (m : Sat T) (n : ℕ) (m' : Sat T) (t : Takes domain like m n m') where
    same_view : m'.0 ≡ record m.0 { seen = m'.0.seen }
    same_view = ap (λ (z : Sat T). z.0) t.now

    has_slot : m'.1 ≡ carried t.found
    has_slot = ap (λ (z : Sat T). z.1) t.now

    taken_role : AtBay m → HasRole m'
    taken_role is = same_role m m' (ap (λ (z : View T). z.role) same_view) (role_of m is)

    taken_told : AtBay m → m'.0.told ≡ []
    taken_told is = ap (λ (z : View T). z.told) same_view ∙ told_of m is

    -- nothing was found
    module _ (out : n ≡ 1) (table table' : TableId) (same : table' ≡ table) where
      pub in_vain : MakesSwap (as_bay_seat table m.0) None None (as_bay_seat table' m'.0)
      in_vain = makes_as (as_bay_seat table m.0) table table' None t.found None m'.0 m'.0 same (sym (word_none t.found n t.word out)) refl (t.swap table)

      pub stays_free : holds (as_bay_seat table' m'.0) ≡ false
      stays_free = makes_holds (as_bay_seat table m.0) None None (as_bay_seat table' m'.0) in_vain

      pub is_elsewhere : IsHeldElsewhere (as_bay_seat table' m'.0)
      is_elsewhere = subst (λ z. IsHeldElsewhere (as_bay_seat z m'.0)) (sym same) (t.elsewhere table (word_none t.found n t.word out))

      pub at_bay_in_vain : AtBay m → AtBay m'
      at_bay_in_vain is = at_bay m' (taken_role is) (taken_told is) (has_slot ∙ (ap carried (word_none t.found n t.word out) ∙ ap emptied (sym stays_free)))

    -- something was found, and is taken from the slot
    module _ (there : n ≢ 1) (result : Option T) (m2 : Sat T) (read : m'.1 ≡ (0, result) ∷ rest m'.1) (wrote : m2 ≡ (m'.0, (0, None) ∷ rest m'.1)) where
      got : (x : T) × (t.found ≡ Some x)
      got = word_some t.found n t.word there

      slot_is : m'.1 ≡ (0, Some got.0) ∷ []
      slot_is = has_slot ∙ ap carried got.1

      result_is : result ≡ t.found
      result_is = ap (first_held None) (sym read ∙ slot_is) ∙ sym got.1

      view_is : m2.0 ≡ m'.0
      view_is = ap (λ (z : Sat T). z.0) wrote

      module _ (table table' : TableId) (same : table' ≡ table) where
        pub taken : MakesSwap (as_bay_seat table m.0) None result (as_bay_seat table' m2.0)
        taken = makes_as (as_bay_seat table m.0) table table' None t.found result m'.0 m2.0 same result_is view_is (t.swap table)

        pub taken_holds : holds (as_bay_seat table' m2.0) ≡ is_some result
        taken_holds = makes_holds (as_bay_seat table m.0) None result (as_bay_seat table' m2.0) taken

        pub found_it : {X : Type 0} → result ≡ None → X
        found_it none = absurd (differ got.0 (sym (result_is ∙ got.1) ∙ none))
          where
            differ : (x : T) → Some x ≡ None → ⊥
            differ x e = cc

        pub taken_domain : IfSome result (λ x. domain x ≡ m.0.client.home)
        taken_domain = subst (λ (z : Option T). IfSome z (λ x. domain x ≡ m.0.client.home)) (sym result_is) t.of_domain

        pub taken_alike : IfSome result (λ x. IfSome m.0.client.first (λ y. like y x))
        taken_alike = subst (λ (z : Option T). IfSome z (λ x. IfSome m.0.client.first (λ y. like y x))) (sym result_is) t.alike

        pub at_bay_taken : AtBay m → AtBay m2
        at_bay_taken is = at_bay m2
            (same_role m' m2 (ap (λ (z : View T). z.role) view_is) (taken_role is))
            (ap (λ (z : View T). z.told) view_is ∙ taken_told is)
            (ap (λ (z : Sat T). z.1) wrote ∙ (ap (λ l. (0, None) ∷ rest l) slot_is ∙ ap emptied (sym (taken_holds ∙ ap is_some (result_is ∙ got.1)))))

    pub slot_with_it : n ≢ 1 → (old : Option T) × (m'.1 ≡ (0, old) ∷ rest m'.1)
    slot_with_it there = let got = word_some t.found n t.word there in let e : m'.1 ≡ (0, Some got.0) ∷ [] = has_slot ∙ ap carried got.1 in (Some got.0, e ∙ sym (ap (λ l. (0, Some got.0) ∷ rest l) e))

  -- Putting

  empty_slot : (m : Sat T) → AtBay m → holds_behind (number_of m.0.role) m.0.seen ≡ true → m.1 ≡ (0, None) ∷ []
  empty_slot m is held = slot_of m is ∙ ap emptied held

  pub slot_in_hand : (m : Sat T) → AtBay m → holds_behind (number_of m.0.role) m.0.seen ≡ true → (old : Option T) × (m.1 ≡ (0, old) ∷ rest m.1)
  slot_in_hand m is held = let e = empty_slot m is held in (None, e ∙ sym (ap (λ l. (0, None) ∷ rest l) e))

  pub was_empty : (m : Sat T) (result : Option T) → AtBay m → holds_behind (number_of m.0.role) m.0.seen ≡ true → m.1 ≡ (0, result) ∷ rest m.1 → result ≡ None
  was_empty m result is held read = ap (first_held None) (sym read ∙ empty_slot m is held)

  filled : (m m1 : Sat T) (x : T) → AtBay m → holds_behind (number_of m.0.role) m.0.seen ≡ true → m1 ≡ (m.0, (0, Some x) ∷ rest m.1) → m1.1 ≡ (0, Some x) ∷ []
  filled m m1 x is held wrote = ap (λ (z : Sat T). z.1) wrote ∙ ap (λ l. (0, Some x) ∷ rest l) (empty_slot m is held)

  pub puts_as : (domain : T → TableId) (like : T → T → Type 0) (plan : Plan T) (slots id : ℕ) (m m1 : Sat T) (x : T) → AtBay m → holds_behind (number_of m.0.role) m.0.seen ≡ true → m1 ≡ (m.0, (0, Some x) ∷ rest m.1) → domain x ≡ m.0.client.home → IfSome m.0.client.first (λ y. like y x)
      → Allows (Kept domain like plan) slots id m1 0 (λ _. 0) (λ n m'. Puts m1 m')
  puts_as domain like plan slots id m m1 x is held wrote ok fits =
      let e : m1 ≡ (record m.0 { role = Sits (number_of m.0.role); told = [] }, (0, Some x) ∷ []) = wrote ∙ (λ q. ((is q).0, (0, Some x) ∷ rest (empty_slot m is held q))) in
      subst (λ (z : Sat T). Allows (Kept domain like plan) slots id z 0 (λ _. 0) (λ n m'. Puts z m')) (sym e) (puts_here domain like plan slots id m.0.client (number_of m.0.role) m.0.seen m.0.done x held ok fits)

  module _ (m m1 m2 : Sat T) (x : T) (is : AtBay m) (held : holds_behind (number_of m.0.role) m.0.seen ≡ true) (wrote : m1 ≡ (m.0, (0, Some x) ∷ rest m.1)) (p : Puts m1 m2) where
    put_view : m1.0 ≡ m.0
    put_view = ap (λ (z : Sat T). z.0) wrote

    module _ (table table' : TableId) (same : table' ≡ table) where
      pub put_swap : MakesSwap (as_bay_seat table m.0) (Some x) None (as_bay_seat table' m2.0)
      put_swap = subst (λ (z : View T × TableId). MakesSwap (as_bay_seat table z.0) (Some x) None (as_bay_seat z.1 m2.0)) (λ q. (put_view q, sym same q)) (p.swap table x (filled m m1 x is held wrote))

      pub put_frees : holds (as_bay_seat table' m2.0) ≡ false
      put_frees = makes_holds (as_bay_seat table m.0) (Some x) None (as_bay_seat table' m2.0) put_swap

      pub put_lies : lies (as_bay_seat table' m2.0) ≡ Some x
      put_lies = makes_lie (as_bay_seat table m.0) (Some x) None (as_bay_seat table' m2.0) put_swap

      pub at_bay_put : AtBay m2
      at_bay_put = let same_view : m2.0 ≡ record m1.0 { seen = m2.0.seen } = ap (λ (z : Sat T). z.0) p.now in at_bay m2
          (same_role m m2 (ap (λ (z : View T). z.role) same_view ∙ ap (λ (z : View T). z.role) put_view) (role_of m is))
          (ap (λ (z : View T). z.told) same_view ∙ (ap (λ (z : View T). z.told) put_view ∙ told_of m is))
          (ap (λ (z : Sat T). z.1) p.now ∙ ap emptied (sym put_frees))

  -- Loads

  module _ (domain : T → TableId) (like : T → T → Type 0) (m m' : Sat T) (seen : List (Swap T)) (is : AtBay m) (now : m' ≡ (record m.0 { seen = seen; told = [] }, m.1)) (none : MadeNone (bay_client domain like) m.0 m'.0) (there : IsAt (bay_client domain like) m'.0) where
    role_is : m'.0.role ≡ m.0.role
    role_is = ap (λ (z : Sat T). z.0.role) now

    own : swaps_of (number_of m.0.role) m'.0.seen ≡ swaps_of (number_of m.0.role) m.0.seen
    own = none (Sitter (number_of m.0.role)) (subst (λ r. StandsFor r (number_of m.0.role)) (sym (role_of m is)) refl)

    holding : holds_behind (number_of m'.0.role) m'.0.seen ≡ holds_behind (number_of m.0.role) m.0.seen
    holding = ap (λ r. holds_behind (number_of r) m'.0.seen) role_is ∙ ap (holds_after false) own

    pub at_bay_loaded : AtBay m'
    at_bay_loaded = at_bay m' (same_role m m' role_is (role_of m is)) (ap (λ (z : Sat T). z.0.told) now) (ap (λ (z : Sat T). z.1) now ∙ (slot_of m is ∙ ap emptied (sym holding)))

    module _ (table table' : TableId) (same : table' ≡ table) where
      seat_is : as_bay_seat table' m'.0 ≡ record (as_bay_seat table m.0) { seen = seen }
      seat_is = λ q. as_bay_seat (same q) (now q).0

      history : HasSeenLegal (as_bay_seat table' m'.0)
      history = history_at domain like table' (number_of m'.0.role) m'.0 (same_role m m' role_is (role_of m is)) there

      pub covers_of : (other : List (Swap T)) → seen ≡ m'.0.seen → IsBeginning m.0.seen m'.0.seen → IsBeginning other m'.0.seen → Covers (as_bay_seat table m.0) other (as_bay_seat table' m'.0)
      covers_of other seen_is since covers = record { same = seat_is ∙ ap (λ z. record (as_bay_seat table m.0) { seen = z }) seen_is; since = since; own = own; covers = covers; holding = holding; history = history }

      pub accepts_of : IsBeginning m.0.seen seen → Accepts (as_bay_seat table m.0) seen (as_bay_seat table' m'.0)
      accepts_of since = record { is = seat_is; since = since; own = ap (swaps_of (number_of m.0.role)) (ap (λ (z : Sat T). z.0.seen) (sym now)) ∙ own; holding = holding; history = history }
