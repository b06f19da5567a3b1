-- Each step at a mailbox keeps its rule.
use Rattle.std.proofs.Common.{◌≡◌, ◌≢◌, ℕ, zero, suc, ◌≤◌, ◌==◌, List, [], ◌∷◌, ◌++◌, get_or, sym, refl, ◌∙◌, ap, subst, arith, Option, Some, None, length-set, get_or-set_same, set, inl, inr, ◌⊎◌}
use mathlib.Core.Option.{some}
use lib.ListN.{get_elem?}
use prog.Atomic.{either}
use Rattle.std.specs.Prelude.{IfSome}
use Rattle.std.specs.Mem.Slots.{slots_items, slots_len, IsFull}
use Rattle.atomic_table.specs.Table.{State, Me, Act, keeps, takes, gives, Allows, Enters, opening, stepped, Valid, carried_after, rest, Final, Seen}
use Rattle.atomic_table.specs.declared.owned.Closed.{Closed}
use Rattle.atomic_table.proofs.Lists.{set_here, at_set, at_snoc, exchanged}
use Rattle.mailbox.specs.declared.mailbox.View.{View}
use Rattle.mailbox.specs.Rule.{there, busy, empty, shut, newcomer, Kept, Fits, Has, Lays, LiesShut}

module _ {A : Type 0} where
  nothing : (id : ℕ) (v : A) → get_elem? [] id ≡ some v → ⊥
  nothing zero v at = cc
  nothing (suc n) v at = cc

  -- the same of each that comes last, and of each whose place has another now
  among : (l : List A) (a : A) (F : A → Type 0) → ((id : ℕ) (v : A) → get_elem? l id ≡ some v → F v) → F a
      → (id : ℕ) (v : A) → get_elem? (l ++ a ∷ []) id ≡ some v → F v
  among l a F all last id v at = elim (at_snoc l a v id at) [
    | inl old ↦ all id v old
    | inr is ↦ subst F is last
  ]

  changed : (l : List A) (i : ℕ) (a : A) (F : ℕ → A → Type 0) → ((id : ℕ) (v : A) → id ≢ i → get_elem? l id ≡ some v → F id v) → F i a
      → (id : ℕ) (v : A) → get_elem? (set l i a) id ≡ some v → F id v
  changed l i a F all new id v at = elim (at_set l i id a v at) [
    | inl here ↦ subst (λ n. F n v) (sym here.0) (subst (λ x. F i x) here.1 new)
    | inr else ↦ all id v else.0 else.1
  ]

module _ {T : Type 0} where
  lain : Option T → List (ℕ × Option T) → Option T
  lain d [] = d
  lain d (p ∷ ps) = p.1

  -- a seat that has one slot found this in it
  pub same_found : (x y : Option T) (l : List (ℕ × Option T)) → l ≡ (0, x) ∷ [] → l ≡ (0, y) ∷ rest l → x ≡ y
  unfolding lain
  same_found x y l a b = ap (lain x) (sym a ∙ b)

module _ {T K : Type 0} (fits : T → K → Type 0) (key : K) where
  abbrev Rule : State (Option T) (View K) → Type 0
  Rule s = Kept (λ x. fits x key) s

  -- the table at the start
  pub opens : Rule (opening (empty ∷ []) (None ∷ []) (newcomer key))
  opens = record {
    wide = refl;
    alone = λ i j v w ati atj hasv hasw. absurd (among [] (newcomer key) (λ u. u.pins ≢ 0 → ⊥) (λ id u at. absurd (nothing id u at)) (λ no. no refl) i v ati hasv);
    pinned = λ id v at has. absurd (among [] (newcomer key) (λ u. u.pins ≢ 0 → ⊥) (λ id u at. absurd (nothing id u at)) (λ no. no refl) id v at has);
    lies = λ e. absurd (omega arith);
    bare = λ _. refl;
  }

  -- one who comes pins nothing
  pub enters : (n : ℕ) → Enters Rule n 0 (λ _ w. (w.key ≡ key) × (w.pins ≡ 0))
  enters n s g wide _ =
      let w : View K = newcomer key in
      let still : (id : ℕ) (v : View K) → get_elem? (s.views ++ w ∷ []) id ≡ some v → v.pins ≢ 0 → get_elem? s.views id ≡ some v =
      λ id v at has. elim (at_snoc s.views w v id at) [
        | inl old ↦ old
        | inr is ↦ absurd (has (sym (ap (λ u. u.pins) is)))
      ] in (
        w,
        record {
          wide = g.wide;
          alone = λ i j v x ati atj hasv hasx. g.alone i j v x (still i v ati hasv) (still j x atj hasx) hasv hasx;
          pinned = λ id v at has. g.pinned id v (still id v at has) has;
          lies = g.lies;
          bare = g.bare;
        },
        (refl, refl),
      )

  -- what lies in the slot, as the word says
  found_at : (s : State (Option T) (View K)) (from : ℕ) → Rule s → get_or s.words 0 0 ≡ from → (from ≡ there) ⊎ (from ≡ empty)
      → (found : Option T) × (get_elem? s.homes 0 ≡ some (some found)) × Fits fits key from found
  found_at s from g is which = elim which [
    | inl e ↦ let t = g.lies (is ∙ e) in (Some t.0, t.1, (e, t.2))
    | inr e ↦ (None, g.bare (omega (arith, is, e)), e)
  ]

  -- a seat takes the slot where the word is the one that it asks for
  pub claims : (n id : ℕ) (m : Me (Option T) (View K)) (from : ℕ) → m.1 ≡ [] → m.0.key ≡ key → m.0.pins ≡ 0 → (from ≡ there) ⊎ (from ≡ empty)
      → Allows Rule n id m 0 (λ k. either (k == from) busy k) (λ r x. r ≡ from → Has fits m.0.key from x)
  claims n id m from bare same none which s g wide at _ =
      let word : ℕ = get_or s.words 0 0 in
      let long = g.wide in
      let P : ℕ → Type 0 = λ z. (w : View K) × (a : Act (Option T)) × Valid s.homes m.1 a × Rule (stepped s 0 z id m.1 w a) × (word ≡ from → Has fits m.0.key from (w, carried_after m.1 a)) in
      exchanged word from busy P
      (λ hit.
      let w : View K = record { key = m.0.key; pins = busy } in
      let now : get_or (set s.words 0 busy) 0 0 ≡ busy = get_or-set_same s.words 0 busy 0 (omega (arith, long)) in
      let nobody : (j : ℕ) (u : View K) → get_elem? s.views j ≡ some u → u.pins ≢ 0 → ⊥ = λ j u atj has. elim which [
        | inl e ↦ has (sym (g.pinned j u atj has).0 ∙ (hit ∙ e))
        | inr e ↦ (g.pinned j u atj has).1 (sym (g.pinned j u atj has).0 ∙ (hit ∙ e))
      ] in
      let only : (j : ℕ) (u : View K) → get_elem? (set s.views id w) j ≡ some u → u.pins ≢ 0 → j ≡ id =
      changed s.views id w (λ j u. u.pins ≢ 0 → j ≡ id) (λ j u _ atj has. absurd (nobody j u atj has)) (λ _. refl) in
      let t = found_at s from g hit which in (
        w,
        takes 0 t.0,
        t.1,
        record {
          wide = length-set s.words 0 busy ∙ g.wide;
          alone = λ i j x y ati atj hasx hasy. only i x ati hasx ∙ sym (only j y atj hasy);
          pinned = changed s.views id w (λ _ u. u.pins ≢ 0 → (get_or (set s.words 0 busy) 0 0 ≡ u.pins) × (u.pins ≢ empty)) (λ j u _ atj has. absurd (nobody j u atj has)) (λ _. (now, λ e. absurd (omega (arith, e))));
          lies = λ e. absurd (omega (arith, now, e));
          bare = λ le. absurd (omega (arith, now, le));
        },
        λ _. record { found = t.0; slot = ap (λ l. (0, t.0) ∷ l) bare; pins = refl; is = subst (λ k. Fits fits k from t.0) (sym same) t.2 },
      ))
      (λ miss.
      let back : get_or (set s.words 0 word) 0 0 ≡ word = get_or-set_same s.words 0 word 0 (omega (arith, long)) in
      let still : (j : ℕ) (u : View K) → get_elem? (set s.views id m.0) j ≡ some u → get_elem? s.views j ≡ some u =
      changed s.views id m.0 (λ j u. get_elem? s.views j ≡ some u) (λ j u _ atj. atj) at in (
        m.0,
        keeps,
        tt,
        record {
          wide = length-set s.words 0 word ∙ g.wide;
          alone = λ i j x y ati atj hasx hasy. g.alone i j x y (still i x ati) (still j y atj) hasx hasy;
          pinned = λ j u atj has. let t = g.pinned j u (still j u atj) has in (back ∙ t.0, t.1);
          lies = λ e. g.lies (sym back ∙ e);
          bare = λ le. g.bare (subst (λ z. empty ≤ z) back le);
        },
        λ e. absurd (miss e),
      ))

  -- a seat lays the slot down, and says what is in it
  left : (id : ℕ) (v : View K) (found : Option T) (word pins : ℕ) → v.pins ≡ busy
      → (word ≡ there → (value : T) × (found ≡ Some value) × fits value key) → (empty ≤ word → found ≡ None)
      → (pins ≢ 0 → (word ≡ pins) × (pins ≢ empty)) → (word ≡ shut → pins ≡ shut)
      → Allows Rule 1 id (v, (0, found) ∷ []) 0 (λ _. word) (λ _ n. Lays word (v, (0, found) ∷ []) n)
  left id v found word pins has lies bare tied says s g wide at _ =
      let w : View K = record { key = v.key; pins = pins } in
      let long = g.wide in
      let now : get_or (set s.words 0 word) 0 0 ≡ word = get_or-set_same s.words 0 word 0 (omega (arith, long)) in
      let here = set_here s.homes 0 (some found) (omega (arith, wide)) in
      let others : (j : ℕ) (u : View K) → j ≢ id → get_elem? s.views j ≡ some u → u.pins ≢ 0 → ⊥ = λ j u other atj hasu. other (g.alone j id u v atj at hasu (λ e. absurd (omega (arith, has, e)))) in
      let only : (j : ℕ) (u : View K) → get_elem? (set s.views id w) j ≡ some u → u.pins ≢ 0 → j ≡ id =
      changed s.views id w (λ j u. u.pins ≢ 0 → j ≡ id) (λ j u other atj hasu. absurd (others j u other atj hasu)) (λ _. refl) in (
        w,
        gives,
        tt,
        record {
          wide = length-set s.words 0 word ∙ g.wide;
          alone = λ i j x y ati atj hasx hasy. only i x ati hasx ∙ sym (only j y atj hasy);
          pinned = changed s.views id w (λ _ u. u.pins ≢ 0 → (get_or (set s.words 0 word) 0 0 ≡ u.pins) × (u.pins ≢ empty)) (λ j u other atj hasu. absurd (others j u other atj hasu)) (λ hasw. let t = tied hasw in (now ∙ t.0, t.1));
          lies = λ e. let t = lies (sym now ∙ e) in (t.0, here ∙ ap (λ (f : Option T). some (some f)) t.1, t.2);
          bare = λ le. here ∙ ap (λ (f : Option T). some (some f)) (bare (subst (λ z. empty ≤ z) now le));
        },
        says,
      )

  pub lays : (n id : ℕ) (m : Me (Option T) (View K)) (found : Option T) (word pins : ℕ) → n ≡ 1 → m.1 ≡ (0, found) ∷ [] → m.0.pins ≡ busy
      → (word ≡ there → (value : T) × (found ≡ Some value) × fits value key) → (empty ≤ word → found ≡ None)
      → (pins ≢ 0 → (word ≡ pins) × (pins ≢ empty)) → (word ≡ shut → pins ≡ shut)
      → Allows Rule n id m 0 (λ _. word) (λ _ x. Lays word m x)
  lays n id m found word pins one slot has lies bare tied says =
      subst (λ z. Allows Rule z id m 0 (λ _. word) (λ _ x. Lays word m x)) (sym one)
      (subst (λ (z : Me (Option T) (View K)). Allows Rule 1 id z 0 (λ _. word) (λ _ x. Lays word z x)) (ap (λ l. (m.0, l)) (sym slot)) (left id m.0 found word pins has lies bare tied says))

  -- what a seat found in the slot fits
  pub fit_of : (word : ℕ) (found : Option T) → Fits fits key word found → IfSome found (λ x. fits x key)
  fit_of word None h = tt
  fit_of word (Some value) h = h.1

  -- a place that was closed is empty
  pub closes : {A : Type 0} (id : ℕ) (v : View K) (closed : Closed (Option T) A) → v.pins ≡ shut → slots_len closed.slots ≡ 1
      → IsFull closed.words × IsFull closed.slots × Final (Seen Rule id v) (slots_items closed.words) (slots_items closed.slots) → LiesShut closed
  closes id v closed has one h =
      let g : Rule h.2.0 = h.2.1.0 in
      let word = (g.pinned id v h.2.1.1 (λ e. absurd (omega (arith, has, e)))).0 in
      record {
        full = h.1;
        one = one;
        none = h.2.4 0 None (g.bare (omega (arith, word, has)));
      }
