-- Each step of a lock with a trail keeps its rule.
use Rattle.std.proofs.Common.{◌≡◌, ◌≢◌, ℕ, zero, suc, ◌<◌, List, [], ◌∷◌, ◌++◌, get_or, sym, refl, ◌∙◌, ap, subst, arith, Option, Some, None, Bool, true, false, length, length-set, get_or-set_same, append-nil, set, inl, inr, ◌⊎◌}
use Rattle.std.proofs.lemmas.Bool.{false≢true}
use mathlib.Core.Logic.{dite}
use mathlib.Core.Option.{some, some-injective}
use lib.ListN.{get_elem?}
use native.Mathlib.Decide.{ℕ_discrete}
use Rattle.atomic_table.specs.Table.{State, Me, keeps, takes, gives, Allows, Arrives, Joins, opening}
use Rattle.atomic_table.proofs.Lists.{set_here, set_else, at_set, at_longer, at_last}
use Rattle.trail.specs.declared.view.View.{View}
use Rattle.trail.specs.Calls.{IsEarlier, Follows, IsLeft}
use Rattle.trail.specs.Rule.{lock_place, newcomer, spent, informed, Kept, Seized, seizes_as, Releases, releases_as, Looks}

module _ {A : Type 0} where
  nothing : (id : ℕ) (v : A) → get_elem? [] id ≡ some v → ⊥
  nothing zero v at = cc
  nothing (suc n) v at = cc

  -- what stands in a list that is one longer, and where
  last_at : (l : List A) (a b : A) (j : ℕ) → get_elem? (l ++ a ∷ []) j ≡ some b → (get_elem? l j ≡ some b) ⊎ ((j ≡ length l) × (a ≡ b))
  last_at [] a b zero e = inr (refl, cc)
  last_at [] a b (suc j) e = absurd (nothing j b e)
  last_at (x ∷ l) a b zero e = inl e
  last_at (x ∷ l) a b (suc j) e = elim (last_at l a b j e) [
    | inl there ↦ inl there
    | inr is ↦ inr ((let n = is.0 in omega (arith, n)), is.1)
  ]

  -- the same of each that comes last, and of each whose place has another now
  among : (l : List A) (a : A) (F : ℕ → A → Type 0) → ((id : ℕ) (v : A) → get_elem? l id ≡ some v → F id v) → F (length l) a
      → (id : ℕ) (v : A) → get_elem? (l ++ a ∷ []) id ≡ some v → F id v
  among l a F all last id v at = elim (last_at l a v id at) [
    | inl there ↦ all id v there
    | inr is ↦ subst (λ n. F n v) (sym is.0) (subst (λ x. F (length l) x) is.1 last)
  ]

  changed : (l : List A) (i : ℕ) (a : A) (F : ℕ → A → Type 0) → ((id : ℕ) (v : A) → id ≢ i → get_elem? l id ≡ some v → F id v) → F i a
      → (id : ℕ) (v : A) → get_elem? (set l i a) id ≡ some v → F id v
  changed l i a F all new id v at = elim (at_set l i id a v at) [
    | inl here ↦ subst (λ n. F n v) (sym here.0) (subst (λ x. F i x) here.1 new)
    | inr there ↦ all id v there.0 there.1
  ]

  -- what stands at another place stays there, and at one place one thing stands
  kept_at : (l : List A) (i : ℕ) (a : A) (j : ℕ) (b : A) → get_elem? l j ≡ some b → j ≢ i → get_elem? (set l i a) j ≡ some b
  kept_at l i a j b at other = set_else l i j a other ∙ at

  same_at : (l : List A) (i : ℕ) (a : A) (j : ℕ) (b : A) → get_elem? l i ≡ some a → get_elem? l j ≡ some b → j ≡ i → a ≡ b
  same_at l i a j b here there is = some-injective a b (sym here ∙ subst (λ k. get_elem? l k ≡ some b) is there)

  -- the only one of a list
  pub only_one : (l : List A) (a b : A) → l ≡ a ∷ [] → l ≡ b ∷ [] → a ≡ b
  only_one l a b x y = cc

module _ {E : Type 0} where
  -- all of it
  whole : (log : List E) → IsEarlier log log
  whole log = ([], refl)

  -- a trail that grows
  grows : (seen log : List E) (e : E) → IsEarlier seen log → IsEarlier seen (e ∷ log)
  grows seen log e h = (e ∷ h.0, ap (λ l. e ∷ l) h.1)

  -- nothing
  at_first : (log : List E) → IsEarlier [] log
  at_first log = (log, sym (append-nil log))

  newest_is : (e f : E) (es fs l : List E) → l ≡ e ∷ es → l ≡ f ∷ fs → e ≡ f
  newest_is e f es fs l a b = cc

module _ {T : Type 0} where
  or_this : T → Option T → T
  or_this d None = d
  or_this d (Some x) = x

  lain : T → List (ℕ × Option T) → T
  lain d [] = d
  lain d (p ∷ ps) = or_this d p.1

  same_value : (x y : T) (l : List (ℕ × Option T)) → l ≡ (0, Some x) ∷ [] → l ≡ (0, Some y) ∷ [] → x ≡ y
  unfolding lain or_this
  same_value x y l a b = ap (lain x) (sym a ∙ b)

module _ {T K E : Type 0} (fits : K → T → Type 0) (state : T → E) (goes : E → E → Type 0) where
  -- the table at the start
  opens : (key : K) (words : List ℕ) (value : T) → length words ≡ 32 → get_or words lock_place 0 ≡ 0 → fits key value → Kept (fits key) state goes (opening words (Some value ∷ []) (newcomer key))
  opens key words value wide free fit = record {
    wide = wide;
    newest = state value;
    before = [];
    row = tt;
    earlier = among [] (newcomer key) (λ _ v. IsEarlier v.seen (state value ∷ []) × IsEarlier v.told (state value ∷ [])) (λ id v at. absurd (nothing id v at)) (at_first (state value ∷ []), at_first (state value ∷ []));
    held = among [] (newcomer key) (λ _ v. v.has ≡ true → (v.seen ≡ state value ∷ []) × (get_or words lock_place 0 ≢ 0)) (λ id v at. absurd (nothing id v at)) (λ e. absurd (false≢true e));
    one = λ i j v w at _ has _. absurd (among [] (newcomer key) (λ _ u. u.has ≡ true → ⊥) (λ id u there. absurd (nothing id u there)) false≢true i v at has);
    home = λ _. (value, refl, fit, refl);
    shut = λ full. absurd (full free);
  }

  pub opens_with : (key : K) (words : List ℕ) (slots : List (Option T)) (value : T) → length words ≡ 32 → get_or words lock_place 0 ≡ 0 → slots ≡ Some value ∷ [] → fits key value → Kept (fits key) state goes (opening words slots (newcomer key))
  opens_with key words slots value wide free is fit = subst (λ (xs : List (Option T)). Kept (fits key) state goes (opening words xs (newcomer key))) (sym is) (opens key words value wide free fit)

  -- the value is taken where it lies there
  pub seizes : (key : K) (n : ℕ) → Arrives (Kept (fits key) state goes) n lock_place (λ _. 1) (seizes_as fits state (newcomer key, []))
  seizes key n s g wide _ =
      let log : List E = g.newest ∷ g.before in
      let long = g.wide in
      let one = get_or-set_same s.words lock_place 1 0 (omega (arith, long)) in
      let full : get_or (set s.words lock_place 1) lock_place 0 ≢ 0 = λ e. absurd (omega (arith, one, e)) in
      dite (ℕ_discrete (get_or s.words lock_place 0) 0)
      (λ free.
      let w : View K E = record { key = Some key; has = true; seen = log; told = [] } in
      let t = g.home free in
      let nobody : (id : ℕ) (v : View K E) → get_elem? s.views id ≡ some v → v.has ≡ true → ⊥ = λ id v at has. (g.held id v at has).1 free in
      let last : (id : ℕ) (v : View K E) → get_elem? (s.views ++ w ∷ []) id ≡ some v → v.has ≡ true → id ≡ length s.views =
      among s.views w (λ id v. v.has ≡ true → id ≡ length s.views) (λ id v at has. absurd (nobody id v at has)) (λ _. refl) in (
        w,
        takes 0 (Some t.0),
        t.1,
        record {
          wide = length-set s.words lock_place 1 ∙ g.wide;
          newest = g.newest;
          before = g.before;
          row = g.row;
          earlier = among s.views w (λ _ v. IsEarlier v.seen log × IsEarlier v.told log) g.earlier (whole log, at_first log);
          held = among s.views w (λ _ v. v.has ≡ true → (v.seen ≡ log) × (get_or (set s.words lock_place 1) lock_place 0 ≢ 0)) (λ id v at has. absurd (nobody id v at has)) (λ _. (refl, full));
          one = λ i j v x ati atj hasv hasx. last i v ati hasv ∙ sym (last j x atj hasx);
          home = λ e. absurd (full e);
          shut = λ _. (length s.views, w, at_last s.views w _ refl, refl);
        },
        λ _. record { value = t.0; slot = refl; fit = t.2; has = refl; before = g.before; seen = ap (λ e. e ∷ g.before) t.3 },
      ))
      (λ taken.
      let w : View K E = record { key = Some key; has = false; seen = log; told = [] } in
      let still : (id : ℕ) (v : View K E) → get_elem? (s.views ++ w ∷ []) id ≡ some v → v.has ≡ true → get_elem? s.views id ≡ some v =
      among s.views w (λ id v. v.has ≡ true → get_elem? s.views id ≡ some v) (λ id v at _. at) (λ e. absurd (false≢true e)) in (
        w,
        keeps,
        tt,
        record {
          wide = length-set s.words lock_place 1 ∙ g.wide;
          newest = g.newest;
          before = g.before;
          row = g.row;
          earlier = among s.views w (λ _ v. IsEarlier v.seen log × IsEarlier v.told log) g.earlier (whole log, at_first log);
          held = λ id v at has. ((g.held id v (still id v at has) has).0, full);
          one = λ i j v x ati atj hasv hasx. g.one i j v x (still i v ati hasv) (still j x atj hasx) hasv hasx;
          home = λ e. absurd (full e);
          shut = λ _. let h = g.shut taken in (h.0, h.1, at_longer s.views (w ∷ []) h.0 h.1 h.2, h.3);
        },
        λ e. absurd (taken e),
      ))

  -- the value lies there again
  left : (key : K) (id : ℕ) (v : View K E) (value : T) → v.has ≡ true → fits key value → IsLeft goes v.seen (state value)
      → Allows (Kept (fits key) state goes) 1 id (v, (0, Some value) ∷ []) lock_place (λ _. 0) (λ _ n. releases_as state (v, (0, Some value) ∷ []) n)
  left key id v value has fit goes_on s g wide at _ =
      let log : List E = g.newest ∷ g.before in
      let w : View K E = record { key = v.key; has = false; seen = state value ∷ v.seen; told = v.told } in
      let all = (g.held id v at has).0 in
      let same = newest_is goes_on.0 g.newest goes_on.1 g.before v.seen goes_on.2 all in
      let nobody : (j : ℕ) (u : View K E) → get_elem? (set s.views id w) j ≡ some u → u.has ≡ true → ⊥ =
      changed s.views id w (λ _ u. u.has ≡ true → ⊥) (λ j u other atj hasu. other (g.one j id u v atj at hasu has)) false≢true in (
        w,
        gives,
        tt,
        record {
          wide = length-set s.words lock_place 0 ∙ g.wide;
          newest = state value;
          before = log;
          row = (subst (λ e. goes e (state value)) same goes_on.3, g.row);
          earlier = changed s.views id w (λ _ u. IsEarlier u.seen (state value ∷ log) × IsEarlier u.told (state value ∷ log))
              (λ j u _ atj. (grows u.seen log (state value) (g.earlier j u atj).0, grows u.told log (state value) (g.earlier j u atj).1))
              (([], ap (λ l. state value ∷ l) (sym all)), grows v.told log (state value) (g.earlier id v at).1);
          held = λ j u atj hasu. absurd (nobody j u atj hasu);
          one = λ i j u x ati atj hasu hasx. absurd (nobody i u ati hasu);
          home = λ _. (value, set_here s.homes 0 (some (Some value)) (omega (arith, wide)), fit, refl);
          shut = λ full. absurd (full (get_or-set_same s.words lock_place 0 0 (let long = g.wide in omega (arith, long))));
        },
        λ x is. record { slot = refl; has = refl; seen = ap (λ y. state y ∷ v.seen) (same_value value x _ refl is) },
      )

  pub releases : (key : K) (n id : ℕ) (m : Me (Option T) (View K E)) (v : View K E) (value : T) → n ≡ 1 → m ≡ (v, (0, Some value) ∷ []) → v.has ≡ true → fits key value → IsLeft goes v.seen (state value)
      → Allows (Kept (fits key) state goes) n id m lock_place (λ _. 0) (λ _. releases_as state m)
  releases key n id m v value one is has fit goes_on =
      subst (λ (z : ℕ). Allows (Kept (fits key) state goes) z id m lock_place (λ _. 0) (λ _. releases_as state m)) (sym one)
      (subst (λ (x : Me (Option T) (View K E)). Allows (Kept (fits key) state goes) 1 id x lock_place (λ _. 0) (λ _. releases_as state x)) (sym is) (left key id v value has fit goes_on))

  -- a seat looks at the whole trail
  pub looks : (key : K) (n id : ℕ) (m : Me (Option T) (View K E)) → m.0.has ≡ false → Allows (Kept (fits key) state goes) n id m lock_place (λ k. k) (λ _. Looks goes m)
  looks key n id m none s g wide at _ =
      let v = m.0 in
      let log : List E = g.newest ∷ g.before in
      let w : View K E = record { key = v.key; has = v.has; seen = log; told = [] } in
      let long = g.wide in
      let word = get_or-set_same s.words lock_place (get_or s.words lock_place 0) 0 (omega (arith, long)) in
      let still : (j : ℕ) (u : View K E) → get_elem? (set s.views id w) j ≡ some u → u.has ≡ true → get_elem? s.views j ≡ some u =
      changed s.views id w (λ j u. u.has ≡ true → get_elem? s.views j ≡ some u) (λ j u _ atj _. atj) (λ e. absurd (false≢true (sym none ∙ e))) in (
        w,
        keeps,
        tt,
        record {
          wide = length-set s.words lock_place (get_or s.words lock_place 0) ∙ g.wide;
          newest = g.newest;
          before = g.before;
          row = g.row;
          earlier = changed s.views id w (λ _ u. IsEarlier u.seen log × IsEarlier u.told log) (λ j u _ atj. g.earlier j u atj) (whole log, at_first log);
          held = λ j u atj hasu. let h = g.held j u (still j u atj hasu) hasu in (h.0, λ e. h.1 (sym word ∙ e));
          one = λ i j u x ati atj hasu hasx. g.one i j u x (still i u ati hasu) (still j x atj hasx) hasu hasx;
          home = λ e. g.home (sym word ∙ e);
          shut = λ full. let h = g.shut (λ e. full (word ∙ e)) in (h.0, h.1, kept_at s.views id w h.0 h.1 h.2 (λ e. absurd (false≢true (sym none ∙ (ap (λ z. z.has) (same_at s.views id v h.0 h.1 at h.2 e) ∙ h.3)))), h.3);
        },
        record { slot = refl; has = refl; newest = g.newest; before = g.before; seen = refl; row = g.row; covers = (g.earlier id v at).0; hears = (g.earlier id v at).1 },
      )

  -- one seat is told what another had seen
  pub informs : (key : K) (id : ℕ) (v : View K E) (other : ℕ) (w : View K E) → v.has ≡ false → w.has ≡ false → Joins (Kept (fits key) state goes) id v other w (informed v w) spent
  informs key id v other w none nor s g at apart atw =
      let log : List E = g.newest ∷ g.before in
      let both : View K E = informed v w in
      let there : get_elem? s.views other ≡ some w = elim (at_set s.views id other both w atw) [
        | inl here ↦ absurd (apart here.0)
        | inr is ↦ is.1
      ] in
      let fine : (j : ℕ) (u : View K E) → get_elem? (set (set s.views id both) other spent) j ≡ some u → IsEarlier u.seen log × IsEarlier u.told log =
      changed (set s.views id both) other spent (λ _ u. IsEarlier u.seen log × IsEarlier u.told log)
      (λ j u _ atj. changed s.views id both (λ _ x. IsEarlier x.seen log × IsEarlier x.told log) (λ k x _ atk. g.earlier k x atk) ((g.earlier id v at).0, (g.earlier other w there).0) j u atj)
      (at_first log, at_first log) in
      let still : (j : ℕ) (u : View K E) → get_elem? (set (set s.views id both) other spent) j ≡ some u → u.has ≡ true → get_elem? s.views j ≡ some u =
      changed (set s.views id both) other spent (λ j u. u.has ≡ true → get_elem? s.views j ≡ some u)
      (λ j u _ atj. changed s.views id both (λ k x. x.has ≡ true → get_elem? s.views k ≡ some x) (λ k x _ atk _. atk) (λ e. absurd (false≢true (sym none ∙ e))) j u atj)
      (λ e. absurd (false≢true e)) in
      record {
        wide = g.wide;
        newest = g.newest;
        before = g.before;
        row = g.row;
        earlier = fine;
        held = λ j u atj hasu. g.held j u (still j u atj hasu) hasu;
        one = λ i j u x ati atj hasu hasx. g.one i j u x (still i u ati hasu) (still j x atj hasx) hasu hasx;
        home = g.home;
        shut = λ full. let h = g.shut full in (
          h.0,
          h.1,
          kept_at (set s.views id both) other spent h.0 h.1
              (kept_at s.views id both h.0 h.1 h.2 (λ e. absurd (false≢true (sym none ∙ (ap (λ z. z.has) (same_at s.views id v h.0 h.1 at h.2 e) ∙ h.3)))))
              (λ e. absurd (false≢true (sym nor ∙ (ap (λ z. z.has) (same_at s.views other w h.0 h.1 there h.2 e) ∙ h.3)))),
          h.3,
        );
      }
