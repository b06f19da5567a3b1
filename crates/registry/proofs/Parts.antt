-- Parts that are lent and come home.
use Rattle.std.proofs.Common.{◌≡◌, ◌==◌, ℕ, ◌+◌, ◌<◌, ◌≤◌, List, [], ◌∷◌, Option, Some, length, map, get_or, set, ◌++◌, cond, Result, Ok, Err, All, refl, sym, ap, ◌∙◌, subst, arith, ⊎_elim}
use Rattle.std.proofs.lemmas.Bool.{cases_eq, cases_lt}
use Rattle.std.proofs.lemmas.List.{get_or-map, length-map, map-set, set-get_or, get_or-set_same, get_or-set_other, get_or_read, get_or_push, get_or_append_left, get_or_default, length-append}
use Rattle.std.proofs.lemmas.List.Sums.{sum-map, sum_by-append}
use Rattle.std.proofs.lemmas.Option.{same_Some}
use Rattle.std.specs.Cmp.{IsTotalOrder}
use Rattle.std.specs.List.{AllWithin, HoldsAt, sum}
use Rattle.std.specs.Result.{is_ok, IsOk}
use Rattle.std.specs.declared.cmp.Ordering.{Ordering}
use Rattle.std.specs.declared.cmp.Ordering.TheVariants.{Less, Equal, Greater}
use Rattle.parts.specs.declared.loose.LooseDeed.{LooseDeed}
use Rattle.registry.specs.declared.device.Device.{Device}
use Rattle.registry.specs.Order.{AreInOrder}
use Rattle.registry.specs.Names.{kept_of, all_kept, names_of, times_here, times_shown, HasItsNumber, ShowsItsOwn, ComesHome, IsPartOf}
use Rattle.registry.specs.Registry.{AreNumbered}
use Rattle.registry.proofs.Order.{missing, one_place, self_equal}
use Rattle.registry.proofs.Counts.{alone_none, alone_one, at_both, at_one, bit}
use Rattle.registry.specs.declared.index.Entry.{Entry}

pub there : {X : Type 0} (xs : List X) (i : ℕ) → i < length xs → (x : X) × (x ≡ get_or xs i x)
there [] i l = absurd (omega (arith, l))
there (x ∷ xs) i l = (get_or (x ∷ xs) i x, get_or_default (x ∷ xs) i x (get_or (x ∷ xs) i x) l)

-- what succeeded was done
pub chosen : {X E : Type 0} (xs ys zs : List X) (r : Result (Unit {0}) E) → zs ≡ cond (is_ok r) xs ys → IsOk r → zs ≡ xs
chosen xs ys zs (Ok u) e h = e
chosen xs ys zs (Err u) e h = cc

module _ {K V A : Type 0} where
  pub kept_length : (ds es : List (Device K V A)) → all_kept es ≡ all_kept ds → length es ≡ length ds
  kept_length ds es e = sym (length-map es kept_of) ∙ (ap length e ∙ length-map ds kept_of)

  pub kept_at : (ds es : List (Device K V A)) → all_kept es ≡ all_kept ds → (k : ℕ) (d : Device K V A) → k < length ds → kept_of (get_or es k d) ≡ kept_of (get_or ds k d)
  kept_at ds es e k d l =
      let n = kept_length ds es e in
      sym (get_or-map kept_of es k d (kept_of d) (omega (arith, n))) ∙ (ap (λ xs. get_or xs k (kept_of d)) e ∙ get_or-map kept_of ds k d (kept_of d) l)

  map_kept : {Y : Type 0} (f : Device K V A → Y) (h : K × ℕ × LooseDeed V A → Y) → ((d : Device K V A) → h (kept_of d) ≡ f d) → (ds : List (Device K V A)) → map h (all_kept ds) ≡ map f ds
  map_kept f h same [] = refl
  map_kept f h same (d ∷ ds) = λ i. same d i ∷ map_kept f h same ds i

  -- what depends on what is kept alone
  pub same_names : (ds es : List (Device K V A)) → all_kept es ≡ all_kept ds → names_of es ≡ names_of ds
  same_names ds es e = sym (map_kept (λ d. (d.key, d.deed.deed.value)) (λ k. (k.0, k.2.deed.value)) (λ d. refl) es) ∙ (ap (map (λ k. (k.0, k.2.deed.value))) e ∙ map_kept (λ d. (d.key, d.deed.deed.value)) (λ k. (k.0, k.2.deed.value)) (λ d. refl) ds)

  pub same_keys : (ds es : List (Device K V A)) → all_kept es ≡ all_kept ds → map (λ (d : Device K V A). d.key) es ≡ map (λ (d : Device K V A). d.key) ds
  same_keys ds es e = sym (map_kept (λ d. d.key) (λ k. k.0) (λ d. refl) es) ∙ (ap (map (λ k. k.0)) e ∙ map_kept (λ d. d.key) (λ k. k.0) (λ d. refl) ds)

  pub same_order : (cmp : K → K → Ordering) (ds es : List (Device K V A)) → all_kept es ≡ all_kept ds → AreInOrder cmp (map (λ (d : Device K V A). d.key) ds) → AreInOrder cmp (map (λ (d : Device K V A). d.key) es)
  same_order cmp ds es e h = subst (AreInOrder cmp) (sym (same_keys ds es e)) h

  pub same_known : (who : ℕ → Option (K × V × ℕ)) (ds es : List (Device K V A)) → all_kept es ≡ all_kept ds → All (HasItsNumber who) ds → All (HasItsNumber who) es
  same_known who ds es e h k d l =
      let n = kept_length ds es e in
      let lt : k < length ds = omega (arith, n) in
      subst (λ (z : K × ℕ × LooseDeed V A). who z.1 ≡ Some (z.0, z.2.deed.value, z.2.deed.round)) (sym (kept_at ds es e k d lt)) (h k d lt)

  pub same_times : (n : ℕ) (ds es : List (Device K V A)) → all_kept es ≡ all_kept ds → times_here n es ≡ times_here n ds
  same_times n ds es e =
      let f : Device K V A → ℕ = λ d. bit (d.number == n) in
      let h : K × ℕ × LooseDeed V A → ℕ = λ k. bit (k.1 == n) in
      let same = sym (map_kept f h (λ d. refl) es) ∙ (ap (map h) e ∙ map_kept f h (λ d. refl) ds) in
      sym (sum-map f es) ∙ (ap sum same ∙ sum-map f ds)

  pub same_numbered : (cmp : K → K → Ordering) (who : ℕ → Option (K × V × ℕ)) (here here' leaving leaving' : List (Device K V A)) → all_kept here' ≡ all_kept here → all_kept leaving' ≡ all_kept leaving
      → AreNumbered cmp who here leaving → AreNumbered cmp who here' leaving'
  same_numbered cmp who here here' leaving leaving' h l a = record {
    ordered = same_order cmp here here' h a.ordered;
    here_are = same_known who here here' h a.here_are;
    leaving_are = same_known who leaving leaving' l a.leaving_are;
    one = λ n. let e = same_times n here here' h in let f = same_times n leaving leaving' l in let was = a.one n in omega (arith, e, f, was);
  }

  pub kept_set : (ds : List (Device K V A)) (i : ℕ) (d e : Device K V A) → i < length ds → d ≡ get_or ds i d → kept_of e ≡ kept_of d → all_kept (set ds i e) ≡ all_kept ds
  kept_set ds i d e l r k =
      map-set kept_of ds i e ∙ (ap (set (all_kept ds) i) (k ∙ (ap kept_of r ∙ sym (get_or-map kept_of ds i d (kept_of d) l))) ∙ set-get_or (all_kept ds) i (kept_of d))

  -- one part of one device came home, and of no other
  pub home_set : (y : Entry K V) (ds : List (Device K V A)) (i : ℕ) (d e : Device K V A) → i < length ds → d ≡ get_or ds i d → (kept_of e ≡ kept_of d) × (e.out + 1 ≡ d.out) → d.number ≡ y.number → times_here y.number ds ≤ 1 → ComesHome (y ∷ []) ds (set ds i e)
  home_set y ds i d e l r h same one = record {
    kept = kept_set ds i d e l r h.0;
    out = λ k x lt. ⊎_elim
        (λ is. subst (λ (j : ℕ). (get_or (set ds i e) j x).out + times_shown (get_or ds j x).number (y ∷ []) ≡ (get_or ds j x).out) (sym is)
        (let at = get_or_read ds i d l r x in
        let times = alone_one (λ (z : Entry K V). z.number) (get_or ds i x).number y (sym same ∙ ap (λ z. z.number) at) in
        let now = ap (λ z. z.out) (get_or-set_same ds i e x l) in
        let was = ap (λ z. z.out) at in omega (arith, times, now, was, h.1)))
        (λ ne.
        let other : y.number ≡ (get_or ds k x).number → ⊥ = λ q. let two = both ds i k x ne l lt (sym (ap (λ z. z.number) (get_or_read ds i d l r x)) ∙ same) (sym q) in omega (arith, two, one) in
        let times = alone_none (λ (z : Entry K V). z.number) (get_or ds k x).number y other in
        let now = ap (λ z. z.out) (get_or-set_other ds i k e x ne) in omega (arith, times, now))
        (cases_eq k i);
  }
    where
      both : (ds : List (Device K V A)) (i k : ℕ) (x : Device K V A) → (k ≡ i → ⊥) → i < length ds → k < length ds → (get_or ds i x).number ≡ y.number → (get_or ds k x).number ≡ y.number → 2 ≤ times_here y.number ds
      both ds i k x ne l m e f = ⊎_elim
          (λ lt. at_both (λ (z : Device K V A). z.number) y.number ds i k x lt m e f)
          (λ le. at_both (λ (z : Device K V A). z.number) y.number ds k i x (omega (arith, le, ne)) l f e)
          (cases_lt i k)

  -- the part was of none of them
  pub home_none : (y : Entry K V) (ds : List (Device K V A)) → All (λ (d : Device K V A). d.number ≡ y.number → ⊥) ds → ComesHome (y ∷ []) ds ds
  home_none y ds h = record {
    kept = refl;
    out = λ k x lt. let times = alone_none (λ (z : Entry K V). z.number) (get_or ds k x).number y (λ e. h k x lt (sym e)) in omega (arith, times);
  }

  -- where one of these devices has the number, none of those has it
  pub no_other : (n : ℕ) (here leaving : List (Device K V A)) (i : ℕ) → i < length here → HoldsAt (λ (d : Device K V A). d.number ≡ n) here i → times_here n here + times_here n leaving ≤ 1 → All (λ (d : Device K V A). d.number ≡ n → ⊥) leaving
  no_other n here leaving i l at one k d lt e =
      let t = there here i l in
      let a = at_one (λ (z : Device K V A). z.number) n here i t.0 l (at t.0) in
      let b = at_one (λ (z : Device K V A). z.number) n leaving k d lt e in omega (arith, a, b, one)

  -- Which device an entry is of

  same_device : (who : ℕ → Option (K × V × ℕ)) (y : Entry K V) (d : Device K V A) → ShowsItsOwn who y → HasItsNumber who d → d.number ≡ y.number → ◌≡◌ {A = K × V × ℕ} (y.key, y.part.value, y.part.round) (d.key, d.deed.deed.value, d.deed.deed.round)
  same_device who y d own is e = same_Some _ _ (sym own ∙ (ap who (sym e) ∙ is))

  pub same_round : (who : ℕ → Option (K × V × ℕ)) (y : Entry K V) (ds : List (Device K V A)) (i : ℕ) (d : Device K V A) → ShowsItsOwn who y → All (HasItsNumber who) ds → i < length ds → d ≡ get_or ds i d → d.number ≡ y.number → y.part.round ≡ d.deed.deed.round
  same_round who y ds i d own are l r e = ap (λ z. z.2) (same_device who y d own (subst (HasItsNumber who) (sym r) (are i d l)) e)

  -- a device whose key stands nowhere is none of these
  pub absent : {cmp : K → K → Ordering} (o : IsTotalOrder cmp) (who : ℕ → Option (K × V × ℕ)) (y : Entry K V) (ds : List (Device K V A)) (i : ℕ) → ShowsItsOwn who y → All (HasItsNumber who) ds
      → AllWithin (λ (d : Device K V A). cmp d.key y.key ≡ Less) ds 0 i → AllWithin (λ (d : Device K V A). cmp d.key y.key ≡ Greater) ds i (length ds) → All (λ (d : Device K V A). d.number ≡ y.number → ⊥) ds
  absent {cmp} o who y ds i own are low high k d l e =
      let key = ap (λ z. z.0) (same_device who y (get_or ds k d) own (are k d l) e) in
      missing o (λ (x : Device K V A). x.key) ds y.key i low high k d l (ap (λ z. cmp z y.key) (sym key) ∙ self_equal o y.key)

  -- and where another one has its key, none is it
  pub another : {cmp : K → K → Ordering} (o : IsTotalOrder cmp) (who : ℕ → Option (K × V × ℕ)) (y : Entry K V) (ds : List (Device K V A)) (i : ℕ) → ShowsItsOwn who y → All (HasItsNumber who) ds → AreInOrder cmp (map (λ (d : Device K V A). d.key) ds)
      → i < length ds → HoldsAt (λ (d : Device K V A). cmp d.key y.key ≡ Equal) ds i → HoldsAt (λ (d : Device K V A). d.number ≡ y.number → ⊥) ds i → All (λ (d : Device K V A). d.number ≡ y.number → ⊥) ds
  another {cmp} o who y ds i own are ordered li at other k d l e =
      let key = ap (λ z. z.0) (same_device who y (get_or ds k d) own (are k d l) e) in
      let is = one_place o (λ (x : Device K V A). x.key) ds i k d ordered li l (ap (cmp (get_or ds i d).key) (sym key) ∙ at d) in
      other d (subst (λ (j : ℕ). (get_or ds j d).number ≡ y.number) (sym is) e)

  -- Entries come home one after another

  -- of all entries these are still to come
  pub record StillOut (all rest : List (Entry K V)) (ds ds' : List (Device K V A)) : Type 0 where
    pub kept : all_kept ds' ≡ all_kept ds
    pub out : (k : ℕ) (d : Device K V A) → k < length ds → (get_or ds' k d).out + times_shown (get_or ds k d).number all ≡ (get_or ds k d).out + times_shown (get_or ds k d).number rest

  pub still_first : (all : List (Entry K V)) (ds : List (Device K V A)) → StillOut all all ds ds
  still_first all ds = record { kept = refl; out = λ k d l. refl }

  pub still_next : (all rest rest' : List (Entry K V)) (y : Entry K V) (ds es fs : List (Device K V A)) → rest ≡ rest' ++ y ∷ [] → StillOut all rest ds es → ComesHome (y ∷ []) es fs → StillOut all rest' ds fs
  still_next all rest rest' y ds es fs e s h = record {
    kept = h.kept ∙ s.kept;
    out = λ k d l.
        let n = (get_or ds k d).number in
        let m = kept_length ds es s.kept in
        let was = s.out k d l in
        let now = h.out k d (omega (arith, m, l)) in
        let same = ap (λ z. times_shown z.1 (y ∷ [])) (kept_at ds es s.kept k d l) in
        let split = ap (times_shown n) e ∙ sum_by-append (λ (z : Entry K V). bit (z.number == n)) rest' (y ∷ []) in omega (arith, was, now, same, split);
  }

  -- One device more has lent a part

  pub lent_more : (s init : List (Device K V A)) (i : ℕ) (d e : Device K V A) → i < length s → d ≡ get_or s i d → e.out ≡ d.out + 1
      → ((k : ℕ) (x : Device K V A) → k < i → (get_or s k x).out ≡ (get_or init k x).out + 1)
      → ((k : ℕ) (x : Device K V A) → i ≤ k → get_or s k x ≡ get_or init k x)
      → (k : ℕ) (x : Device K V A) → k < i + 1 → (get_or (set s i e) k x).out ≡ (get_or init k x).out + 1
  lent_more s init i d e l r o lent rest k x lt = ⊎_elim
      (λ is. subst (λ (j : ℕ). (get_or (set s i e) j x).out ≡ (get_or init j x).out + 1) (sym is)
      (ap (λ z. z.out) (get_or-set_same s i e x l) ∙ (o ∙ ap (λ z. z.out + 1) (get_or_read s i d l r x ∙ rest i x (omega arith)))))
      (λ ne. ap (λ z. z.out) (get_or-set_other s i k e x ne) ∙ lent k x (omega (arith, ne, lt)))
      (cases_eq k i)

  pub rest_more : (s init : List (Device K V A)) (i : ℕ) (e : Device K V A) → ((k : ℕ) (x : Device K V A) → i ≤ k → get_or s k x ≡ get_or init k x)
      → (k : ℕ) (x : Device K V A) → i + 1 ≤ k → get_or (set s i e) k x ≡ get_or init k x
  rest_more s init i e rest k x le = get_or-set_other s i k e x (λ is. omega (arith, is, le)) ∙ rest k x (omega (arith, le))

  pub parts_more : (es : List (Entry K V)) (s init : List (Device K V A)) (i : ℕ) (y : Entry K V) (d : Device K V A) → length es ≡ i → i < length s → d ≡ get_or s i d → IsPartOf y d
      → ((k : ℕ) (x : Device K V A) → i ≤ k → get_or s k x ≡ get_or init k x)
      → ((k : ℕ) (e : Entry K V) (x : Device K V A) → k < i → IsPartOf (get_or es k e) (get_or init k x))
      → (k : ℕ) (e : Entry K V) (x : Device K V A) → k < i + 1 → IsPartOf (get_or (es ++ y ∷ []) k e) (get_or init k x)
  parts_more es s init i y d n l r part rest parts k e x lt = ⊎_elim
      (λ is. subst (λ (j : ℕ). IsPartOf (get_or (es ++ y ∷ []) j e) (get_or init j x)) (sym is)
      (subst (λ (f : Entry K V). IsPartOf f (get_or init i x)) (sym (get_or_push es y e i n)) (subst (λ (f : Device K V A). IsPartOf y f) (get_or_read s i d l r x ∙ rest i x (omega arith)) part)))
      (λ ne. subst (λ (f : Entry K V). IsPartOf f (get_or init k x)) (sym (get_or_append_left es (y ∷ []) e k (omega (arith, n, ne, lt)))) (parts k e x (omega (arith, ne, lt))))
      (cases_eq k i)

  -- One device more has its part back

  pub rest_fewer : (s init : List (Device K V A)) (n : ℕ) (e : Device K V A) → ((k : ℕ) (x : Device K V A) → k < n + 1 → get_or s k x ≡ get_or init k x)
      → (k : ℕ) (x : Device K V A) → k < n → get_or (set s n e) k x ≡ get_or init k x
  rest_fewer s init n e rest k x lt = get_or-set_other s n k e x (λ is. omega (arith, is, lt)) ∙ rest k x (omega (arith, lt))

  pub back_more : (s init : List (Device K V A)) (n : ℕ) (d e : Device K V A) → n < length s → d ≡ get_or s n d → e.out + 1 ≡ d.out
      → ((k : ℕ) (x : Device K V A) → k < n + 1 → get_or s k x ≡ get_or init k x)
      → ((k : ℕ) (x : Device K V A) → n + 1 ≤ k → k < length init → (get_or init k x).out ≡ (get_or s k x).out + 1)
      → (k : ℕ) (x : Device K V A) → n ≤ k → k < length init → (get_or init k x).out ≡ (get_or (set s n e) k x).out + 1
  back_more s init n d e l r o rest back k x le lt = ⊎_elim
      (λ is. subst (λ (j : ℕ). (get_or init j x).out ≡ (get_or (set s n e) j x).out + 1) (sym is)
      (ap (λ z. z.out) (sym (get_or_read s n d l r x ∙ rest n x (omega arith))) ∙ (sym o ∙ ap (λ z. z.out + 1) (sym (get_or-set_same s n e x l)))))
      (λ ne. back k x (omega (arith, ne, le)) lt ∙ ap (λ z. z.out + 1) (sym (get_or-set_other s n k e x ne)))
      (cases_eq k n)

-- what was pushed stands at the end
pub pushed : {X E : Type 0} (xs ys : List X) (y : X) (r : Result (Unit {0}) E) → ys ≡ cond (is_ok r) (xs ++ y ∷ []) xs → IsOk r → ys ≡ xs ++ y ∷ []
pushed xs ys y (Ok u) e h = e
pushed xs ys y (Err u) e h = cc

pub All-front : {X : Type 0} (P : X → Type 0) (xs ys zs : List X) → zs ≡ xs ++ ys → All P zs → All P xs
All-front P xs ys zs e h k d l =
    let n = length-append xs ys in
    let m = ap length e in
    subst P (ap (λ l. get_or l k d) e ∙ get_or_append_left xs ys d k l) (h k d (omega (arith, n, m, l)))
