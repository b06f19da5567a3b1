-- What is always true of a registry stays true.
use Rattle.std.proofs.Common.{◌≡◌, ◌==◌, ℕ, ◌+◌, ◌^◌, ◌<◌, ◌≤◌, ◌⊎◌, Option, Some, None, IfSome, MatchOption, zero, suc, List, [], ◌∷◌, ◌++◌, take, drop, length, map, get_or, set, All, refl, sym, ap, ◌∙◌, subst, arith, inl, inr, ⊎_elim}
use Rattle.std.specs.List.{HoldsAt, last_or, remove, insert, sum_by}
use Rattle.std.specs.declared.cmp.Ordering.{Ordering}
use Rattle.std.proofs.lemmas.Bool.{cases_eq}
use Rattle.std.proofs.lemmas.Option.{none-some, same_Some}
use Rattle.std.proofs.lemmas.List.{get_or-set_other, length-set, length_push, take-map, drop-map, map-append, take_at, drop_all, append-nil}
use Rattle.std.proofs.lemmas.List.Elements.{All-tail, All-cons}
use Rattle.std.proofs.lemmas.List.Sorted.{All-permutation, IsPermutation-remove, IsPermutation-insert}
use Rattle.std.proofs.lemmas.List.Sums.{sum_by-remove, sum_by-set}
use Rattle.parts.specs.declared.loose.LooseDeed.{LooseDeed}
use Rattle.domain.specs.Views.{DomainView, CpuView, IsOf}
use Rattle.boxes.specs.Boxes.{BoxesView, BoxWriterView, IsCellIn, IsCellOf, Stored, stored_at}
use Rattle.boxes.specs.Writing.{IsNotBack}
use Rattle.registry.specs.declared.index.Entry.{Entry}
use Rattle.registry.specs.declared.device.Device.{Device}
use Rattle.registry.specs.Names.{all_kept, name_of, names_of, swap, times_shown, ComesHome, HasItsNumber, Lends}
use Rattle.registry.specs.Registry.{IsDevice, IsRegistry, MayBeFound, parts_in, parts_out}
use Rattle.registry.proofs.Counts.{bit, in_version, somewhere, within}
use Rattle.registry.proofs.Parts.{kept_length, kept_at, same_names, same_numbered, there}

pub map-insert : {X Y : Type 0} (f : X → Y) (xs : List X) (i : ℕ) (y : X) → map f (insert xs i y) ≡ insert (map f xs) i (f y)
map-insert f xs i y = map-append f (take i xs) (y ∷ drop i xs) ∙ (ap (λ l. l ++ f y ∷ map f (drop i xs)) (sym (take-map f i xs)) ∙ ap (λ l. take i (map f xs) ++ f y ∷ l) (sym (drop-map f i xs)))

pub map-remove : {X Y : Type 0} (f : X → Y) (xs : List X) (i : ℕ) → map f (remove xs i) ≡ remove (map f xs) i
map-remove f xs i = map-append f (take i xs) (drop (suc i) xs) ∙ (ap (λ l. l ++ map f (drop (suc i) xs)) (sym (take-map f i xs)) ∙ ap (λ l. take i (map f xs) ++ l) (sym (drop-map f (suc i) xs)))

pub All-remove : {X : Type 0} (P : X → Type 0) (xs : List X) (i : ℕ) (x : X) → i < length xs → x ≡ get_or xs i x → All P xs → All P (remove xs i)
All-remove P xs i x l r h = All-tail P x (remove xs i) (All-permutation P xs (x ∷ remove xs i) (IsPermutation-remove xs i x l r) h)

pub All-insert : {X : Type 0} (P : X → Type 0) (xs : List X) (i : ℕ) (y : X) → P y → All P xs → All P (insert xs i y)
All-insert P xs i y p h = All-permutation P (y ∷ xs) (insert xs i y) (IsPermutation-insert xs i y) (All-cons P y xs p h)

-- where nothing is put, nothing is
nothing_at : {X : Type 0} (xs : List X) (x : ℕ) (d : X) → get_or (set xs x d) x d ≡ d
nothing_at [] x d = refl
nothing_at (y ∷ ys) zero d = refl
nothing_at (y ∷ ys) (suc x) d = nothing_at ys x d

module _ {X A : Type 0} where
  -- what did not come back was there
  pub stays_of : (w w' : BoxWriterView X A) (x slot : ℕ) (s : Stored X A) → w'.stored ≡ set w.stored slot None → stored_at w' x ≡ Some s → stored_at w x ≡ Some s
  stays_of w w' x slot s e h = ⊎_elim
      (λ is. let gone : get_or w'.stored x None ≡ None = ap (λ l. get_or l x None) e ∙ subst (λ (y : ℕ). get_or (set w.stored slot None) y None ≡ None) (sym is) (nothing_at w.stored slot None) in absurd (none-some s (sym gone ∙ h)))
      (λ ne. sym (get_or-set_other w.stored slot x None None ne) ∙ (ap (λ l. get_or l x None) (sym e) ∙ h))
      (cases_eq x slot)

module _ {K V A : Type 0} where
  pub devices_keep : (n : ℕ) (who : ℕ → Option (K × V × ℕ)) (w w' : BoxWriterView (List (Entry K V)) A) (ds es : List (Device K V A)) → all_kept es ≡ all_kept ds
      → ((k : ℕ) (d : Device K V A) → k < length ds → IsDevice n who w (get_or ds k d) → ((get_or es k d).out ≤ n) × ((get_or es k d).out ≡ parts_out (get_or ds k d).number w'))
      → All (IsDevice n who w) ds → All (IsDevice n who w') es
  devices_keep n who w w' ds es e h r k d l =
      let m = kept_length ds es e in
      let lt : k < length ds = omega (arith, m, l) in
      let at = kept_at ds es e k d lt in
      let was = r k d lt in
      let now = h k d lt was in record {
        below = subst (λ (j : ℕ). j < n) (ap (λ z. z.1) (sym at)) was.below;
        few = now.0;
        counted = subst (λ (j : ℕ). (get_or es k d).out ≡ parts_out j w') (ap (λ z. z.1) (sym at)) now.1;
        is = subst (λ (z : K × ℕ × LooseDeed V A). who z.1 ≡ Some (z.0, z.2.deed.value, z.2.deed.round)) (sym at) was.is;
      }

  -- a version came home
  pub home_keeps : (cmp : K → K → Ordering) (w w' : BoxWriterView (List (Entry K V)) A) (here here' leaving leaving' : List (Device K V A)) (n slot : ℕ) (s : Stored (List (Entry K V)) A)
      → IsRegistry cmp w here leaving n → stored_at w slot ≡ Some s → w'.stored ≡ set w.stored slot None → w'.writer.slots ≡ w.writer.slots → w'.writer.version ≡ w.writer.version
      → ComesHome s.value here here' → ComesHome s.value leaving leaving' → IsRegistry cmp w' here' leaving' n
  home_keeps cmp w w' here here' leaving leaving' n slot s r at st sl ve h l =
      let was = r.versions in
      let fewer : (m : ℕ) → parts_out m w' + times_shown m s.value ≡ parts_out m w = λ m. let a = sum_by-set (parts_in m) w.stored slot None None (within w.stored slot s at) in let b = ap (parts_in m) at in let c = ap (sum_by (parts_in m)) st in omega (arith, a, b, c) in
      let home : (ds es : List (Device K V A)) → ComesHome s.value ds es → All (IsDevice n r.who w) ds
      → All (IsDevice n r.who w') es = λ ds es g. devices_keep n r.who w w' ds es g.kept (λ k d lt is. let o = g.out k d lt in let f = fewer (get_or ds k d).number in let few = is.few in let counted = is.counted in (omega (arith, o, few), omega (arith, o, f, counted))) in record {
        few = r.few;
        who = r.who;
        here_are = home here here' h r.here_are;
        leaving_are = home leaving leaving' l r.leaving_are;
        numbered = same_numbered cmp r.who here here' leaving leaving' h.kept l.kept r.numbered;
        versions = record {
          eight = ap length st ∙ (length-set w.stored slot None ∙ was.eight);
          slots = omega (arith, sl, was.slots);
          put = omega (arith, ve, was.put);
          inside = λ x t e. let b = was.inside x t (stays_of w w' x slot t st e) in omega (arith, b, sl);
          below = λ x t e. was.below x t (stays_of w w' x slot t st e);
          own = λ x t e. was.own x t (stays_of w w' x slot t st e);
        };
      }

  -- the same versions are out; more may have been put
  pub versions_keep : (cmp : K → K → Ordering) (w w' : BoxWriterView (List (Entry K V)) A) (here leaving : List (Device K V A)) (n : ℕ)
      → w'.stored ≡ w.stored → w'.writer.slots ≡ w.writer.slots → w.writer.version ≤ w'.writer.version → IsRegistry cmp w here leaving n → IsRegistry cmp w' here leaving n
  versions_keep cmp w w' here leaving n st sl ve r =
      let was = r.versions in
      let before : (x : ℕ) (s : Stored (List (Entry K V)) A) → stored_at w' x ≡ Some s → stored_at w x ≡ Some s = λ x s e. ap (λ l. get_or l x None) (sym st) ∙ e in
      let same : (ds : List (Device K V A)) → All (IsDevice n r.who w) ds
      → All (IsDevice n r.who w') ds = λ ds. devices_keep n r.who w w' ds ds refl (λ k d lt is. let few = is.few in let counted = is.counted in let out = ap (sum_by (parts_in (get_or ds k d).number)) st in (few, omega (arith, counted, out))) in record {
        few = r.few;
        who = r.who;
        here_are = same here r.here_are;
        leaving_are = same leaving r.leaving_are;
        numbered = r.numbered;
        versions = record {
          eight = ap length st ∙ was.eight;
          slots = omega (arith, sl, was.slots);
          put = omega (arith, ve, was.put);
          inside = λ x s e. let b = was.inside x s (before x s e) in omega (arith, b, sl);
          below = λ x s e. was.below x s (before x s e);
          own = λ x s e. was.own x s (before x s e);
        };
      }

  -- parts were lent, and all taken back
  pub lends_keep : (cmp : K → K → Ordering) (w : BoxWriterView (List (Entry K V)) A) (here here' leaving : List (Device K V A)) (n : ℕ) → IsRegistry cmp w here leaving n → Lends 0 here here' → IsRegistry cmp w here' leaving n
  lends_keep cmp w here here' leaving n r h = record {
    few = r.few;
    who = r.who;
    here_are = devices_keep n r.who w w here here' h.kept (λ k d lt is. let o = h.out k d lt in let few = is.few in let counted = is.counted in (omega (arith, o, few), omega (arith, o, counted))) r.here_are;
    leaving_are = r.leaving_are;
    numbered = same_numbered cmp r.who here here' leaving leaving h.kept refl r.numbered;
    versions = r.versions;
  }

  -- a device came back
  pub less_keeps : (cmp : K → K → Ordering) (w : BoxWriterView (List (Entry K V)) A) (here leaving : List (Device K V A)) (n i : ℕ) (d : Device K V A)
      → i < length leaving → d ≡ get_or leaving i d → IsRegistry cmp w here leaving n → IsRegistry cmp w here (remove leaving i) n
  less_keeps cmp w here leaving n i d l e r = record {
    few = r.few;
    who = r.who;
    here_are = r.here_are;
    leaving_are = All-remove (IsDevice n r.who w) leaving i d l e r.leaving_are;
    numbered = record {
      ordered = r.numbered.ordered;
      here_are = r.numbered.here_are;
      leaving_are = All-remove (HasItsNumber r.who) leaving i d l e r.numbered.leaving_are;
      one = λ m. let a = sum_by-remove (λ (x : Device K V A). bit (x.number == m)) leaving i d l in let b = r.numbered.one m in omega (arith, a, b);
    };
    versions = r.versions;
  }

  -- a device of which parts are out is in a version that may be found
  pub found_still : (cmp : K → K → Ordering) (w : BoxWriterView (List (Entry K V)) A) (here leaving : List (Device K V A)) (n slots : ℕ) → IsRegistry cmp w here leaving n → slots ≡ w.writer.slots
      → (2 ^ 54 ≤ w.writer.version) ⊎ ((x : ℕ) → x < slots → IsNotBack w x) → (k : ℕ) (d : Device K V A) → k < length leaving → 0 < (get_or leaving k d).out → MayBeFound w (get_or leaving k d)
  found_still cmp w here leaving n slots r e still k d l some =
      let is = r.leaving_are k d l in
      let counted = is.counted in
      let v = in_version (get_or leaving k d).number w.stored (omega (arith, some, counted)) in
      let p = somewhere (λ (y : Entry K V). y.number) (get_or leaving k d).number v.1.value v.3 in record {
        slot = v.0;
        version = v.1;
        stored = v.2;
        kept = ⊎_elim inl (λ h. inr (⊎_elim (λ gone. absurd (none-some v.1 (sym gone ∙ v.2))) (λ b. b) (h v.0 (let b = r.versions.inside v.0 v.1 v.2 in omega (arith, b, e))))) still;
        place = p.0;
        inside = p.1;
        shows = λ y. let own = r.versions.own v.0 v.1 v.2 p.0 y p.1 in (p.2 y, ap (λ z. (z.0, z.1)) (same_Some _ _ (sym own ∙ (ap r.who (p.2 y) ∙ is.is))));
      }

  -- it is the one that was removed
  pub names_less : (ds es : List (Device K V A)) (i : ℕ) → all_kept es ≡ all_kept ds → names_of (remove es i) ≡ remove (names_of ds) i
  names_less ds es i e = map-remove name_of es i ∙ ap (λ l. remove l i) (same_names ds es e)

  pub names_swap : (ds es : List (Device K V A)) (i : ℕ) (d : Device K V A) → all_kept es ≡ all_kept ds → names_of (swap es i d) ≡ swap (names_of ds) i (name_of d)
  names_swap ds es i d e = map-insert name_of (remove es i) i d ∙ ap (λ l. insert l i (name_of d)) (names_less ds es i e)

  pub name_at : (ds es : List (Device K V A)) (i : ℕ) (n : K × V) → all_kept es ≡ all_kept ds → i < length es → HoldsAt (λ d. n ≡ name_of d) es i → HoldsAt (λ m. n ≡ m) (names_of ds) i
  name_at ds es i n e l h = holds es i l h (same_names ds es e)
    where
      named : (es : List (Device K V A)) (i : ℕ) → i < length es → HoldsAt (λ d. n ≡ name_of d) es i → HoldsAt (λ m. n ≡ m) (names_of es) i
      named [] i l h x = absurd (omega (arith, l))
      named (f ∷ fs) zero l h x = h f
      named (f ∷ fs) (suc i) l h x = named fs i (omega (arith, l)) h x

      holds : (es : List (Device K V A)) (i : ℕ) → i < length es → HoldsAt (λ d. n ≡ name_of d) es i → names_of es ≡ names_of ds → HoldsAt (λ m. n ≡ m) (names_of ds) i
      holds es i l h e = subst (λ (ns : List (K × V)). HoldsAt (λ m. n ≡ m) ns i) e (named es i l h)

module _ {K V A : Type 0} where
  -- what a device that comes back leaves
  abbrev pub TakesWhole : Option (K × V) → List (Device K V A) → List (Device K V A) → Type 0
  TakesWhole o es fs = MatchOption o ((fs ≡ es) × All (λ (d : Device K V A). 0 < d.out) es)
      (λ name. (i : ℕ) × (i < length es) × HoldsAt (λ d. (name ≡ name_of d) × (d.out ≡ 0)) es i × (fs ≡ remove es i))

  pub whole_keeps : (cmp : K → K → Ordering) (w : BoxWriterView (List (Entry K V)) A) (here here' leaving leaving' : List (Device K V A)) (n : ℕ) (o : Option (K × V))
      → IsRegistry cmp w here leaving n → here' ≡ here → TakesWhole o leaving leaving' → IsRegistry cmp w here' leaving' n
  whole_keeps cmp w here here' leaving leaving' n None r e h = rw (e, h.0) r
  whole_keeps cmp w here here' leaving leaving' n (Some name) r e h = let t = there leaving h.0 h.1 in rw (e, h.3) (less_keeps cmp w here leaving n h.0 t.0 h.1 t.1 r)

  pub returns_whole : (cmp : K → K → Ordering) (w : BoxWriterView (List (Entry K V)) A) (here : List (Device K V A)) (n slots : ℕ) (o : Option (K × V)) (ds es fs : List (Device K V A)) → IsRegistry cmp w here es n → slots ≡ w.writer.slots
      → (2 ^ 54 ≤ w.writer.version) ⊎ ((x : ℕ) → x < slots → IsNotBack w x) → all_kept es ≡ all_kept ds → TakesWhole o es fs
      → MatchOption o ((names_of fs ≡ names_of ds) × All (MayBeFound w) fs)
      (λ name. (i : ℕ) × (i < length ds) × HoldsAt (λ d. (name ≡ name_of d) × (parts_out d.number w ≡ 0)) ds i × (names_of fs ≡ remove (names_of ds) i))
  returns_whole cmp w here n slots None ds es fs r same still e h = (ap names_of h.0 ∙ same_names ds es e, rw h.0 (λ k d l. found_still cmp w here es n slots r same still k d l (h.1 k d l)))
  returns_whole cmp w here n slots (Some name) ds es fs r same still e h =
      let m = kept_length ds es e in
      let l : h.0 < length ds = omega (arith, h.1, m) in
      let none : HoldsAt (λ d. (name ≡ name_of d) × (parts_out d.number w ≡ 0)) ds h.0 = λ d.
      let at = kept_at ds es e h.0 d l in
      let was = h.2 d in
      let out : parts_out (get_or es h.0 d).number w ≡ 0 = sym (r.leaving_are h.0 d h.1).counted ∙ was.1 in (was.0 ∙ ap (λ z. (z.0, z.2.deed.value)) at, subst (λ (j : ℕ). parts_out j w ≡ 0) (ap (λ z. z.1) at) out) in
      (h.0, l, none, ap names_of h.3 ∙ names_less ds es h.0 e)

pub cell_here : {J : Type 0} (d : DomainView) (c : CpuView J) (b : BoxesView) → IsOf d c → IsCellIn d b → IsCellOf c.cpu b
cell_here d c b o h = (h.0 ∙ sym o.domain, h.1 ∙ sym o.many)

-- what the last one is: where it was pushed, where there is none, and where it follows
pub last_pushed : {X : Type 0} (P : X → Type 0) (xs ys : List X) (x : X) → ys ≡ xs ++ x ∷ [] → P x → IfSome (last_or None ys) P
last_pushed {X} P xs ys x e p = subst (λ (l : List X). IfSome (last_or None l) P) (sym e) (from None xs)
  where
    from : (o : Option X) (l : List X) → IfSome (last_or o (l ++ x ∷ [])) P
    from o [] = p
    from o (y ∷ l) = from (Some y) l

last_weaker : {X : Type 0} (P Q : X → Type 0) (o : Option X) (xs : List X) → (IfSome o P → IfSome o Q) → ((k : ℕ) (x : X) → k < length xs → P (get_or xs k x) → Q (get_or xs k x)) → IfSome (last_or o xs) P → IfSome (last_or o xs) Q
last_weaker P Q o [] first h last = first last
last_weaker P Q o (x ∷ xs) first h last = last_weaker P Q (Some x) xs (h 0 x (omega arith)) (λ k y l. h (suc k) y (omega (arith, l))) last

front_at : {X : Type 0} (xs : List X) (x : X) → remove (xs ++ x ∷ []) (length xs) ≡ xs
front_at xs x = ap (λ l. l ++ drop (suc (length xs)) (xs ++ x ∷ [])) (take_at xs (x ∷ []) (length xs) refl) ∙ (ap (λ l. xs ++ l) (drop_all (suc (length xs)) (xs ++ x ∷ []) (let n = length_push xs x in omega (arith, n))) ∙ append-nil xs)

module _ {K V A : Type 0} where
  -- what the last device leaves, where it comes back
  abbrev pub TakesLast : Option V → List (Device K V A) → List (Device K V A) → Type 0
  TakesLast o es fs = MatchOption o ((fs ≡ es) × IfSome (last_or None es) (λ d. 0 < d.out)) (λ value. (d : Device K V A) × (es ≡ fs ++ d ∷ []) × (value ≡ d.deed.deed.value))

  pub last_keeps : (cmp : K → K → Ordering) (w : BoxWriterView (List (Entry K V)) A) (here here' leaving leaving' : List (Device K V A)) (n : ℕ) (o : Option V)
      → IsRegistry cmp w here leaving n → here' ≡ here → TakesLast o leaving leaving' → IsRegistry cmp w here' leaving' n
  last_keeps cmp w here here' leaving leaving' n None r e h = rw (e, h.0) r
  last_keeps cmp w here here' leaving leaving' n (Some value) r e h =
      let m = ap length h.1 in
      let k = length_push leaving' h.0 in
      let l : length leaving' < length leaving = omega (arith, m, k) in
      let t = there leaving (length leaving') l in
      let is = ap (λ xs. remove xs (length leaving')) h.1 ∙ front_at leaving' h.0 in
      rw e (subst (λ xs. IsRegistry cmp w here xs n) is (less_keeps cmp w here leaving n (length leaving') t.0 l t.1 r))

  pub returns_last : (cmp : K → K → Ordering) (w : BoxWriterView (List (Entry K V)) A) (here : List (Device K V A)) (n slots : ℕ) (o : Option V) (ds es fs : List (Device K V A)) → IsRegistry cmp w here es n → slots ≡ w.writer.slots
      → (2 ^ 54 ≤ w.writer.version) ⊎ ((x : ℕ) → x < slots → IsNotBack w x) → all_kept es ≡ all_kept ds → TakesLast o es fs
      → MatchOption o ((names_of fs ≡ names_of ds) × IfSome (last_or None fs) (MayBeFound w)) (λ value. (key : K) × (names_of ds ≡ names_of fs ++ (key, value) ∷ []))
  returns_last cmp w here n slots None ds es fs r same still e h =
      (ap names_of h.0 ∙ same_names ds es e, rw h.0 (last_weaker (λ (d : Device K V A). 0 < d.out) (MayBeFound w) None es (λ x. x) (found_still cmp w here es n slots r same still) h.1))
  returns_last cmp w here n slots (Some value) ds es fs r same still e h =
      (h.0.key, sym (same_names ds es e) ∙ (ap names_of h.1 ∙ (map-append name_of fs (h.0 ∷ []) ∙ ap (λ v. names_of fs ++ (h.0.key, v) ∷ []) (sym h.2))))
