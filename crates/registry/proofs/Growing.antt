-- A registry gets a device, and a version is put.
use Rattle.std.proofs.Common.{◌≡◌, ◌==◌, ℕ, ◌+◌, ◌^◌, ◌<◌, ◌≤◌, [], ◌∷◌, ◌++◌, Option, Some, None, List, length, get_or, set, cond, ltb, All, refl, sym, ap, ◌∙◌, subst, arith, ⊎_elim}
use Rattle.std.specs.List.{AllWithin, insert, remove, sum_by}
use Rattle.std.specs.Cmp.{IsTotalOrder}
use Rattle.std.specs.declared.cmp.Ordering.{Ordering}
use Rattle.std.specs.declared.cmp.Ordering.TheVariants.{Less, Greater}
use Rattle.std.proofs.lemmas.Bool.{cases_eq, cases_lt, lt-ltb, le-ltb}
use Rattle.std.proofs.lemmas.List.{get_or-set_same, get_or-set_other, length-set, set_past}
use Rattle.std.proofs.lemmas.List.Edits.{length-remove}
use Rattle.std.proofs.lemmas.List.Elements.{All-append, All-cons}
use Rattle.std.proofs.lemmas.List.Sums.{sum_by-insert, sum_by-remove, sum_by-set, sum_by_push}
use Rattle.boxes.specs.Boxes.{BoxWriterView, Stored, stored_at}
use Rattle.registry.specs.declared.index.Entry.{Entry}
use Rattle.registry.specs.declared.device.Device.{Device}
use Rattle.registry.specs.Names.{HasItsNumber, Lends, ShowsItsOwn, swap, times_here, times_shown}
use Rattle.registry.specs.Registry.{AreParts, IsDevice, IsRegistry, parts_in, parts_out}
use Rattle.registry.proofs.Counts.{at_one, bit, is_none, is_one, none_in, nowhere}
use Rattle.registry.proofs.Parts.{same_numbered, there}
use Rattle.registry.proofs.Versions.{parts_times}
use Rattle.registry.proofs.Keeping.{All-insert, All-remove, devices_keep}
use Rattle.registry.proofs.Inserting.{order_insert, order_remove, round_of}

-- what was put there, or what was there
pub put_at : {X : Type 0} (xs : List (Option X)) (slot x : ℕ) (s t : X) (P : X → Type 0) → P s → ((t : X) → get_or xs x None ≡ Some t → P t) → get_or (set xs slot (Some s)) x None ≡ Some t → P t
put_at xs slot x s t P p h e = ⊎_elim
    (λ is. ⊎_elim
    (λ l. let at : get_or (set xs slot (Some s)) x None ≡ Some s = subst (λ (y : ℕ). get_or (set xs slot (Some s)) y None ≡ Some s) (sym is) (get_or-set_same xs slot (Some s) None l) in
    let same : s ≡ t = cc in subst P same p)
    (λ g. h t (ap (λ l. get_or l x None) (sym (set_past xs slot (Some s) g)) ∙ e))
    (cases_lt slot (length xs)))
    (λ ne. h t (sym (get_or-set_other xs slot x (Some s) None ne) ∙ e))
    (cases_eq x slot)

inside_at : {X : Type 0} (xs : List (Option X)) (slot x : ℕ) (s t : X) (n : ℕ) → slot < n → (get_or xs x None ≡ Some t → x < n) → get_or (set xs slot (Some s)) x None ≡ Some t → x < n
inside_at xs slot x s t n l h e = ⊎_elim
    (λ is. omega (arith, is, l))
    (λ ne. h (sym (get_or-set_other xs slot x (Some s) None ne) ∙ e))
    (cases_eq x slot)

module _ {K V A : Type 0} where
  parts_below : (es : List (Entry K V)) (ds : List (Device K V A)) (m : ℕ) → AreParts es ds → All (λ (d : Device K V A). d.number < m) ds → All (λ (e : Entry K V). e.number < m) es
  parts_below es ds m p h k e l =
      let lt : k < length ds = omega (arith, p.many, l) in
      let t = there ds k lt in subst (λ (j : ℕ). j < m) (sym (p.each k e t.0 l).number) (h k t.0 lt)

  parts_own : (who : ℕ → Option (K × V × ℕ)) (es : List (Entry K V)) (ds : List (Device K V A)) → AreParts es ds → All (HasItsNumber who) ds → All (ShowsItsOwn who) es
  parts_own who es ds p h k e l =
      let lt : k < length ds = omega (arith, p.many, l) in
      let t = there ds k lt in
      let is = p.each k e t.0 l in ap who is.number ∙ (h k t.0 lt ∙ ap Some (λ i. (sym is.key i, sym is.value i, sym is.round i)))

  -- a version of all that is here was put
  pub put_keeps : (cmp : K → K → Ordering) (w w' : BoxWriterView (List (Entry K V)) A) (ds es leaving leaving' : List (Device K V A)) (n m slot : ℕ) (s : Stored (List (Entry K V)) A)
      → IsRegistry cmp w ds leaving m → All (λ (d : Device K V A). d.out ≤ n) ds → n + 1 ≤ m → leaving' ≡ leaving → Lends 1 ds es → AreParts s.value ds → stored_at w slot ≡ None → slot < w.writer.slots
      → w'.stored ≡ set w.stored slot (Some s) → w'.writer.slots ≡ w.writer.slots → w.writer.version ≤ w'.writer.version → IsRegistry cmp w' es leaving' m
  put_keeps cmp w w' ds es leaving leaving' n m slot s r o le same l p blank inside st sl ve =
      let was = r.versions in
      let room : slot < length w.stored = omega (arith, inside, was.slots, was.eight) in
      let more : (j : ℕ) → parts_out j w' ≡ parts_out j w + times_shown j s.value = λ j. let a = sum_by-set (parts_in j) w.stored slot (Some s) None room in let b = ap (parts_in j) blank in let c = ap (sum_by (parts_in j)) st in omega (arith, a, b, c) in
      let at : (x : ℕ) (t : Stored (List (Entry K V)) A) → stored_at w' x ≡ Some t → get_or (set w.stored slot (Some s)) x None ≡ Some t = λ x t h. ap (λ l. get_or l x None) (sym st) ∙ h in
      rw same (record {
        few = r.few;
        who = r.who;
        here_are = devices_keep m r.who w w' ds es l.kept (λ k d lt is.
            let now = l.out k d lt in
            let old = o k d lt in
            let counted = is.counted in
            let f = more (get_or ds k d).number in
            let shown = parts_times (get_or ds k d).number s.value ds p in
            let own = at_one (λ (x : Device K V A). x.number) (get_or ds k d).number ds k d lt refl in
            let one = r.numbered.one (get_or ds k d).number in (omega (arith, now, old, le), omega (arith, now, counted, f, shown, own, one))) r.here_are;
        leaving_are = devices_keep m r.who w w' leaving leaving refl (λ k d lt is.
            let few = is.few in
            let counted = is.counted in
            let f = more (get_or leaving k d).number in
            let shown = parts_times (get_or leaving k d).number s.value ds p in
            let own = at_one (λ (x : Device K V A). x.number) (get_or leaving k d).number leaving k d lt refl in
            let one = r.numbered.one (get_or leaving k d).number in (few, omega (arith, counted, f, shown, own, one))) r.leaving_are;
        numbered = same_numbered cmp r.who ds es leaving leaving l.kept refl r.numbered;
        versions = record {
          eight = ap length st ∙ (length-set w.stored slot (Some s) ∙ was.eight);
          slots = omega (arith, sl, was.slots);
          put = omega (arith, ve, was.put);
          inside = λ x t h. subst (λ (j : ℕ). x < j) (sym sl) (inside_at w.stored slot x s t w.writer.slots inside (λ e. was.inside x t e) (at x t h));
          below = λ x t h. put_at w.stored slot x s t (λ u. All (λ (e : Entry K V). e.number < m) u.value) (parts_below s.value ds m p (λ k d b. (r.here_are k d b).below)) (λ u f. was.below x u f) (at x t h);
          own = λ x t h. put_at w.stored slot x s t (λ u. All (ShowsItsOwn r.who) u.value) (parts_own r.who s.value ds p r.numbered.here_are) (λ u f. was.own x u f) (at x t h);
        };
      })

  -- one version more was counted
  pub counted_on : (cmp : K → K → Ordering) (w : BoxWriterView (List (Entry K V)) A) (here leaving : List (Device K V A)) (n : ℕ) → IsRegistry cmp w here leaving n → n < 2 ^ 54 → n + 1 ≤ w.writer.version → IsRegistry cmp w here leaving (n + 1)
  counted_on cmp w here leaving n r lt v =
      let more : (d : Device K V A) → IsDevice n r.who w d → IsDevice (n + 1) r.who w d = λ d is. record { below = omega (arith, is.below); few = omega (arith, is.few); counted = is.counted; is = is.is } in record {
        few = omega (arith, lt);
        who = r.who;
        here_are = λ k d l. more (get_or here k d) (r.here_are k d l);
        leaving_are = λ k d l. more (get_or leaving k d) (r.leaving_are k d l);
        numbered = r.numbered;
        versions = record {
          eight = r.versions.eight;
          slots = r.versions.slots;
          put = v;
          inside = r.versions.inside;
          below = λ x s e k y l. let b = r.versions.below x s e k y l in omega (arith, b);
          own = r.versions.own;
        };
      }

  -- a device with the next number was put in
  pub insert_keeps : {cmp : K → K → Ordering} (o : IsTotalOrder cmp) (w : BoxWriterView (List (Entry K V)) A) (here leaving : List (Device K V A)) (n i : ℕ) (d : Device K V A) (key : K)
      → IsRegistry cmp w here leaving n → n < 2 ^ 54 → n + 1 ≤ w.writer.version → d.key ≡ key → d.number ≡ n → d.out ≡ 0 → i ≤ length here
      → AllWithin (λ (x : Device K V A). cmp x.key key ≡ Less) here 0 i → AllWithin (λ (x : Device K V A). cmp x.key key ≡ Greater) here i (length here)
      → IsRegistry cmp w (insert here i d) leaving (n + 1)
  insert_keeps {cmp} o w here leaving n i d key r lt v ke nu ou le low high =
      let own : Option (K × V × ℕ) = Some (d.key, d.deed.deed.value, d.deed.deed.round) in
      let who : ℕ → Option (K × V × ℕ) = λ m. cond (ltb m n) (r.who m) own in
      let old : (m : ℕ) → m < n → who m ≡ r.who m = λ m l. ap (λ b. cond b (r.who m) own) (lt-ltb m n l) in
      let new : who d.number ≡ own = ap (λ b. cond b (r.who d.number) own) (le-ltb d.number n (omega (arith, nu))) in
      let more : (x : Device K V A) → IsDevice n r.who w x → IsDevice (n + 1) who w x = λ x is. record { below = omega (arith, is.below); few = omega (arith, is.few); counted = is.counted; is = old x.number is.below ∙ is.is } in
      let unshown = none_in d.number w.stored (λ x s e k y l. let b = r.versions.below x s e k y l in omega (arith, b, nu)) in
      let this : IsDevice (n + 1) who w d = record { below = omega (arith, nu); few = omega (arith, ou); counted = omega (arith, ou, unshown); is = new } in
      let here_are : All (IsDevice (n + 1) who w) here = λ k x l. more (get_or here k x) (r.here_are k x l) in
      let leaving_are : All (IsDevice (n + 1) who w) leaving = λ k x l. more (get_or leaving k x) (r.leaving_are k x l) in
      let fresh : (ds : List (Device K V A)) → All (IsDevice n r.who w) ds → times_here n ds ≡ 0 = λ ds h. nowhere (λ (x : Device K V A). x.number) n ds (λ k x l e. let b = (h k x l).below in omega (arith, b, e)) in record {
        few = omega (arith, lt);
        who = who;
        here_are = All-insert (IsDevice (n + 1) who w) here i d this here_are;
        leaving_are = leaving_are;
        numbered = record {
          ordered = order_insert o here i d key ke le r.numbered.ordered low high;
          here_are = All-insert (HasItsNumber who) here i d new (λ k x l. (here_are k x l).is);
          leaving_are = λ k x l. (leaving_are k x l).is;
          one = λ m. let a = sum_by-insert (λ (x : Device K V A). bit (x.number == m)) here i d in ⊎_elim
              (λ is. let b = is_one (λ (x : Device K V A). x.number) m d (nu ∙ sym is) in let c = subst (λ (j : ℕ). times_here j here ≡ 0) (sym is) (fresh here r.here_are) in let e = subst (λ (j : ℕ). times_here j leaving ≡ 0) (sym is) (fresh leaving r.leaving_are) in omega (arith, a, b, c, e))
              (λ ne. let b = is_none (λ (x : Device K V A). x.number) m d (λ e. ne (sym e ∙ nu)) in let c = r.numbered.one m in omega (arith, a, b, c))
              (cases_eq m n);
        };
        versions = record {
          eight = r.versions.eight;
          slots = r.versions.slots;
          put = v;
          inside = r.versions.inside;
          below = λ x s e k y l. let b = r.versions.below x s e k y l in omega (arith, b);
          own = λ x s e k y l. old _ (r.versions.below x s e k y l) ∙ r.versions.own x s e k y l;
        };
      }

  -- a device was taken out, and leaves
  pub remove_keeps : (cmp : K → K → Ordering) (w : BoxWriterView (List (Entry K V)) A) (here leaving : List (Device K V A)) (n i : ℕ) (d : Device K V A)
      → IsRegistry cmp w here leaving n → i < length here → d ≡ get_or here i d → IsRegistry cmp w (remove here i) (leaving ++ d ∷ []) n
  remove_keeps cmp w here leaving n i d r l e =
      let ns = r.numbered in
      let one : (P : Device K V A → Type 0) → All P here → All P (d ∷ []) = λ P h. All-cons P d [] (subst P (sym e) (h i d l)) (λ k x b. absurd (omega (arith, b))) in record {
        few = r.few;
        who = r.who;
        here_are = All-remove (IsDevice n r.who w) here i d l e r.here_are;
        leaving_are = All-append (IsDevice n r.who w) leaving (d ∷ []) r.leaving_are (one (IsDevice n r.who w) r.here_are);
        numbered = record {
          ordered = order_remove cmp here i l ns.ordered;
          here_are = All-remove (HasItsNumber r.who) here i d l e ns.here_are;
          leaving_are = All-append (HasItsNumber r.who) leaving (d ∷ []) ns.leaving_are (one (HasItsNumber r.who) ns.here_are);
          one = λ m.
              let f : Device K V A → ℕ = λ x. bit (x.number == m) in
              let a = sum_by-remove f here i d l in
              let b = sum_by_push f leaving d in
              let same = ap f e in
              let was = ns.one m in omega (arith, a, b, same, was);
        };
        versions = r.versions;
      }

  -- a device leaves, and one with its key and the next number stands at its place
  pub swap_keeps : {cmp : K → K → Ordering} (o : IsTotalOrder cmp) (w : BoxWriterView (List (Entry K V)) A) (here leaving : List (Device K V A)) (n i : ℕ) (d e : Device K V A)
      → IsRegistry cmp w here leaving n → n < 2 ^ 54 → n + 1 ≤ w.writer.version → i < length here → d ≡ get_or here i d → e.key ≡ d.key → e.number ≡ n → e.out ≡ 0
      → IsRegistry cmp w (swap here i e) (leaving ++ d ∷ []) (n + 1)
  swap_keeps {cmp} o w here leaving n i d e r few v lt is ke nu ou =
      let m = length-remove here i lt in
      let round = round_of o here i d lt is r.numbered.ordered in insert_keeps o w (remove here i) (leaving ++ d ∷ []) n i e d.key (remove_keeps cmp w here leaving n i d r lt is) few v ke nu ou (omega (arith, m, lt)) round.0 round.1
