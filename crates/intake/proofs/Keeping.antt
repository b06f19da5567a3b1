-- Each step and each split or join keeps the rule of a line.
use Rattle.std.proofs.Common.{◌≡◌, ◌≢◌, ℕ, zero, suc, ◌⊎◌, List, [], ◌∷◌, ◌++◌, Option, Some, None, set, length, inl, inr, ⊎_elim, refl, sym, ap, ◌∙◌, subst, append_assoc, append-nil, length-set, arith}
use mathlib.Core.Option.{some, some-injective, some-ne-none}
use lib.ListN.{get_elem?}
use Rattle.crossbeam_queue.specs.Fifo.{Pushes, Pops, Forks, Learns}
use Rattle.crossbeam_queue.proofs.Lists.{at_set}
use Rattle.intake.specs.declared.view.Role.{Role}
use Rattle.intake.specs.declared.view.Role.TheVariants.{Founder, Pusher, Taker}
use Rattle.intake.specs.declared.view.View.{View}
use Rattle.intake.specs.Rule.{IsBeginning, MayFollow, AreInTurn, Books, HasRole, Fits, Kept, view, founder, pusher_of, taker_of}
use Rattle.intake.specs.Plays.{pushed, taken, emptied}

-- Beginnings

begins_empty : {T : Type 0} (l : List T) → IsBeginning [] l
begins_empty l = record { rest = l; whole = refl }

begins_longer : {T : Type 0} (seen l : List T) (x : T) → IsBeginning seen l → IsBeginning seen (l ++ x ∷ [])
begins_longer seen l x h = record { rest = h.rest ++ x ∷ []; whole = ap (λ z. z ++ x ∷ []) h.whole ∙ append_assoc seen h.rest (x ∷ []) }

-- Keys

-- in a line with this key a value is what the key asks
pub followed : {K T : Type 0} (follows : K → List T → T → Type 0) (key : K) (in_line : Option K) (front : List T) (x : T) → in_line ≡ Some key → MayFollow follows in_line front x → follows key front x
followed follows key in_line front x is may = subst (λ (k : Option _). MayFollow follows k front x) is may

-- Turns

module _ {K T : Type 0} (follows : K → List T → T → Type 0) (key : Option K) where
  turn_added : (front l : List T) (x : T) → AreInTurn follows key front l → MayFollow follows key (front ++ l) x → AreInTurn follows key front (l ++ x ∷ [])
  turn_added front [] x h f = (subst (λ z. MayFollow follows key z x) (append-nil front) f, tt)
  turn_added front (y ∷ ys) x h f = (h.0, turn_added (front ++ y ∷ []) ys x h.1 (subst (λ z. MayFollow follows key z x) (sym (append_assoc front (y ∷ []) ys)) f))

  turn_of : (front l rest : List T) (x : T) → AreInTurn follows key front (l ++ x ∷ rest) → MayFollow follows key (front ++ l) x
  turn_of front [] rest x h = subst (λ z. MayFollow follows key z x) (sym (append-nil front)) h.0
  turn_of front (y ∷ ys) rest x h = subst (λ z. MayFollow follows key z x) (append_assoc front (y ∷ []) ys) (turn_of (front ++ y ∷ []) ys rest x h.1)

-- Views in a list

module _ {K T : Type 0} (P : ℕ → View T K → Type 0) where
  at_snoc : (l : List (View T K)) (a b : View T K) (j : ℕ) → get_elem? (l ++ a ∷ []) j ≡ some b → ((j ≢ length l) × (get_elem? l j ≡ some b)) ⊎ ((j ≡ length l) × (a ≡ b))
  at_snoc [] a b zero e = inr (refl, some-injective a b e)
  at_snoc [] a b (suc j) e = absurd (some-ne-none b (sym e))
  at_snoc (x ∷ xs) a b zero e = inl ((λ h. omega arith), e)
  at_snoc (x ∷ xs) a b (suc j) e = ⊎_elim (λ t. let n = t.0 in inl ((λ h. n (omega arith)), t.1)) (λ t. inr (ap suc t.0, t.1)) (at_snoc xs a b j e)

  views_set : (vs : List (View T K)) (me : ℕ) (w : View T K) → P me w → ((j : ℕ) (d : View T K) → j ≢ me → get_elem? vs j ≡ some d → P j d) → (j : ℕ) (d : View T K) → get_elem? (set vs me w) j ≡ some d → P j d
  views_set vs me w mine others j d e = ⊎_elim
      (λ (t : (j ≡ me) × (w ≡ d)). subst (λ (x : ℕ × View T K). P x.0 x.1) (λ i. (sym t.0 i, t.1 i)) mine)
      (λ (t : (j ≢ me) × (get_elem? vs j ≡ some d)). others j d t.0 t.1)
      (at_set vs me j w d e)

  views_split : (vs : List (View T K)) (id : ℕ) (left right : View T K) → P id left → P (length vs) right → ((j : ℕ) (d : View T K) → j ≢ id → get_elem? vs j ≡ some d → P j d)
      → (j : ℕ) (d : View T K) → get_elem? (set vs id left ++ right ∷ []) j ≡ some d → P j d
  views_split vs id left right a b others j d e = ⊎_elim
      (λ (t : (j ≢ length (set vs id left)) × (get_elem? (set vs id left) j ≡ some d)). views_set vs id left a others j d t.1)
      (λ (t : (j ≡ length (set vs id left)) × (right ≡ d)). subst (λ (x : ℕ × View T K). P x.0 x.1) (λ i. (sym (t.0 ∙ length-set vs id left) i, t.1 i)) b)
      (at_snoc (set vs id left) right d j e)

-- The rule

module _ {K T : Type 0} (follows : K → List T → T → Type 0) where
  pub begins : Kept follows [] (founder ∷ [])
  begins = record {
    books = record { key = None; pushed = []; taken = []; pusher = 0; taker = 0 };
    rest = refl;
    in_turn = tt;
    each_view = one;
  }
    where
      books : Books K T
      books = record { key = None; pushed = []; taken = []; pusher = 0; taker = 0 }

      one : (id : ℕ) (v : View T K) → get_elem? (founder ∷ []) id ≡ some v → Fits books id v
      one zero v e = subst (Fits books 0) (some-injective founder v e) (record { seen = begins_empty []; role = (refl, refl, refl) })
      one (suc id) v e = absurd (some-ne-none v (sym e))

  -- Steps

  others_pushed : (b : Books K T) (x : T) (id : ℕ) (v : View T K) → id ≢ b.pusher → Fits b id v → Fits (record b { pushed = b.pushed ++ x ∷ [] }) id v
  others_pushed b x id v other h = record { seen = begins_longer v.seen b.pushed x h.seen; role = roles v.role h.role }
    where
      roles : (role : Role K) → HasRole b id v.seen role → HasRole (record b { pushed = b.pushed ++ x ∷ [] }) id v.seen role
      roles Founder r = absurd (other (sym r.0))
      roles (Pusher key) r = absurd (other (sym r.0))
      roles (Taker key) r = r

  pub pushes : (key : Option K) (n port : ℕ) (v : View T K) (x : T) → v.role ≡ Pusher key → MayFollow follows key v.seen x → Pushes (Kept follows) n port v x (pushed v x)
  pushes key n port v x role may items views _ h at =
      let b : Books K T = h.books in
      let mine : Fits b port v = h.each_view port v at in
      let is : HasRole b port v.seen (Pusher key) = subst (HasRole b port v.seen) role mine.role in
      let c : Books K T = record b { pushed = b.pushed ++ x ∷ [] } in
      let w : View T K = view v.role (v.seen ++ x ∷ []) in
      let longer : v.seen ++ x ∷ [] ≡ c.pushed = ap (λ z. z ++ x ∷ []) is.2 in
      let own : Fits c port w = record {
        seen = record { rest = []; whole = sym longer ∙ sym (append-nil (v.seen ++ x ∷ [])) };
        role = subst (HasRole c port w.seen) (sym role) (is.0, is.1, longer);
      } in (
        w,
        record {
          books = c;
          rest = ap (λ z. z ++ x ∷ []) h.rest ∙ append_assoc b.taken items (x ∷ []);
          in_turn = turn_added follows b.key [] b.pushed x h.in_turn (subst (λ (z : Option K × List T). MayFollow follows z.0 z.1 x) (λ i. (is.1 i, is.2 i)) may);
          each_view = views_set (Fits c) views port w own (λ j d n e. others_pushed b x j d (λ z. n (z ∙ is.0)) (h.each_view j d e));
        },
        refl,
      )

  others_taken : (b : Books K T) (x : T) (id : ℕ) (v : View T K) → id ≢ b.taker → Fits b id v → Fits (record b { taken = b.taken ++ x ∷ [] }) id v
  others_taken b x id v other h = record { seen = h.seen; role = roles v.role h.role }
    where
      roles : (role : Role K) → HasRole b id v.seen role → HasRole (record b { taken = b.taken ++ x ∷ [] }) id v.seen role
      roles Founder r = absurd (other (sym r.1))
      roles (Pusher key) r = r
      roles (Taker key) r = absurd (other (sym r.0))

  pub takes : (key : Option K) (port : ℕ) (v : View T K) → v.role ≡ Taker key → Pops (Kept follows) port v (taken follows v)
  takes key port v role x items views h at =
      let b : Books K T = h.books in
      let mine : Fits b port v = h.each_view port v at in
      let is : HasRole b port v.seen (Taker key) = subst (HasRole b port v.seen) role mine.role in
      let c : Books K T = record b { taken = b.taken ++ x ∷ [] } in
      let w : View T K = view v.role (v.seen ++ x ∷ []) in
      let longer : v.seen ++ x ∷ [] ≡ c.taken = ap (λ z. z ++ x ∷ []) is.2 in
      let rest : b.pushed ≡ c.taken ++ items = h.rest ∙ sym (append_assoc b.taken (x ∷ []) items) in
      let there : MayFollow follows b.key b.taken x = turn_of follows b.key [] b.taken items x (subst (AreInTurn follows b.key []) h.rest h.in_turn) in
      let own : Fits c port w = record {
        seen = record { rest = items; whole = rest ∙ ap (λ z. z ++ items) (sym longer) };
        role = subst (HasRole c port w.seen) (sym role) (is.0, is.1, longer);
      } in (
        w,
        record {
          books = c;
          rest = rest;
          in_turn = h.in_turn;
          each_view = views_set (Fits c) views port w own (λ j d n e. others_taken b x j d (λ z. n (z ∙ is.0)) (h.each_view j d e));
        },
        (refl, λ other e. subst (λ (z : Option K × List T). MayFollow follows z.0 z.1 x) (λ i. (sym (same other e) i, sym is.2 i)) there),
      )
    where
      same : (other : Option K) → v.role ≡ Taker other → other ≡ h.books.key
      same other e = (subst (HasRole h.books port v.seen) e (h.each_view port v at).role).1

  -- Splits and joins

  others_parted : (b c : Books K T) (port j : ℕ) (seen : List T) → b.pusher ≡ port → b.taker ≡ port → j ≢ port → (role : Role K) → HasRole b j seen role → HasRole c j seen role
  others_parted b c port j seen p t n Founder r = absurd (n (sym r.0 ∙ p))
  others_parted b c port j seen p t n (Pusher key) r = absurd (n (sym r.0 ∙ p))
  others_parted b c port j seen p t n (Taker key) r = absurd (n (sym r.0 ∙ t))

  pub parts : (key : Option K) (port : ℕ) (v : View T K) → v ≡ founder → Forks (Kept follows) port v (pusher_of key) (taker_of key)
  parts key port v is items views h at =
      let b : Books K T = h.books in
      let mine : Fits b port founder = subst (Fits b port) is (h.each_view port v at) in
      let c : Books K T = record { key = key; pushed = b.pushed; taken = b.taken; pusher = port; taker = length views } in
      let none : b.pushed ≡ [] = mine.role.2 in
      let gone : b.taken ≡ [] = front_empty b.taken items (sym h.rest ∙ none) in record {
        books = c;
        rest = h.rest;
        in_turn = subst (AreInTurn follows key []) (sym none) tt;
        each_view = views_split (Fits c) views port (pusher_of key) (taker_of key)
            (record { seen = begins_empty b.pushed; role = (refl, refl, sym none) })
            (record { seen = begins_empty b.pushed; role = (refl, refl, sym gone) })
            (λ j d n e. let f = h.each_view j d e in record { seen = f.seen; role = others_parted b c port j d.seen mine.role.0 mine.role.1 n d.role f.role });
      }
    where
      front_empty : (xs ys : List T) → xs ++ ys ≡ [] → xs ≡ []
      front_empty [] ys e = refl
      front_empty (x ∷ xs) ys e = cc

  -- Lessons

  pub empties : (port : ℕ) (v : View T K) → Learns (Kept follows) port v (emptied v)
  empties port v items views h at = tt
