-- How seats come to a desk and leave it.
use Rattle.std.proofs.Common.{◌≡◌, ◌≢◌, ℕ, zero, suc, ◌+◌, ◌-◌, ◌<◌, List, [], ◌∷◌, ◌++◌, All, Option, None, get_or, map, set, length, replicate, ⊎_elim, refl, sym, ap, ◌∙◌, subst, arith, length-set}
use Rattle.std.proofs.lemmas.List.Elements.{All-nil, All-cons}
use mathlib.Core.Option.{none, some, some-injective, some-ne-none}
use lib.ListN.{get_elem?}
use lib.Seq.{set-get_or}
use Rattle.atomic_table.specs.Seated.{TableId}
use Rattle.atomic_table.specs.Table.{State, gives, takes, Allows, Enters, Splits, Joins, opening}
use Rattle.atomic_table.proofs.Lists.{at_set, set_here, set_else}
use Rattle.desk.specs.Glossary.{Account, Swap, Role, Books, Has, Is, Stands, Fits, without_next, next, dealer, dealt, number_of, with_account, gathering, spent, new_seat, as_seat, picked_up, laid_down, gathered}
use Rattle.desk.specs.declared.view.Plan.{Plan}
use Rattle.desk.specs.declared.view.Role.TheVariants.{Dealer, Waits, Sits, Gathers}
use Rattle.desk.specs.declared.view.View.{View}
use Rattle.desk.specs.Rule.{Kept, founder}
use Rattle.desk.specs.Plays.{Sat}
use Rattle.desk.proofs.Turns.{beginning_empty}
use Rattle.desk.proofs.Keeping.{views_set, views_new, given, given_here, given_else, Keeps, stands_as, fits_as, role_as}

length_vacant : (T : Type 0) (n : ℕ) → length (map (λ (y : Option T). some y) (replicate n None)) ≡ n
length_vacant T zero = refl
length_vacant T (suc n) = ap suc (length_vacant T n)

vacant : {T : Type 0} (n k : ℕ) → k < n → get_elem? (map (λ (y : Option T). some y) (replicate n None)) k ≡ some (some None)
vacant zero k lt = absurd (omega arith)
vacant (suc n) zero lt = refl
vacant (suc n) (suc k) lt = vacant n k (omega arith)

module _ {T : Type 0} (domain : T → TableId) (plan : Plan) where
  -- In the beginning

  first_view : (j : ℕ) (v : View T) → get_elem? (founder plan ∷ []) j ≡ some v
      → Fits plan record { homes = map some (replicate (plan.seats + 1) None); swaps = []; seat_of = λ _. 0; slot_of = λ n. n + 1 } j v
  first_view zero v e = subst (λ (z : View T). Fits plan record { homes = map some (replicate (plan.seats + 1) None); swaps = []; seat_of = λ _. 0; slot_of = λ n. n + 1 } 0 z) (some-injective (founder plan) v e)
      ((refl, refl), λ n _ lt. (record { there = lt; here = refl; since = beginning_empty []; own = refl }, refl, vacant (plan.seats + 1) (n + 1) (omega (arith, lt))))
  first_view (suc j) v e = absurd (some-ne-none v (sym e))

  pub opens : (words : List ℕ) (slots : ℕ) → words ≡ 0 ∷ [] → slots ≡ plan.seats + 1 → Kept domain plan (opening words (replicate slots None) (founder plan))
  opens words slots w is = subst (λ (z : List ℕ × ℕ). Kept domain plan (opening z.0 (replicate z.1 None) (founder plan))) (λ i. (sym w i, sym is i)) record {
    swaps = [];
    seat_of = λ _. 0;
    slot_of = λ n. n + 1;
    owner = λ i. i - 1;
    one = refl;
    room = length_vacant T (plan.seats + 1);
    in_turn = tt;
    makers = All-nil (λ (x : Swap T). x.by < plan.seats);
    of_domain = tt;
    lies = vacant (plan.seats + 1) 0 (omega arith);
    spread = record { slots = λ n lt. (omega arith, (λ e. absurd (omega arith)), omega arith); owners = λ i le ne. (omega arith, omega arith) };
    each_view = first_view;
  }

  -- New seats

  -- the same words and swaps, and other views
  reviewed : (s : State (Option T) (View T)) (r : Kept domain plan s) (views : List (View T)) (seat_of : ℕ → ℕ)
      → ((j : ℕ) (v : View T) → get_elem? views j ≡ some v → Fits plan record { homes = s.homes; swaps = r.swaps; seat_of = seat_of; slot_of = r.slot_of } j v)
      → Kept domain plan record { words = s.words; homes = s.homes; views = views }
  reviewed s r views seat_of each = record {
    swaps = r.swaps;
    seat_of = seat_of;
    slot_of = r.slot_of;
    owner = r.owner;
    one = r.one;
    room = r.room;
    in_turn = r.in_turn;
    makers = r.makers;
    of_domain = r.of_domain;
    lies = r.lies;
    spread = r.spread;
    each_view = each;
  }

  -- a number of a seat is another seat's now
  reseated : (b : Books T) (k m from j : ℕ) → b.seat_of k ≡ from → j ≢ from → Keeps plan b record b { seat_of = given k m b.seat_of } j
  reseated b k m from j was ne = record {
    is = λ n z g. record { there = g.there; here = given_else k m b.seat_of n (λ e. ne (sym g.here ∙ (ap b.seat_of e ∙ was))) ∙ g.here; since = g.since; own = g.own };
    slot = λ n z g. refl;
    home = λ n z g h. h;
  }

  pub deals : (id : ℕ) (v : View T) (k : ℕ) → v.role ≡ Dealer k → k < plan.seats → Splits (Kept domain plan) id v (dealer v) (dealt v)
  deals id v k is lt s r at =
      let m : ℕ = length s.views in
      let b : Books T = record { homes = s.homes; swaps = r.swaps; seat_of = r.seat_of; slot_of = r.slot_of } in
      let b' : Books T = record { homes = s.homes; swaps = r.swaps; seat_of = given k m r.seat_of; slot_of = r.slot_of } in
      let f = role_as plan b id v (Dealer k) is (r.each_view id v at) in
      let mine = f.1 k (omega arith) lt in
      let left : Fits plan b' id (dealer v) = subst (λ (z : Role T). Stands plan b' id (dealer v) (without_next z)) (sym is)
      (f.0, λ n le few. let g = f.1 n (omega (arith, le)) few in (record { there = few; here = given_else k m r.seat_of n (λ e. absurd (omega (arith, le, e))) ∙ g.0.here; since = g.0.since; own = g.0.own }, g.1, g.2)) in
      let right : Fits plan b' m (dealt v) = subst (λ (z : Role T). Stands plan b' m (dealt v) (next z)) (sym is)
      (f.0, record { there = lt; here = given_here k m r.seat_of; since = mine.0.since; own = mine.0.own }, mine.1, mine.2) in
      reviewed s r (set s.views id (dealer v) ++ dealt v ∷ []) (given k m r.seat_of)
      (views_new (Fits plan b') (set s.views id (dealer v)) (dealt v) (subst (λ z. Fits plan b' z (dealt v)) (sym (length-set s.views id (dealer v))) right)
      (λ j z _ e. views_set (Fits plan b') s.views id (dealer v) left (λ i u ne e'. fits_as plan b b' i (reseated b k m id i mine.0.here ne) u (r.each_view i u e')) j z e))

  pub gathers : (slots : ℕ) → Enters (Kept domain plan) slots 0 (λ n w. gathered (founder plan, []) n (w, []))
  gathers slots s r few low = let b : Books T = record { homes = s.homes; swaps = r.swaps; seat_of = r.seat_of; slot_of = r.slot_of } in let w : View T = record (founder plan) { role = Gathers [] } in (
    w,
    reviewed s r (s.views ++ w ∷ []) r.seat_of (views_new (Fits plan b) s.views w (All-nil (λ (a : Account T). Is plan b (length s.views) a.by a.seen × Has b (b.slot_of a.by) None)) (λ j v _ e. r.each_view j v e)),
    refl,
  )

  -- Slots that are taken and laid down

  -- one slot that isn't the desk's changes
  module _ (s : State (Option T) (View T)) (r : Kept domain plan s) (id number : ℕ) (seen : List (Swap T)) (x : mathlib.Core.Option.Option (Option T)) where
    abbrev before : Books T
    before = record { homes = s.homes; swaps = r.swaps; seat_of = r.seat_of; slot_of = r.slot_of }

    abbrev behind : Books T
    behind = record { homes = set s.homes (r.slot_of number) x; swaps = r.swaps; seat_of = r.seat_of; slot_of = r.slot_of }

    others_keep : Is plan before id number seen → (j : ℕ) → j ≢ id → Keeps plan before behind j
    others_keep mine j ne = record {
      is = λ n z g. record { there = g.there; here = g.here; since = g.since; own = g.own };
      slot = λ n z g. refl;
      home = λ n z g h. let q = r.spread.slots n g.there in let p = r.spread.slots number mine.there in
          set_else s.homes (r.slot_of number) (r.slot_of n) x (λ e. ne (sym g.here ∙ (ap r.seat_of (sym q.2 ∙ (ap r.owner e ∙ p.2)) ∙ mine.here))) ∙ h;
    }

    handled : Is plan before id number seen → (w : View T) → Fits plan behind id w
        → Kept domain plan record { words = set s.words 0 (get_or s.words 0 0); homes = set s.homes (r.slot_of number) x; views = set s.views id w }
    handled mine w fits = subst (λ (ws : List ℕ). Kept domain plan record { words = ws; homes = set s.homes (r.slot_of number) x; views = set s.views id w }) (sym (set-get_or s.words 0 0)) record {
      swaps = r.swaps;
      seat_of = r.seat_of;
      slot_of = r.slot_of;
      owner = r.owner;
      one = r.one;
      room = length-set s.homes (r.slot_of number) x ∙ r.room;
      in_turn = r.in_turn;
      makers = r.makers;
      of_domain = r.of_domain;
      lies = set_else s.homes (r.slot_of number) (get_or s.words 0 0) x (λ e. (r.spread.slots number mine.there).1 (sym e)) ∙ r.lies;
      spread = r.spread;
      each_view = views_set (Fits plan behind) s.views id w fits (λ j z ne e. fits_as plan before behind j (others_keep mine j ne) z (r.each_view j z e));
    }

  pub picks_up : (slots id : ℕ) (v : View T) (number i : ℕ) → v.role ≡ Waits number i → Allows (Kept domain plan) slots id (v, []) 0 (λ n. n) (picked_up (v, []))
  picks_up slots id v number i is s r wide at few =
      let b = before s r id number v.seen none in
      let f = role_as plan b id v (Waits number i) is (r.each_view id v at) in
      let w : View T = record v { role = Sits number i } in
      let kept = handled s r id number v.seen none f.1 w (f.0, record { there = f.1.there; here = f.1.here; since = f.1.since; own = f.1.own }, f.2) in (
        w,
        takes i None,
        subst (λ z. get_elem? s.homes z ≡ some (some None)) f.2 f.3,
        subst (λ z. Kept domain plan record { words = set s.words 0 (get_or s.words 0 0); homes = set s.homes z none; views = set s.views id w }) f.2 kept,
        λ n' i' is'. let n_is : number ≡ n' = cc in let i_is : i ≡ i' = cc in λ q. (record v { role = Sits (n_is q) (i_is q) }, (i_is q, None) ∷ []),
      )

  pub lays_down : (slots id : ℕ) (v : View T) (number i : ℕ) → v.role ≡ Sits number i → Allows (Kept domain plan) slots id (v, (i, None) ∷ []) 0 (λ n. n) (laid_down (v, (i, None) ∷ []))
  lays_down slots id v number i is s r wide at few =
      let b = before s r id number v.seen (some None) in
      let f = role_as plan b id v (Sits number i) is (r.each_view id v at) in
      let w : View T = record v { role = Waits number i } in
      let low = (r.spread.slots number f.1.there).0 in
      let room = r.room in
      let kept = handled s r id number v.seen (some None) f.1 w (f.0, record { there = f.1.there; here = f.1.here; since = f.1.since; own = f.1.own }, f.2, set_here s.homes (r.slot_of number) (some None) (omega (arith, low, room))) in (
        w,
        gives,
        tt,
        subst (λ z. Kept domain plan record { words = set s.words 0 (get_or s.words 0 0); homes = set s.homes z (some None); views = set s.views id w }) f.2 kept,
        λ n' i' is'. let n_is : number ≡ n' = cc in let i_is : i ≡ i' = cc in λ q. (record v { role = Waits (n_is q) (i_is q) }, []),
      )

  -- Seats that are over

  pub takes_in : (id : ℕ) (v : View T) (other : ℕ) (w : View T) (over : List (Account T)) (number i : ℕ) → v.role ≡ Gathers over → w.role ≡ Waits number i
      → Joins (Kept domain plan) id v other w (gathering v w) spent
  takes_in id v other w over number i gathers_is waits_is s r at apart there =
      let both : View T = gathering v w in
      let was : get_elem? s.views other ≡ some w = ⊎_elim (λ (t : (other ≡ id) × (both ≡ w)). absurd (apart t.0)) (λ (t : (other ≢ id) × (get_elem? s.views other ≡ some w)). t.1) (at_set s.views id other both w there) in
      let b : Books T = record { homes = s.homes; swaps = r.swaps; seat_of = r.seat_of; slot_of = r.slot_of } in
      let b' : Books T = record { homes = s.homes; swaps = r.swaps; seat_of = given number id r.seat_of; slot_of = r.slot_of } in
      let f = role_as plan b id v (Gathers over) gathers_is (r.each_view id v at) in
      let g = role_as plan b other w (Waits number i) waits_is (r.each_view other w was) in
      let keeps : (j : ℕ) → j ≢ other → Keeps plan b b' j = λ j ne. reseated b number id other j g.1.here ne in
      let P : Account T → Type 0 = λ a. Is plan b' id a.by a.seen × Has b' (b'.slot_of a.by) None in
      let more : All P (record { by = number; seen = w.seen } ∷ over) = All-cons P record { by = number; seen = w.seen } over
      (record { there = g.1.there; here = given_here number id r.seat_of; since = g.1.since; own = g.1.own }, g.3)
      (stands_as plan b b' id (keeps id (λ e. apart (sym e))) v (Gathers over) f) in
      let fits : Fits plan b' id both = subst (λ (z : Role T × Role T). Stands plan b' id both (with_account record { by = number_of z.1; seen = w.seen } z.0)) (λ q. (sym gathers_is q, sym waits_is q)) more in
      reviewed s r (set (set s.views id both) other spent) (given number id r.seat_of)
      (views_set (Fits plan b') (set s.views id both) other spent tt (λ j z ne e. ⊎_elim
      (λ (t : (j ≡ id) × (both ≡ z)). subst (λ (x : ℕ × View T). Fits plan b' x.0 x.1) (λ q. (sym t.0 q, t.1 q)) fits)
      (λ (t : (j ≢ id) × (get_elem? s.views j ≡ some z)). fits_as plan b b' j (keeps j ne) z (r.each_view j z t.1))
      (at_set s.views id j both z e)))

  -- The same of seats whose views are known up to their parts

  pub picks_up_as : (slots id : ℕ) (me : Sat T) (v : View T) (number i : ℕ) → me ≡ (v, []) → v.role ≡ Waits number i → Allows (Kept domain plan) slots id me 0 (λ n. n) (picked_up me)
  picks_up_as slots id me v number i is role = subst (λ (z : Sat T). Allows (Kept domain plan) slots id z 0 (λ n. n) (picked_up z)) (sym is) (picks_up slots id v number i role)

  pub lays_down_as : (slots id : ℕ) (me : Sat T) (v : View T) (number i : ℕ) → me ≡ (v, (i, None) ∷ []) → v.role ≡ Sits number i → Allows (Kept domain plan) slots id me 0 (λ n. n) (laid_down me)
  lays_down_as slots id me v number i is role = subst (λ (z : Sat T). Allows (Kept domain plan) slots id z 0 (λ n. n) (laid_down z)) (sym is) (lays_down slots id v number i role)

-- A view in which just the role is known

module _ {T : Type 0} where
  pub sits_so : (m : Sat T) (w : View T) (n i : ℕ) (held : List (ℕ × Option T)) → m ≡ (record w { role = Sits n i }, held) → m ≡ (record m.0 { role = Sits (number_of m.0.role) i }, held)
  sits_so m w n i held is = let e : m.0 ≡ record w { role = Sits n i } = ap (λ (z : Sat T). z.0) is in is ∙ (λ q. (record (sym e q) { role = Sits (number_of (sym e q).role) i }, held))

  pub role_so : (m : Sat T) (w : View T) (r : Role T) (held : List (ℕ × Option T)) → m ≡ (record w { role = r }, held) → m ≡ (record m.0 { role = r }, held)
  role_so m w r held is = let e : m.0 ≡ record w { role = r } = ap (λ (z : Sat T). z.0) is in is ∙ (λ q. (record (sym e q) { role = r }, held))

  -- the desk's next seat, with its slot
  pub dealt_so : (plan : Plan) (t table : TableId) (number : ℕ) (old : Sat T) (m m' : Sat T) → t ≡ table → old ≡ (record (founder plan) { role = Dealer number }, []) → m ≡ (dealt old.0, []) → m' ≡ (record m.0 { role = Sits number (number + 1) }, (number + 1, None) ∷ [])
      → as_seat t m'.0 ≡ new_seat record { desk = table; domain = plan.home; seats = plan.seats } number
  dealt_so plan t table number old m m' same was cut has =
      let v : m.0 ≡ dealt (record (founder plan) { role = Dealer number }) = ap (λ (z : Sat T). z.0) cut ∙ ap (λ (z : Sat T). dealt z.0) was in
      (λ q. as_seat (same q) (has q).0) ∙ (λ q. as_seat table (record (v q) { role = Sits number (number + 1) }))

  -- one more seat is over
  pub gathered_so : (old m : Sat T) (w : View T) (v : View T) (over : List (Account T)) (n i : ℕ) → old ≡ (record old.0 { role = Gathers over }, []) → m ≡ (gathering old.0 w, old.1) → w ≡ record v { role = Waits n i }
      → m ≡ (record m.0 { role = Gathers (record { by = n; seen = v.seen } ∷ over) }, [])
  gathered_so old m w v over n i was joined is = role_so m old.0 (Gathers (record { by = n; seen = v.seen } ∷ over)) []
      (joined ∙ (λ q. (record old.0 { role = with_account record { by = number_of (is q).role; seen = (is q).seen } (was q).0.role }, (was q).1)))
