-- A swap keeps the rule of a desk.
use Rattle.std.proofs.Common.{◌≡◌, ◌≢◌, ℕ, ◌<◌, ◌≤◌, List, [], ◌∷◌, ◌++◌, All, Option, None, IfSome, get_or, set, length, refl, sym, ap, ◌∙◌, subst, arith, length-set, get_or-set_same}
use Rattle.std.proofs.lemmas.List.Elements.{All-push}
use mathlib.Core.Option.{none, some}
use mathlib.Core.Logic.{dite}
use native.Mathlib.Decide.{ℕ_discrete}
use lib.ListN.{get_elem?}
use Rattle.atomic_table.specs.Seated.{TableId}
use Rattle.atomic_table.specs.Table.{Me, rest, chain, gives, takes, Allows}
use Rattle.atomic_table.proofs.Lists.{set_here, set_else}
use Rattle.desk.specs.Glossary.{Swap, lies_behind, SeatView, Swaps, Books, Is, Fits, AreSpread, number_of, as_seat, Trades}
use Rattle.desk.specs.declared.view.Plan.{Plan}
use Rattle.desk.specs.declared.view.Role.TheVariants.{Sits}
use Rattle.desk.specs.declared.view.View.{View}
use Rattle.desk.specs.Rule.{Kept}
use Rattle.desk.specs.Plays.{Sat}
use Rattle.desk.proofs.Turns.{in_turn_push, lies_push, beginning_refl, beginning_push, swaps_of_other, same_swaps, before_last, last}
use Rattle.desk.proofs.Keeping.{at_below, views_set, given, given_here, given_else, Keeps, fits_as}

-- seat k gives slot i to the desk, and has slot d from it
pub spread_traded : (seats k i d : ℕ) (slot_of owner : ℕ → ℕ) → k < seats → slot_of k ≡ i → d ≤ seats → AreSpread seats d slot_of owner → AreSpread seats i (given k d slot_of) (given d k owner)
spread_traded seats k i d slot_of owner there has inside h = record { slots = slots'; owners = owners' }
  where
    at_k : (slot_of k ≤ seats) × (slot_of k ≢ d) × (owner (slot_of k) ≡ k)
    at_k = h.slots k there

    not_here : (n : ℕ) → n < seats → n ≢ k → slot_of n ≢ i
    not_here n lt ne e = ne (sym (h.slots n lt).2 ∙ (ap owner (e ∙ sym has) ∙ at_k.2))

    slots' : (n : ℕ) → n < seats → (given k d slot_of n ≤ seats) × (given k d slot_of n ≢ i) × (given d k owner (given k d slot_of n) ≡ n)
    slots' n lt = dite (ℕ_discrete n k)
        (λ e. let s : given k d slot_of n ≡ d = ap (given k d slot_of) e ∙ given_here k d slot_of in
        (omega (arith, s, inside), (λ z. at_k.1 (has ∙ (sym z ∙ s))), ap (given d k owner) s ∙ (given_here d k owner ∙ sym e)))
        (λ ne. let s : given k d slot_of n ≡ slot_of n = given_else k d slot_of n ne in let f = h.slots n lt in let le = f.0 in
        (omega (arith, s, le), (λ z. not_here n lt ne (sym s ∙ z)), ap (given d k owner) s ∙ (given_else d k owner (slot_of n) f.1 ∙ f.2)))

    owners' : (j : ℕ) → j ≤ seats → j ≢ i → (given d k owner j < seats) × (given k d slot_of (given d k owner j) ≡ j)
    owners' j le ne = dite (ℕ_discrete j d)
        (λ e. let s : given d k owner j ≡ k = ap (given d k owner) e ∙ given_here d k owner in (omega (arith, s, there), ap (given k d slot_of) s ∙ (given_here k d slot_of ∙ sym e)))
        (λ nd. let s : given d k owner j ≡ owner j = given_else d k owner j nd in let f = h.owners j le nd in let lt = f.0 in
        (omega (arith, s, lt), ap (given k d slot_of) s ∙ (given_else k d slot_of (owner j) (λ e. ne (sym f.1 ∙ (ap slot_of e ∙ has))) ∙ f.1)))

module _ {T : Type 0} where
  abbrev first_held : Option T → List (ℕ × Option T) → Option T
  first_held default [] = default
  first_held default (p ∷ ps) = p.1

  -- a seat writes into its one slot
  pub written : (slot : ℕ) (x y : Option T) (m m' : Sat T) → m ≡ (record m.0 { role = Sits (number_of m.0.role) slot }, (slot, x) ∷ []) → m' ≡ (m.0, (slot, y) ∷ rest m.1)
      → m' ≡ (record m'.0 { role = Sits (number_of m'.0.role) slot }, (slot, y) ∷ [])
  written slot x y m m' is wrote = let same : m'.0 ≡ m.0 = ap (λ (z : Sat T). z.0) wrote in
      wrote ∙ ((λ q. ((is q).0, (slot, y) ∷ rest (is q).1)) ∙ (λ q. (record (sym same q) { role = Sits (number_of (sym same q).role) slot }, (slot, y) ∷ [])))

  -- and what it read there is what was there
  pub was_held : (slot : ℕ) (x y : Option T) (m : Sat T) → m ≡ (record m.0 { role = Sits (number_of m.0.role) slot }, (slot, x) ∷ []) → m.1 ≡ (slot, y) ∷ rest m.1 → y ≡ x
  was_held slot x y m is read = ap (first_held x) (sym read ∙ ap (λ (z : Sat T). z.1) is)

  pub swaps_as : (t t' : TableId) (v v' w w' : View T) (left found found' : Option T) → t' ≡ t → v' ≡ v → w' ≡ w → found' ≡ found → Swaps (as_seat t v) left found (as_seat t w) → Swaps (as_seat t v') left found' (as_seat t' w')
  swaps_as t t' v v' w w' left found found' a b c d = subst (λ (z : (TableId × View T) × (View T × Option T)). Swaps (as_seat t z.0.1) left z.1.1 (as_seat z.0.0 z.1.0)) (λ q. ((sym a q, sym b q), (sym c q, sym d q)))

  pub lies_now : (v : SeatView T) (left found : Option T) (w : SeatView T) → Swaps v left found w → lies_behind w.seen ≡ left
  lies_now v left found w h = ap lies_behind h.seen ∙ lies_push None h.before record { by = v.number; left = left; found = found }

  -- with one seat nobody else swaps
  pub alone : (v : SeatView T) (left found : Option T) (w : SeatView T) → Swaps v left found w → v.seats ≡ 1 → found ≡ lies_behind v.seen
  alone v left found w h one =
      let P : List (Swap T) → Type 0 = All (λ s. s.by < 1) in
      let own : Swap T = record { by = v.number; left = left; found = found } in
      let all : P (h.before ++ own ∷ []) = subst P h.seen (subst (λ n. All (λ s. s.by < n) w.seen) (ap (λ (z : SeatView T). z.seats) h.same ∙ one) h.makers) in
      let low : v.number < 1 = last h.before own all in
      h.answers ∙ ap lies_behind (same_swaps v.seen h.before v.number (omega (arith, low)) (before_last h.before own all) h.since h.own)

module _ {T : Type 0} (domain : T → TableId) (plan : Plan) where
  abbrev sitting : TableId → ℕ → ℕ → ℕ → List (Swap T) → View T
  sitting home seats k i seen = record { home = home; seats = seats; role = Sits k i; seen = seen }

  pub trades_here : (slots id : ℕ) (home : TableId) (seats k i : ℕ) (seen : List (Swap T)) (x : Option T) → IfSome x (λ y. domain y ≡ home)
      → Allows (Kept domain plan) slots id (sitting home seats k i seen, (i, x) ∷ []) 0 (λ _. i) (Trades domain (sitting home seats k i seen, (i, x) ∷ []))
  trades_here slots id home seats k i seen x ok s r wide at few =
      let d : ℕ = get_or s.words 0 0 in
      let y : Option T = lies_behind r.swaps in
      let one = r.one in
      let room = r.room in
      let v : View T = sitting home seats k i seen in
      let f = r.each_view id v at in
      let b : Books T = record { homes = s.homes; swaps = r.swaps; seat_of = r.seat_of; slot_of = r.slot_of } in
      let is : Is plan b id k seen = f.1 in
      let has : r.slot_of k ≡ i = f.2 in
      let mine = r.spread.slots k is.there in
      let low = mine.0 in
      let apart : d ≢ i = λ e. mine.1 (has ∙ sym e) in
      let there = at_below s.homes d (some y) r.lies in
      let inside : d ≤ plan.seats = omega (arith, there, room) in
      let made : Swap T = record { by = k; left = x; found = y } in
      let homes' : List (mathlib.Core.Option.Option (Option T)) = set (set s.homes i (some x)) d none in
      let swaps' : List (Swap T) = r.swaps ++ made ∷ [] in
      let slot_of' : ℕ → ℕ = given k d r.slot_of in
      let b' : Books T = record { homes = homes'; swaps = swaps'; seat_of = r.seat_of; slot_of = slot_of' } in
      let w : View T = sitting home seats k d swaps' in
      let now : get_or (set s.words 0 i) 0 0 ≡ i = get_or-set_same s.words 0 i 0 (omega (arith, one)) in
      let i_there : i < length s.homes = omega (arith, low, has, room) in
      let left_is : lies_behind swaps' ≡ x = lies_push None r.swaps made in
      let seats_are : seats ≡ plan.seats = f.0.1 in
      let other : (j n : ℕ) (z : List (Swap T)) → j ≢ id → Is plan b j n z → n ≢ k = λ j n z ne g e. ne (sym g.here ∙ (ap r.seat_of e ∙ is.here)) in
      let others : (j : ℕ) → j ≢ id → Keeps plan b b' j = λ j ne. record {
        is = λ n z g. record { there = g.there; here = g.here; since = beginning_push z r.swaps made g.since; own = swaps_of_other n r.swaps made (λ e. other j n z ne g (sym e)) ∙ g.own };
        slot = λ n z g. given_else k d r.slot_of n (other j n z ne g);
        home = λ n z g h. let q = r.spread.slots n g.there in
            set_else (set s.homes i (some x)) d (r.slot_of n) none q.1
            ∙ (set_else s.homes i (r.slot_of n) (some x) (λ e. other j n z ne g (sym q.2 ∙ (ap r.owner (e ∙ sym has) ∙ mine.2))) ∙ h);
      } in (
        w,
        chain gives (takes d y),
        (tt, set_else s.homes i d (some x) apart ∙ r.lies),
        record {
          swaps = swaps';
          seat_of = r.seat_of;
          slot_of = slot_of';
          owner = given d k r.owner;
          one = length-set s.words 0 i ∙ one;
          room = length-set (set s.homes i (some x)) d none ∙ (length-set s.homes i (some x) ∙ room);
          in_turn = in_turn_push None r.swaps made r.in_turn refl;
          makers = All-push (λ z. z.by < plan.seats) r.swaps made r.makers is.there;
          of_domain = subst (λ (z : Option T). IfSome z (λ q. domain q ≡ plan.home)) (sym left_is) (subst (λ z. IfSome x (λ q. domain q ≡ z)) f.0.0 ok);
          lies = ap (get_elem? homes') now ∙ (set_else (set s.homes i (some x)) d i none (λ e. apart (sym e)) ∙ (set_here s.homes i (some x) i_there ∙ ap (λ (z : Option T). some (some z)) (sym left_is)));
          spread = subst (λ z. AreSpread plan.seats z slot_of' (given d k r.owner)) (sym now) (spread_traded plan.seats k i d r.slot_of r.owner is.there has inside r.spread);
          each_view = views_set (Fits plan b') s.views id w
              (f.0, record { there = is.there; here = is.here; since = beginning_refl swaps'; own = refl }, given_here k d r.slot_of)
              (λ j z ne e. fits_as plan b b' j (others j ne) z (r.each_view j z e));
        },
        record {
          found = y;
          of_domain = subst (λ z. IfSome y (λ q. domain q ≡ z)) (sym f.0.0) r.of_domain;
          sits = refl;
          swaps = λ table i' left e. record {
            same = refl;
            before = r.swaps;
            since = is.since;
            own = is.own;
            in_turn = in_turn_push None r.swaps made r.in_turn refl;
            makers = subst (λ z. All (λ q. q.by < z) swaps') (sym seats_are) (All-push (λ z. z.by < plan.seats) r.swaps made r.makers is.there);
            answers = refl;
            seen = ap (λ (z : Option T). r.swaps ++ record { by = k; left = z; found = y } ∷ []) (ap (first_held x) e);
          };
        },
      )

  -- the same of a seat whose view is known up to its parts
  pub trades : (slots id i : ℕ) (x : Option T) (me : Me (Option T) (View T)) → me ≡ (record me.0 { role = Sits (number_of me.0.role) i }, (i, x) ∷ []) → IfSome x (λ y. domain y ≡ me.0.home)
      → Allows (Kept domain plan) slots id me 0 (λ _. i) (Trades domain me)
  trades slots id i x me is ok = subst (λ (z : Me (Option T) (View T)). Allows (Kept domain plan) slots id z 0 (λ _. i) (Trades domain z)) (sym is) (trades_here slots id me.0.home me.0.seats (number_of me.0.role) i me.0.seen x ok)
