-- What is left of a desk when all of its seats are over.
use Rattle.std.proofs.Common.{◌≡◌, ℕ, zero, suc, ◌<◌, List, [], ◌∷◌, ◌++◌, All, Contains, Option, None, IfSome, get_or, map, length, sym, ap, ◌∙◌, subst, arith}
use Rattle.std.proofs.lemmas.List.Elements.{All-nil, All-cons, All-head, All-tail, All-weaker}
use Rattle.std.specs.Mem.Slots.{slots_items, slots_len, slots_counts, IsFull}
use mathlib.Core.Option.{some}
use lib.ListN.{get_elem?}
use Rattle.atomic_table.specs.Seated.{TableId}
use Rattle.atomic_table.specs.Table.{Final, Seen}
use Rattle.atomic_table.specs.declared.owned.Closed.{Closed}
use Rattle.desk.specs.Glossary.{Swap, Account, lies_behind, AreInTurn, swaps_of, IsBeginning, SeatView, Closes, Books, Has, Is, account, desk_of, LiesAlone}
use Rattle.desk.specs.declared.view.Plan.{Plan}
use Rattle.desk.specs.declared.view.Role.TheVariants.{Gathers}
use Rattle.desk.specs.declared.view.View.{View}
use Rattle.desk.specs.Rule.{Kept}
use Rattle.desk.proofs.Turns.{same_swaps}
use Rattle.desk.proofs.Keeping.{at_below, role_as}

-- Lists of seats

pub within : {X : Type 0} (P : X → Type 0) (xs : List X) (x : X) (ys : List X) → All P (xs ++ x ∷ ys) → P x
within P [] x ys h = All-head P x ys h
within P (z ∷ zs) x ys h = within P zs x ys (All-tail P z (zs ++ x ∷ ys) h)

module _ {T : Type 0} where
  of_accounts : (P : Account T → Type 0) (seats : List (SeatView T)) → All P (map account seats) → All (λ v. P (account v)) seats
  of_accounts P [] h = All-nil (λ (v : SeatView T). P (account v))
  of_accounts P (v ∷ vs) h = All-cons (λ (v : SeatView T). P (account v)) v vs (All-head P (account v) (map account vs) h) (of_accounts P vs (All-tail P (account v) (map account vs) h))

  -- the seat of a number
  numbered : (P : SeatView T → Type 0) (seats : List (SeatView T)) (n k : ℕ) → All P seats → k < length (map (λ v. v.number) seats) → get_or (map (λ (v : SeatView T). v.number) seats) k n ≡ n → (v : SeatView T) × P v × (v.number ≡ n)
  numbered P [] n k h lt e = absurd (omega arith)
  numbered P (v ∷ vs) n zero h lt e = (v, All-head P v vs h, e)
  numbered P (v ∷ vs) n (suc k) h lt e = numbered P vs n k (All-tail P v vs h) (omega arith) e

module _ {T A : Type 0} (domain : T → TableId) (plan : Plan) where
  pub record Ends (seats : List (SeatView T)) (closed : Closed (Option T) A) : Type 0 where
    pub swaps : List (Swap T)
    pub in_turn : AreInTurn swaps
    pub makers : All (λ s. s.by < plan.seats) swaps
    pub of_domain : IfSome (lies_behind swaps) (λ x. domain x ≡ plan.home)
    pub seen : All (λ v. IsBeginning v.seen swaps × (swaps_of v.number swaps ≡ swaps_of v.number v.seen) × (v.number < plan.seats)) seats
    pub value : get_elem? (slots_items closed.slots) (desk_of closed) ≡ some (lies_behind swaps)
    pub alone : LiesAlone closed

  pub ends : (id : ℕ) (v : View T) (seats : List (SeatView T)) (closed : Closed (Option T) A) → slots_len closed.words ≡ 1
      → IsFull closed.words × IsFull closed.slots × Final (Seen (Kept domain plan) id v) (slots_items closed.words) (slots_items closed.slots)
      → v.role ≡ Gathers (map account seats) → ((n : ℕ) → n < plan.seats → Contains (map (λ s. s.number) seats) n) → Ends seats closed
  ends id v seats closed one h is each =
      let s = h.2.0 in
      let r : Kept domain plan s = h.2.1.0 in
      let values = h.2.4 in
      let b : Books T = record { homes = s.homes; swaps = r.swaps; seat_of = r.seat_of; slot_of = r.slot_of } in
      let P : Account T → Type 0 = λ a. Is plan b id a.by a.seen × Has b (b.slot_of a.by) None in
      let over : All (λ z. P (account z)) seats = of_accounts P seats (role_as plan b id v (Gathers (map account seats)) is (r.each_view id v h.2.1.1)) in
      let same : get_or s.words 0 0 ≡ desk_of closed = ap (λ (ws : List ℕ). get_or ws 0 0) h.2.2 in
      let value : get_elem? (slots_items closed.slots) (desk_of closed) ≡ some (lies_behind r.swaps) = subst (λ n. get_elem? (slots_items closed.slots) n ≡ some (lies_behind r.swaps)) same (values (get_or s.words 0 0) (lies_behind r.swaps) r.lies) in
      let there = at_below (slots_items closed.slots) (desk_of closed) (lies_behind r.swaps) value in
      let counts = (slots_counts closed.slots).0 in
      let room = r.room in
      let long = h.2.3 in record {
        swaps = r.swaps;
        in_turn = r.in_turn;
        makers = r.makers;
        of_domain = r.of_domain;
        seen = All-weaker (λ z. P (account z)) (λ z. IsBeginning z.seen r.swaps × (swaps_of z.number r.swaps ≡ swaps_of z.number z.seen) × (z.number < plan.seats)) (λ (z : SeatView T) g. (g.0.since, g.0.own, g.0.there)) seats over;
        value = value;
        alone = record {
          one = one;
          words = h.0;
          slots = h.1;
          there = omega (arith, there, counts);
          others = λ k lt ne.
              let o = r.spread.owners k (omega (arith, lt, counts, long, room)) (λ e. ne (e ∙ same)) in
              let c = each (r.owner k) o.0 in
              let n = numbered (λ z. P (account z)) seats (r.owner k) c.0 over c.1 c.2 in
              values k None (subst (λ i. get_elem? s.homes i ≡ some (some None)) (ap r.slot_of n.2 ∙ o.1) n.1.1);
        };
      }

  -- the same where none is left of the seats
  pub ends_all : (id : ℕ) (v : View T) (all left over : List (SeatView T)) (closed : Closed (Option T) A) → all ≡ left ++ over → length left ≡ 0 → v.role ≡ Gathers (map account over) → slots_len closed.words ≡ 1
      → IsFull closed.words × IsFull closed.slots × Final (Seen (Kept domain plan) id v) (slots_items closed.words) (slots_items closed.slots) → ((n : ℕ) → n < plan.seats → Contains (map (λ s. s.number) all) n) → Ends all closed
  ends_all id v all [] over closed is none role one h each = ends id v all closed one h (subst (λ l. v.role ≡ Gathers (map account l)) (sym is) role) each
  ends_all id v all (x ∷ left) over closed is none role one h each = absurd (omega (arith, none))

  -- with one seat it has seen all
  pub sole : (seats : List (SeatView T)) (closed : Closed (Option T) A) (e : Ends seats closed) → plan.seats ≡ 1 → (x : Option T) → x ≡ lies_behind e.swaps → All (λ v. x ≡ lies_behind v.seen) seats
  sole seats closed e one x is = All-weaker (λ v. IsBeginning v.seen e.swaps × (swaps_of v.number e.swaps ≡ swaps_of v.number v.seen) × (v.number < plan.seats)) (λ v. x ≡ lies_behind v.seen)
      (λ (v : SeatView T) g.
      let low = g.2 in
      let first : v.number ≡ 0 = omega (arith, low, one) in
      let all : All (λ s. s.by < 1) e.swaps = subst (λ n. All (λ s. s.by < n) e.swaps) one e.makers in
      is ∙ ap lies_behind (same_swaps v.seen e.swaps v.number first all g.0 g.1))
      seats e.seen

  pub closes_of : (seats : List (SeatView T)) (closed : Closed (Option T) A) (e : Ends seats closed) (table : TableId) (x : Option T) → x ≡ lies_behind e.swaps → Closes record { desk = table; domain = plan.home; seats = plan.seats } seats x
  closes_of seats closed e table x is = record {
    swaps = e.swaps;
    in_turn = e.in_turn;
    makers = e.makers;
    seen = All-weaker (λ v. IsBeginning v.seen e.swaps × (swaps_of v.number e.swaps ≡ swaps_of v.number v.seen) × (v.number < plan.seats)) (λ v. IsBeginning v.seen e.swaps × (swaps_of v.number e.swaps ≡ swaps_of v.number v.seen)) (λ (v : SeatView T) g. (g.0, g.1)) seats e.seen;
    answers = is;
  }
