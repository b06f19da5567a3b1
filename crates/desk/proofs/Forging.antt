-- No cut or join of a desk's seats can claim a swap: the rule lists the swaps, and other seats know of their own.
use Rattle.std.proofs.Common.{◌≡◌, ◌≢◌, ℕ, zero, suc, ◌<◌, ◌≤◌, List, [], ◌∷◌, ◌++◌, All, Option, None, IfSome, get_or, set, length, refl, sym, ap, ◌∙◌, subst, append_assoc, length-append, length-set, arith}
use Rattle.std.proofs.lemmas.List.Elements.{All-push}
use mathlib.Core.Option.{some}
use lib.ListN.{get_elem?}
use Rattle.atomic_table.specs.Seated.{TableId}
use Rattle.atomic_table.specs.Table.{State, Splits, Joins}
use Rattle.atomic_table.proofs.Lists.{set_here, set_else, at_longer, at_last}
use Rattle.desk.specs.Glossary.{Role, Swap, lies_behind, AreInTurn, swaps_of, IsBeginning, Books, Is, Stands, Fits, HasNoMore, IsSeat, ClaimsNone, NoDeskSwapIsForged}
use Rattle.desk.specs.declared.view.Plan.{Plan}
use Rattle.desk.specs.declared.view.Role.TheVariants.{Nobody, Dealer, Waits, Sits, Gathers}
use Rattle.desk.specs.declared.view.View.{View}
use Rattle.desk.specs.Rule.{Kept}
use Rattle.desk.proofs.Turns.{in_turn_push, lies_push, beginning_refl, beginning_push, swaps_of_other}
use Rattle.desk.proofs.Growing.{swaps_of_append}
use Rattle.desk.proofs.Keeping.{at_below, views_set, Keeps, fits_as}

module _ {T : Type 0} where
  pub beginning_trans : (a b c : List (Swap T)) → IsBeginning a b → IsBeginning b c → IsBeginning a c
  beginning_trans a b c ab bc = record { rest = ab.rest ++ bc.rest; whole = bc.whole ∙ (ap (λ l. l ++ bc.rest) ab.whole ∙ append_assoc a ab.rest bc.rest) }

  -- of two lists that have one whole, the shorter one is a beginning of the other
  shorter : (a b r q : List (Swap T)) → a ++ r ≡ b ++ q → length a ≤ length b → IsBeginning a b
  shorter [] b r q e le = record { rest = b; whole = refl }
  shorter (x ∷ a) [] r q e le = absurd (omega (arith, le))
  shorter (x ∷ a) (y ∷ b) r q e le =
      let same : x ≡ y = cc in
      let tail : a ++ r ≡ b ++ q = cc in
      let h = shorter a b r q tail (omega (arith, le)) in
      record { rest = h.rest; whole = ap (λ z. z ∷ b) (sym same) ∙ ap (λ l. x ∷ l) h.whole }

  -- what was seen is no longer than a list of which all is known, and both are beginnings of one: so it has nothing of a seat that the list hasn't
  pub has_no_more : (m : ℕ) (seen again whole all : List (Swap T)) → swaps_of m all ≡ swaps_of m seen → IsBeginning again whole → IsBeginning all whole → length again ≤ length all → HasNoMore m seen again
  has_no_more m seen again whole all same a b le = let h = shorter again all a.rest b.rest (sym a.whole ∙ b.whole) le in record { rest = swaps_of m h.rest; whole = sym same ∙ (ap (swaps_of m) h.whole ∙ swaps_of_append m again h.rest) }

  -- A seat that swaps on and on

  -- it takes once more
  abbrev look : ℕ → List (Swap T) → Swap T
  look o swaps = record { by = o; left = None; found = lies_behind swaps }

  -- so often, and once more
  abbrev looked : ℕ → ℕ → List (Swap T) → List (Swap T)
  looked o zero swaps = swaps ++ look o swaps ∷ []
  looked o (suc k) swaps = looked o k swaps ++ look o (looked o k swaps) ∷ []

  looked_long : (o k : ℕ) (swaps : List (Swap T)) → k ≤ length (looked o k swaps)
  looked_long o zero swaps = omega arith
  looked_long o (suc k) swaps = let r = looked_long o k swaps in let l = length-append (looked o k swaps) (look o (looked o k swaps) ∷ []) in omega (arith, r, l)

  looked_in_turn : (o k : ℕ) (swaps : List (Swap T)) → AreInTurn swaps → AreInTurn (looked o k swaps)
  looked_in_turn o zero swaps h = in_turn_push None swaps (look o swaps) h refl
  looked_in_turn o (suc k) swaps h = in_turn_push None (looked o k swaps) (look o (looked o k swaps)) (looked_in_turn o k swaps h) refl

  looked_makers : (seats o k : ℕ) (swaps : List (Swap T)) → o < seats → All (λ s. s.by < seats) swaps → All (λ s. s.by < seats) (looked o k swaps)
  looked_makers seats o zero swaps lt h = All-push (λ s. s.by < seats) swaps (look o swaps) h lt
  looked_makers seats o (suc k) swaps lt h = All-push (λ s. s.by < seats) (looked o k swaps) (look o (looked o k swaps)) (looked_makers seats o k swaps lt h) lt

  looked_lies : (o k : ℕ) (swaps : List (Swap T)) → lies_behind (looked o k swaps) ≡ None
  looked_lies o zero swaps = lies_push None swaps (look o swaps)
  looked_lies o (suc k) swaps = lies_push None (looked o k swaps) (look o (looked o k swaps))

  looked_since : (o k : ℕ) (swaps : List (Swap T)) → IsBeginning swaps (looked o k swaps)
  looked_since o zero swaps = beginning_push swaps swaps (look o swaps) (beginning_refl swaps)
  looked_since o (suc k) swaps = beginning_push swaps (looked o k swaps) (look o (looked o k swaps)) (looked_since o k swaps)

  looked_other : (n o k : ℕ) (swaps : List (Swap T)) → n ≢ o → swaps_of n (looked o k swaps) ≡ swaps_of n swaps
  looked_other n o zero swaps ne = swaps_of_other n swaps (look o swaps) (λ e. ne (sym e))
  looked_other n o (suc k) swaps ne = swaps_of_other n (looked o k swaps) (look o (looked o k swaps)) (λ e. ne (sym e)) ∙ looked_other n o k swaps ne

  -- What is known of a seat of the desk

  seat_is : (plan : Plan) (b : Books T) (id : ℕ) (v : View T) (r : Role T) (n : ℕ) → IsSeat r n → Stands plan b id v r → Is plan b id n v.seen
  seat_is plan b id v Nobody n is h = absurd is
  seat_is plan b id v (Dealer k) n is h = absurd is
  seat_is plan b id v (Waits k i) n is h = subst (λ z. Is plan b id z v.seen) is h.1
  seat_is plan b id v (Sits k i) n is h = subst (λ z. Is plan b id z v.seen) is h.1
  seat_is plan b id v (Gathers over) n is h = absurd is

module _ {T : Type 0} (domain : T → TableId) (plan : Plan) (s : State (Option T) (View T)) (r : Kept domain plan s) (there : ℕ) (u : View T) (o : ℕ) (at : get_elem? s.views there ≡ some u) (is : IsSeat u.role o) (k : ℕ) where
  abbrev before : Books T
  before = record { homes = s.homes; swaps = r.swaps; seat_of = r.seat_of; slot_of = r.slot_of }

  -- the other seat has taken more often
  abbrev all : List (Swap T)
  all = looked o k r.swaps

  abbrev homes : List (mathlib.Core.Option.Option (Option T))
  homes = set s.homes (get_or s.words 0 0) (some None)

  abbrev behind : Books T
  behind = record { homes = homes; swaps = all; seat_of = r.seat_of; slot_of = r.slot_of }

  abbrev knowing : View T
  knowing = record u { seen = all }

  abbrev state : State (Option T) (View T)
  state = record { words = s.words; homes = homes; views = set s.views there knowing }

  other_is : Is plan before there o u.seen
  other_is = seat_is plan before there u u.role o is (r.each_view there u at)

  others : (j : ℕ) → j ≢ there → Keeps plan before behind j
  others j ne = record {
    is = λ n z g. record { there = g.there; here = g.here; since = beginning_trans z r.swaps all g.since (looked_since o k r.swaps); own = looked_other n o k r.swaps (λ e. ne (sym g.here ∙ (ap r.seat_of e ∙ other_is.here))) ∙ g.own };
    slot = λ n z g. refl;
    home = λ n z g h. set_else s.homes (get_or s.words 0 0) (r.slot_of n) (some None) (r.spread.slots n g.there).1 ∙ h;
  }

  now_is : Is plan behind there o all
  now_is = record { there = other_is.there; here = other_is.here; since = beginning_refl all; own = refl }

  -- its own slot stands where it stood
  stands_on : (x : Role T) → IsSeat x o → Stands plan before there u x → Stands plan behind there knowing x
  stands_on Nobody y h = absurd y
  stands_on (Dealer n) y h = absurd y
  stands_on (Waits n i) y h = (h.0, subst (λ z. Is plan behind there z all) (sym y) now_is, h.2, set_else s.homes (get_or s.words 0 0) (r.slot_of n) (some None) (r.spread.slots n h.1.there).1 ∙ h.3)
  stands_on (Sits n i) y h = (h.0, subst (λ z. Is plan behind there z all) (sym y) now_is, h.2)
  stands_on (Gathers over) y h = absurd y

  kept : Kept domain plan state
  kept = record {
    swaps = all;
    seat_of = r.seat_of;
    slot_of = r.slot_of;
    owner = r.owner;
    one = r.one;
    room = length-set s.homes (get_or s.words 0 0) (some None) ∙ r.room;
    in_turn = looked_in_turn o k r.swaps r.in_turn;
    makers = looked_makers plan.seats o k r.swaps other_is.there r.makers;
    of_domain = subst (λ (z : Option T). IfSome z (λ x. domain x ≡ plan.home)) (sym (looked_lies o k r.swaps)) tt;
    lies = set_here s.homes (get_or s.words 0 0) (some None) (at_below s.homes (get_or s.words 0 0) (some (lies_behind r.swaps)) r.lies) ∙ ap (λ (z : Option T). some (some z)) (sym (looked_lies o k r.swaps));
    spread = r.spread;
    each_view = views_set (Fits plan behind) s.views there knowing (stands_on u.role is (r.each_view there u at)) (λ j z ne e. fits_as plan before behind j (others j ne) z (r.each_view j z e));
  }

  module _ (id : ℕ) (v : View T) (m : ℕ) (mine : get_elem? s.views id ≡ some v) (seat : IsSeat v.role m) (apart : there ≢ id) where
    mine_is : Is plan before id m v.seen
    mine_is = seat_is plan before id v v.role m seat (r.each_view id v mine)

    same : swaps_of m all ≡ swaps_of m v.seen
    same = looked_other m o k r.swaps (λ e. apart (sym other_is.here ∙ (ap r.seat_of (sym e) ∙ mine_is.here))) ∙ mine_is.own

    still_mine : get_elem? state.views id ≡ some v
    still_mine = set_else s.views there id knowing (λ e. apart (sym e)) ∙ mine

    known : get_elem? state.views there ≡ some knowing
    known = set_here s.views there knowing (at_below s.views there u at)

    -- whatever a seat says then, it says no more than what is known
    says : (after : State (Option T) (View T)) → Kept domain plan after → get_elem? after.views there ≡ some knowing → (j : ℕ) (w : View T) → get_elem? after.views j ≡ some w → length w.seen ≤ k → ClaimsNone m v w
    says after a know j w here short number sits =
        let b : Books T = record { homes = after.homes; swaps = a.swaps; seat_of = a.seat_of; slot_of = a.slot_of } in
        let long = looked_long o k r.swaps in
        has_no_more m v.seen w.seen a.swaps all same
        (seat_is plan b j w w.role number sits (a.each_view j w here)).since
        (seat_is plan b there knowing u.role o is (a.each_view there knowing know)).since
        (omega (arith, short, long))

    pub cut_left : (left right : View T) → length left.seen ≤ k → Splits (Kept domain plan) id v left right → ClaimsNone m v left
    cut_left left right short splits =
        says record { words = state.words; homes = state.homes; views = set state.views id left ++ right ∷ [] } (splits state kept still_mine)
        (at_longer (set state.views id left) (right ∷ []) there knowing (set_else state.views id there left apart ∙ known))
        id left (at_longer (set state.views id left) (right ∷ []) id left (set_here state.views id left (at_below state.views id v still_mine))) short

    pub cut_right : (left right : View T) → length right.seen ≤ k → Splits (Kept domain plan) id v left right → ClaimsNone m v right
    cut_right left right short splits =
        says record { words = state.words; homes = state.homes; views = set state.views id left ++ right ∷ [] } (splits state kept still_mine)
        (at_longer (set state.views id left) (right ∷ []) there knowing (set_else state.views id there left apart ∙ known))
        (length (set state.views id left)) right (at_last (set state.views id left) right (length (set state.views id left)) refl) short

    pub joined : (other : ℕ) (w both spent : View T) → other ≢ id → other ≢ there → get_elem? s.views other ≡ some w → length both.seen ≤ k → Joins (Kept domain plan) id v other w both spent → ClaimsNone m v both
    joined other w both spent not_me not_there was short joins =
        let w_there : get_elem? (set state.views id both) other ≡ some w = set_else state.views id other both not_me ∙ (set_else s.views there other knowing not_there ∙ was) in
        says record { words = state.words; homes = state.homes; views = set (set state.views id both) other spent } (joins state kept still_mine not_me w_there)
        (set_else (set state.views id both) other there spent (λ e. not_there (sym e)) ∙ (set_else state.views id there both apart ∙ known))
        id both (set_else (set state.views id both) other id spent (λ e. not_me (sym e)) ∙ set_here state.views id both (at_below state.views id v still_mine)) short

pub never_forged : {T : Type 0} (domain : T → TableId) → NoDeskSwapIsForged domain
never_forged domain plan s r id v m mine seat there u o at is apart = (
  (λ left right splits. (cut_left domain plan s r there u o at is (length left.seen) id v m mine seat apart left right (omega arith) splits, cut_right domain plan s r there u o at is (length right.seen) id v m mine seat apart left right (omega arith) splits)),
  (λ other w both spent not_me not_there was joins. joined domain plan s r there u o at is (length both.seen) id v m mine seat apart other w both spent not_me not_there was (omega arith) joins),
)
