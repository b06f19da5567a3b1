-- Each swap on a bay's table keeps its rule.
use Rattle.std.proofs.Common.{◌≡◌, ◌≢◌, ℕ, ◌<◌, true, false, List, [], ◌∷◌, ◌++◌, All, Option, Some, None, IfSome, get_or, set, refl, sym, ap, ◌∙◌, subst, true≢false}
use Rattle.std.proofs.lemmas.List.Elements.{All-nil, All-cons}
use mathlib.Core.Option.{none, some}
use lib.ListN.{get_elem?}
use Rattle.atomic_table.specs.Seated.{TableId}
use Rattle.atomic_table.specs.Table.{Act, keeps, takes, gives, carried_after, homes_after, Valid, Allows}
use Rattle.annals.specs.declared.view.Role.TheVariants.{Sits}
use Rattle.annals.specs.Glossary.{Sitter, IsAt}
use Rattle.annals.proofs.CallerLemmas.{makes}
use Rattle.desk.specs.Glossary.{Terms, Swap, lies_after, holds_after, holds_behind, IsLegal, JustOneHolds, HasOneHolder, HasSeenLegal, word_of, home_of, lies_now, IsOf, bay_client, as_bay_seat, carried, Takes, Puts}
use Rattle.desk.specs.declared.bay.view.Plan.{Plan}
use Rattle.desk.specs.BayRule.{View, Kept}
use Rattle.desk.proofs.Turns.{lies_push}
use Rattle.desk.proofs.Holders.{holds_other, legal_push, legal_beginning, one_holds, holder_finds_nothing}

module _ {T : Type 0} where
  -- what lies there comes along
  abbrev taking : Option T → Act (Option T)
  taking None = keeps
  taking (Some x) = takes 0 (Some x)

  may_take : (lay : Option T) (homes : List (mathlib.Core.Option.Option (Option T))) → homes ≡ home_of lay ∷ [] → Valid homes [] (taking lay)
  may_take None homes e = tt
  may_take (Some x) homes e = ap (λ h. get_elem? h 0) e

  slot_taken : (lay : Option T) (homes : List (mathlib.Core.Option.Option (Option T))) → homes ≡ home_of lay ∷ [] → homes_after homes [] (taking lay) ≡ none ∷ []
  slot_taken None homes e = e
  slot_taken (Some x) homes e = ap (λ h. set h 0 none) e

  now_carried : (lay : Option T) → carried_after [] (taking lay) ≡ carried lay
  now_carried None = refl
  now_carried (Some x) = refl

  abbrev first_held : Option T → List (ℕ × Option T) → Option T
  first_held default [] = default
  first_held default (p ∷ ps) = p.1

  abbrev sitting : Terms T → ℕ → List (Swap T) → List (Unit {0}) → View T
  sitting c k seen done = record { role = Sits k; seen = seen; told = []; done = done; client = c }

  history_of : (plan : Plan T) (table : TableId) (c : Terms T) (k : ℕ) (seen : List (Swap T)) → IsOf plan c → k < plan.seats → IsLegal plan.seats (Some plan.first.value) seen
      → HasSeenLegal record { bay = table; domain = c.home; seats = c.seats; number = k; first = c.first; seen = seen }
  history_of plan table c k seen of there legal = record {
    there = subst (λ z. k < z) (sym of.1) there;
    value = plan.first.value;
    lay = of.2;
    legal = subst (λ (z : ℕ × Option T). IsLegal z.0 z.1 seen) (λ i. (sym of.1 i, sym of.2 i)) legal;
  }

  -- a seat at a bay has seen legal swaps
  pub history_at : (domain : T → TableId) (like : T → T → Type 0) (table : TableId) (k : ℕ) (v : View T) → v.role ≡ Sits k → IsAt (bay_client domain like) v → HasSeenLegal (as_bay_seat table v)
  history_at domain like table k v is at = subst (λ (z : View T). HasSeenLegal (as_bay_seat table z)) (λ i. record v { role = sym is i })
      (let h = subst (λ (z : View T). IsAt (bay_client domain like) z) (λ i. record v { role = is i }) at in
      history_of h.key table v.client k v.seen h.known.0 h.known.1 (legal_beginning h.key.seats (Some h.key.first.value) [] v.seen h.seen.rest (subst (IsLegal h.key.seats (Some h.key.first.value)) h.seen.whole h.agreed.legal)))

  -- nothing lay there, so another seat holds
  elsewhere : (seats k : ℕ) (swaps : List (Swap T)) (made : Swap T) → made.by ≡ k → holds_behind k swaps ≡ false → JustOneHolds seats swaps → (holder : ℕ) × (holder < seats) × (holder ≢ k) × (holds_behind holder (swaps ++ made ∷ []) ≡ true)
  elsewhere seats k swaps made by free one =
      let other : one.holder ≢ k = λ e. true≢false (sym one.holding ∙ (ap (λ n. holds_behind n swaps) e ∙ free)) in
      (one.holder, one.there, other, holds_other one.holder swaps made (λ e. other (sym e ∙ by)) ∙ one.holding)

  by_seat : (made : Swap T) → All (λ s. Sitter s.by ≡ Sitter made.by) (made ∷ [])
  by_seat made = All-cons (λ (s : Swap T). Sitter s.by ≡ Sitter made.by) made [] refl (All-nil (λ (s : Swap T). Sitter s.by ≡ Sitter made.by))

module _ {T : Type 0} (domain : T → TableId) (like : T → T → Type 0) (plan : Plan T) where
  pub takes_here : (slots id : ℕ) (c : Terms T) (k : ℕ) (seen : List (Swap T)) (done : List (Unit {0})) → holds_behind k seen ≡ false
      → Allows (Kept domain like plan) slots id (sitting c k seen done, []) 0 (λ _. 1) (Takes domain like (sitting c k seen done, []))
  takes_here slots id c k seen done free = makes (bay_client domain like) plan slots id (sitting c k seen done, []) 0 (λ _. 1) (Takes domain like (sitting c k seen done, [])) (Sitter k) refl
      (λ _ words homes swaps deeds a sees wide few.
      let knows = sees.known in
      let of = knows.0 in
      let own = sees.own (Sitter k) refl in
      let lay : Option T = lies_now plan swaps in
      let made : Swap T = record { by = k; left = None; found = lay } in
      let swaps' : List (Swap T) = swaps ++ made ∷ [] in
      let free' : holds_behind k swaps ≡ false = ap (holds_after false) own ∙ free in
      let left_is : lies_now plan swaps' ≡ None = lies_push (Some plan.first.value) swaps made in
      let legal' : IsLegal plan.seats (Some plan.first.value) swaps' = legal_push plan.seats (Some plan.first.value) swaps made a.legal record { by = knows.1; finds = refl; in_turn = sym free' } in record {
        entries = made ∷ [];
        by = by_seat made;
        world' = tt;
        client = c;
        act = taking lay;
        valid = may_take lay homes a.homes_are;
        agreed = record {
          words_are = ap (λ ws. set ws 0 1) a.words_are ∙ ap (λ (z : Option T). word_of z ∷ []) (sym left_is);
          homes_are = slot_taken lay homes a.homes_are ∙ ap (λ (z : Option T). home_of z ∷ []) (sym left_is);
          legal = legal';
          first_of_domain = a.first_of_domain;
          of_domain = subst (λ (z : Option T). IfSome z (λ x. domain x ≡ plan.home)) (sym left_is) tt;
          first_alike = a.first_alike;
          alike = subst (λ (z : Option T). IfSome z (λ x. like plan.first.value x)) (sym left_is) tt;
        };
        known = knows;
        others = λ role d not apart h. h;
        rights = λ x h. absurd x;
        tells = record {
          found = lay;
          word = ap (λ ws. get_or ws 0 0) a.words_are;
          of_domain = subst (λ z. IfSome lay (λ x. domain x ≡ z)) (sym of.0) a.of_domain;
          alike = subst (λ (z : Option T). IfSome lay (λ x. IfSome z (λ y. like y x))) (sym of.2) a.alike;
          now = ap (λ z. (sitting c k swaps' done, z)) (now_carried lay);
          swap = λ table. record {
            same = refl;
            before = swaps;
            since = sees.seen;
            own = own;
            finds = ap (λ z. lies_after z swaps) (sym of.2);
            seen = refl;
            history = history_of plan table c k swaps' of knows.1 legal';
          };
          elsewhere = λ table none.
              let e = elsewhere plan.seats k swaps made refl free' (subst (HasOneHolder plan.seats swaps) none (one_holds plan.seats plan.first.value swaps a.legal)) in
              record { holder = e.0; there = subst (λ z. e.0 < z) (sym of.1) e.1; other = e.2; holding = e.3 };
        };
      })

  pub puts_here : (slots id : ℕ) (c : Terms T) (k : ℕ) (seen : List (Swap T)) (done : List (Unit {0})) (x : T) → holds_behind k seen ≡ true → domain x ≡ c.home → IfSome c.first (λ y. like y x)
      → Allows (Kept domain like plan) slots id (sitting c k seen done, (0, Some x) ∷ []) 0 (λ _. 0) (λ n m'. Puts (sitting c k seen done, (0, Some x) ∷ []) m')
  puts_here slots id c k seen done x held ok fits = makes (bay_client domain like) plan slots id (sitting c k seen done, (0, Some x) ∷ []) 0 (λ _. 0) (λ n m'. Puts (sitting c k seen done, (0, Some x) ∷ []) m') (Sitter k) refl
      (λ _ words homes swaps deeds a sees wide few.
      let knows = sees.known in
      let of = knows.0 in
      let own = sees.own (Sitter k) refl in
      let held' : holds_behind k swaps ≡ true = ap (holds_after false) own ∙ held in
      let nothing : lies_now plan swaps ≡ None = holder_finds_nothing plan.seats swaps (lies_now plan swaps) k (one_holds plan.seats plan.first.value swaps a.legal) held' in
      let made : Swap T = record { by = k; left = Some x; found = None } in
      let swaps' : List (Swap T) = swaps ++ made ∷ [] in
      let left_is : lies_now plan swaps' ≡ Some x = lies_push (Some plan.first.value) swaps made in
      let legal' : IsLegal plan.seats (Some plan.first.value) swaps' = legal_push plan.seats (Some plan.first.value) swaps made a.legal record { by = knows.1; finds = sym nothing; in_turn = sym held' } in record {
        entries = made ∷ [];
        by = by_seat made;
        world' = tt;
        client = c;
        act = gives;
        valid = tt;
        agreed = record {
          words_are = ap (λ ws. set ws 0 0) a.words_are ∙ ap (λ (z : Option T). word_of z ∷ []) (sym left_is);
          homes_are = ap (λ hs. set hs 0 (some (Some x))) a.homes_are ∙ ap (λ (z : Option T). home_of z ∷ []) (sym left_is);
          legal = legal';
          first_of_domain = a.first_of_domain;
          of_domain = subst (λ (z : Option T). IfSome z (λ y. domain y ≡ plan.home)) (sym left_is) (ok ∙ of.0);
          first_alike = a.first_alike;
          alike = subst (λ (z : Option T). IfSome z (λ y. like plan.first.value y)) (sym left_is) (subst (λ (z : Option T). IfSome z (λ y. like y x)) of.2 fits);
        };
        known = knows;
        others = λ role d not apart h. h;
        rights = λ x h. absurd x;
        tells = record {
          now = refl;
          swap = λ table y is. record {
            same = refl;
            before = swaps;
            since = sees.seen;
            own = own;
            finds = sym nothing ∙ ap (λ z. lies_after z swaps) (sym of.2);
            seen = ap (λ (z : Option T). swaps ++ record { by = k; left = z; found = None } ∷ []) (ap (first_held None) is);
            history = history_of plan table c k swaps' of knows.1 legal';
          };
        };
      })
