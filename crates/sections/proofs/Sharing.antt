-- Seats that are cut in two, joined and dealt keep the rule.
use Rattle.std.proofs.Common.{◌≡◌, ℕ, zero, suc, ◌+◌, ◌*◌, ◌<◌, ◌≤◌, ◌≢◌, inr, List, [], ◌∷◌, ◌++◌, All, get_or, length, replicate, set, refl, sym, ap, ◌∙◌, subst, ⊎_elim, arith}
use Rattle.std.proofs.lemmas.List.{get_or-replicate, length-replicate, length-map}
use Rattle.std.proofs.lemmas.List.Elements.{All-nil, All-cons}
use Rattle.std.specs.Prelude.{None}
use Rattle.sections.specs.Glossary.{key_place, hand_in, section_in, no_bank, no_plan, bank_of, PlanIn, Mans, IsLent, IsPlan, HasVault, Books, FitsBank, KeepsBanks, no_domain, Bank, Slot, Bounds, Role, Right, View, word_count, word_place, HasItsMaker, GoesOn, IsTrueOf, StandsFor, HasDone, moment_of, Makes, Has, Knows, Fits, AreSmall, Kept, founder, HasReached, lacking, bearer, informed, mark, shower, hearing, noting, regaining, spent, without_next, next_role, dealer, dealt, without_cell, next_cell, pen_dealer, pen_dealt, Truth, Moment, texts_at, Writes, FitsShelf, IsTrueWord}
use Rattle.sections.proofs.Banking.{split_banks, join_banks, bank_free, bank_moved, bank_plans, deal_banks, total_zero}
use Rattle.sections.specs.declared.view.Right.TheVariants.{Shelf, Undealt}
use mathlib.Core.Logic.{dite}
use native.Mathlib.Decide.{ℕ_discrete}
use mathlib.Core.Option.{some, some-injective, some-ne-none}
use lib.ListN.{get_elem?}
use Rattle.atomic_table.specs.Table.{State, Splits, Joins, opening}
use Rattle.atomic_table.proofs.Lists.{at_set, at_map}
use Rattle.onedom.specs.declared.event.Maker.{Maker}
use Rattle.onedom.specs.declared.event.Maker.TheVariants.{Processor, Engine}
use Rattle.onedom.specs.declared.event.Event.{Event}
use Rattle.onedom.specs.Histories.{made_by, IsBeginning}
use Rattle.onedom.proofs.CallerLemmas.{beginning_empty}
use Rattle.sections.specs.declared.view.Role.TheVariants.{Bearer, Cpu, Driver}
use Rattle.sections.proofs.Offers.{no_vault}
use Rattle.sections.proofs.Shelving.{moved_pen, moved_writes, moved_pen_else, fits_shelf_as, shelved_new}
use Rattle.sections.proofs.Agreement.{agrees_new}
use Rattle.sections.proofs.Deeds.{upto_empty, has_done_as, has_done_none}
use Rattle.sections.proofs.Knowing.{now, views_set, views_split, given, given_here, given_else, reheld, reached_more, moved, moved_has, moved_else, known_before, knows_at, makes_at}

module _ (bounds : Bounds) where
  -- Splits and joins

  -- the same words and history, and other views
  reviewed : (s : State Slot View) (r : Kept bounds s) (views : List View) (seat_of reached holder : ℕ → ℕ) → ((p : ℕ) → reached p ≤ r.changes) → ((j : ℕ) (d : View) → get_elem? views j ≡ some d → Fits (record (r.truth) { seat_of = seat_of; reached = reached; holder = holder }) j d)
      → ((j : ℕ) (d : View) → get_elem? views j ≡ some d → HasDone r.deeds d)
      → (writer_of : ℕ → ℕ) → ((j : ℕ) (d : View) → get_elem? views j ≡ some d → FitsShelf bounds s.words r.log r.shelf.texts writer_of j d) → KeepsBanks bounds s.homes views r.log r.shelf.texts
      → Kept bounds record { words = s.words; homes = s.homes; views = views }
  reviewed s r views seat_of reached holder known each each_done writer_of each_shelf banks = record {
    truth = record (r.truth) { seat_of = seat_of; reached = reached; holder = holder };
    known = known;
    small = r.small;
    within = r.within;
    words = r.words;
    each_view = each;
    deeds = r.deeds;
    done = r.done;
    each_done = each_done;
    shelf = record { texts = r.shelf.texts; writer_of = writer_of; room = r.shelf.room; shelved = r.shelf.shelved; each = each_shelf; loaded = r.shelf.loaded };
    banks = banks;
  }

  pub gives_token : (id : ℕ) (v : View) → hand_in v.right ≡ None → Splits (Kept bounds) id v (lacking v) (bearer v)
  gives_token id v free s r at = let f = r.each_view id v at in let m : ℕ = length s.views in let holder' : ℕ → ℕ = moved v.right m r.holder in
      reviewed s r (set s.views id (lacking v) ++ bearer v ∷ []) r.seat_of r.reached holder' r.known (views_split (Fits (record (r.truth) { holder = holder' })) s.views id v (lacking v) (bearer v) at
      record { seen = f.seen; knows = f.knows; told = f.told; makes = f.makes; has = tt; shown = f.shown }
      record { seen = f.seen; knows = known_before f; told = All-nil (λ m. GoesOn m (now r.log r.changes)); makes = tt; has = moved_has r.truth id m v.right f.has; shown = tt }
      (λ j d ne e. reheld r.truth holder' j (moved_else r.truth id m v.right f.has j ne) d (r.each_view j d e)))
      (views_split (λ _ u. HasDone r.deeds u) s.views id v (lacking v) (bearer v) at (has_done_as r.deeds v (lacking v) refl refl (r.each_done id v at)) (has_done_none r.deeds (bearer v) refl refl) (λ j u _ e. r.each_done j u e))
      (moved_pen v.right m r.shelf.writer_of) (let g = r.shelf.each id v at in let P : ℕ → View → Type 0 = FitsShelf bounds s.words r.log r.shelf.texts (moved_pen v.right m r.shelf.writer_of) in views_split P s.views id v (lacking v) (bearer v) at
      record { has = g.has; told = g.told; writes = tt }
      record { has = g.has; told = All-nil (λ x. x.texts ≡ texts_at r.shelf.texts x.history); writes = moved_writes bounds s.words r.log r.shelf.writer_of id m v.right g.writes }
      (λ j d ne e. fits_shelf_as bounds s.words r.log r.shelf.texts r.shelf.writer_of (moved_pen v.right m r.shelf.writer_of) j (moved_pen_else bounds s.words r.log r.shelf.writer_of id m v.right g.writes j ne) d (r.shelf.each j d e)))
      (let k = r.banks in let h = k.each id v at in split_banks bounds s.homes s.views r.log r.shelf.texts k k.lane_of id v (lacking v) (bearer v) at (sym free)
      (bank_free bounds s.homes s.views r.log r.shelf.texts k r.log k.lane_of id (lacking v) h.lane refl) (bank_moved bounds s.homes s.views r.log r.shelf.texts k k.lane_of id m v (bearer v) h (λ p mans. absurd mans) refl free) (λ j d ne g. g))

  -- two seats become one, which takes over the right of the other
  joined : (id : ℕ) (v : View) (other : ℕ) (w both : View) → both.role ≡ v.role → both.mine ≡ v.mine → both.done ≡ v.done → both.right ≡ w.right → both.seen ≡ v.seen → both.texts ≡ v.texts → ((P : Moment → Type 0) → All P v.told → P (moment_of w) → All P both.told)
      → ((b : Truth) → Fits b id v → IsBeginning w.seen b.log → w.changes ≤ b.changes → HasReached b.reached w.shown
      → IsBeginning both.seen b.log × Knows b id both.role both.changes × All (λ m. GoesOn m (now b.log b.changes)) both.told × HasReached b.reached both.shown)
      → hand_in v.right ≡ None → hand_in w.right ≡ None → Joins (Kept bounds) id v other w both spent
  joined id v other w both same_role same_mine same_done same_right same_seen same_texts tells learns free free' s r at apart there =
      let f = r.each_view id v at in
      let was : get_elem? s.views other ≡ some w = ⊎_elim (λ (t : (other ≡ id) × (both ≡ w)). absurd (apart t.0)) (λ (t : (other ≢ id) × (get_elem? s.views other ≡ some w)). t.1) (at_set s.views id other both w there) in
      let g = r.each_view other w was in
      let holder' : ℕ → ℕ = moved w.right id r.holder in
      let after : Truth = record (r.truth) { holder = holder' } in
      let K : ℕ → View → Type 0 = Fits after in
      let learned = learns r.truth f g.seen (known_before g) g.shown in
      let whole : K id both = record {
        seen = learned.0;
        knows = learned.1;
        told = learned.2;
        makes = subst (λ (z : Role × List Event). Makes r.truth id z.0 z.1) (λ i. (sym same_role i, sym same_mine i)) f.makes;
        has = subst (λ (t : Right). Has after id t) (sym same_right) (moved_has r.truth other id w.right g.has);
        shown = learned.3;
      } in
      reviewed s r (set (set s.views id both) other spent) r.seat_of r.reached holder' r.known (views_set K (set s.views id both) other spent
      record { seen = beginning_empty r.log; knows = omega arith; told = All-nil (λ m. GoesOn m (now r.log r.changes)); makes = tt; has = tt; shown = tt }
      (λ j d ne e. ⊎_elim (λ (t : (j ≡ id) × (both ≡ d)). subst (λ (x : ℕ × View). K x.0 x.1) (λ i. (sym t.0 i, t.1 i)) whole)
      (λ (t : (j ≢ id) × (get_elem? s.views j ≡ some d)). reheld r.truth holder' j (moved_else r.truth other id w.right g.has j ne) d (r.each_view j d t.1))
      (at_set s.views id j both d e)))
      (views_set (λ _ u. HasDone r.deeds u) (set s.views id both) other spent (has_done_none r.deeds spent refl refl)
      (λ j u _ e. views_set (λ _ z. HasDone r.deeds z) s.views id both (has_done_as r.deeds v both same_role same_done (r.each_done id v at)) (λ i z _ h. r.each_done i z h) j u e))
      (moved_pen w.right id r.shelf.writer_of) (let a = r.shelf.each id v at in let b = r.shelf.each other w was in let P : ℕ → View → Type 0 = FitsShelf bounds s.words r.log r.shelf.texts (moved_pen w.right id r.shelf.writer_of) in
      let mine : P id both = record {
        has = same_texts ∙ (a.has ∙ ap (texts_at r.shelf.texts) (sym same_seen));
        told = tells (λ x. x.texts ≡ texts_at r.shelf.texts x.history) a.told b.has;
        writes = subst (λ (t : Right). Writes bounds s.words r.log (moved_pen w.right id r.shelf.writer_of) id t) (sym same_right) (moved_writes bounds s.words r.log r.shelf.writer_of other id w.right b.writes);
      } in
      views_set P (set s.views id both) other spent record { has = refl; told = All-nil (λ x. x.texts ≡ texts_at r.shelf.texts x.history); writes = tt }
      (λ j d ne e. ⊎_elim (λ (t : (j ≡ id) × (both ≡ d)). subst (λ (x : ℕ × View). P x.0 x.1) (λ i. (sym t.0 i, t.1 i)) mine)
      (λ (t : (j ≢ id) × (get_elem? s.views j ≡ some d)). fits_shelf_as bounds s.words r.log r.shelf.texts r.shelf.writer_of (moved_pen w.right id r.shelf.writer_of) j (moved_pen_else bounds s.words r.log r.shelf.writer_of other id w.right b.writes j ne) d (r.shelf.each j d t.1))
      (at_set s.views id j both d e)))
      (let k = r.banks in join_banks bounds s.homes s.views r.log r.shelf.texts k id v other w both spent at was free free'
      (bank_moved bounds s.homes s.views r.log r.shelf.texts k k.lane_of other id w both (k.each other w was) (λ p mans. (k.each id v at).lane p (subst (λ z. Mans z p) same_role mans)) same_right free')
      (bank_free bounds s.homes s.views r.log r.shelf.texts k r.log k.lane_of other spent (λ p mans. absurd mans) refl))

  pub takes_token : (id : ℕ) (v : View) (other : ℕ) (w : View) → hand_in v.right ≡ None → hand_in w.right ≡ None → Joins (Kept bounds) id v other w (informed v w) spent
  takes_token id v other w free free' = joined id v other w (informed v w) refl refl refl refl refl refl (λ P a p. All-cons P (moment_of w) v.told p a) (λ b f seen known shown.
      (f.seen, f.knows, All-cons (λ m. GoesOn m (now b.log b.changes)) (moment_of w) v.told (record { history = seen; changes = known }) f.told, f.shown)) free free'

  pub hears : (id : ℕ) (v : View) (other : ℕ) (w : View) → hand_in v.right ≡ None → hand_in w.right ≡ None → Joins (Kept bounds) id v other w (hearing v w) spent
  hears id v other w free free' = joined id v other w (hearing v w) refl refl refl refl refl refl (λ P a p. All-cons P (moment_of w) v.told p a) (λ b f seen known shown.
      (f.seen, f.knows, All-cons (λ m. GoesOn m (now b.log b.changes)) (moment_of w) v.told (record { history = seen; changes = known }) f.told, shown)) free free'

  pub notes : (id : ℕ) (v : View) (other : ℕ) (w : View) → hand_in v.right ≡ None → hand_in w.right ≡ None → Joins (Kept bounds) id v other w (noting v w) spent
  notes id v other w free free' = joined id v other w (noting v w) refl refl refl refl refl refl (λ P a p. a) (λ b f seen known shown. (f.seen, f.knows, f.told, shown)) free free'

  pub regains : (id : ℕ) (v : View) (other : ℕ) (w : View) → hand_in v.right ≡ None → hand_in w.right ≡ None → Joins (Kept bounds) id v other w (regaining v w) spent
  regains id v other w free free' = joined id v other w (regaining v w) refl refl refl refl refl refl (λ P a p. a) (λ b f seen known shown. (f.seen, f.knows, f.told, f.shown)) free free'

  -- A seat shows how many changes its processor has seen. From then on the rule keeps that it has

  -- the new seat is a token's, and the others stay as they are
  shown_as : (s : State Slot View) (r : Kept bounds s) (id : ℕ) (v : View) (reached' : ℕ → ℕ) → get_elem? s.views id ≡ some v → ((p : ℕ) → r.reached p ≤ reached' p) → ((p : ℕ) → reached' p ≤ r.changes)
      → ((j : ℕ) (d : View) (p : ℕ) → get_elem? s.views j ≡ some d → d.role ≡ Cpu p → reached' p ≤ d.changes)
      → HasReached reached' (mark v.role v.changes v.shown)
      → Kept bounds record { words = s.words; homes = s.homes; views = set s.views id v ++ shower v ∷ [] }
  shown_as s r id v reached' at more most keep is = let f = r.each_view id v at in
      reviewed s r (set s.views id v ++ shower v ∷ []) r.seat_of reached' r.holder most (views_split (Fits (record (r.truth) { reached = reached' })) s.views id v v (shower v) at
      (reached_more r.truth reached' id more v (λ p cpu. keep id v p at cpu) f)
      record { seen = f.seen; knows = known_before f; told = All-nil (λ m. GoesOn m (now r.log r.changes)); makes = tt; has = tt; shown = is }
      (λ j d ne e. reached_more r.truth reached' j more d (λ p cpu. keep j d p e cpu) (r.each_view j d e)))
      (views_split (λ _ u. HasDone r.deeds u) s.views id v v (shower v) at (r.each_done id v at) (has_done_none r.deeds (shower v) refl refl) (λ j u _ e. r.each_done j u e))
      r.shelf.writer_of (let g = r.shelf.each id v at in views_split (FitsShelf bounds s.words r.log r.shelf.texts r.shelf.writer_of) s.views id v v (shower v) at g
      record { has = g.has; told = All-nil (λ x. x.texts ≡ texts_at r.shelf.texts x.history); writes = tt } (λ j d _ e. r.shelf.each j d e))
      (let k = r.banks in split_banks bounds s.homes s.views r.log r.shelf.texts k k.lane_of id v v (shower v) at refl (k.each id v at) (bank_free bounds s.homes s.views r.log r.shelf.texts k r.log k.lane_of (length s.views) (shower v) (λ p mans. absurd mans) refl) (λ j d ne g. g))

  -- what is known of a processor it has seen
  knows_reached : (s : State Slot View) (r : Kept bounds s) (j : ℕ) (d : View) (p : ℕ) → get_elem? s.views j ≡ some d → d.role ≡ Cpu p → r.reached p ≤ d.changes
  knows_reached s r j d p at is = (knows_at (r.each_view j d at) is).0

  seated_at : (s : State Slot View) (r : Kept bounds s) (j : ℕ) (d : View) (p : ℕ) → get_elem? s.views j ≡ some d → d.role ≡ Cpu p → r.seat_of p ≡ j
  seated_at s r j d p at is = (makes_at (r.each_view j d at) is).0

  same_view : (s : State Slot View) (j k : ℕ) (d v : View) → j ≡ k → get_elem? s.views j ≡ some d → get_elem? s.views k ≡ some v → d ≡ v
  same_view s j k d v jk a b = some-injective d v (sym a ∙ (ap (get_elem? s.views) jk ∙ b))

  pub shows_as : (id : ℕ) (v : View) (m : Role) → v.role ≡ m → Splits (Kept bounds) id v v (shower v)
  shows_as id v (Cpu p) is s r at =
      let reached' : ℕ → ℕ = given p v.changes r.reached in
      let here : reached' p ≡ v.changes = given_here p v.changes r.reached in
      let before : v.changes ≤ r.changes = known_before (r.each_view id v at) in
      let low : r.reached p ≤ v.changes = knows_reached s r id v p at is in
      shown_as s r id v reached' at
      (λ q. dite (ℕ_discrete q p) (λ qp. let same = ap reached' qp in let old = ap r.reached qp in omega (arith, here, low, same, old)) (λ n. let same = given_else p v.changes r.reached q n in omega (arith, same)))
      (λ q. dite (ℕ_discrete q p) (λ qp. let same = ap reached' qp in omega (arith, here, before, same)) (λ n. let same = given_else p v.changes r.reached q n in let most = r.known q in omega (arith, same, most)))
      (λ j d q e cpu. dite (ℕ_discrete q p)
      (λ qp. let there : j ≡ id = sym (seated_at s r j d q e cpu) ∙ (ap r.seat_of qp ∙ seated_at s r id v p at is) in
      let alike = ap (λ (z : View). z.changes) (same_view s j id d v there e at) in let same = ap reached' qp in omega (arith, same, here, alike))
      (λ n. let same = given_else p v.changes r.reached q n in let below = knows_reached s r j d q e cpu in omega (arith, same, below)))
      (subst (λ (m : Role). HasReached reached' (mark m v.changes v.shown)) (sym is) (omega (arith, here)))
  shows_as id v _ is s r at = shown_as s r id v r.reached at (λ p. omega arith) r.known (knows_reached s r) (subst (λ (m : Role). HasReached r.reached (mark m v.changes v.shown)) (sym is) (r.each_view id v at).shown)

  pub shows : (id : ℕ) (v : View) → Splits (Kept bounds) id v v (shower v)
  shows id v = shows_as id v v.role refl

  -- Dealing

  reseated : (b : Truth) (seat_of' : ℕ → ℕ) (j : ℕ) → ((p : ℕ) → b.seat_of p ≡ j → seat_of' p ≡ j) → (m : Role) (mine : List Event) → Makes b j m mine → Makes (record b { seat_of = seat_of' }) j m mine
  reseated b seat_of' j same Bearer mine h = tt
  reseated b seat_of' j same (Cpu p) mine h = (same p h.0, h.1)
  reseated b seat_of' j same (Driver k) mine h = (h.0, h.1, λ p le. (same p (h.2 p le).0, (h.2 p le).1))

  pub deals : (id : ℕ) (v : View) (k : ℕ) → v.role ≡ Driver k → hand_in v.right ≡ None → Splits (Kept bounds) id v (dealer v) (dealt v)
  deals id v k is free s r at =
      let f = r.each_view id v at in
      let m : ℕ = length s.views in
      let seat_of' : ℕ → ℕ = given k m r.seat_of in
      let after : Truth = record (r.truth) { seat_of = seat_of' } in
      let made = makes_at f is in
      let known : v.changes ≡ r.changes = knows_at f is in
      let next : (r.seat_of k ≡ id) × (made_by (Processor k) r.log ≡ []) = made.2 k (omega arith) in
      reviewed s r (set s.views id (dealer v) ++ dealt v ∷ []) seat_of' r.reached r.holder r.known (views_split (Fits after) s.views id v (dealer v) (dealt v) at
      record {
        seen = f.seen;
        knows = subst (λ (x : Role). Knows r.truth id (without_next x) v.changes) (sym is) known;
        told = f.told;
        makes = subst (λ (x : Role). Makes after id (without_next x) v.mine) (sym is)
            (made.0, made.1, λ p le. (given_else k m r.seat_of p (λ h. omega arith) ∙ (made.2 p (omega arith)).0, (made.2 p (omega arith)).1));
        has = f.has;
        shown = f.shown;
      }
      record {
        seen = f.seen;
        knows = subst (λ (x : Role). Knows r.truth m (next_role x) v.changes) (sym is) (let most = r.known k in (omega (arith, most, known), omega (arith, known)));
        told = All-nil (λ m. GoesOn m (now r.log r.changes));
        makes = subst (λ (x : Role). Makes after m (next_role x) []) (sym is) (given_here k m r.seat_of, sym next.1);
        has = tt;
        shown = tt;
      }
      (λ j d ne e. let u = r.each_view j d e in record {
        seen = u.seen;
        knows = u.knows;
        told = u.told;
        makes = reseated r.truth seat_of' j (λ p h. given_else k m r.seat_of p (λ pk. ne (sym h ∙ (ap r.seat_of pk ∙ next.0))) ∙ h) d.role d.mine u.makes;
        has = u.has;
        shown = u.shown;
      }))
      (let g = r.each_done id v at in views_split (λ _ u. HasDone r.deeds u) s.views id v (dealer v) (dealt v) at
      record { upto = g.upto; own = λ n h. g.own n (still_stands k v.role n is h) }
      record { upto = g.upto; own = λ n h. g.own n (stood_before k v.role n is h) }
      (λ j u _ e. r.each_done j u e))
      r.shelf.writer_of (let g = r.shelf.each id v at in views_split (FitsShelf bounds s.words r.log r.shelf.texts r.shelf.writer_of) s.views id v (dealer v) (dealt v) at
      record { has = g.has; told = g.told; writes = g.writes } record { has = g.has; told = All-nil (λ x. x.texts ≡ texts_at r.shelf.texts x.history); writes = tt } (λ j d _ e. r.shelf.each j d e))
      (deal_banks bounds s.homes s.views r.log r.shelf.texts r.banks id k v (dealer v) (dealt v) at is refl (ap without_next is) (ap next_role is) refl free)
    where
      fewer : (k : ℕ) (n : Maker) → StandsFor (Driver (k + 1)) n → StandsFor (Driver k) n
      fewer k Engine h = tt
      fewer k (Processor p) h = omega (arith, h)

      still_stands : (k : ℕ) (role : Role) (n : Maker) → role ≡ Driver k → StandsFor (without_next role) n → StandsFor role n
      still_stands k role n is h = subst (λ (z : Role). StandsFor z n) (sym is) (fewer k n (subst (λ (z : Role). StandsFor (without_next z) n) is h))

      next_one : (k : ℕ) (n : Maker) → n ≡ Processor k → StandsFor (Driver k) n
      next_one k n h = subst (λ (z : Maker). StandsFor (Driver k) z) (sym h) (omega arith)

      stood_before : (k : ℕ) (role : Role) (n : Maker) → role ≡ Driver k → StandsFor (next_role role) n → StandsFor role n
      stood_before k role n is h = subst (λ (z : Role). StandsFor z n) (sym is) (next_one k n (subst (λ (z : Role). StandsFor (next_role z) n) is h))

  -- the seat of the next cell's writer
  pub deals_pen : (id : ℕ) (v : View) (c : ℕ) → v.right ≡ Undealt c → c < bounds.cells → Splits (Kept bounds) id v (pen_dealer v) (pen_dealt v)
  deals_pen id v c is lc s r at =
      let f = r.each_view id v at in
      let g = r.shelf.each id v at in
      let m : ℕ = length s.views in
      let undealt : Writes bounds s.words r.log r.shelf.writer_of id (Undealt c) = subst (λ (t : Right). Writes bounds s.words r.log r.shelf.writer_of id t) is g.writes in
      let writer' : ℕ → ℕ = given c m r.shelf.writer_of in
      let first = undealt c (omega arith) in
      reviewed s r (set s.views id (pen_dealer v) ++ pen_dealt v ∷ []) r.seat_of r.reached r.holder r.known (views_split (Fits r.truth) s.views id v (pen_dealer v) (pen_dealt v) at
      record { seen = f.seen; knows = f.knows; told = f.told; makes = f.makes; has = subst (λ (t : Right). Has r.truth id (without_cell t)) (sym is) tt; shown = f.shown }
      record { seen = f.seen; knows = known_before f; told = All-nil (λ x. GoesOn x (now r.log r.changes)); makes = tt; has = subst (λ (t : Right). Has r.truth m (next_cell t)) (sym is) tt; shown = tt }
      (λ j d _ e. r.each_view j d e))
      (views_split (λ _ u. HasDone r.deeds u) s.views id v (pen_dealer v) (pen_dealt v) at (has_done_as r.deeds v (pen_dealer v) refl refl (r.each_done id v at)) (has_done_none r.deeds (pen_dealt v) refl refl) (λ j u _ e. r.each_done j u e))
      writer' (views_split (FitsShelf bounds s.words r.log r.shelf.texts writer') s.views id v (pen_dealer v) (pen_dealt v) at
      record {
        has = g.has;
        told = g.told;
        writes = subst (λ (t : Right). Writes bounds s.words r.log writer' id (without_cell t)) (sym is) (λ d le. let n = undealt d (omega (arith, le)) in record { writer = given_else c m r.shelf.writer_of d (λ e. omega (arith, e, le)) ∙ n.writer; unput = n.unput; zeros = n.zeros });
      }
      record {
        has = g.has;
        told = All-nil (λ x. x.texts ≡ texts_at r.shelf.texts x.history);
        writes = subst (λ (t : Right). Writes bounds s.words r.log writer' m (next_cell t)) (sym is) record {
          writer = given_here c m r.shelf.writer_of;
          cell = lc;
          upto = beginning_empty r.log;
          all = first.unput;
          long = length-replicate {A = ℕ} 128 0;
          stored = λ x i lx li. first.zeros x i lc lx li ∙ sym (get_or-replicate 128 (16 * x + i) 0 0 (omega (arith, lx, li)));
        };
      }
      (λ j d ne e. fits_shelf_as bounds s.words r.log r.shelf.texts r.shelf.writer_of writer' j (λ b h. given_else c m r.shelf.writer_of b (λ bc. ne (sym h ∙ (ap r.shelf.writer_of bc ∙ first.writer))) ∙ h) d (r.shelf.each j d e)))
      (let k = r.banks in let b = k.each id v at in split_banks bounds s.homes s.views r.log r.shelf.texts k k.lane_of id v (pen_dealer v) (pen_dealt v) at
      (ap (λ z. hand_in (without_cell z)) is ∙ sym (ap hand_in is)) (bank_plans bounds s.homes s.views r.log r.shelf.texts k k.lane_of id id v (pen_dealer v) b b.lane (ap (λ z. section_in (without_cell z)) is) (ap (λ z. hand_in (without_cell z)) is)
      (λ d q i. let h : PlanIn (Undealt (c + 1)) d q = subst (λ z. PlanIn (without_cell z) d q) is i in let le = h.0 in subst (λ z. PlanIn z d q) (sym is) (omega (arith, le), h.1)))
      (bank_plans bounds s.homes s.views r.log r.shelf.texts k k.lane_of id m v (pen_dealt v) b (λ p mans. absurd mans) (ap (λ z. section_in (next_cell z)) is) (ap (λ z. hand_in (next_cell z)) is)
      (λ d q i. let h : PlanIn (Shelf c (replicate 128 0) [] no_plan) d q = subst (λ z. PlanIn (next_cell z) d q) is i in let e = h.0 in subst (λ z. PlanIn z d q) (sym is) (omega (arith, e), sym h.1))) (λ j d ne g. g))

  abbrev new_truth : Truth
  new_truth = record { log = []; changes = 0; seat_of = λ _. 0; reached = λ _. 0; holder = λ _. 0; engine = 0 }

  first_view : (j : ℕ) (d : View) → get_elem? (founder bounds ∷ []) j ≡ some d → Fits new_truth j d
  first_view zero d e = subst (λ (v : View). Fits new_truth 0 v) (some-injective (founder bounds) d e) record {
    seen = beginning_empty [];
    knows = refl;
    told = All-nil (λ m. GoesOn m (now [] 0));
    makes = (refl, refl, λ p _. (refl, refl));
    has = tt;
    shown = omega arith;
  }
  first_view (suc j) d e = absurd (some-ne-none d (sym e))

  first_done : (j : ℕ) (d : View) → get_elem? (founder bounds ∷ []) j ≡ some d → HasDone [] d
  first_done zero d e = subst (λ (v : View). HasDone [] v) (some-injective (founder bounds) d e) record { upto = upto_empty []; own = λ m _. refl }
  first_done (suc j) d e = absurd (some-ne-none d (sym e))

  first_shelf : (words : List ℕ) → ((k : ℕ) → get_or words k 0 ≡ 0) → (j : ℕ) (d : View) → get_elem? (founder bounds ∷ []) j ≡ some d → FitsShelf bounds words [] [] (λ _. 0) j d
  first_shelf words zeros zero d e = subst (λ (v : View). FitsShelf bounds words [] [] (λ _. 0) 0 v) (some-injective (founder bounds) d e) record {
    has = refl;
    told = All-nil (λ x. x.texts ≡ texts_at [] x.history);
    writes = λ c _. record { writer = refl; unput = refl; zeros = λ x i _ _ _. zeros (word_place bounds.processors c x i) };
  }
  first_shelf words zeros (suc j) d e = absurd (some-ne-none d (sym e))

  bank_blank : (x : ℕ) → bank_of no_plan x ≡ no_bank
  bank_blank x = blank 8 x
    where
      blank : (n i : ℕ) → get_or (replicate n no_bank) i no_bank ≡ no_bank
      blank zero i = refl
      blank (suc n) zero = refl
      blank (suc n) (suc i) = blank n i

  abbrev no_books : Books
  no_books = record { vault_of = λ _. no_domain; keys = λ _. 0; units = []; stock = λ _. 0; handed = λ _. 0; laid = λ _. 0; round = λ _. 0 }

  plan_new : (c : ℕ) → IsPlan [] (λ _. no_domain) (λ _. 0) (λ _. 0) (λ _. 0) (λ _. 0) c no_plan
  plan_new c = record {
    eight = length-replicate {A = Bank} 8 no_bank;
    laid_keys = refl;
    vault = λ some_keys. refl;
    totals = λ x lx. ap (λ (k : Bank). k.laid) (bank_blank x);
    rounds = λ x lx more. absurd (omega (arith, more));
    some = λ x p lc lx lt. let e = ap (λ (k : Bank). k.each) (bank_blank x) in absurd (omega (arith, lt, e));
    empty = λ x p lc lx lt. refl;
    rests = λ x lx lt. let e = ap (λ (k : Bank). k.emptied) (bank_blank x) in absurd (omega (arith, lt, e));
  }

  first_bank : (j : ℕ) (d : View) → get_elem? (founder bounds ∷ []) j ≡ some d → FitsBank bounds.processors [] no_books (λ _. 0) j d
  first_bank zero d e = subst (λ (v : View). FitsBank bounds.processors [] no_books (λ _. 0) 0 v) (some-injective (founder bounds) d e) record {
    lane = λ p le. refl;
    section = λ s is. absurd (omega (arith, is));
    plan = λ c q is. subst (IsPlan [] (λ _. no_domain) (λ _. 0) (λ _. 0) (λ _. 0) (λ _. 0) c) (sym is.1) (plan_new c);
    holds = λ h is. absurd cc;
    reads = λ h s is i. absurd cc;
    writes = λ h c q is i. absurd cc;
  }
  first_bank (suc j) d e = absurd (some-ne-none d (sym e))

  some_key : (j : ℕ) (l : List Slot) → j < length l → (b : Slot) × (get_elem? l j ≡ some b)
  some_key j [] lt = absurd (omega (arith, lt))
  some_key zero (b ∷ bs) lt = (b, refl)
  some_key (suc j) (b ∷ bs) lt = some_key j bs (omega (arith, lt))

  -- a table whose words are all 0 has an empty history
  pub opens : (words : List ℕ) (keys : List Slot) → length words ≡ word_count bounds.processors bounds.cells → ((k : ℕ) → get_or words k 0 ≡ 0) → length keys ≡ 32 * bounds.processors → AreSmall bounds → Kept bounds (opening words keys (founder bounds))
  opens words keys wide zeros long small = record {
    truth = new_truth;
    known = λ p. omega arith;
    small = small;
    within = record { legal = tt; makers = All-nil (HasItsMaker bounds.processors); limited = λ p i. omega arith; periods = omega arith };
    words = agrees_new bounds.processors words (omega (arith, wide)) zeros;
    each_view = first_view;
    deeds = [];
    done = record { words = All-nil (λ d. IsTrueOf d.at d.step); ordered = tt; until = All-nil (λ d. GoesOn d.at (now [] 0)) };
    each_done = first_done;
    shelf = record { texts = []; writer_of = λ _. 0; room = wide; shelved = shelved_new bounds words zeros; each = first_shelf words zeros; loaded = All-nil (λ d. IsTrueWord [] [] d.step) };
    banks = record {
      books = no_books;
      lane_of = λ _. 0;
      wide = length-map keys (λ (k : Slot). some k) ∙ long;
      home = λ y p ly lp _. let k = some_key (key_place y p) keys (omega (arith, ly, lp, long)) in (k.0, (λ keyed. absurd (omega (arith, keyed))), at_map (λ (k : Slot). some k) keys (key_place y p) k.0 k.1);
      bare = λ y p ly le. refl;
      hands = λ i j e. absurd (omega (arith, e));
      lent = All-nil (λ u. IsLent [] (λ _. 0) u);
      sums = λ y ly. total_zero bounds.processors;
      most = λ y ly. omega arith;
      vaults = All-nil (HasVault (λ _. no_domain) (λ _. 0));
      one_vault = no_vault;
      offers = λ c x lc lx. inr record { total = refl; rounds = λ more. absurd (omega (arith, more)); some = λ ly p lt. absurd (omega (arith, lt)) };
      each = λ j d e. first_bank j d e;
    };
  }
