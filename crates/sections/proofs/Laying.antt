-- The writer of a cell lays parts with the keys of a slot that nobody can read, and takes them all back.
use Rattle.std.proofs.Common.{◌≡◌, ℕ, suc, ◌+◌, ◌-◌, ◌*◌, ◌/◌, ◌%◌, ◌<◌, ◌≤◌, ◌≢◌, inl, inr, ⊎_elim, List, [], ◌∷◌, Option, Some, None, set, cond, eqb, refl, sym, ap, ◌∙◌, subst, eq-eqb, ne_eqb, arith, length-set}
use mathlib.Core.Logic.{dite}
use mathlib.Core.Option.{some, none}
use native.Mathlib.Decide.{ℕ_discrete}
use lib.ListN.{get_elem?}
use lib.Seq.{set-get_or}
use Rattle.atomic_table.specs.Table.{State, step, takes, gives, Allows, rest}
use Rattle.atomic_table.specs.Seated.{TableId}
use Rattle.vault.specs.Keys.{IsKey}
use Rattle.vault.specs.Rule.{key_of}
use Rattle.onedom.specs.declared.event.Event.{Event}
use Rattle.onedom.specs.Histories.{finds_of, shelved, IsClear}
use Rattle.sections.specs.Glossary.{Slot, Bounds, Lent, Hand, Bank, Plan, Right, View, many, offer_of, HasShelf, key_place, vault_place, place_of, IsKeyed, is_at, hand_in, bank_of, with_bank, PlanIn, vault_in, IsLent, IsPlan, HasVault, IsOffered, Books, HoldsKey, Kept, Sat, hand_with, HandlesKey, handled, bank_laid, laid_more, bank_emptied, emptied, HandlesBare, handled_bare, equipped}
use Rattle.sections.specs.declared.view.Right.TheVariants.{Shelf}
use Rattle.sections.specs.Banks.{HasMet}
use Rattle.sections.proofs.Counting.{put, put_here, put_else, lane_else, at_most, sum_same, sum_zero, All_in, All_other, many_none}
use Rattle.sections.proofs.Banking.{no_some, All_but}
use Rattle.sections.proofs.Offering.{bank_here, bank_else, others_apart}
use Rattle.sections.proofs.Giving.{same_some, take_bank, give_bank, at_home, writers}
use Rattle.sections.proofs.Writing.{clear_quiet, same_shelf_right, has_shelf}
use Rattle.sections.proofs.Taking.{rebanked, opened_there, Ready, sum_here, gives_back, first_key, first_round, first_count}

module _ {bounds : Bounds} (s : State Slot View) (r : Kept bounds s) (id : ℕ) (v : View) (at : get_elem? s.views id ≡ some v) (c : ℕ) (own : List ℕ) (h : List Event) (q : Plan) (right : v.right ≡ Shelf c own h q) where
  pub shelf_is : HasShelf bounds s.words r.log r.shelf.writer_of id c own h
  shelf_is = has_shelf bounds s r id v c own h q at right

  pub plan_is : IsPlan r.log r.banks.books.vault_of r.banks.books.keys r.banks.books.stock r.banks.books.laid r.banks.books.round c q
  plan_is = (r.banks.each id v at).plan c q (subst (λ z. PlanIn z c q) (sym right) (refl, refl))

  pub clear_now : (x : ℕ) → IsClear h c x → IsClear r.log c x
  clear_now x clear = clear_quiet c x h r.log shelf_is.upto r.within.legal shelf_is.all clear

  met_at : (t y x : ℕ) → x < 8 → y ≡ 8 * c + x → HasMet r.log t y → 0 < finds_of t c x r.log
  met_at t y x lx e met = subst (λ (z : ℕ × ℕ). 0 < finds_of t z.0 z.1 r.log) (λ i. ((let d : y / 8 ≡ c = omega (arith, e, lx) in d) i, (let d : y % 8 ≡ x = omega (arith, e, lx) in d) i)) met

  unlent : (x : ℕ) → x < 8 → IsClear r.log c x → (u : Lent) → IsLent r.log r.banks.books.round u → u.slot ≡ 8 * c + x → ⊥
  unlent x lx clear u a e = let none = clear.unread u.section a.opened in let met = met_at u.section u.slot x lx e a.met in omega (arith, none, met)

  -- no part of a slot is out that nobody can read
  pub none_out : (x : ℕ) → x < 8 → IsClear r.log c x → many (is_at (8 * c + x)) r.banks.books.units ≡ 0
  none_out x lx clear = many_none (is_at (8 * c + x)) r.banks.books.units (λ u i. ne_eqb u.slot (8 * c + x) (unlent x lx clear u (All_in (IsLent r.log r.banks.books.round) u r.banks.books.units r.banks.lent i)))

-- a plan with another hand
plan_with_hand : (log : List Event) (k : Books) (c : ℕ) (q : Plan) (z : Option Hand) → IsPlan log k.vault_of k.keys k.stock k.laid k.round c q → IsPlan log k.vault_of k.keys k.stock k.laid k.round c (record q { hand = z })
plan_with_hand log k c q z a = record { eight = a.eight; laid_keys = a.laid_keys; vault = a.vault; totals = a.totals; rounds = a.rounds; some = a.some; empty = a.empty; rests = a.rests }

abbrev put_vault : (ℕ → TableId) → ℕ → TableId → ℕ → TableId
put_vault f c z e = cond (eqb e c) z (f e)

vault_here : (f : ℕ → TableId) (c : ℕ) (z : TableId) (e : ℕ) → e ≡ c → put_vault f c z e ≡ z
vault_here f c z e is = ap (λ b. cond b z (f e)) (eq-eqb e c is)

vault_else : (f : ℕ → TableId) (c : ℕ) (z : TableId) (e : ℕ) → e ≢ c → put_vault f c z e ≡ f e
vault_else f c z e ne = ap (λ b. cond b z (f e)) (ne_eqb e c ne)

module _ (bounds : Bounds) where
  handles_at : (slots id c x p : ℕ) (own : List ℕ) (h : List Event) (q : Plan) (me : Sat) → me.0.right ≡ Shelf c own h q → q.hand ≡ None → IsClear h c x → x < 8 → bounds.cells ≤ 4 → p < bounds.processors → 8 * p + x < q.keys
      → Allows (Kept bounds) slots id me (8 * c + x) (λ z. z) (handled p (step slots (8 * c + x) 0 0 none) me)
  handles_at slots id c x p own h q me right free clear lx few lp laid_key s r _ at _ = let v : View = me.0 in let b = r.banks in let k = b.books in let g = b.each id v at in let y : ℕ = 8 * c + x in
      let has = shelf_is s r id v at c own h q right in let lc = has.cell in let ly : y < 32 = omega (arith, lc, few, lx) in let a = plan_is s r id v at c own h q right in let empty = clear_now s r id v at c own h q right x clear in
      let yc : y / 8 ≡ c = omega (arith, lx) in let yx : y % 8 ≡ x = omega (arith, lx) in
      let keyed : IsKeyed k.keys y p = (let m = a.laid_keys in let e = ap k.keys yc in omega (arith, laid_key, m, e, yx)) in
      let clear_y : IsClear r.log (y / 8) (y % 8) = subst (λ (z : ℕ × ℕ). IsClear r.log z.0 z.1) (λ i. (sym yc i, sym yx i)) empty in
      let free_v : hand_in v.right ≡ None = ap hand_in right ∙ free in
      let home = at_home bounds s.homes s.views r.log r.shelf.texts b id y p v at free_v
      (writers bounds s.homes s.views r.log r.shelf.texts b id y p ly (λ _. clear_y) (λ j d a e is. opened_there bounds s r j d a e is) (λ j d ne e f u is same. others_apart s r id c has.writer j d ne e f u is (same ∙ yc))) in
      let there = b.home y p ly lp home in let key = there.0 in let opens = there.1 keyed in let count : ℕ = k.stock (key_place y p) in let g' : Hand = hand_with y p key count opens.0 in
      let q' : Plan = record q { hand = Some g' } in let right' : Right = Shelf c own h q' in let w : View = record v { right = right' } in
      let base : HandlesKey c x p own h q me (w, (key_place y p, key) ∷ me.1) = record {
        key = key;
        count = count;
        round = opens.0;
        opens = subst (λ (z : TableId × ℕ). IsKey z.0 z.1 count opens.0 key) (λ i. ((ap k.vault_of yc ∙ sym (a.vault (omega (arith, laid_key)))) i, (let e : vault_place y p ≡ 8 * p + x = omega (arith, lx) in e) i)) opens.1;
        few = let sums = b.sums y ly in let one = at_most bounds.processors p (λ z. k.stock (key_place y z)) lp in let total = a.totals x lx in omega (arith, sums, one, total);
        rounds = λ more. let sums = b.sums y ly in let one = at_most bounds.processors p (λ z. k.stock (key_place y z)) lp in opens.2 more ∙ sym (a.rounds x lx (omega (arith, sums, one, more)));
        after = refl;
      } in (
        w,
        takes (key_place y p) key,
        there.2,
        subst (λ (ws : List ℕ). Kept bounds record { words = ws; homes = set s.homes (key_place y p) none; views = set s.views id w }) (sym (set-get_or s.words y 0))
            (rebanked bounds s r id v right' (set s.homes (key_place y p) none) at tt has
            (take_bank bounds s.homes s.views r.log r.shelf.texts b id y p v w g' at free_v ly lp home refl refl record {
              lane = g.lane;
              section = λ z is. absurd (omega (arith, is));
              plan = λ d u is. subst (λ (z : ℕ × Plan). IsPlan r.log k.vault_of k.keys k.stock k.laid k.round z.0 z.1) (λ i. (is.0 i, is.1 i)) (plan_with_hand r.log k c q (Some g') a);
              holds = λ z e. subst (HoldsKey bounds.processors k.vault_of k.keys k.stock (put k.handed (key_place y p) (suc id)) k.round id) (same_some g' z e)
                  record { slot = ly; processor = lp; handed_out = put_here k.handed (key_place y p) (suc id) (key_place y p) refl; counts = refl; rounds = opens.2; of = λ _. opens.1.0 };
              reads = λ z a e is. absurd (omega (arith, is));
              writes = λ z d u e is. subst (λ (m : Hand). (m.slot / 8 ≡ d) × (IsKeyed k.keys m.slot m.processor → IsClear r.log d (m.slot % 8))) (same_some g' z e) (yc ∙ is.0, λ _. subst (λ (m : ℕ × ℕ). IsClear r.log m.0 m.1) (λ i. (is.0 i, sym yx i)) empty);
            })),
        λ c' x' own' h' q2 right'' lx' word. let same = same_shelf_right c c' own own' h h' q q2 (sym right ∙ right'') in let cc' = same.0 in let xx : x ≡ x' = omega (arith, word, cc', lx, lx') in
            subst (λ (z : ℕ × ℕ × List ℕ × List Event × Plan). HandlesKey z.0 z.1 p z.2 z.3 z.4 me (w, (key_place y p, key) ∷ me.1)) (λ i. (same.0 i, xx i, same.1 i, same.2 i, same.3 i)) base,
      )

  pub handles_here : (slots id y c x p : ℕ) (own : List ℕ) (h : List Event) (q : Plan) (me : Sat) → me.0.right ≡ Shelf c own h q → q.hand ≡ None → IsClear h c x → x < 8 → bounds.cells ≤ 4 → p < bounds.processors → 8 * p + x < q.keys → y ≡ 8 * c + x
      → Allows (Kept bounds) slots id me y (λ z. z) (handled p (step slots y 0 0 none) me)
  handles_here slots id y c x p own h q me right free clear lx few lp laid_key is = subst (λ z. Allows (Kept bounds) slots id me z (λ z. z) (handled p (step slots z 0 0 none) me)) (sym is) (handles_at slots id c x p own h q me right free clear lx few lp laid_key)

  -- the writer gives back a key, and so many parts of the slot are there then
  settle : (s : State Slot View) (r : Kept bounds s) (id c x count round n r' : ℕ) (own : List ℕ) (h : List Event) (q : Plan) (g : Hand) (key : Slot) (b' : Bank) (v : View) → get_elem? s.views id ≡ some v → v.right ≡ Shelf c own h q → q.hand ≡ Some g → x < 8 → g.slot ≡ 8 * c + x
      → IsKeyed r.banks.books.keys g.slot g.processor → Ready bounds g key count round → (0 < count → round ≡ r') → n + g.count ≡ r.banks.books.laid (8 * c + x) + count → n ≤ 9223372036854775808
      → ((p : ℕ) → p < bounds.processors → p ≢ g.processor → 0 < r.banks.books.stock (key_place (8 * c + x) p) → r.banks.books.round (8 * c + x) ≡ r')
      → b'.laid ≡ n → (0 < n → b'.round ≡ r') → ((p : ℕ) → p < b'.each → 0 < put r.banks.books.stock (place_of g) count (key_place (8 * c + x) p)) → ((p : ℕ) → p < b'.emptied → put r.banks.books.stock (place_of g) count (key_place (8 * c + x) p) ≡ 0)
      → Kept bounds record { words = s.words; homes = set s.homes (place_of g) (some key); views = set s.views id (record v { right = Shelf c own h (with_bank q x b') }) }
  settle s r id c x count round n r' own h q g key b' v at right hand lx slot keyed ready rounds total fit like laid_is round_is some_is empty_is = let b = r.banks in let k = b.books in let y : ℕ = 8 * c + x in let f = b.each id v at in
      let has = shelf_is s r id v at c own h q right in let a = plan_is s r id v at c own h q right in let eight = a.eight in let held = ap hand_in right ∙ hand in let had = f.holds g held in let low = had.slot in let w_at = f.writes g c q held (subst (λ z. PlanIn z c q) (sym right) (refl, refl)) in
      let clear : IsClear r.log c x = subst (IsClear r.log c) (let e : g.slot % 8 ≡ x = omega (arith, slot, lx) in e) (w_at.1 keyed) in
      let q' : Plan = with_bank q x b' in let w : View = record v { right = Shelf c own h q' } in let laid' : ℕ → ℕ = put k.laid y n in let round' : ℕ → ℕ = put k.round y r' in
      let here : (z : ℕ) → z ≡ x → bank_of q' z ≡ b' = λ z e. bank_here q x z b' e (omega (arith, lx, eight)) in let none = none_out s r id v at c own h q right x lx clear in
      let round_else : (z : ℕ) → z ≢ y → round' z ≡ k.round z = λ z ne. put_else k.round y r' z ne in let round_here : round' g.slot ≡ r' = put_here k.round y r' g.slot slot in
      rebanked bounds s r id v (Shelf c own h q') (set s.homes (place_of g) (some key)) at tt has
      (give_bank bounds s.homes s.views r.log r.shelf.texts b id count k.units laid' round' k.keys k.vault_of g key v w at held refl (round, (ready.0 ∙ had.of keyed, ready.1), λ more. rounds more ∙ sym round_here)
      (λ z p lz ne keyed'. (keyed', refl)) (λ e. omega arith) (λ le. absurd (omega (arith, keyed, le)))
      (λ z p lz lp ne more. dite (ℕ_discrete z y)
      (λ e. ap k.round e ∙ (like p lp (λ same. ne (omega (arith, same, e, slot))) (subst (λ m. 0 < k.stock (key_place m p)) e more) ∙ sym (put_here k.round y r' z e)))
      (λ ne'. sym (round_else z ne')))
      (All_other (IsLent r.log k.round) (IsLent r.log round') k.units (λ u _ l. record { opened = l.opened; met = l.met; rounds = l.rounds ∙ sym (round_else u.slot (unlent s r id v at c own h q right x lx clear u l)) }) b.lent)
      (λ z lz. let old = b.sums z lz in dite (ℕ_discrete z y)
      (λ e. let m = sum_here bounds bounds.processors count z g k.stock had.processor (e ∙ sym slot) in let l = put_here k.laid y n z e in let t = ap k.laid e in let counts = had.counts in omega (arith, m, l, t, old, counts, total))
      (λ ne. let m = lane_else bounds.processors g.slot g.processor count z k.stock had.slot lz (λ e. ne (e ∙ slot)) in let l = put_else k.laid y n z ne in omega (arith, m, l, old)))
      (λ z lz. let most = b.most z lz in dite (ℕ_discrete z y) (λ e. let l = put_here k.laid y n z e in omega (arith, l, fit)) (λ ne. let l = put_else k.laid y n z ne in omega (arith, l, most)))
      b.vaults
      (λ d z ld lz. dite (ℕ_discrete (8 * d + z) y)
      (λ e. let dc : c ≡ d = omega (arith, e, lx, lz) in let xz : x ≡ z = omega (arith, e, lx, lz) in inl (subst (λ (m : ℕ × ℕ). IsClear r.log m.0 m.1) (λ i. (dc i, xz i)) clear))
      (λ ne. ⊎_elim (λ (cl : IsClear r.log d z). inl cl)
      (λ (o : IsOffered k.stock k.laid k.round (8 * d + z) (offer_of d (shelved d z r.log) r.shelf.texts)). inr record {
        total = o.total ∙ sym (put_else k.laid y n (8 * d + z) ne);
        rounds = λ more. o.rounds (subst (λ m. 0 < m) (put_else k.laid y n (8 * d + z) ne) more) ∙ sym (round_else (8 * d + z) ne);
        some = λ lo p lt. subst (λ m. 0 < m) (sym (put_else k.stock (place_of g) count (key_place (8 * d + z) p) (λ same. ne (omega (arith, same, slot, lo, low))))) (o.some lo p lt);
      })
      (b.offers d z ld lz)))
      record {
        lane = f.lane;
        section = λ z is. absurd (omega (arith, is));
        plan = λ d u is. subst (λ (z : ℕ × Plan). IsPlan r.log k.vault_of k.keys (put k.stock (place_of g) count) laid' round' z.0 z.1) (λ i. (is.0 i, is.1 i)) record {
          eight = length-set q.banks x b' ∙ a.eight;
          laid_keys = a.laid_keys;
          vault = a.vault;
          totals = λ z lz. dite (ℕ_discrete z x)
              (λ e. ap (λ (m : Bank). m.laid) (here z e) ∙ (laid_is ∙ sym (put_here k.laid y n (8 * c + z) (omega (arith, e)))))
              (λ ne. ap (λ (m : Bank). m.laid) (bank_else q x z b' ne) ∙ (a.totals z lz ∙ sym (put_else k.laid y n (8 * c + z) (λ e. ne (omega (arith, e))))));
          rounds = λ z lz more. dite (ℕ_discrete z x)
              (λ e. ap (λ (m : Bank). m.round) (here z e) ∙ (round_is (let l = put_here k.laid y n (8 * c + z) (omega (arith, e)) in omega (arith, l, more)) ∙ sym (put_here k.round y r' (8 * c + z) (omega (arith, e)))))
              (λ ne. ap (λ (m : Bank). m.round) (bank_else q x z b' ne) ∙ (a.rounds z lz (subst (λ m. 0 < m) (put_else k.laid y n (8 * c + z) (λ e. ne (omega (arith, e)))) more) ∙ sym (round_else (8 * c + z) (λ e. ne (omega (arith, e))))));
          some = λ z p lc lz lt. dite (ℕ_discrete z x)
              (λ e. subst (λ m. 0 < put k.stock (place_of g) count (key_place (8 * c + m) p)) (sym e) (some_is p (let m = ap (λ (m : Bank). m.each) (here z e) in omega (arith, m, lt))))
              (λ ne. subst (λ m. 0 < m) (sym (put_else k.stock (place_of g) count (key_place (8 * c + z) p) (λ same. ne (omega (arith, same, slot, lc, lz, lx))))) (a.some z p lc lz (let m = ap (λ (m : Bank). m.each) (bank_else q x z b' ne) in omega (arith, m, lt))));
          empty = λ z p lc lz lt. dite (ℕ_discrete z x)
              (λ e. subst (λ m. put k.stock (place_of g) count (key_place (8 * c + m) p) ≡ 0) (sym e) (empty_is p (let m = ap (λ (m : Bank). m.emptied) (here z e) in omega (arith, m, lt))))
              (λ ne. put_else k.stock (place_of g) count (key_place (8 * c + z) p) (λ same. ne (omega (arith, same, slot, lc, lz, lx))) ∙ a.empty z p lc lz (let m = ap (λ (m : Bank). m.emptied) (bank_else q x z b' ne) in omega (arith, m, lt)));
          rests = λ z lz lt. dite (ℕ_discrete z x) (λ e. subst (IsClear r.log c) (sym e) clear) (λ ne. a.rests z lz (let m = ap (λ (m : Bank). m.emptied) (bank_else q x z b' ne) in omega (arith, m, lt)));
        };
        holds = λ z e. absurd (no_some z e);
        reads = λ z t e is. absurd (no_some z e);
        writes = λ z d u e is. absurd (no_some z e);
      }
      (λ j d ne e t is. refl)
      (λ j d ne e m u is old. let apart : m ≢ c = others_apart s r id c has.writer j d ne e m u is in let else_ : (z : ℕ) → z < 8 → 8 * m + z ≢ y = (λ z lz same. apart (omega (arith, same, lz, lx))) in record {
        eight = old.eight;
        laid_keys = old.laid_keys;
        vault = old.vault;
        totals = λ z lz. old.totals z lz ∙ sym (put_else k.laid y n (8 * m + z) (else_ z lz));
        rounds = λ z lz more. old.rounds z lz (subst (λ t. 0 < t) (put_else k.laid y n (8 * m + z) (else_ z lz)) more) ∙ sym (round_else (8 * m + z) (else_ z lz));
        some = λ z p lm lz lt. subst (λ t. 0 < t) (sym (put_else k.stock (place_of g) count (key_place (8 * m + z) p) (λ same. apart (omega (arith, same, slot, low, lm, lz, lx))))) (old.some z p lm lz lt);
        empty = λ z p lm lz lt. put_else k.stock (place_of g) count (key_place (8 * m + z) p) (λ same. apart (omega (arith, same, slot, low, lm, lz, lx))) ∙ old.empty z p lm lz lt;
        rests = old.rests;
      }))

  -- another processor than the one whose key has more was among those with some
  each_else : (p each z : ℕ) → z ≢ p → z < cond (eqb p each) (suc p) each → z < each
  each_else p each z ne lt = dite (ℕ_discrete p each) (λ e. let now = ap (λ b. cond b (suc p) each) (eq-eqb p each e) in omega (arith, now, lt, ne, e)) (λ other. let now = ap (λ b. cond b (suc p) each) (ne_eqb p each other) in omega (arith, now, lt))

  -- more parts lie with the key
  pub lays_here : (slots id n c x count round : ℕ) (own : List ℕ) (h : List Event) (q : Plan) (g : Hand) (key : Slot) (me : Sat) → me.0.right ≡ Shelf c own h q
      → q.hand ≡ Some g → x < 8 → g.slot ≡ 8 * c + x → 8 * g.processor + x < q.keys → me.1 ≡ (place_of g, key) ∷ [] → Ready bounds g key count round
      → g.count ≤ count → (0 < count → 0 < (bank_of q x).laid → round ≡ (bank_of q x).round) → (bank_of q x).laid + (count - g.count) ≤ 9223372036854775808 → 0 < count → Allows (Kept bounds) slots id me n (λ z. z) (laid_more (step slots n 0 0 none) me)
  lays_here slots id n c x count round own h q g key me right hand lx slot laid_key carried ready more like fit some_parts s r _ at _ = let v : View = me.0 in let b = r.banks in let k = b.books in let y : ℕ = 8 * c + x in let a = plan_is s r id v at c own h q right in
      let total = a.totals x lx in let held = ap hand_in right ∙ hand in let had = (b.each id v at).holds g held in let counts = had.counts in let was : ℕ = (bank_of q x).laid in let m : ℕ = was + (count - g.count) in let b' : Bank = bank_laid (bank_of q x) g.processor (count - g.count) round in
      let w : View = record v { right = Shelf c own h (with_bank q x b') } in
      let keyed : IsKeyed k.keys g.slot g.processor = (let e : g.slot / 8 ≡ c = omega (arith, slot, lx) in let e' : g.slot % 8 ≡ x = omega (arith, slot, lx) in let l = a.laid_keys in let ke = ap k.keys e in omega (arith, laid_key, l, ke, e')) in (
        w,
        gives,
        tt,
        gives_back bounds s n id (place_of g) key me.1 w carried (settle s r id c x count round m round own h q g key b' v at right hand lx slot keyed ready (λ _. refl) (omega (arith, total, more)) fit
            (λ z lz ne some_there. let sums = b.sums y (let lo = had.slot in omega (arith, lo, slot)) in let one = at_most bounds.processors z (λ i. k.stock (key_place y i)) lz in
            let pos : 0 < k.laid y = omega (arith, some_there, sums, one) in sym (a.rounds x lx pos) ∙ sym (like some_parts (omega (arith, pos, total))))
            refl (λ _. refl)
            (λ z lt. dite (ℕ_discrete z g.processor) (λ e. let now = put_here k.stock (place_of g) count (key_place y z) (omega (arith, e, slot)) in omega (arith, now, some_parts))
            (λ ne. let now = put_else k.stock (place_of g) count (key_place y z) (λ e. ne (omega (arith, e, slot))) in
            let was_some = a.some x z (let lo = had.slot in omega (arith, lo, slot)) lx (each_else g.processor (bank_of q x).each z ne lt) in omega (arith, now, was_some)))
            (λ z lt. absurd (omega (arith, lt)))),
        λ c' x' place' count' round' own' h' q2 g' key' right' hand' lx' slot' carried' ready'.
            let same = same_shelf_right c c' own own' h h' q q2 (sym right ∙ right') in let gg : g ≡ g' = same_some g g' (sym hand ∙ (ap (λ (z : Plan). z.hand) same.3 ∙ hand')) in
            let cc' = same.0 in let gs = ap (λ (z : Hand). z.slot) gg in let xx : x ≡ x' = omega (arith, slot, slot', gs, cc', lx, lx') in
            let keys : key ≡ key' = ap (first_key key) (sym carried ∙ carried') in let views = sym ready.1 ∙ (ap (λ (z : Slot). z.views) keys ∙ ready'.1) in let cs : count ≡ count' = ap first_count views in let rs : round ≡ round' = ap first_round views in
            λ i. (record v { right = Shelf (same.0 i) (same.1 i) (same.2 i) (with_bank (same.3 i) (xx i) (bank_laid (bank_of (same.3 i) (xx i)) (gg i).processor (cs i - (gg i).count) (rs i))) }, rest (carried i)),
      )

  -- no part lies with the key any more
  pub empties_here : (slots id n c x round : ℕ) (own : List ℕ) (h : List Event) (q : Plan) (g : Hand) (key : Slot) (me : Sat) → me.0.right ≡ Shelf c own h q
      → q.hand ≡ Some g → x < 8 → bounds.cells ≤ 4 → g.slot ≡ 8 * c + x → 8 * g.processor + x < q.keys → me.1 ≡ (place_of g, key) ∷ [] → Ready bounds g key 0 round
      → (bank_of q x).emptied ≡ g.processor → Allows (Kept bounds) slots id me n (λ z. z) (emptied bounds.processors (step slots n 0 0 none) me)
  empties_here slots id n c x round own h q g key me right hand lx few slot laid_key carried ready first s r _ at _ = let v : View = me.0 in let b = r.banks in
      let k = b.books in let y : ℕ = 8 * c + x in let a = plan_is s r id v at c own h q right in let has = shelf_is s r id v at c own h q right in let lc = has.cell in
      let total = a.totals x lx in let held = ap hand_in right ∙ hand in let had = (b.each id v at).holds g held in let counts = had.counts in
      let lp = had.processor in let ly : y < 32 = (let lo = had.slot in omega (arith, lo, slot)) in let b' : Bank = bank_emptied (bank_of q x) g.processor g.count in
      let w : View = record v { right = Shelf c own h (with_bank q x b') } in let m : ℕ = (bank_of q x).laid - g.count in
      let yc : g.slot / 8 ≡ c = omega (arith, slot, lx) in let yx : g.slot % 8 ≡ x = omega (arith, slot, lx) in
      let keyed : IsKeyed k.keys g.slot g.processor = (let l = a.laid_keys in let ke = ap k.keys yc in omega (arith, laid_key, l, ke, yx)) in
      let clear : IsClear r.log c x = subst (IsClear r.log c) yx (((b.each id v at).writes g c q held (subst (λ z. PlanIn z c q) (sym right) (refl, refl))).1 keyed) in
      let place : place_of g ≡ key_place y g.processor = omega (arith, slot) in
      let sums = b.sums y ly in let one = at_most bounds.processors g.processor (λ z. k.stock (key_place y z)) lp in let same_stock = ap k.stock place in
      let all_home : suc g.processor ≡ bounds.processors → (bank_of q x).laid ≡ g.count = (λ last. let none = none_out s r id v at c own h q right x lx clear in
      let zero = sum_here bounds bounds.processors 0 y g k.stock lp (sym slot) in
      let nothing = sum_zero bounds.processors (λ z. put k.stock (place_of g) 0 (key_place y z)) (λ z lz. dite (ℕ_discrete z g.processor) (λ e. put_here k.stock (place_of g) 0 (key_place y z) (omega (arith, e, slot)))
      (λ ne. put_else k.stock (place_of g) 0 (key_place y z) (λ e. ne (omega (arith, e, slot))) ∙ a.empty x z (omega (arith, lc, few)) lx (omega (arith, lz, last, ne, first)))) in
      omega (arith, none, zero, nothing, sums, total, counts)) in (
        w,
        gives,
        tt,
        gives_back bounds s n id (place_of g) key me.1 w carried
            (settle s r id c x 0 round m (k.round y) own h q g key b' v at right hand lx slot keyed ready (λ more. absurd (omega (arith, more))) (omega (arith, total, counts, sums, one, same_stock)) (let most = b.most y ly in omega (arith, most, total))
            (λ z lz ne more. refl) refl (λ more. a.rounds x lx (omega (arith, more, total))) (λ z lt. absurd (omega (arith, lt)))
            (λ z lt. dite (ℕ_discrete z g.processor) (λ e. put_here k.stock (place_of g) 0 (key_place y z) (omega (arith, e, slot)))
            (λ ne. put_else k.stock (place_of g) 0 (key_place y z) (λ e. ne (omega (arith, e, slot))) ∙ a.empty x z (omega (arith, lc, few)) lx (omega (arith, lt, ne, first))))),
        λ c' x' own' h' q2 g' right' hand' lx' slot'.
            let same = same_shelf_right c c' own own' h h' q q2 (sym right ∙ right') in let gg : g ≡ g' = same_some g g' (sym hand ∙ (ap (λ (z : Plan). z.hand) same.3 ∙ hand')) in
            let cc' = same.0 in let gs = ap (λ (z : Hand). z.slot) gg in let xx : x ≡ x' = omega (arith, slot, slot', gs, cc', lx, lx') in (
              (λ i. (record v { right = Shelf (same.0 i) (same.1 i) (same.2 i) (with_bank (same.3 i) (xx i) (bank_emptied (bank_of (same.3 i) (xx i)) (gg i).processor (gg i).count)) }, rest (carried i))),
              subst (λ (z : Hand × ℕ × Plan). suc z.0.processor ≡ bounds.processors → (bank_of z.2 z.1).laid ≡ z.0.count) (λ i. (gg i, xx i, same.3 i)) all_home,
            ),
      )

  -- a place of the cell that has no key yet is in hand
  bare_at : (slots id c x p : ℕ) (own : List ℕ) (h : List Event) (q : Plan) (me : Sat) → me.0.right ≡ Shelf c own h q → q.hand ≡ None → x < 8 → bounds.cells ≤ 4 → p < bounds.processors → q.keys ≡ 8 * p + x
      → Allows (Kept bounds) slots id me (8 * c + x) (λ z. z) (handled_bare p (step slots (8 * c + x) 0 0 none) me)
  bare_at slots id c x p own h q me right free lx few lp next s r _ at _ = let v : View = me.0 in let b = r.banks in let k = b.books in let g = b.each id v at in let y : ℕ = 8 * c + x in
      let has = shelf_is s r id v at c own h q right in let lc = has.cell in let ly : y < 32 = omega (arith, lc, few, lx) in let a = plan_is s r id v at c own h q right in
      let yc : y / 8 ≡ c = omega (arith, lx) in let yx : y % 8 ≡ x = omega (arith, lx) in
      let unkeyed : IsKeyed k.keys y p → ⊥ = (λ keyed. let m = a.laid_keys in let e = ap k.keys yc in omega (arith, keyed, next, m, e, yx)) in
      let free_v : hand_in v.right ≡ None = ap hand_in right ∙ free in
      let home = at_home bounds s.homes s.views r.log r.shelf.texts b id y p v at free_v
      (writers bounds s.homes s.views r.log r.shelf.texts b id y p ly (λ keyed. absurd (unkeyed keyed)) (λ j d a e is. opened_there bounds s r j d a e is) (λ j d ne e f u is same. others_apart s r id c has.writer j d ne e f u is (same ∙ yc))) in
      let there = b.home y p ly lp home in let key = there.0 in let nothing : k.stock (key_place y p) ≡ 0 = b.bare y p ly (let m = a.laid_keys in let e = ap k.keys yc in omega (arith, next, m, e, yx)) in
      let g' : Hand = hand_with y p key 0 0 in let q' : Plan = record q { hand = Some g' } in let right' : Right = Shelf c own h q' in let w : View = record v { right = right' } in
      let base : HandlesBare c x p own h q me (w, (key_place y p, key) ∷ me.1) = record { blank = key; after = refl } in (
        w,
        takes (key_place y p) key,
        there.2,
        subst (λ (ws : List ℕ). Kept bounds record { words = ws; homes = set s.homes (key_place y p) none; views = set s.views id w }) (sym (set-get_or s.words y 0))
            (rebanked bounds s r id v right' (set s.homes (key_place y p) none) at tt has
            (take_bank bounds s.homes s.views r.log r.shelf.texts b id y p v w g' at free_v ly lp home refl refl record {
              lane = g.lane;
              section = λ z is. absurd (omega (arith, is));
              plan = λ d u is. subst (λ (z : ℕ × Plan). IsPlan r.log k.vault_of k.keys k.stock k.laid k.round z.0 z.1) (λ i. (is.0 i, is.1 i)) (plan_with_hand r.log k c q (Some g') a);
              holds = λ z e. subst (HoldsKey bounds.processors k.vault_of k.keys k.stock (put k.handed (key_place y p) (suc id)) k.round id) (same_some g' z e)
                  record { slot = ly; processor = lp; handed_out = put_here k.handed (key_place y p) (suc id) (key_place y p) refl; counts = sym nothing; rounds = λ more. absurd (omega (arith, more)); of = λ keyed. absurd (unkeyed keyed) };
              reads = λ z a e is. absurd (omega (arith, is));
              writes = λ z d u e is. subst (λ (m : Hand). (m.slot / 8 ≡ d) × (IsKeyed k.keys m.slot m.processor → IsClear r.log d (m.slot % 8))) (same_some g' z e) (yc ∙ is.0, λ keyed. absurd (unkeyed keyed));
            })),
        λ c' x' own' h' q2 right'' lx' word next'. let same = same_shelf_right c c' own own' h h' q q2 (sym right ∙ right'') in let cc' = same.0 in let xx : x ≡ x' = omega (arith, word, cc', lx, lx') in
            subst (λ (z : ℕ × ℕ × List ℕ × List Event × Plan). HandlesBare z.0 z.1 p z.2 z.3 z.4 me (w, (key_place y p, key) ∷ me.1)) (λ i. (same.0 i, xx i, same.1 i, same.2 i, same.3 i)) base,
      )

  pub bare_here : (slots id y c x p : ℕ) (own : List ℕ) (h : List Event) (q : Plan) (me : Sat) → me.0.right ≡ Shelf c own h q → q.hand ≡ None → x < 8 → bounds.cells ≤ 4 → p < bounds.processors → q.keys ≡ 8 * p + x → y ≡ 8 * c + x
      → Allows (Kept bounds) slots id me y (λ z. z) (handled_bare p (step slots y 0 0 none) me)
  bare_here slots id y c x p own h q me right free lx few lp next is = subst (λ z. Allows (Kept bounds) slots id me z (λ z. z) (handled_bare p (step slots z 0 0 none) me)) (sym is) (bare_at slots id c x p own h q me right free lx few lp next)

  -- its key lies there
  pub equips_here : (slots id n c x : ℕ) (own : List ℕ) (h : List Event) (q : Plan) (g : Hand) (key : Slot) (me : Sat) → me.0.right ≡ Shelf c own h q → q.hand ≡ Some g → x < 8 → g.slot ≡ 8 * c + x → q.keys ≡ 8 * g.processor + x → me.1 ≡ (place_of g, key) ∷ []
      → key.views ≡ key_of q.keys 0 0 ∷ [] → (0 < q.keys → key.table_id ≡ vault_in q.vault) → Allows (Kept bounds) slots id me n (λ z. z) (equipped (step slots n 0 0 none) me)
  equips_here slots id n c x own h q g key me right hand lx slot next carried views same_vault s r _ at _ = let v : View = me.0 in let b = r.banks in let k = b.books in
      let f = b.each id v at in let y : ℕ = 8 * c + x in let has = shelf_is s r id v at c own h q right in let a = plan_is s r id v at c own h q right in
      let held = ap hand_in right ∙ hand in let had = f.holds g held in let low = had.slot in let lp = had.processor in let laid_keys = a.laid_keys in let m : ℕ = suc q.keys in let keys' : ℕ → ℕ = put k.keys c m in let vault' : ℕ → TableId = put_vault k.vault_of c key.table_id in
      let q' : Plan = record q { keys = m; vault = Some key; hand = None } in let w : View = record v { right = Shelf c own h q' } in
      let yc : g.slot / 8 ≡ c = omega (arith, slot, lx) in let yx : g.slot % 8 ≡ x = omega (arith, slot, lx) in
      let here : keys' c ≡ m = put_here k.keys c m c refl in let up : (e : ℕ) → k.keys e ≤ keys' e = (λ e. dite (ℕ_discrete e c) (λ i. let z = put_here k.keys c m e i in let t = ap k.keys i in omega (arith, z, t, laid_keys)) (λ ne. let z = put_else k.keys c m e ne in omega (arith, z))) in
      let nothing : k.stock (place_of g) ≡ 0 =
      (let z = b.bare y g.processor (omega (arith, low, slot)) (let e : y / 8 ≡ c = omega (arith, lx) in let t = ap k.keys e in let ex : y % 8 ≡ x = omega (arith, lx) in omega (arith, t, ex, laid_keys, next)) in
      ap k.stock (let e : place_of g ≡ key_place y g.processor = omega (arith, slot) in e) ∙ z) in
      let stays : (i : ℕ) → put k.stock (place_of g) 0 i ≡ k.stock i = (λ i. dite (ℕ_discrete i (place_of g)) (λ e. put_here k.stock (place_of g) 0 i e ∙ sym (ap k.stock e ∙ nothing)) (λ ne. put_else k.stock (place_of g) 0 i ne)) in
      let vault_kept : 0 < k.keys c → key.table_id ≡ k.vault_of c = (λ more. same_vault (omega (arith, more, laid_keys)) ∙ a.vault (omega (arith, more, laid_keys))) in
      let vault_as : (e : ℕ) → 0 < k.keys e → vault' e ≡ k.vault_of e = (λ e more. dite (ℕ_discrete e c) (λ i. vault_here k.vault_of c key.table_id e i ∙ (vault_kept (subst (λ z. 0 < k.keys z) i more) ∙ ap k.vault_of (sym i))) (λ ne. vault_else k.vault_of c key.table_id e ne)) in
      let plan_as : (e : ℕ) (u : Plan) → IsPlan r.log k.vault_of k.keys k.stock k.laid k.round e u → e ≢ c → IsPlan r.log vault' keys' (put k.stock (place_of g) 0) k.laid k.round e u = (λ e u old ne. record {
        eight = old.eight;
        laid_keys = old.laid_keys ∙ sym (put_else k.keys c m e ne);
        vault = λ more. old.vault more ∙ sym (vault_else k.vault_of c key.table_id e ne);
        totals = old.totals;
        rounds = old.rounds;
        some = λ z p le lz lt. subst (λ m. 0 < m) (sym (stays (key_place (8 * e + z) p))) (old.some z p le lz lt);
        empty = λ z p le lz lt. stays (key_place (8 * e + z) p) ∙ old.empty z p le lz lt;
        rests = old.rests;
      }) in (
        w,
        gives,
        tt,
        gives_back bounds s n id (place_of g) key me.1 w carried (rebanked bounds s r id v (Shelf c own h q') (set s.homes (place_of g) (some key)) at tt has
            (give_bank bounds s.homes s.views r.log r.shelf.texts b id 0 k.units k.laid k.round keys' vault' g key v w at held refl
            (0, (sym (vault_here k.vault_of c key.table_id (g.slot / 8) yc), views ∙ ap (λ z. key_of z 0 0 ∷ []) (next ∙ (let e : 8 * g.processor + x ≡ vault_place g.slot g.processor = omega (arith, yx) in e))), λ more. absurd (omega (arith, more)))
            (λ z p lz ne keyed. dite (ℕ_discrete (z / 8) c)
            (λ e. let t = put_here k.keys c m (z / 8) e in let ke = ap k.keys e in let still : IsKeyed k.keys z p = omega (arith, keyed, t, ke, laid_keys, next, apart z p lz low lx slot e ne) in (still, vault_as (z / 8) (omega (arith, still))))
            (λ ne'. let t = put_else k.keys c m (z / 8) ne' in (omega (arith, keyed, t), vault_else k.vault_of c key.table_id (z / 8) ne')))
            up (λ _. refl) (λ z p lz lp ne more. refl) b.lent
            (λ z lz. let old = b.sums z lz in let e = sum_same bounds.processors (λ p. put k.stock (place_of g) 0 (key_place z p)) (λ p. k.stock (key_place z p)) (λ p _. stays (key_place z p)) in omega (arith, old, e))
            b.most
            (All_but (HasVault k.vault_of k.keys) (HasVault vault' keys') r.shelf.texts (λ t hv. record { few = let i = hv.few in let j = up t.cell in omega (arith, i, j); vault = λ more. hv.vault more ∙ sym (vault_as t.cell (let i = hv.few in omega (arith, i, more))) }) b.vaults)
            (λ d z ld lz. ⊎_elim (λ (cl : IsClear r.log d z). inl cl)
            (λ (o : IsOffered k.stock k.laid k.round (8 * d + z) (offer_of d (shelved d z r.log) r.shelf.texts)). inr record { total = o.total; rounds = o.rounds; some = λ lo p lt. subst (λ m. 0 < m) (sym (stays (key_place (8 * d + z) p))) (o.some lo p lt) })
            (b.offers d z ld lz))
            record {
              lane = f.lane;
              section = λ z is. absurd (omega (arith, is));
              plan = λ d u is. subst (λ (z : ℕ × Plan). IsPlan r.log vault' keys' (put k.stock (place_of g) 0) k.laid k.round z.0 z.1) (λ i. (is.0 i, is.1 i)) record {
                eight = a.eight;
                laid_keys = sym here;
                vault = λ _. sym (vault_here k.vault_of c key.table_id c refl);
                totals = a.totals;
                rounds = a.rounds;
                some = λ z p le lz lt. subst (λ m. 0 < m) (sym (stays (key_place (8 * c + z) p))) (a.some z p le lz lt);
                empty = λ z p le lz lt. stays (key_place (8 * c + z) p) ∙ a.empty z p le lz lt;
                rests = a.rests;
              };
              holds = λ z e. absurd (no_some z e);
              reads = λ z t e is. absurd (no_some z e);
              writes = λ z d u e is. absurd (no_some z e);
            }
            (λ j d ne e t is. refl)
            (λ j d ne e t u is old. plan_as t u old (others_apart s r id c has.writer j d ne e t u is)))),
        λ c' place' own' h' q2 g' key' right' hand' carried'.
            let same = same_shelf_right c c' own own' h h' q q2 (sym right ∙ right') in let keys : key ≡ key' = ap (first_key key) (sym carried ∙ carried') in
            λ i. (record v { right = Shelf (same.0 i) (same.1 i) (same.2 i) (record (same.3 i) { keys = suc (same.3 i).keys; vault = Some (keys i); hand = None }) }, rest (carried i)),
      )
    where
      -- another place of the cell is another key's
      apart : (z p : ℕ) → z < 32 → g.slot < 32 → x < 8 → g.slot ≡ 8 * c + x → z / 8 ≡ c → key_place z p ≢ place_of g → vault_place z p ≢ 8 * g.processor + x
      apart z p lz low lx slot e ne same = ne (omega (arith, same, e, slot, lx))
