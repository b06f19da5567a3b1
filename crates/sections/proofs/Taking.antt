-- A section's processor takes a key, and gives it back with one part less or more.
use Rattle.std.proofs.Common.{◌≡◌, ℕ, suc, ◌+◌, ◌*◌, ◌/◌, ◌%◌, ◌<◌, ◌≤◌, ◌≢◌, Bool, true, false, ◌&&◌, eqb, List, [], ◌∷◌, All, Option, Some, None, get_or, length, set, refl, sym, ap, ◌∙◌, subst, inl, inr, ⊎_elim, eq-eqb, ne_eqb, eqb-true, arith}
use Rattle.std.proofs.lemmas.List.Elements.{All-nil, All-cons}
use mathlib.Core.Logic.{dite}
use mathlib.Core.Option.{some, none}
use mathlib.Core.Option as maybe
use native.Mathlib.Decide.{ℕ_discrete}
use lib.ListN.{get_elem?}
use lib.Seq.{set-get_or}
use Rattle.atomic_table.specs.Table.{State, step, takes, gives, stepped, Allows, rest}
use Rattle.atomic_table.specs.Seated.{TableId}
use Rattle.vault.specs.declared.key.Tally.{Tally}
use Rattle.vault.specs.Keys.{IsKey}
use Rattle.sseq.specs.declared.index.Index.{Index}
use Rattle.onedom.specs.declared.event.Event.{Event}
use Rattle.onedom.specs.Histories.{HasFound, IsOpen, IsClear, IsBeginning, finds_of, shelved}
use Rattle.onedom.proofs.CallerLemmas.{found_stays}
use Rattle.sections.specs.Glossary.{Slot, Bounds, Lent, Left, Hand, Moment, Offer, Plan, Right, View, In, many, drop_first, sum, put_cells, offer_of, texts_at, IsStart, Writes, key_place, vault_place, place_of, IsKeyed, is_of, is_at, is_unit, is_both, lent, mine, section_in, units_in, hand_in, Mans, vault_in, IsLent, IsPlan, IsOffered, Books, HoldsKey, KeepsBanks, GoesOn, moment_of, Has, Kept, Sat, hand_with, left_with, KnowsFound, took, returned, drew, paid}
use Rattle.sections.specs.declared.view.Role.TheVariants.{Cpu}
use Rattle.sections.specs.declared.view.Right.TheVariants.{Nothing, Section, Shelf, Undealt}
use Rattle.sections.specs.Banks.{HasMet}
use Rattle.sections.proofs.Counting.{put, put_here, put_else, lane_put, lane_else, those_yes, those_no, many_yes, many_no, those_drop, those_else, many_drop, many_else, All_drop, at_most, All_in, in_those, many_in}
use Rattle.sections.proofs.Knowing.{now, covers_as, known_before, owns_from_makes, fits_now, has_at}
use Rattle.sections.proofs.Shelving.{start_at, fits_all, knows_texts, shelf_set}
use Rattle.sections.proofs.Banking.{no_some}
use Rattle.sections.proofs.Finding.{found_later, found_counts}
use Rattle.sections.proofs.Offers.{offer_stays, offer_fits}
use Rattle.sections.proofs.Giving.{same_some, take_bank, give_bank, at_home, readers}
use Rattle.sections.proofs.Steps.{same_cpu, sound_now}
use Rattle.sections.proofs.Writing.{remains, seeing}

-- What a seat knows of what a section found

module _ {bounds : Bounds} (s : State Slot View) (r : Kept bounds s) (id : ℕ) (v : View) (at : get_elem? s.views id ≡ some v) (t c x n : ℕ) (o : Offer) (is_open : IsOpen r.log t) (knows : KnowsFound v t c x n o) where
  moment_is : IsBeginning knows.moment.history r.log × (knows.moment.texts ≡ texts_at r.shelf.texts knows.moment.history)
  moment_is = let f = r.each_view id v at in let g = r.shelf.each id v at in ⊎_elim
      (λ (e : knows.moment ≡ moment_of v). subst (λ (m : Moment). IsBeginning m.history r.log × (m.texts ≡ texts_at r.shelf.texts m.history)) (sym e) (f.seen, g.has))
      (λ (i : In knows.moment v.told). ((All_in (λ m. GoesOn m (now r.log r.changes)) knows.moment v.told f.told i).history, All_in (λ m. m.texts ≡ texts_at r.shelf.texts m.history) knows.moment v.told g.told i)) knows.among

  found_now : HasFound r.log t c x n
  found_now = found_later knows.moment.history r.log t c x n moment_is.0 knows.met

  pub version_is : shelved c x r.log ≡ n
  version_is = found_stays r.log t c x n r.within.legal is_open found_now

  pub counted : 0 < finds_of t c x r.log
  counted = found_counts r.log t c x n found_now

  pub offer_is : offer_of c (shelved c x r.log) r.shelf.texts ≡ o
  offer_is = ap (λ m. offer_of c m r.shelf.texts) version_is ∙ (offer_stays c n knows.moment.texts r.shelf.texts (subst (λ z. IsStart z r.shelf.texts) (sym moment_is.1) (start_at (length (put_cells knows.moment.history)) r.shelf.texts)) knows.known ∙ knows.offer)

  pub readable : IsClear r.log c x → ⊥
  readable clear = let none = clear.unread t is_open in let some = counted in omega (arith, none, some)

  pub offered_is : c < bounds.cells → x < 8 → IsOffered r.banks.books.stock r.banks.books.laid r.banks.books.round (8 * c + x) o
  offered_is lc lx = subst (IsOffered r.banks.books.stock r.banks.books.laid r.banks.books.round (8 * c + x)) offer_is (⊎_elim (λ (clear : IsClear r.log c x). absurd (readable clear))
      (λ (a : IsOffered r.banks.books.stock r.banks.books.laid r.banks.books.round (8 * c + x) (offer_of c (shelved c x r.log) r.shelf.texts)). a) (r.banks.offers c x lc lx))

  pub vault_is : (o.keys ≤ r.banks.books.keys c) × (0 < o.keys → vault_in o.vault ≡ r.banks.books.vault_of c)
  vault_is = let k = r.banks.books in let P : Offer → Type 0 = λ z. (z.keys ≤ k.keys c) × (0 < z.keys → vault_in z.vault ≡ k.vault_of c) in
      subst P offer_is (offer_fits k.vault_of k.keys c (shelved c x r.log) r.shelf.texts r.banks.vaults)

abbrev pub first_key : Slot → List (ℕ × Slot) → Slot
first_key d [] = d
first_key d (x ∷ xs) = x.1

abbrev pub first_round : List Tally → ℕ
first_round [] = 0
first_round (x ∷ xs) = x.round

abbrev pub first_count : List Tally → ℕ
first_count [] = 0
first_count (x ∷ xs) = x.count

-- the same section, with the same units and hand
pub same_reader : (t q t' q' : ℕ) (i j : Index) (us us' : List Lent) (h g : Option Hand) → Section t q i us h ≡ Section t' q' j us' g → (t ≡ t') × (q ≡ q') × (i ≡ j) × (us ≡ us') × (h ≡ g)
same_reader t q t' q' i j us us' h g e = (λ m. section_of (e m), λ m. processor_of (e m), λ m. index_of (e m), ap units_in e, ap hand_in e)
  where
    section_of : Right → ℕ
    section_of (Section s p k us hand) = s
    section_of _ = t

    processor_of : Right → ℕ
    processor_of (Section s p k us hand) = p
    processor_of _ = t

    index_of : Right → Index
    index_of (Section s p k us hand) = k
    index_of _ = i

module _ (bounds : Bounds) where
  -- the same words and history, where a seat has another right and keys may have moved
  leaves : (s : State Slot View) (r : Kept bounds s) (id : ℕ) (v : View) (right : Right) (left : Option Left) (homes : List (maybe.Option Slot)) → get_elem? s.views id ≡ some v → Has r.truth id right → Writes bounds s.words r.log r.shelf.writer_of id right
      → KeepsBanks bounds homes (set s.views id (record v { right = right; left = left })) r.log r.shelf.texts → Kept bounds record { words = s.words; homes = homes; views = set s.views id (record v { right = right; left = left }) }
  leaves s r id v right left homes at has writes banks = let w : View = record v { right = right; left = left } in let f = r.each_view id v at in let g = r.shelf.each id v at in
      remains bounds s r id s.words homes v w at refl refl r.words record { seen = f.seen; knows = f.knows; told = f.told; makes = f.makes; has = has; shown = f.shown }
      (shelf_set r.shelf id w record { has = g.has; told = g.told; writes = writes })
      banks

  pub rebanked : (s : State Slot View) (r : Kept bounds s) (id : ℕ) (v : View) (right : Right) (homes : List (maybe.Option Slot)) → get_elem? s.views id ≡ some v → Has r.truth id right → Writes bounds s.words r.log r.shelf.writer_of id right
      → KeepsBanks bounds homes (set s.views id (record v { right = right })) r.log r.shelf.texts → Kept bounds record { words = s.words; homes = homes; views = set s.views id (record v { right = right }) }
  rebanked s r id v right homes at has writes banks = leaves s r id v right v.left homes at has writes banks

  same_offer : (a b : Offer) → a ≡ b → vault_in a.vault ≡ vault_in b.vault
  same_offer a b e = ap (λ (z : Offer). vault_in z.vault) e

  pub takes_here : (slots id y t q p n : ℕ) (i : Index) (us : List Lent) (o : Offer) (me : Sat) → me.0.processors ≡ bounds.processors → me.0.role ≡ Cpu p
      → p < bounds.processors → me.0.right ≡ Section t q i us None → KnowsFound me.0 t (y / 8) (y % 8) n o → 8 * bounds.processors ≤ o.keys → y / 8 < bounds.cells → y < 32
      → Allows (Kept bounds) slots id me y (λ x. x) (took (step slots y 0 0 none) me)
  takes_here slots id y t q p n i us o me sized role lp right knows_it all_laid lc ly s r _ at _ = let v : View = me.0 in let f = r.each_view id v at in let b = r.banks in let k = b.books in let g = b.each id v at in let free = ap hand_in right in
      let c : ℕ = y / 8 in let x : ℕ = y % 8 in
      let has = has_at f right in
      let lane : b.lane_of p ≡ id = g.lane p (subst (λ z. Mans z p) (sym role) refl) in let units : us ≡ mine t k.units = sym (ap units_in right) ∙ g.section t (ap section_in right) in
      let vault = vault_is s r id v at t c x n o has.1 knows_it in let low = vault.0 in let keyed : IsKeyed k.keys y p = omega (arith, low, all_laid, lp) in
      let home = at_home bounds s.homes s.views r.log r.shelf.texts b id y p v at free (readers bounds s.homes s.views r.log r.shelf.texts b id y p lane ly keyed (readable s r id v at t c x n o has.1 knows_it)) in
      let there = b.home y p ly lp home in let key = there.0 in let opens = there.1 keyed in let count : ℕ = k.stock (key_place y p) in let h : Hand = hand_with y p key count opens.0 in let right' : Right = Section t q i us (Some h) in
      let w : View = seeing bounds s r v right' in let K = r.shelf in
      let shelf = shelf_set K id w (fits_all bounds s.words r.log K.texts K.writer_of id w refl refl refl K.shelved.cells tt) in (
        w,
        takes (key_place y p) key,
        there.2,
        subst (λ (ws : List ℕ). Kept bounds record { words = ws; homes = set s.homes (key_place y p) none; views = set s.views id w }) (sym (set-get_or s.words y 0))
            (remains bounds s r id s.words (set s.homes (key_place y p) none) v w at refl refl r.words
            (fits_now r.truth id w r.known refl refl refl f.makes has f.shown)
            shelf
            (take_bank bounds s.homes s.views r.log r.shelf.texts b id y p v w h at free ly lp home refl refl record {
              lane = g.lane;
              section = λ a e. let ta : t ≡ a = omega (arith, e) in subst (λ z. us ≡ mine z k.units) ta units;
              plan = λ d u is. absurd is;
              holds = λ z e. subst (HoldsKey bounds.processors k.vault_of k.keys k.stock (put k.handed (key_place y p) (suc id)) k.round id) (same_some h z e)
                  record { slot = ly; processor = lp; handed_out = put_here k.handed (key_place y p) (suc id) (key_place y p) refl; counts = refl; rounds = opens.2; of = λ _. opens.1.0 };
              reads = λ z a e i2. subst (λ (m : Hand × ℕ). (b.lane_of m.0.processor ≡ id) × HasMet r.log m.1 m.0.slot × IsKeyed k.keys m.0.slot m.0.processor) (λ m. (same_some h z e m, (let ta : t ≡ a = omega (arith, i2) in ta) m)) (lane, counted s r id v at t c x n o has.1 knows_it, keyed);
              writes = λ z d u e is. absurd is;
            })),
        λ t' q' p' n' j us' o' role' right'' knows'.
            let pp : p ≡ p' = same_cpu p p' (sym role ∙ role') in
            let rr : Section t q i us None ≡ Section t' q' j us' None = sym right ∙ right'' in
            let tt' : t ≡ t' = (let a = ap section_in rr in omega (arith, a)) in let uu : us ≡ us' = ap units_in rr in
            let of_it : IsOpen r.log t' = subst (IsOpen r.log) tt' has.1 in
            let o_is = offer_is s r id v at t' c x n' o' of_it knows' in let same_o : o ≡ o' = sym (offer_is s r id v at t c x n o has.1 knows_it) ∙ o_is in
            let offered = offered_is s r id v at t c x n o has.1 knows_it lc (omega arith) in
            record {
              key = key;
              count = count;
              round = opens.0;
              opens = subst (λ (z : ℕ × TableId). IsKey z.1 (vault_place y z.0) count opens.0 key) (λ m. (pp m, (sym (vault.1 (omega (arith, all_laid, lp))) ∙ same_offer o o' same_o) m)) opens.1;
              some = λ lt. subst (λ (z : ℕ × ℕ). 0 < k.stock (key_place z.0 z.1)) (λ m. ((let e : 8 * c + x ≡ y = omega arith in e) m, sym pp m))
                  (offered.some (omega (arith, ly)) p' (let e = ap (λ (z : Offer). z.each) same_o in omega (arith, e, lt)));
              rounds = λ more. let sums = b.sums y ly in let one = at_most bounds.processors p (λ z. k.stock (key_place y z)) lp in let total : 0 < k.laid (8 * c + x) = subst (λ z. 0 < k.laid z) (let e : y ≡ 8 * c + x = omega arith in e) (omega (arith, sums, one, more)) in
                  opens.2 more ∙ (ap k.round (let e : y ≡ 8 * c + x = omega arith in e) ∙ (sym (offered.rounds total) ∙ ap (λ (z : Offer). z.round) same_o));
              room = λ u is e. let out = in_those (is_of t) u k.units (subst (In u) (sym uu ∙ units) is) in let m = many_in (is_at y) u k.units out.0 (eq-eqb u.slot y e) in let sums = b.sums y ly in let most = b.most y ly in let one = at_most bounds.processors p (λ z. k.stock (key_place y z)) lp in
                  let ye : y ≡ 8 * c + x = omega arith in let total : 0 < k.laid (8 * c + x) = subst (λ z. 0 < k.laid z) ye (omega (arith, sums, m)) in
                  (omega (arith, m, sums, most, one), (All_in (IsLent r.log k.round) u k.units b.lent out.0).rounds ∙ (ap k.round (e ∙ ye) ∙ (sym (offered.rounds total) ∙ ap (λ (z : Offer). z.round) same_o)));
              catches = record {
                processors = refl;
                role = refl;
                mine = refl;
                shown = refl;
                told = refl;
                done = refl;
                since = f.seen;
                later = known_before f;
                covers = covers_as v.told r.log r.changes r.shelf.texts f.told;
                texts = knows_texts bounds s.words r.log r.shelf.texts r.shelf.writer_of id v w (r.shelf.each id v at) refl;
                sound = sound_now bounds s r v.processors v.role v.mine r.changes sized (owns_from_makes f) r.words.reaches;
              };
              right = let ss = same_reader t q t' q' i j us us' None None rr in λ m. Section (ss.0 m) (ss.1 m) (ss.2 m) (uu m) (Some (hand_with y (pp m) key count opens.0));
              carried = λ m. (key_place y (pp m), key) ∷ me.1;
            },
      )

  -- What the key that goes back has to be: that of the hand, to so many parts of this round
  abbrev pub Ready : Hand → Slot → ℕ → ℕ → Type 0
  Ready h key count round = IsKey h.of.table_id (vault_place h.slot h.processor) count round key

  pub sum_here : (n c y : ℕ) (h : Hand) (f : ℕ → ℕ) → h.processor < n → y ≡ h.slot → sum n (λ q. put f (place_of h) c (key_place y q)) + f (place_of h) ≡ sum n (λ q. f (key_place y q)) + c
  sum_here n c y h f lt e = subst (λ z. sum n (λ q. put f (place_of h) c (key_place z q)) + f (place_of h) ≡ sum n (λ q. f (key_place z q)) + c) (sym e) (lane_put n h.slot h.processor c f lt)

  holder_is : (s : State Slot View) (r : Kept bounds s) (j : ℕ) (d : View) (a : ℕ) → get_elem? s.views j ≡ some d → section_in d.right ≡ suc a → r.holder a ≡ j
  holder_is s r j d a e is = go s r j d.right a (r.each_view j d e).has is
    where
      go : (s : State Slot View) (r : Kept bounds s) (j : ℕ) (y : Right) (a : ℕ) → Has r.truth j y → section_in y ≡ suc a → r.holder a ≡ j
      go s r j Nothing a h is = absurd (omega (arith, is))
      go s r j (Section z p i us g) a h is = let za : z ≡ a = omega (arith, is) in ap r.holder (sym za) ∙ h.0
      go s r j (Shelf c own seen q) a h is = absurd (omega (arith, is))
      go s r j (Undealt c) a h is = absurd (omega (arith, is))

  pub opened_there : (s : State Slot View) (r : Kept bounds s) (j : ℕ) (d : View) (a : ℕ) → get_elem? s.views j ≡ some d → section_in d.right ≡ suc a → IsOpen r.log a
  opened_there s r j d a e is = go s r j d.right a (r.each_view j d e).has is
    where
      go : (s : State Slot View) (r : Kept bounds s) (j : ℕ) (y : Right) (a : ℕ) → Has r.truth j y → section_in y ≡ suc a → IsOpen r.log a
      go s r j Nothing a h is = absurd (omega (arith, is))
      go s r j (Section z p i us g) a h is = let za : z ≡ a = omega (arith, is) in subst (IsOpen r.log) za h.1
      go s r j (Shelf c own seen q) a h is = absurd (omega (arith, is))
      go s r j (Undealt c) a h is = absurd (omega (arith, is))

  -- where something lay with the key, something does
  stays_some : (k : Books) (c : ℕ) (h : Hand) → (0 < k.stock (place_of h) → 0 < c) → (i : ℕ) → 0 < k.stock i → 0 < put k.stock (place_of h) c i
  stays_some k c h keeps i more = dite (ℕ_discrete i (place_of h)) (λ e. let now = put_here k.stock (place_of h) c i e in let m = keeps (subst (λ z. 0 < k.stock z) e more) in omega (arith, now, m)) (λ ne. let now = put_else k.stock (place_of h) c i ne in omega (arith, now, more))

  -- the plans of others say no more of a slot that somebody can read
  plan_else : (log : List Event) (k : Books) (c : ℕ) (h : Hand) (e : ℕ) (q : Plan) → h.slot < 32 → (0 < k.stock (place_of h) → 0 < c) → (IsClear log (h.slot / 8) (h.slot % 8) → ⊥)
      → IsPlan log k.vault_of k.keys k.stock k.laid k.round e q → IsPlan log k.vault_of k.keys (put k.stock (place_of h) c) k.laid k.round e q
  plan_else log k c h e q low keeps readable a = record {
    eight = a.eight;
    laid_keys = a.laid_keys;
    vault = a.vault;
    totals = a.totals;
    rounds = a.rounds;
    some = λ x p le lx lt. stays_some k c h keeps (key_place (8 * e + x) p) (a.some x p le lx lt);
    empty = λ x p le lx lt. put_else k.stock (place_of h) c (key_place (8 * e + x) p) (λ same. readable (let ce : e ≡ h.slot / 8 = omega (arith, same, low, lx, le) in let xe : x ≡ h.slot % 8 = omega (arith, same, low, lx, le) in
        subst (λ (z : ℕ × ℕ). IsClear log z.0 z.1) (λ m. (ce m, xe m)) (a.rests x lx (omega (arith, lt))))) ∙ a.empty x p le lx lt;
    rests = a.rests;
  }

  -- a reader gives back the key, and so many units are out with its section then
  settle : (s : State Slot View) (r : Kept bounds s) (id t q count round : ℕ) (i : Index) (us us' units : List Lent) (left : Option Left) (h : Hand) (key : Slot) (v : View)
      → get_elem? s.views id ≡ some v → v.right ≡ Section t q i us (Some h) → Ready h key count round → (0 < count → round ≡ r.banks.books.round h.slot) → (0 < h.count → 0 < count)
      → All (IsLent r.log r.banks.books.round) units → ((y : ℕ) → y < 32 → sum bounds.processors (λ p. put r.banks.books.stock (place_of h) count (key_place y p)) + many (is_at y) units ≡ r.banks.books.laid y)
      → us' ≡ mine t units → ((a : ℕ) → t ≢ a → mine a r.banks.books.units ≡ mine a units)
      → Kept bounds record { words = s.words; homes = set s.homes (place_of h) (some key); views = set s.views id (record v { right = Section t q i us' None; left = left }) }
  settle s r id t q count round i us us' units left h key v at right ready rounds some_left lent_now sums now_out others = let f = r.each_view id v at in let b = r.banks in
      let k = b.books in let g = b.each id v at in let has = ap hand_in right in let had = g.holds h has in let reads = g.reads h t has (ap section_in right) in
      let own = has_at f right in let w : View = record v { right = Section t q i us' None; left = left } in
      let keeps : 0 < k.stock (place_of h) → 0 < count = (λ more. some_left (let e = had.counts in omega (arith, e, more))) in
      let clash : IsClear r.log (h.slot / 8) (h.slot % 8) → ⊥ = (λ clear. let none = clear.unread t own.1 in let some = reads.1 in omega (arith, none, some)) in
      leaves s r id v (Section t q i us' None) left (set s.homes (place_of h) (some key)) at own tt
      (give_bank bounds s.homes s.views r.log r.shelf.texts b id count units k.laid k.round k.keys k.vault_of h key v w at has refl (round, (ready.0 ∙ had.of reads.2, ready.1), rounds)
      (λ y p ly ne keyed. (keyed, refl)) (λ e. omega arith) (λ none. absurd (let lt = reads.2 in omega (arith, lt, none))) (λ y p ly lp ne more. refl) lent_now sums b.most b.vaults
      (λ d x ld lx. ⊎_elim (λ (clear : IsClear r.log d x). inl clear)
      (λ (o : IsOffered k.stock k.laid k.round (8 * d + x) (offer_of d (shelved d x r.log) r.shelf.texts)). inr record { total = o.total; rounds = o.rounds; some = λ ly p lt. stays_some k count h keeps (key_place (8 * d + x) p) (o.some ly p lt) }) (b.offers d x ld lx))
      record {
        lane = g.lane;
        section = λ a e. let ta : t ≡ a = omega (arith, e) in subst (λ z. us' ≡ mine z units) ta now_out;
        plan = λ d u is. absurd is;
        holds = λ x e. absurd (no_some x e);
        reads = λ x a e z. absurd (no_some x e);
        writes = λ x d u e is. absurd is;
      }
      (λ j d ne e a is. others a (λ ta. ne (sym (holder_is s r j d a e is) ∙ (ap r.holder (sym ta) ∙ own.0))))
      (λ j d ne e c p is a. plan_else r.log k count h c p had.slot keeps clash a))

  -- what is given back is what the seat has in hand
  pub gives_back : (s : State Slot View) (n id i : ℕ) (key : Slot) (c : List (ℕ × Slot)) (w : View) → c ≡ (i, key) ∷ [] → Kept bounds record { words = s.words; homes = set s.homes i (some key); views = set s.views id w } → Kept bounds (stepped s n (get_or s.words n 0) id c w gives)
  gives_back s n id i key c w carried r = subst (λ (z : List (ℕ × Slot)). Kept bounds (stepped s n (get_or s.words n 0) id z w gives)) (sym carried)
      (subst (λ (ws : List ℕ). Kept bounds record { words = ws; homes = set s.homes i (some key); views = set s.views id w }) (sym (set-get_or s.words n 0)) r)

  pub returns_here : (slots id n t q count round : ℕ) (i : Index) (us : List Lent) (h : Hand) (key : Slot) (me : Sat) → me.0.right ≡ Section t q i us (Some h) → me.1 ≡ (place_of h, key) ∷ [] → Ready h key count round → count ≡ h.count → round ≡ h.round
      → Allows (Kept bounds) slots id me n (λ x. x) (returned (step slots n 0 0 none) me)
  returns_here slots id n t q count round i us h key me right carried ready same same_round s r _ at _ = let v : View = me.0 in let b = r.banks in let k = b.books in
      let g = b.each id v at in let had = g.holds h (ap hand_in right) in let units : us ≡ mine t k.units = sym (ap units_in right) ∙ g.section t (ap section_in right) in let w : View = record v { right = Section t q i us None; left = Some (left_with h) } in (
        w,
        gives,
        tt,
        gives_back s n id (place_of h) key me.1 w carried (settle s r id t q count round i us us k.units (Some (left_with h)) h key v at right ready (λ more. same_round ∙ had.rounds (omega (arith, more, same))) (λ more. omega (arith, more, same)) b.lent
            (λ y ly. let old = b.sums y ly in let counts = had.counts in dite (ℕ_discrete y h.slot)
            (λ e. let a = sum_here bounds.processors count y h k.stock had.processor e in omega (arith, a, old, counts, same))
            (λ ne. let a = lane_else bounds.processors h.slot h.processor count y k.stock had.slot ly ne in omega (arith, a, old)))
            units (λ a ne. refl)),
        λ t' q' j us' g' right'. let same = same_reader t q t' q' i j us us' (Some h) (Some g') (sym right ∙ right') in let hh = same_some h g' same.4 in λ m. (record v { right = Section (same.0 m) (same.1 m) (same.2 m) (same.3 m) None; left = Some (left_with (hh m)) }, rest (carried m)),
      )

  pub draws_here : (slots id n t q count round : ℕ) (i : Index) (us : List Lent) (h : Hand) (key : Slot) (me : Sat) → me.0.right ≡ Section t q i us (Some h) → me.1 ≡ (place_of h, key) ∷ [] → Ready h key count round → suc count ≡ h.count → 0 < count → round ≡ h.round
      → Allows (Kept bounds) slots id me n (λ x. x) (drew (step slots n 0 0 none) me)
  draws_here slots id n t q count round i us h key me right carried ready less left same_round s r _ at _ = let v : View = me.0 in let b = r.banks in let k = b.books in
      let g = b.each id v at in let has = ap hand_in right in let had = g.holds h has in let reads = g.reads h t has (ap section_in right) in let f = r.each_view id v at in
      let own = has_at f right in
      let units : us ≡ mine t k.units = sym (ap units_in right) ∙ g.section t (ap section_in right) in let of_slot : h.round ≡ k.round h.slot = had.rounds (omega (arith, less)) in
      let one : Lent = lent t h.slot h.round in let us' : List Lent = one ∷ us in let w : View = record v { right = Section t q i us' None; left = None } in (
        w,
        gives,
        tt,
        gives_back s n id (place_of h) key me.1 w carried (settle s r id t q count round i us us' (one ∷ k.units) None h key v at right ready (λ _. same_round ∙ of_slot) (λ _. left)
            (All-cons (IsLent r.log k.round) one k.units record { opened = own.1; met = reads.1; rounds = of_slot } b.lent)
            (λ y ly. let old = b.sums y ly in let counts = had.counts in dite (ℕ_discrete y h.slot)
            (λ e. let a = sum_here bounds.processors count y h k.stock had.processor e in let m = many_yes (is_at y) one k.units (eq-eqb h.slot y (sym e)) in omega (arith, a, m, old, counts, less))
            (λ ne. let a = lane_else bounds.processors h.slot h.processor count y k.stock had.slot ly ne in let m = many_no (is_at y) one k.units (ne_eqb h.slot y (λ e. ne (sym e))) in omega (arith, a, m, old)))
            (ap (λ l. one ∷ l) units ∙ sym (those_yes (is_of t) one k.units (eq-eqb t t refl)))
            (λ a ne. sym (those_no (is_of a) one k.units (ne_eqb t a ne)))),
        λ t' q' j us2 g' right'. let same = same_reader t q t' q' i j us us2 (Some h) (Some g') (sym right ∙ right') in let hh = same_some h g' same.4 in λ m. (record v { right = Section (same.0 m) (same.1 m) (same.2 m) (lent (same.0 m) (hh m).slot (hh m).round ∷ same.3 m) None; left = None }, rest (carried m)),
      )

  and_left : (a b : Bool) → (a && b) ≡ true → a ≡ true
  and_left true b e = refl
  and_left false b e = e

  and_right : (a b : Bool) → (a && b) ≡ true → b ≡ true
  and_right true b e = e
  and_right false b e = absurd (no e)
    where
      no : ◌≡◌ {A = Bool} false true → ⊥
      no e = cc

  pub pays_here : (slots id m t q count round : ℕ) (i : Index) (us : List Lent) (h : Hand) (key : Slot) (o : Lent) (me : Sat) → me.0.right ≡ Section t q i us (Some h) → me.1 ≡ (place_of h, key) ∷ [] → Ready h key count round → count ≡ suc h.count → In o us → o.slot ≡ h.slot → round ≡ o.round
      → Allows (Kept bounds) slots id me m (λ x. x) (paid (step slots m 0 0 none) me)
  pays_here slots id m t q count round i us h key o me right carried ready more out of_slot same_round s r _ at _ = let v : View = me.0 in let b = r.banks in let k = b.books in let g = b.each id v at in let has = ap hand_in right in let had = g.holds h has in
      let x : ℕ = h.slot in let n : ℕ = round in let units : us ≡ mine t k.units = sym (ap units_in right) ∙ g.section t (ap section_in right) in let there = in_those (is_of t) o k.units (subst (In o) units out) in
      let both : is_both t x n o ≡ true = λ j. there.1 j && (eq-eqb o.slot x of_slot j && eq-eqb o.round n (sym same_round) j) in let some_out = many_in (is_both t x n) o k.units there.0 both in
      let us' : List Lent = drop_first (is_unit x n) us in let now_out : List Lent = drop_first (is_both t x n) k.units in let w : View = record v { right = Section t q i us' None; left = None } in (
        w,
        gives,
        tt,
        gives_back s m id (place_of h) key me.1 w carried (settle s r id t q count round i us us' now_out None h key v at right ready (λ _. same_round ∙ ((All_in (IsLent r.log k.round) o k.units b.lent there.0).rounds ∙ ap k.round of_slot)) (λ _. omega (arith, more))
            (All_drop (IsLent r.log k.round) (is_both t x n) k.units b.lent)
            (λ y ly. let old = b.sums y ly in let counts = had.counts in dite (ℕ_discrete y x)
            (λ e. let a = sum_here bounds.processors count y h k.stock had.processor e in
            let c = many_drop (is_at y) (is_both t x n) (λ z j. eq-eqb z.slot y (eqb-true z.slot x (and_left (is_at x z) (eqb z.round n) (and_right (is_of t z) (is_unit x n z) j)) ∙ sym e)) k.units some_out in omega (arith, a, c, old, counts, more))
            (λ ne. let a = lane_else bounds.processors h.slot h.processor count y k.stock had.slot ly ne in
            let c = many_else (is_at y) (is_both t x n) (λ z j. ne_eqb z.slot y (λ e. ne (sym e ∙ eqb-true z.slot x (and_left (is_at x z) (eqb z.round n) (and_right (is_of t z) (is_unit x n z) j))))) k.units in omega (arith, a, c, old)))
            (ap (drop_first (is_unit x n)) units ∙ sym (those_drop (is_of t) (is_unit x n) (is_both t x n) (λ z. refl) k.units))
            (λ a ne. sym (those_else (is_of a) (is_both t x n) (λ z j. ne_eqb z.section a (λ e. ne (sym (eqb-true z.section t (and_left (is_of t z) (is_unit x n z) j)) ∙ e))) k.units))),
        λ t' q' place' count' round' j us2 g' key' right' carried' ready'. let same = same_reader t q t' q' i j us us2 (Some h) (Some g') (sym right ∙ right') in let hh = same_some h g' same.4 in
            let keys : key ≡ key' = ap (first_key key) (sym carried ∙ carried') in
            let rounds : round ≡ round' = ap first_round (sym ready.1 ∙ (ap (λ (z : Slot). z.views) keys ∙ ready'.1)) in
            λ z. (record v { right = Section (same.0 z) (same.1 z) (same.2 z) (drop_first (is_unit (hh z).slot (rounds z)) (same.3 z)) None; left = None }, rest (carried z)),
      )
