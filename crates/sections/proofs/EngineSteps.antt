-- Each step of the engine's seat keeps the rule.
use Rattle.std.proofs.Common.{length-set, ◌≡◌, ℕ, ◌+◌, ◌*◌, ◌%◌, ◌^◌, ◌<◌, ◌≤◌, true, false, List, [], ◌∷◌, ◌++◌, None, length, get_or, set, refl, sym, ap, ◌∙◌, subst, arith}
use mathlib.Core.Option.{none}
use Rattle.atomic_table.specs.Table.{State, step, keeps, stepped, Allows}
use Rattle.sseq.specs.declared.index.Index.{Index}
use Rattle.onedom.specs.declared.event.Maker.{Maker}
use Rattle.onedom.specs.declared.event.Maker.TheVariants.{Processor, Engine}
use Rattle.onedom.specs.declared.event.Event.{Event}
use Rattle.onedom.specs.declared.event.Event.TheVariants.{Start, Finish}
use Rattle.onedom.specs.Histories.{ends, starts_in, WasEmpty, MayFollow, maker_of, same_maker, made_by, IsBeginning}
use Rattle.onedom.proofs.CallerLemmas.{bit, made_by_own, made_by_other, same_maker_refl, beginning_refl, empty_grows, empty_may_end}
use Rattle.sections.specs.Glossary.{KeepsBanks, Slot, Bounds, Role, Step, View, index_place, number_place, lock_place, unlock_place, locks_at, locks, unlocks_at, unlocks, all_locks, index_word, number_word, IsIdle, IsBeforeFlip, IsFlipping, IsBehindFlip, Reaches, Agree, HasItsMaker, IsTrueOf, IsMaker, Makes, Fits, Kept, Truth, Text, put_cell, IsTrueWord, KeepsShelf, Sees, Adds, Sat, counted_unlocks, counted_locks, started, flipped, moved_on, finished}
use Rattle.sections.proofs.Banking.{says_same, same_banks, push_banks}
use Rattle.sections.specs.declared.view.Role.TheVariants.{Driver}
use Rattle.sections.specs.declared.view.Step.TheVariants.{LoadUnlocks, LoadLocks, AddIndex, AddNumber}
use Rattle.sections.proofs.Counters.{locks_push, sum_most}
use Rattle.sections.proofs.Agreement.{lock_places, unlock_places, agrees_numbered, agrees_flipped, locks_not_at, unlocks_not_at, reaches_started, reaches_finished, reaches_on, idle_not_running, busy_running}
use Rattle.sections.proofs.Knowing.{now, views_set, has_stays, fits_later, owns_from_makes, false≠true, fits_now, makes_at}
use Rattle.sections.proofs.Shelving.{same_set, texts_on, writes_on, writes_event, shelf_event, shelf_deed, fits_all}
use Rattle.sections.proofs.Deeds.{deed, engine_makes, done_later, done_push}
use Rattle.sections.proofs.Steps.{exact, loads_here, added, alone, each_more, adds_now, sees_now}

-- the engine's events
record IsDriven (e : Event) : Type 0 where
  by : maker_of e ≡ Engine
  no_lock : (q : ℕ) (i : Index) → locks_at q i e ≡ false
  no_unlock : (before : List Event) (q : ℕ) (i : Index) → unlocks_at q i before e ≡ false
  no_end : (s : ℕ) → ends s e ≡ false
  maker : (n : ℕ) → HasItsMaker n e
  no_put : put_cell e ≡ None

start_driven : IsDriven (Start Engine)
start_driven = record { by = refl; no_lock = λ _ _. refl; no_unlock = λ _ _ _. refl; no_end = λ _. refl; maker = λ _. refl; no_put = refl }

finish_driven : IsDriven (Finish Engine)
finish_driven = record { by = refl; no_lock = λ _ _. refl; no_unlock = λ _ _ _. refl; no_end = λ _. refl; maker = λ _. refl; no_put = refl }

known_on : (reached : ℕ → ℕ) (changes : ℕ) → ((p : ℕ) → reached p ≤ changes) → (p : ℕ) → reached p ≤ changes + 1
known_on reached changes known p = let most = known p in omega (arith, most)

module _ (bounds : Bounds) where
  -- Loads of counters

  -- in all no more sections of an index were begun than the limits allow
  bounded : (s : State Slot View) (r : Kept bounds s) (n : ℕ) (i : Index) (seen : List Event) → n ≡ bounds.processors → seen ≡ r.log → all_locks n i seen ≤ 2 ^ 60
  bounded s r n i seen sized same = subst (λ (z : ℕ × List Event). all_locks z.0 i z.1 ≤ 2 ^ 60) (λ k. (sym sized k, sym same k))
      (let most = sum_most (λ p. locks p i r.log) bounds.sections bounds.processors (λ p. r.within.limited p i) in let small = r.small.counters in omega (arith, most, small))

  pub counts_unlocks : (slots id k : ℕ) (me : Sat) (m : Maker) (q : ℕ) (i : Index) → me.0.processors ≡ bounds.processors → IsMaker me.0.role m → q < bounds.processors → k ≡ unlock_place q i
      → Allows (Kept bounds) slots id me k (λ x. x) (counted_unlocks (step slots k 0 0 none) me)
  counts_unlocks slots id k me m q i sized is lt place = loads_here bounds slots id k me m (λ n h. LoadUnlocks q i n (length h)) (counted_unlocks (step slots k 0 0 none) me) is sized
      (λ s r _. ((ap (λ z. get_or s.words z 0) place ∙ r.words.unlock_counters q i lt, refl), tt))
      (λ s r w at seen changes _ sees.
      let n : ℕ = get_or s.words k 0 in
      let found : n ≡ unlocks q i w.seen = ap (λ z. get_or s.words z 0) place ∙ (r.words.unlock_counters q i lt ∙ ap (unlocks q i) (sym seen)) in (
        refl,
        λ d driven. changes ∙ sym (exact bounds s r id me.0 d at driven),
        λ p j word. let same = unlock_places q p i j (sym place ∙ word) in
            subst (λ (z : ℕ × Index). Sees (LoadUnlocks z.0 z.1 n (length w.seen)) me.0 w × (n ≡ unlocks z.0 z.1 w.seen) × (all_locks me.0.processors z.1 w.seen ≤ 2 ^ 60)) (λ h. (same.0 h, same.1 h)) (sees, found, bounded s r me.0.processors i w.seen sized seen),
      ))

  pub counts_locks : (slots id k : ℕ) (me : Sat) (m : Maker) (q : ℕ) (i : Index) → me.0.processors ≡ bounds.processors → IsMaker me.0.role m → q < bounds.processors → k ≡ lock_place q i
      → Allows (Kept bounds) slots id me k (λ x. x) (counted_locks (step slots k 0 0 none) me)
  counts_locks slots id k me m q i sized is lt place = loads_here bounds slots id k me m (λ n h. LoadLocks q i n (length h)) (counted_locks (step slots k 0 0 none) me) is sized
      (λ s r _. ((ap (λ z. get_or s.words z 0) place ∙ r.words.lock_counters q i lt, refl), tt))
      (λ s r w at seen changes _ sees.
      let n : ℕ = get_or s.words k 0 in
      let found : n ≡ locks q i w.seen = ap (λ z. get_or s.words z 0) place ∙ (r.words.lock_counters q i lt ∙ ap (locks q i) (sym seen)) in (
        refl,
        λ d driven. changes ∙ sym (exact bounds s r id me.0 d at driven),
        λ p j word. let same = lock_places q p i j (sym place ∙ word) in
            subst (λ (z : ℕ × Index). Sees (LoadLocks z.0 z.1 n (length w.seen)) me.0 w × (n ≡ locks z.0 z.1 w.seen) × (all_locks me.0.processors z.1 w.seen ≤ 2 ^ 60)) (λ h. (same.0 h, same.1 h)) (sees, found, bounded s r me.0.processors i w.seen sized seen),
      ))

  -- Changes that are events

  -- an event that an addition to the number makes
  drives : (slots id a : ℕ) (me : Sat) (d : ℕ) (e : Event) (told_of : ℕ → Sat → Type 0) → me.0.processors ≡ bounds.processors → me.0.role ≡ Driver d → IsDriven e
      → number_word (me.0.changes + 1) ≡ number_word me.0.changes + a → index_word (me.0.changes + 1) ≡ index_word me.0.changes → number_word me.0.changes < 2 ^ 62 → a < 4
      → ((s : State Slot View) (r : Kept bounds s) → r.changes ≡ me.0.changes → IsBeginning me.0.seen r.log → made_by Engine r.log ≡ me.0.mine → MayFollow r.log e × Reaches (r.changes + 1) (r.log ++ e ∷ []) × (r.changes + 1 ≤ 4 * bounds.periods))
      → ((n : ℕ) (w : View) → w.right ≡ me.0.right → w.changes ≡ me.0.changes + 1 → Adds me.0 e w → told_of n (w, me.1))
      → Allows (Kept bounds) slots id me number_place (λ x. (x + a) % 2 ^ 64) told_of
  unfolding shelf_event
  drives slots id a me d e told_of sized is driven grows same_index small few follows tells s r _ at _ =
      let v : View = me.0 in
      let f = r.each_view id v at in
      let known : v.changes ≡ r.changes = exact bounds s r id v d at is in
      let made = makes_at f is in
      let may = follows s r (sym known) f.seen (sym made.1) in
      let changes' : ℕ = r.changes + 1 in
      let log' : List Event = r.log ++ e ∷ [] in
      let after : Truth = record (r.truth) { log = log'; changes = changes' } in
      let k : ℕ = number_place in
      let x : ℕ = get_or s.words k 0 in
      let y : ℕ = (x + a) % 2 ^ 64 in
      let found : x ≡ number_word v.changes = r.words.number ∙ ap number_word (sym known) in
      let up : y ≡ number_word changes' = omega (arith, found, small, few, grows, known) in
      let still : index_word changes' ≡ index_word r.changes = ap (λ c. index_word (c + 1)) (sym known) ∙ (same_index ∙ ap index_word known) in
      let agree : Agree bounds.processors (set s.words k y) log' changes' = agrees_numbered bounds.processors s.words r.log r.changes r.words y log' may.1 still up
      (λ p i. locks_not_at p i r.log e (driven.no_lock p i)) (λ q i. unlocks_not_at q i r.log e (driven.no_unlock r.log q i)) in
      let by_engine : same_maker (maker_of e) Engine ≡ true = ap (λ m. same_maker m Engine) driven.by ∙ same_maker_refl Engine in
      let mine' : v.mine ++ e ∷ [] ≡ made_by Engine log' = ap (λ l. l ++ e ∷ []) made.1 ∙ sym (made_by_own Engine r.log e by_engine) in
      let w : View = record { processors = v.processors; role = v.role; mine = v.mine ++ e ∷ []; seen = log'; changes = changes'; texts = r.shelf.texts; told = []; right = v.right; shown = v.shown; done = v.done; left = v.left } in
      let fits = fits_now after id w (known_on r.reached r.changes r.known) refl refl refl
      (subst (λ (m : Role). Makes after id m (v.mine ++ e ∷ [])) (sym is) (made.0, mine', λ p le. let q = made.2 p le in (q.0, made_by_other (Processor p) r.log e (ap (λ m. same_maker m (Processor p)) driven.by) ∙ q.1)))
      (has_stays r.truth r.holder id e may.0 (λ t _. driven.no_end t) (λ t _. refl) v.right f.has) f.shown in (
        w,
        keeps,
        tt,
        added bounds s r id k y me.1 w e changes' r.holder may.0 (driven.maker bounds.processors) agree (omega arith) may.2 (λ j ne here. absurd (ne (sym here ∙ made.0)))
            (λ o j. let c = locks_push o j r.log e in let z = ap bit (driven.no_lock o j) in let was = r.within.limited o j in omega (arith, c, z, was))
            (λ j ne m there. ap (λ o. same_maker o m) driven.by ∙ alone bounds r.truth id Engine made.0 j ne m there)
            (λ u hit. absurd (false≠true (sym (driven.no_end u) ∙ hit)))
            (λ u _. refl)
            fits v at refl refl
            (let same = same_set bounds s.words k y (omega arith) in shelf_event bounds s.words (set s.words k y) s.views r.log r.deeds id w e r.shelf same (length-set s.words k y) r.within.legal may.0 driven.no_put
            (fits_all bounds (set s.words k y) log' r.shelf.texts r.shelf.writer_of id w refl refl refl (texts_on r.shelf.texts r.log e driven.no_put r.shelf.shelved.cells)
            (writes_event bounds s.words (set s.words k y) r.log e r.shelf.writer_of id same driven.no_put v.right (r.shelf.each id v at).writes)))
            (push_banks bounds s.homes s.views r.log r.shelf.texts r.banks e id v w r.within.legal may.0 driven.no_put (λ u. driven.no_end u) at (says_same v w refl refl)),
        tells x w refl (ap (λ c. c + 1) (sym known)) (adds_now bounds s r id v e w.changes w.right at may.0 (driven.maker bounds.processors) driven.no_put sized (omega arith) may.1 (owns_from_makes fits)),
      )

  pub starts_here : (slots id : ℕ) (me : Sat) (d : ℕ) → me.0.processors ≡ bounds.processors → me.0.role ≡ Driver d → IsIdle me.0.changes → number_word me.0.changes < 4 * bounds.periods → bounds.periods < 2 ^ 59
      → Allows (Kept bounds) slots id me number_place (λ x. (x + 1) % 2 ^ 64) (started (step slots number_place 1 0 none) me)
  starts_here slots id me d sized is idle room few = drives slots id 1 me d (Start Engine) (started (step slots number_place 1 0 none) me) sized is start_driven (omega (arith, idle)) (omega (arith, idle)) (omega (arith, room, few)) (omega arith)
      (λ s r same seen mine. let idle' : IsIdle r.changes = omega (arith, same, idle) in
      (idle_not_running r.changes r.log idle' r.words.reaches, reaches_started r.changes r.log Engine idle' r.words.reaches, omega (arith, same, idle, room)))
      (λ n w right changes adds. (refl, right, changes, adds))

  pub finishes_here : (slots id : ℕ) (me : Sat) (d : ℕ) → me.0.processors ≡ bounds.processors → me.0.role ≡ Driver d → IsBehindFlip me.0.changes → number_word me.0.changes < 2 ^ 62
      → Reaches me.0.changes me.0.seen → ((i : Index) → WasEmpty i me.0.seen)
      → Allows (Kept bounds) slots id me number_place (λ x. (x + 2) % 2 ^ 64) (finished (step slots number_place 2 0 none) me)
  finishes_here slots id me d sized is behind small reached empty = drives slots id 2 me d (Finish Engine) (finished (step slots number_place 2 0 none) me) sized is finish_driven (omega (arith, behind)) (omega (arith, behind)) small (omega arith)
      (λ s r same seen mine. let behind' : IsBehindFlip r.changes = omega (arith, same, behind) in let a = reached.started in let b = r.words.reaches.started in
      let starts : starts_in me.0.seen ≡ starts_in r.log = omega (arith, a, b, same) in let most = r.within.periods in (
        empty_may_end r.log Engine r.within.legal (busy_running r.changes r.log (omega (arith, behind')) r.words.reaches) (λ i. empty_grows i seen starts (empty i)),
        reaches_finished r.changes r.log Engine behind' r.words.reaches,
        omega (arith, most, behind'),
      ))
      (λ n w right changes adds. (refl, right, changes, adds))

  -- Changes that are no events

  -- the rule after a change of a word
  changed : (s : State Slot View) (r : Kept bounds s) (id k x : ℕ) (cs : List (ℕ × Slot)) (w : View) (l : Step) → IsTrueOf (now r.log (r.changes + 1)) l
      → w.done ≡ r.deeds ++ deed Engine l (now r.log (r.changes + 1)) ∷ [] → Agree bounds.processors (set s.words k x) r.log (r.changes + 1) → r.changes + 1 ≤ 4 * bounds.periods → r.engine ≡ id
      → Fits (record (r.truth) { changes = r.changes + 1 }) id w
      → (shelf : KeepsShelf bounds (set s.words k x) (set s.views id w) r.log (r.deeds ++ deed Engine l (now r.log (r.changes + 1)) ∷ [])) → KeepsBanks bounds s.homes (set s.views id w) r.log shelf.texts → Kept bounds (stepped s k x id cs w keeps)
  changed s r id k x cs w l is all agree most here fits shelf banks = record {
    truth = record (r.truth) { changes = r.changes + 1 };
    known = known_on r.reached r.changes r.known;
    small = r.small;
    within = record { legal = r.within.legal; makers = r.within.makers; limited = r.within.limited; periods = most };
    words = agree;
    each_view = views_set (Fits (record (r.truth) { changes = r.changes + 1 })) s.views id w fits
        (λ j d ne at. fits_later r.truth (r.changes + 1) j (omega arith) (λ there. absurd (ne (sym there ∙ here))) d (r.each_view j d at));
    deeds = r.deeds ++ deed Engine l (now r.log (r.changes + 1)) ∷ [];
    done = done_push r.deeds Engine l (now r.log (r.changes + 1)) is (done_later r.deeds (now r.log r.changes) (now r.log (r.changes + 1)) (record { history = beginning_refl r.log; changes = omega arith }) r.done);
    each_done = each_more bounds s r id (deed Engine l (now r.log (r.changes + 1))) w here all;
    shelf = shelf;
    banks = banks;
  }

  -- an addition of 1 that is no event
  changes_here : (slots id k : ℕ) (me : Sat) (d : ℕ) (word : ℕ → ℕ) (l : ℕ → Step) (told_of : ℕ → Sat → Type 0) → me.0.processors ≡ bounds.processors → me.0.role ≡ Driver d
      → ((log : List Event) (changes n : ℕ) → n ≡ word changes → IsTrueOf (now log changes) (l n))
      → k < 32 → ((log : List Event) (texts : List Text) (n : ℕ) → IsTrueWord log texts (l n))
      → word me.0.changes < 2 ^ 62 → 0 < me.0.changes % 4 → me.0.changes % 4 < 3 → word (me.0.changes + 1) ≡ word me.0.changes + 1
      → ((s : State Slot View) (r : Kept bounds s) → (get_or s.words k 0 ≡ word r.changes)
      × ((y : ℕ) → y ≡ word (r.changes + 1) → r.changes ≡ me.0.changes → Agree bounds.processors (set s.words k y) r.log (r.changes + 1)))
      → ((n : ℕ) (w : View) → w.changes ≡ me.0.changes + 1 → n + 1 ≡ word w.changes → Sees (l (n + 1)) me.0 w → told_of n (w, me.1))
      → Allows (Kept bounds) slots id me k (λ x. (x + 1) % 2 ^ 64) told_of
  unfolding shelf_deed
  changes_here slots id k me d word l told_of sized is true_of aside no_word small busy few grows agrees tells s r _ at _ =
      let v : View = me.0 in
      let f = r.each_view id v at in
      let known : v.changes ≡ r.changes = exact bounds s r id v d at is in
      let made = makes_at f is in
      let changes' : ℕ = r.changes + 1 in
      let x : ℕ = get_or s.words k 0 in
      let y : ℕ = (x + 1) % 2 ^ 64 in
      let found : x ≡ word v.changes = (agrees s r).0 ∙ ap word (sym known) in
      let next : word changes' ≡ word (v.changes + 1) = ap (λ c. word (c + 1)) (sym known) in
      let up : y ≡ word changes' = omega (arith, found, small, grows, next) in
      let one : x + 1 ≡ word changes' = omega (arith, found, grows, next) in
      let most = r.within.periods in
      let reached = reaches_on r.changes r.log (omega (arith, known, busy)) (omega (arith, known, few)) r.words.reaches in
      let w : View = record { processors = v.processors; role = v.role; mine = v.mine; seen = r.log; changes = changes'; texts = r.shelf.texts; told = []; right = v.right; shown = v.shown; done = r.deeds ++ deed Engine (l (x + 1)) (now r.log changes') ∷ []; left = v.left } in
      let fits = fits_now (record (r.truth) { changes = changes' }) id w (known_on r.reached r.changes r.known) refl refl refl f.makes f.has f.shown in (
        w,
        keeps,
        tt,
        changed s r id k y me.1 w (l (x + 1)) (true_of r.log changes' (x + 1) one) refl ((agrees s r).1 y up (sym known)) (omega (arith, most, known, busy, few)) made.0 fits
            (let same = same_set bounds s.words k y (omega (arith, aside)) in shelf_deed bounds s.words (set s.words k y) s.views r.log r.deeds id w (deed Engine (l (x + 1)) (now r.log changes')) r.shelf same (length-set s.words k y) (no_word r.log r.shelf.texts (x + 1))
            (fits_all bounds (set s.words k y) r.log r.shelf.texts r.shelf.writer_of id w refl refl refl r.shelf.shelved.cells (writes_on bounds s.words (set s.words k y) r.log r.log r.shelf.writer_of id same (beginning_refl r.log) (λ c. refl) v.right (r.shelf.each id v at).writes)))
            (same_banks bounds s.homes s.views r.log r.shelf.texts r.banks id v w at (says_same v w refl refl)),
        tells x w (ap (λ c. c + 1) (sym known)) one (sees_now bounds s r id v Engine (l (x + 1)) w.changes at (engine_makes d v.role is) sized (omega arith) reached),
      )

  pub flips_here : (slots id : ℕ) (me : Sat) (d : ℕ) → me.0.processors ≡ bounds.processors → me.0.role ≡ Driver d → IsBeforeFlip me.0.changes → number_word me.0.changes < 2 ^ 62
      → Allows (Kept bounds) slots id me index_place (λ x. (x + 1) % 2 ^ 64) (flipped (step slots index_place 1 0 none) me)
  flips_here slots id me d sized is before small = changes_here slots id index_place me d index_word AddIndex (flipped (step slots index_place 1 0 none) me) sized is
      (λ _ _ _ e. e) (omega arith) (λ _ _ _. tt) (omega (arith, small, before)) (omega (arith, before)) (omega (arith, before)) (omega (arith, before))
      (λ s r. (r.words.index, λ y is' same. agrees_flipped bounds.processors s.words r.log r.changes r.words y (reaches_on r.changes r.log (omega (arith, same, before)) (omega (arith, same, before)) r.words.reaches) is' (omega (arith, same, before))))
      (λ n w changes one sees. (refl, changes, sees, one))

  pub moves_on_here : (slots id : ℕ) (me : Sat) (d : ℕ) → me.0.processors ≡ bounds.processors → me.0.role ≡ Driver d → IsFlipping me.0.changes → number_word me.0.changes < 2 ^ 62
      → Allows (Kept bounds) slots id me number_place (λ x. (x + 1) % 2 ^ 64) (moved_on (step slots number_place 1 0 none) me)
  moves_on_here slots id me d sized is flipping small = changes_here slots id number_place me d number_word AddNumber (moved_on (step slots number_place 1 0 none) me) sized is
      (λ _ _ _ e. e) (omega arith) (λ _ _ _. tt) small (omega (arith, flipping)) (omega (arith, flipping)) (omega (arith, flipping))
      (λ s r. (r.words.number, λ y is' same. agrees_numbered bounds.processors s.words r.log r.changes r.words y r.log (reaches_on r.changes r.log (omega (arith, same, flipping)) (omega (arith, same, flipping)) r.words.reaches) (omega (arith, same, flipping)) is' (λ _ _. refl) (λ _ _. refl)))
      (λ n w changes one sees. (refl, changes, sees, one))
