-- Each step of a processor keeps the rule.
use Rattle.std.proofs.Common.{length-set, ◌≡◌, ℕ, ◌+◌, ◌*◌, ◌%◌, ◌^◌, ◌<◌, ◌≤◌, ◌≢◌, Bool, true, false, cond, eqb, ltb, ◌&&◌, ⊎_elim, inl, inr, List, [], ◌∷◌, ◌++◌, All, None, get_or, set, refl, sym, ap, ◌∙◌, subst, eq-eqb, ne_eqb, lt-ltb, le-ltb, arith, length}
use Rattle.std.proofs.lemmas.List.Elements.{All-nil, All-head}
use mathlib.Core.Logic.{dite}
use mathlib.Core.Option.{none, some}
use native.Mathlib.Decide.{ℕ_discrete}
use lib.ListN.{get_elem?}
use lib.Seq.{set-get_or}
use Rattle.std.proofs.Math.Nat.{mul-le-mul_left}
use Rattle.atomic_table.specs.Table.{State, step, keeps, stepped, Allows}
use Rattle.sseq.specs.declared.index.Index.{Index}
use Rattle.sseq.proofs.CallerLemmas.{done_true, done_is}
use Rattle.sseq.specs.declared.index.Index.TheVariants.{Zero, One}
use Rattle.sseq.specs.Indexes.{index_number, same_index}
use Rattle.sseq.specs.Numbers.{cookie_at, IsCookieNumber, done_at}
use Rattle.onedom.specs.declared.event.Maker.{Maker}
use Rattle.onedom.specs.declared.event.Maker.TheVariants.{Processor}
use Rattle.onedom.specs.declared.event.Event.{Event}
use Rattle.onedom.specs.declared.event.Event.TheVariants.{Begin, End, Note, Ask}
use Rattle.onedom.specs.Histories.{ends, begins_of, IsOpen, is_start, is_finish, starts_in, ended_in, cookie_after, IsLegal, MayFollow, maker_of, same_maker, made_by, IsBeginning}
use Rattle.onedom.proofs.CallerLemmas.{bit, legal_push, made_by_own, same_maker_refl, same_maker_false, begins_of_push, open_begun, index_of_begun, bound, begins_of_made, beginning_refl, beginning_push}
use Rattle.sections.specs.Glossary.{HaveOneVault, KeepsBanks, hand_in, Slot, Bounds, Lent, Moment, Role, Right, Step, Text, View, is_held, number_place, lock_place, unlock_place, locks_at, locks, unlocks_at, unlocks, index_word, number_word, Reaches, Agree, Deed, HasItsMaker, HasReached, GoesOn, IsTrueOf, IsMaker, HasDone, Makes, Knows, Fits, Kept, Truth, put_cell, put_cells, texts_at, IsStart, AreTextsOf, FitsShelf, IsTrueWord, KeepsShelf, Owns, IsSound, Sees, Admits, Adds, Sat, looked, admitted, began, ended, FindsNumber, asked}
use Rattle.sections.proofs.Banking.{says_same, same_banks, push_banks, begin_banks, end_banks}
use Rattle.sections.specs.declared.view.Role.TheVariants.{Cpu, Driver}
use Rattle.sections.specs.declared.view.Right.TheVariants.{Nothing, Section}
use Rattle.sections.specs.declared.view.Step.TheVariants.{LoadIndex}
use Rattle.sections.specs.declared.view.Shown.TheVariants.{Unknown}
use Rattle.sections.specs.Plays.{noted}
use Rattle.sections.proofs.Counters.{index_low, index_number_same, locks_push, elsewhere, locks_mine, All-push, unlocks_bounded}
use Rattle.sections.proofs.Agreement.{agrees_begun, agrees_ended, agrees_plain}
use Rattle.sections.proofs.Offers.{one_vault_start}
use Rattle.sections.proofs.Shelving.{start_at, start_between, IsSameShelf, same_shelf, same_set, texts_on, writes_event, shelf_event, shelf_deed, knows_texts, fits_all}
use Rattle.sections.proofs.Deeds.{cpu_makes, stands_at, maker_at, deed, done_later, done_push, has_done_push, has_done_all, has_done_as, one_more_step}
use Rattle.sections.proofs.Knowing.{now, covers_as, views_set, given, given_here, given_else, seat_at, has_stays, fits_stay, fits_later, known_before, owns_from_makes, owns_between, not_false, false≠true, hits, fits_now, has_at, knows_at, makes_at, told_later}

-- The cookie of the number, and what is asked of it

pub same_cpu : (p q : ℕ) → Cpu p ≡ Cpu q → p ≡ q
same_cpu p q h = cc

abbrev factor : Bool → ℕ
factor idle = cond idle 1 2

abbrev more : Bool → ℕ
more running = cond running 2 1

pub note_follows : (n changes : ℕ) (log : List Event) → n ≡ number_word changes → Reaches changes log → cookie_at n ≡ cookie_after log
note_follows n changes log is r = let a = r.started in let b = r.ended in dite (ℕ_discrete (changes % 4) 0)
    (λ idle. let x : factor (eqb (n % 4) 0) ≡ 1 = ap factor (eq-eqb (n % 4) 0 (omega (arith, is, idle))) in
    let y : more (ltb (ended_in log) (starts_in log)) ≡ 1 = ap more (le-ltb (ended_in log) (starts_in log) (omega (arith, a, b, idle))) in omega (arith, is, idle, b, x, y))
    (λ busy. let x : factor (eqb (n % 4) 0) ≡ 2 = ap factor (ne_eqb (n % 4) 0 (λ h. omega (arith, is, busy, h))) in
    let y : more (ltb (ended_in log) (starts_in log)) ≡ 2 = ap more (lt-ltb (ended_in log) (starts_in log) (omega (arith, a, b, busy))) in omega (arith, is, busy, b, x, y))

pub ask_follows : (cookie n changes : ℕ) (log : List Event) → IsCookieNumber cookie → n ≡ number_word changes → Reaches changes log → MayFollow log (Ask cookie (done_at n cookie) (Processor 0))
ask_follows cookie n changes log whole is r = let b = r.ended in (
  whole,
  (
    (λ t. ⊎_elim (λ one. inl one) (λ le. ⊎_elim (λ one. inl one) (λ four. inr (omega (arith, four, is, b, le))) whole) (done_true n cookie t)),
    (λ done. done_is n cookie (⊎_elim (λ one. inl one) (λ le. inr (omega (arith, is, b, le))) done)),
  ),
)

-- a number for a new section, of either kind
fresh_as : (held : Bool) (history : List Event) → (s : ℕ) × (begins_of s history ≡ 0) × (is_held s ≡ held)
fresh_as false history = let b = bound history in (2 * b.0, b.1.above (2 * b.0) (omega arith), ne_eqb ((2 * b.0) % 2) 1 (λ h. omega (arith, h)))
fresh_as true history = let b = bound history in (2 * b.0 + 1, b.1.above (2 * b.0 + 1) (omega arith), eq-eqb ((2 * b.0 + 1) % 2) 1 (omega arith))

-- an event of a processor that neither begins nor ends anything
pub record IsTold (p : ℕ) (e : Event) : Type 0 where
  pub by : maker_of e ≡ Processor p
  pub no_start : is_start e ≡ false
  pub no_finish : is_finish e ≡ false
  pub no_lock : (q : ℕ) (i : Index) → locks_at q i e ≡ false
  pub no_unlock : (before : List Event) (q : ℕ) (i : Index) → unlocks_at q i before e ≡ false
  pub no_end : (s : ℕ) → ends s e ≡ false
  pub maker : (n : ℕ) → p < n → HasItsMaker n e
  pub no_put : put_cell e ≡ None

pub same_section : (s t p q : ℕ) (i j : Index) {us vs : List Lent} → Section s p i us None ≡ Section t q j vs None → (s ≡ t) × (p ≡ q) × (i ≡ j)
same_section s t p q i j h = (λ k. section_in (h k), λ k. processor_in (h k), λ k. index_in (h k))
  where
    section_in : Right → ℕ
    section_in (Section s p i us hand) = s
    section_in _ = 0

    processor_in : Right → ℕ
    processor_in (Section s p i us hand) = p
    processor_in _ = 0

    index_in : Right → Index
    index_in (Section s p i us hand) = i
    index_in _ = Zero

module _ (bounds : Bounds) where
  -- What was done

  -- the maker of a step at this seat is no maker of another seat
  pub alone : (b : Truth) (id : ℕ) (m : Maker) → seat_at b m ≡ id → (j : ℕ) → j ≢ id → (o : Maker) → seat_at b o ≡ j → same_maker m o ≡ false
  alone b id m here j ne o there = same_maker_false m o (λ e. ne (sym there ∙ (ap (seat_at b) (sym e) ∙ here)))

  -- a step of the maker at this seat was added
  pub each_more : (s : State Slot View) (r : Kept bounds s) (id : ℕ) (d : Deed) (w : View) → seat_at r.truth d.by ≡ id → w.done ≡ r.deeds ++ d ∷ []
      → (j : ℕ) (u : View) → get_elem? (set s.views id w) j ≡ some u → HasDone (r.deeds ++ d ∷ []) u
  each_more s r id d w here all = views_set (λ _ u. HasDone (r.deeds ++ d ∷ []) u) s.views id w (has_done_all (r.deeds ++ d ∷ []) w all)
      (λ j u ne at. has_done_push r.deeds d u (λ m g. alone r.truth id d.by here j ne m (stands_at (r.each_view j u at) m g)) (r.each_done j u at))

  -- none was
  pub each_as : (s : State Slot View) (r : Kept bounds s) (id : ℕ) (v w : View) → get_elem? s.views id ≡ some v → w.role ≡ v.role → w.done ≡ v.done
      → (j : ℕ) (u : View) → get_elem? (set s.views id w) j ≡ some u → HasDone r.deeds u
  each_as s r id v w at role done = views_set (λ _ u. HasDone r.deeds u) s.views id w (has_done_as r.deeds v w role done (r.each_done id v at)) (λ j u _ e. r.each_done j u e)

  -- Loads that are no events

  -- a load changes no word, and its seat has then seen all
  unmoved : (s : State Slot View) (r : Kept bounds s) (k id : ℕ) (cs : List (ℕ × Slot)) (w : View) (by : Maker) (l : Step) → IsTrueOf (now r.log r.changes) l → seat_at r.truth by ≡ id → w.done ≡ r.deeds ++ deed by l (now r.log r.changes) ∷ [] → Fits r.truth id w
      → IsTrueWord r.log r.shelf.texts l → FitsShelf bounds s.words r.log r.shelf.texts r.shelf.writer_of id w → KeepsBanks bounds s.homes (set s.views id w) r.log r.shelf.texts → Kept bounds (stepped s k (get_or s.words k 0) id cs w keeps)
  unfolding shelf_deed
  unmoved s r k id cs w by l is here all fits word fits_shelf banks = subst (λ (ws : List ℕ). Kept bounds record { words = ws; homes = s.homes; views = set s.views id w }) (sym (set-get_or s.words k 0)) record {
    truth = r.truth;
    known = r.known;
    small = r.small;
    within = r.within;
    words = r.words;
    each_view = views_set (Fits r.truth) s.views id w fits (λ j d _ e. r.each_view j d e);
    deeds = r.deeds ++ deed by l (now r.log r.changes) ∷ [];
    done = done_push r.deeds by l (now r.log r.changes) is r.done;
    each_done = each_more s r id (deed by l (now r.log r.changes)) w here all;
    shelf = shelf_deed bounds s.words s.words s.views r.log r.deeds id w (deed by l (now r.log r.changes)) r.shelf (same_shelf bounds s.words) refl word fits_shelf;
    banks = banks;
  }

  -- the history is sound for a seat with all events of its maker
  pub sound_now : (s : State Slot View) (r : Kept bounds s) (n : ℕ) (role : Role) (mine : List Event) (changes' : ℕ) → n ≡ bounds.processors → Owns role mine r.log → Reaches changes' r.log → IsSound n role mine r.log changes' r.shelf.texts
  sound_now s r n role mine changes' sized own reaches = record {
    legal = r.within.legal;
    makers = subst (λ (z : ℕ). All (HasItsMaker z) r.log) (sym sized) r.within.makers;
    own = own;
    reaches = reaches;
    texts = r.shelf.shelved.cells;
    vaults = r.banks.one_vault;
  }

  -- what a seat that has seen all is told of a step that is no event
  pub sees_now : (s : State Slot View) (r : Kept bounds s) (id : ℕ) (v : View) (m : Maker) (l : Step) (changes' : ℕ) → get_elem? s.views id ≡ some v → IsMaker v.role m → v.processors ≡ bounds.processors → r.changes ≤ changes' → Reaches changes' r.log
      → Sees l v (record v { seen = r.log; changes = changes'; texts = r.shelf.texts; told = []; done = r.deeds ++ deed m l (now r.log changes') ∷ [] })
  sees_now s r id v m l changes' at is sized on reaches = let f = r.each_view id v at in record {
    processors = refl;
    role = refl;
    mine = refl;
    right = refl;
    shown = refl;
    told = refl;
    steps = one_more_step v.role m l (now r.log changes') v.done r.deeds is (r.each_done id v at).own;
    since = f.seen;
    later = (let low = known_before f in omega (arith, low, on));
    covers = covers_as v.told r.log changes' r.shelf.texts (told_later v.told r.log r.changes changes' on f.told);
    texts = knows_texts bounds s.words r.log r.shelf.texts r.shelf.writer_of id v _ (r.shelf.each id v at) refl;
    sound = sound_now s r v.processors v.role v.mine changes' sized (owns_from_makes f) reaches;
  }

  -- what the seat is told by such a load, it may be told whatever the table is
  pub loads_here : (slots id k : ℕ) (me : Sat) (m : Maker) (l : ℕ → List Event → Step) (told_of : ℕ → Sat → Type 0) → IsMaker me.0.role m → me.0.processors ≡ bounds.processors
      → ((s : State Slot View) (r : Kept bounds s) → get_elem? s.views id ≡ some me.0 → IsTrueOf (now r.log r.changes) (l (get_or s.words k 0) r.log) × IsTrueWord r.log r.shelf.texts (l (get_or s.words k 0) r.log))
      → ((s : State Slot View) (r : Kept bounds s) (w : View) → get_elem? s.views id ≡ some me.0 → w.seen ≡ r.log → w.changes ≡ r.changes → w.texts ≡ r.shelf.texts → Sees (l (get_or s.words k 0) w.seen) me.0 w → told_of (get_or s.words k 0) (w, me.1))
      → Allows (Kept bounds) slots id me k (λ x. x) told_of
  loads_here slots id k me m l told_of is sized true_of tells s r _ at _ = let v : View = me.0 in let f = r.each_view id v at in let n : ℕ = get_or s.words k 0 in
      let w : View = record { processors = v.processors; role = v.role; mine = v.mine; seen = r.log; changes = r.changes; texts = r.shelf.texts; told = []; right = v.right; shown = v.shown; done = r.deeds ++ deed m (l n r.log) (now r.log r.changes) ∷ []; left = v.left } in (
        w,
        keeps,
        tt,
        unmoved s r k id me.1 w m (l n r.log) (true_of s r at).0 (maker_at f m is) refl
            (fits_now r.truth id w r.known refl refl refl f.makes f.has f.shown)
            (true_of s r at).1 (fits_all bounds s.words r.log r.shelf.texts r.shelf.writer_of id w refl refl refl r.shelf.shelved.cells (r.shelf.each id v at).writes) (same_banks bounds s.homes s.views r.log r.shelf.texts r.banks id v w at (says_same v w refl refl)),
        tells s r w at refl refl refl (sees_now s r id v m (l n r.log) w.changes at is sized (omega arith) r.words.reaches),
      )

  -- the engine knows how many changes there were
  pub exact : (s : State Slot View) (r : Kept bounds s) (id : ℕ) (v : View) (d : ℕ) → get_elem? s.views id ≡ some v → v.role ≡ Driver d → v.changes ≡ r.changes
  exact s r id v d at is = knows_at (r.each_view id v at) is

  pub looks : (slots id : ℕ) (me : Sat) (m : Maker) → IsMaker me.0.role m → me.0.processors ≡ bounds.processors → Allows (Kept bounds) slots id me 0 (λ x. x) (looked (step slots 0 0 0 none) me)
  looks slots id me m is sized = loads_here slots id 0 me m (λ n _. LoadIndex n) (looked (step slots 0 0 0 none) me) is sized (λ s r _. (r.words.index, tt))
      (λ s r w at seen changes _ sees. (refl, sees, r.words.index ∙ ap index_word (sym changes), refl, λ d is. changes ∙ sym (exact s r id me.0 d at is)))

  -- a load by a processor that was told of a history, which covers its own: it made no event that is not there
  pub admits_here : (slots id : ℕ) (me : Sat) (p : ℕ) (o : Moment) → me.0.processors ≡ bounds.processors → me.0.role ≡ Cpu p → me.0.told ≡ o ∷ [] → IsBeginning me.0.seen o.history → me.0.changes ≤ o.changes
      → Owns me.0.role me.0.mine me.0.seen → IsLegal o.history → All (HasItsMaker bounds.processors) o.history → Reaches o.changes o.history → AreTextsOf o.texts o.history
      → Allows (Kept bounds) slots id me 0 (λ x. x) (admitted (step slots 0 0 0 none) me)
  admits_here slots id me p o sized is told since later own legal makers reaches texts s r _ at _ =
      let v : View = me.0 in
      let f = r.each_view id v at in
      let n : ℕ = get_or s.words 0 0 in
      let m : Maker = Processor p in
      let makes : IsMaker v.role m = cpu_makes p v.role is in
      let goes : GoesOn o (now r.log r.changes) = All-head (λ x. GoesOn x (now r.log r.changes)) o [] (subst (λ (l : List Moment). All (λ x. GoesOn x (now r.log r.changes)) l) told f.told) in
      let low = goes.changes in
      let has_texts : o.texts ≡ texts_at r.shelf.texts o.history = All-head (λ x. x.texts ≡ texts_at r.shelf.texts x.history) o [] (subst (λ (l : List Moment). All (λ x. x.texts ≡ texts_at r.shelf.texts x.history) l) told (r.shelf.each id v at).told) in
      let knows = knows_at f is in
      let known = knows.0 in
      let w : View = record { processors = v.processors; role = v.role; mine = v.mine; seen = o.history; changes = o.changes; texts = texts_at r.shelf.texts o.history; told = []; right = v.right; shown = Unknown; done = r.deeds ++ deed m (LoadIndex n) (now r.log r.changes) ∷ []; left = v.left } in (
        w,
        keeps,
        tt,
        unmoved s r 0 id me.1 w m (LoadIndex n) r.words.index (maker_at f m makes) refl record {
          seen = goes.history;
          knows = subst (λ (x : Role). Knows r.truth id x o.changes) (sym is) (omega (arith, known, later), low);
          told = All-nil (λ x. GoesOn x (now r.log r.changes));
          makes = f.makes;
          has = f.has;
          shown = tt;
        } tt record { has = refl; told = All-nil (λ x. x.texts ≡ texts_at r.shelf.texts x.history); writes = (r.shelf.each id v at).writes } (same_banks bounds s.homes s.views r.log r.shelf.texts r.banks id v w at (says_same v w refl refl)),
        (
          refl,
          refl,
          λ o' told'. subst (λ (z : Moment). Admits n z v w) (ap (head_or o) (sym told ∙ told')) record {
            processors = refl;
            role = refl;
            mine = refl;
            right = refl;
            told = refl;
            steps = one_more_step v.role m (LoadIndex n) (now r.log r.changes) v.done r.deeds makes (r.each_done id v at).own;
            seen = refl;
            changes = refl;
            texts = sym has_texts;
            texts_since = λ b. subst (λ (z : List Text × List Text). IsStart z.0 z.1) (λ i. (sym (r.shelf.each id v at).has i, sym has_texts i)) (start_between v.seen o.history r.shelf.texts b);
            found = record { moment = r.changes; word = r.words.index; not_before = goes.changes };
            heard = λ q c is' shown'.
                let reached : c ≤ r.reached q = subst (HasReached r.reached) shown' f.shown in
                let below = (knows_at f is').0 in
                omega (arith, reached, below);
            sound = record {
              legal = legal;
              makers = subst (λ (z : ℕ). All (HasItsMaker z) o.history) (sym sized) makers;
              own = owns_between v.role v.mine v.seen o.history r.log own since goes.history (owns_from_makes f);
              reaches = reaches;
              texts = subst (λ (z : List Text). AreTextsOf z o.history) has_texts texts;
              vaults = one_vault_start (texts_at r.shelf.texts o.history) r.shelf.texts (start_at (length (put_cells o.history)) r.shelf.texts) r.banks.one_vault;
            };
          },
        ),
      )
    where
      head_or : Moment → List Moment → Moment
      head_or d [] = d
      head_or d (x ∷ xs) = x

  -- Events

  -- the rule after one event of the maker at this seat, which changed one word
  pub added : (s : State Slot View) (r : Kept bounds s) (id k x : ℕ) (cs : List (ℕ × Slot)) (w : View) (e : Event) (changes' : ℕ) (holder' : ℕ → ℕ) → MayFollow r.log e → HasItsMaker bounds.processors e
      → Agree bounds.processors (set s.words k x) (r.log ++ e ∷ []) changes'
      → r.changes ≤ changes' → changes' ≤ 4 * bounds.periods → ((j : ℕ) → j ≢ id → r.engine ≡ j → changes' ≡ r.changes)
      → ((p : ℕ) (i : Index) → locks p i (r.log ++ e ∷ []) ≤ bounds.sections)
      → ((j : ℕ) → j ≢ id → (m : Maker) → seat_at r.truth m ≡ j → same_maker (maker_of e) m ≡ false)
      → ((t : ℕ) → ends t e ≡ true → r.holder t ≡ id)
      → ((t : ℕ) → IsOpen r.log t → holder' t ≡ r.holder t)
      → Fits (record (r.truth) { log = r.log ++ e ∷ []; changes = changes'; holder = holder' }) id w
      → (v : View) → get_elem? s.views id ≡ some v → w.role ≡ v.role → w.done ≡ v.done
      → (shelf : KeepsShelf bounds (set s.words k x) (set s.views id w) (r.log ++ e ∷ []) r.deeds) → KeepsBanks bounds s.homes (set s.views id w) (r.log ++ e ∷ []) shelf.texts
      → Kept bounds (stepped s k x id cs w keeps)
  added s r id k x cs w e changes' holder' may made agree forth most same_changes limited other ended_here same fits v at role done shelf banks = record {
    truth = record (r.truth) { log = r.log ++ e ∷ []; changes = changes'; holder = holder' };
    known = λ p. let most = r.known p in omega (arith, most, forth);
    small = r.small;
    within = record { legal = legal_push r.log e r.within.legal may; makers = All-push (HasItsMaker bounds.processors) r.log e r.within.makers made; limited = limited; periods = most };
    words = agree;
    each_view = views_set (Fits (record (r.truth) { log = r.log ++ e ∷ []; changes = changes'; holder = holder' })) s.views id w fits (λ j d ne at. fits_later (record (r.truth) { log = r.log ++ e ∷ []; holder = holder' }) changes' j forth (same_changes j ne) d
        (fits_stay r.truth holder' j e may (other j ne)
        (λ t h. not_false (ends t e) (λ y. ne (sym h ∙ ended_here t y))) same d (r.each_view j d at)));
    deeds = r.deeds;
    done = done_later r.deeds (now r.log r.changes) (now (r.log ++ e ∷ []) changes') (record { history = beginning_push e (beginning_refl r.log); changes = forth }) r.done;
    each_done = each_as s r id v w at role done;
    shelf = shelf;
    banks = banks;
  }

  -- an event of a processor leaves the number and the index word as they are
  pub happened : (s : State Slot View) (r : Kept bounds s) (id k x : ℕ) (cs : List (ℕ × Slot)) (w : View) (e : Event) (holder' : ℕ → ℕ) → MayFollow r.log e → HasItsMaker bounds.processors e
      → Agree bounds.processors (set s.words k x) (r.log ++ e ∷ []) r.changes
      → ((p : ℕ) (i : Index) → locks p i (r.log ++ e ∷ []) ≤ bounds.sections)
      → ((j : ℕ) → j ≢ id → (m : Maker) → seat_at r.truth m ≡ j → same_maker (maker_of e) m ≡ false)
      → ((t : ℕ) → ends t e ≡ true → r.holder t ≡ id)
      → ((t : ℕ) → IsOpen r.log t → holder' t ≡ r.holder t)
      → Fits (record (r.truth) { log = r.log ++ e ∷ []; holder = holder' }) id w
      → (v : View) → get_elem? s.views id ≡ some v → w.role ≡ v.role → w.done ≡ v.done
      → (shelf : KeepsShelf bounds (set s.words k x) (set s.views id w) (r.log ++ e ∷ []) r.deeds) → KeepsBanks bounds s.homes (set s.views id w) (r.log ++ e ∷ []) shelf.texts
      → Kept bounds (stepped s k x id cs w keeps)
  happened s r id k x cs w e holder' may made agree limited other ended_here same fits v at role done shelf banks = let most = r.within.periods in added s r id k x cs w e r.changes holder' may made agree (omega arith) most (λ _ _ _. refl) limited other ended_here same fits v at role done shelf banks

  pub sound_after : (s : State Slot View) (r : Kept bounds s) (e : Event) (n : ℕ) (role : Role) (mine : List Event) (changes' : ℕ) (known : List Text) → MayFollow r.log e → HasItsMaker bounds.processors e → n ≡ bounds.processors
      → Reaches changes' (r.log ++ e ∷ []) → Owns role mine (r.log ++ e ∷ []) → AreTextsOf known (r.log ++ e ∷ []) → HaveOneVault known → IsSound n role mine (r.log ++ e ∷ []) changes' known
  sound_after s r e n role mine changes' known may made sized reaches own texts vaults = record {
    legal = legal_push r.log e r.within.legal may;
    makers = subst (λ (z : ℕ). All (HasItsMaker z) (r.log ++ e ∷ [])) (sym sized) (All-push (HasItsMaker bounds.processors) r.log e r.within.makers made);
    own = own;
    reaches = reaches;
    texts = texts;
    vaults = vaults;
  }

  -- what a seat that has seen all is told of an event behind that
  pub adds_now : (s : State Slot View) (r : Kept bounds s) (id : ℕ) (v : View) (e : Event) (changes' : ℕ) (right : Right) → get_elem? s.views id ≡ some v → MayFollow r.log e → HasItsMaker bounds.processors e → put_cell e ≡ None
      → v.processors ≡ bounds.processors → r.changes ≤ changes' → Reaches changes' (r.log ++ e ∷ []) → Owns v.role (v.mine ++ e ∷ []) (r.log ++ e ∷ [])
      → Adds v e (record v { mine = v.mine ++ e ∷ []; seen = r.log ++ e ∷ []; changes = changes'; texts = r.shelf.texts; told = []; right = right })
  adds_now s r id v e changes' right at may made unput sized on reaches own = let f = r.each_view id v at in record {
    before = r.log;
    seen = refl;
    since = f.seen;
    later = (let low = known_before f in omega (arith, low, on));
    covers = told_later v.told r.log r.changes changes' on f.told;
    processors = refl;
    role = refl;
    mine = refl;
    shown = refl;
    told = refl;
    done = refl;
    texts = knows_texts bounds s.words r.log r.shelf.texts r.shelf.writer_of id v _ (r.shelf.each id v at) refl;
    sound = sound_after s r e v.processors v.role (v.mine ++ e ∷ []) changes' r.shelf.texts may made sized reaches own (texts_on r.shelf.texts r.log e unput r.shelf.shelved.cells) r.banks.one_vault;
  }

  -- A section begins: its number is new, and no other seat can know it
  pub begins_here : (held : Bool) (slots id k : ℕ) (me : Sat) (p : ℕ) (i : Index) → me.0.processors ≡ bounds.processors → me.0.role ≡ Cpu p → p < bounds.processors → k ≡ lock_place p i → locks p i me.0.mine < bounds.sections → hand_in me.0.right ≡ None
      → Allows (Kept bounds) slots id me k (λ x. (x + 1) % 2 ^ 64) (began held (step slots k 1 0 none) me)
  unfolding shelf_event
  begins_here held slots id k me p i sized is lt place room free s r _ at _ =
      let v : View = me.0 in
      let f = r.each_view id v at in
      let made = makes_at f is in
      let new = fresh_as held r.log in
      let t : ℕ = new.0 in
      let e : Event = Begin t p i (Processor p) in
      let log' : List Event = r.log ++ e ∷ [] in
      let x : ℕ = get_or s.words k 0 in
      let y : ℕ = (x + 1) % 2 ^ 64 in
      let K : ℕ → Type 0 = λ z. Agree bounds.processors (set s.words z (get_or s.words z 0 + 1)) log' r.changes in
      let agree : Agree bounds.processors (set s.words k (x + 1)) log' r.changes = subst K (sym place) (agrees_begun bounds.processors s.words r.log r.changes r.words t p i (Processor p) lt) in
      let found : x ≡ locks p i r.log = ap (λ z. get_or s.words z 0) place ∙ r.words.lock_counters p i lt in
      let same : locks p i v.mine ≡ locks p i r.log = ap (locks p i) made.1 ∙ locks_mine bounds.processors p i r.log r.within.makers in
      let small = r.small.counters in
      let below : bounds.sections < 2 ^ 62 = small_limit bounds.processors bounds.sections p lt small in
      let up : y ≡ x + 1 = omega (arith, found, same, room, below) in
      let w : View = record { processors = v.processors; role = v.role; mine = v.mine ++ e ∷ []; seen = log'; changes = r.changes; texts = r.shelf.texts; told = []; right = Section t p i [] None; shown = v.shown; done = v.done; left = v.left } in
      let holder' : ℕ → ℕ = given t id r.holder in
      let after : Truth = record (r.truth) { log = log'; holder = holder' } in
      let by_p : same_maker (Processor p) (Processor p) ≡ true = same_maker_refl (Processor p) in
      let mine' : v.mine ++ e ∷ [] ≡ made_by (Processor p) log' = ap (λ l. l ++ e ∷ []) made.1 ∙ sym (made_by_own (Processor p) r.log e by_p) in
      let fits = fits_now after id w r.known refl refl refl
      (subst (λ (m : Role). Makes after id m (v.mine ++ e ∷ [])) (sym is) (made.0, mine'))
      (given_here t id r.holder, open_begun t p i (Processor p) r.log r.within.legal new.1, index_of_begun t p i (Processor p) r.log, ap (begins_of t) (made_by_own (Processor p) r.log e by_p) ∙ begun_once t p i r.log new.1) f.shown in (
        w,
        keeps,
        tt,
        happened s r id k y me.1 w e holder' new.1 (lt, refl)
            (subst (λ (z : ℕ). Agree bounds.processors (set s.words k z) log' r.changes) (sym up) agree)
            (λ q j. limited_still q j t p i r.log (r.within.limited q j) (omega (arith, same, room)))
            (λ j ne m there. alone r.truth id (Processor p) made.0 j ne m there)
            (λ u no_end. absurd (false≠true no_end))
            (λ u is_open. given_else t id r.holder u (λ ut. let begun : 0 < begins_of t r.log = subst (λ (z : ℕ). 0 < begins_of z r.log) ut is_open.0 in let unbegun = new.1 in omega (arith, begun, unbegun)))
            fits v at refl refl
            (shelf_event bounds s.words (set s.words k y) s.views r.log r.deeds id w e r.shelf (same_set bounds s.words k y (let low = index_low i in omega (arith, place, lt, low))) (length-set s.words k y) r.within.legal new.1 refl
            (fits_all bounds (set s.words k y) log' r.shelf.texts r.shelf.writer_of id w refl refl refl (texts_on r.shelf.texts r.log e refl r.shelf.shelved.cells) tt))
            (begin_banks bounds s.homes s.views r.log r.shelf.texts r.banks e id t p i v w r.within.legal new.1 refl (λ u. refl) new.1 at refl free refl),
        (
          refl,
          λ q j is' word. let pq : p ≡ q = same_cpu p q (sym is ∙ is') in let ij : i ≡ j = same_lock p q i j pq (sym place ∙ word) in
              subst (λ (z : ℕ × Index). (u : ℕ) × Adds v (Begin u z.0 z.1 (Processor z.0)) w × (w.right ≡ Section u z.0 z.1 [] None) × (is_held u ≡ held)) (λ h. (pq h, ij h)) (
                t,
                (adds_now s r id v e w.changes w.right at new.1 (lt, refl) refl sized (omega arith) agree.reaches (owns_from_makes fits)),
                refl,
                new.2,
              ),
        ),
      )
    where
      begun_once : (t p : ℕ) (i : Index) (log : List Event) → begins_of t log ≡ 0 → begins_of t (made_by (Processor p) log ++ Begin t p i (Processor p) ∷ []) ≡ 1
      begun_once t p i log unbegun = let c = begins_of_push t (made_by (Processor p) log) (Begin t p i (Processor p)) in let m = begins_of_made (Processor p) t log in
          let o : bit (eqb t t) ≡ 1 = ap bit (eq-eqb t t refl) in omega (arith, c, m, unbegun, o)

      same_cpu : (p q : ℕ) → Cpu p ≡ Cpu q → p ≡ q
      same_cpu p q h = cc

      same_lock : (p q : ℕ) (i j : Index) → p ≡ q → lock_place p i ≡ lock_place q j → i ≡ j
      same_lock p q i j pq e = index_number_same i j (omega arith)

      small_limit : (n limit p : ℕ) → p < n → n * limit ≤ 2 ^ 60 → limit < 2 ^ 62
      small_limit n limit p lt small = let m = mul-le-mul_left limit one_below in omega (arith, m, small)
        where
          one_below : 1 ≤ n
          one_below = omega arith

      limited_still : (q : ℕ) (j : Index) (t p : ℕ) (i : Index) (log : List Event) → locks q j log ≤ bounds.sections → locks p i log < bounds.sections → locks q j (log ++ Begin t p i (Processor p) ∷ []) ≤ bounds.sections
      limited_still q j t p i log was room = let c = locks_push q j log (Begin t p i (Processor p)) in dite (ℕ_discrete p q)
          (λ pq. index_case i j (λ ij. let same : locks p i log ≡ locks q j log = (λ k. locks (pq k) (ij k) log) in let b = small_bit (eqb p q && same_index i j) in omega (arith, c, b, same, room))
          (λ ne. let zero : bit (eqb p q && same_index i j) ≡ 0 = ap bit (elsewhere p q i j (λ _. ne)) in omega (arith, c, zero, was)))
          (λ ne. let zero : bit (eqb p q && same_index i j) ≡ 0 = ap bit (elsewhere p q i j (λ pq. absurd (ne pq))) in omega (arith, c, zero, was))
        where
          small_bit : (b : Bool) → bit b ≤ 1
          small_bit true = omega arith
          small_bit false = omega arith

          index_case : {P : Type 0} (i j : Index) → (i ≡ j → P) → (i ≢ j → P) → P
          index_case Zero Zero a b = a refl
          index_case Zero One a b = b (λ e. let z : 0 ≡ 1 = ap index_number e in omega arith)
          index_case One Zero a b = b (λ e. let z : 1 ≡ 0 = ap index_number e in omega arith)
          index_case One One a b = a refl

  -- A section ends: the right to end it is this seat's alone, so no other seat counts on it
  pub ends_here : (slots id k : ℕ) (me : Sat) (s p q : ℕ) (i : Index) → me.0.processors ≡ bounds.processors → me.0.role ≡ Cpu q → me.0.right ≡ Section s p i [] None → q < bounds.processors → k ≡ unlock_place q i
      → Allows (Kept bounds) slots id me k (λ x. (x + 1) % 2 ^ 64) (ended (step slots k 1 0 none) me)
  unfolding shelf_event
  ends_here slots id k me t p q i sized is right lt place s r _ at _ =
      let v : View = me.0 in
      let f = r.each_view id v at in
      let made = makes_at f is in
      let has = has_at f right in
      let e : Event = End t q (Processor q) in
      let log' : List Event = r.log ++ e ∷ [] in
      let after : Truth = record (r.truth) { log = log' } in
      let x : ℕ = get_or s.words k 0 in
      let y : ℕ = (x + 1) % 2 ^ 64 in
      let K : ℕ → Type 0 = λ z. Agree bounds.processors (set s.words z (get_or s.words z 0 + 1)) log' r.changes in
      let agree : Agree bounds.processors (set s.words k (x + 1)) log' r.changes = subst K (sym place) (agrees_ended bounds.processors s.words r.log r.changes r.words t q i (Processor q) lt has.2) in
      let found : x ≡ unlocks q i r.log = ap (λ z. get_or s.words z 0) place ∙ r.words.unlock_counters q i lt in
      let most = unlocks_bounded bounds.processors bounds.sections q i r.log r.within.legal r.within.makers r.within.limited in
      let small = r.small.counters in
      let up : y ≡ x + 1 = omega (arith, found, most, small) in
      let by_q : same_maker (Processor q) (Processor q) ≡ true = same_maker_refl (Processor q) in
      let mine' : v.mine ++ e ∷ [] ≡ made_by (Processor q) log' = ap (λ l. l ++ e ∷ []) made.1 ∙ sym (made_by_own (Processor q) r.log e by_q) in
      let w : View = record { processors = v.processors; role = v.role; mine = v.mine ++ e ∷ []; seen = log'; changes = r.changes; texts = r.shelf.texts; told = []; right = Nothing; shown = v.shown; done = v.done; left = v.left } in
      let fits = fits_now after id w r.known refl refl refl (subst (λ (m : Role). Makes after id m (v.mine ++ e ∷ [])) (sym is) (made.0, mine')) tt f.shown in (
        w,
        keeps,
        tt,
        happened s r id k y me.1 w e r.holder has.1 (lt, refl)
            (subst (λ (z : ℕ). Agree bounds.processors (set s.words k z) log' r.changes) (sym up) agree)
            (λ o j. let c = locks_push o j r.log e in let was = r.within.limited o j in omega (arith, c, was))
            (λ j ne m there. alone r.truth id (Processor q) made.0 j ne m there)
            (λ u hit. ap r.holder (sym (hits t u hit)) ∙ has.0)
            (λ u _. refl)
            fits v at refl refl
            (shelf_event bounds s.words (set s.words k y) s.views r.log r.deeds id w e r.shelf (same_set bounds s.words k y (let low = index_low i in omega (arith, place, lt, low))) (length-set s.words k y) r.within.legal has.1 refl
            (fits_all bounds (set s.words k y) log' r.shelf.texts r.shelf.writer_of id w refl refl refl (texts_on r.shelf.texts r.log e refl r.shelf.shelved.cells) tt))
            (end_banks bounds s.homes s.views r.log r.shelf.texts r.banks e id t p i v w r.within.legal has.1 refl (λ u hit. sym (hits t u hit)) at refl right refl),
        (
          refl,
          refl,
          λ u o c j is' right'. let qc : q ≡ c = same_cpu q c (sym is ∙ is') in let same = same_section t u p o i j (sym right ∙ right') in (
            subst (λ (z : ℕ × ℕ). Adds v (End z.0 z.1 (Processor z.1)) w) (λ h. (same.0 h, qc h)) (adds_now s r id v e w.changes w.right at has.1 (lt, refl) refl sized (omega arith) agree.reaches (owns_from_makes fits)),
            λ oc. let qp : q ≡ p = qc ∙ (sym oc ∙ sym same.1) in (λ h. begins_of (sym same.0 h) v.mine) ∙ (ap (begins_of t) (made.1 ∙ (λ h. made_by (Processor (qp h)) r.log)) ∙ has.3),
          ),
        ),
      )
    where
      same_cpu : (p q : ℕ) → Cpu p ≡ Cpu q → p ≡ q
      same_cpu p q h = cc

  -- A cookie is given, or asked after, by a load of the number

  -- the number that was found
  pub finds : (s : State Slot View) (r : Kept bounds s) (w : View) → w.changes ≡ r.changes → FindsNumber (get_or s.words number_place 0) w
  finds s r w same = let most = r.within.periods in let few = r.small.periods in let is = r.words.number in record { current = r.words.number ∙ ap number_word (sym same); room = omega (arith, is, most, few) }

  -- an event that a load makes
  pub tells_at : (slots id k : ℕ) (me : Sat) (p : ℕ) (e : ℕ → Event) (told_of : ℕ → Sat → Type 0) → me.0.processors ≡ bounds.processors → me.0.role ≡ Cpu p → p < bounds.processors
      → ((n : ℕ) → IsTold p (e n)) → ((s : State Slot View) (r : Kept bounds s) → get_elem? s.views id ≡ some me.0 → MayFollow r.log (e (get_or s.words k 0)))
      → ((s : State Slot View) (r : Kept bounds s) (w : View) → w.changes ≡ r.changes → w.texts ≡ r.shelf.texts → w.right ≡ me.0.right → Adds me.0 (e (get_or s.words k 0)) w → told_of (get_or s.words k 0) (w, me.1))
      → Allows (Kept bounds) slots id me k (λ x. x) told_of
  unfolding shelf_event
  tells_at slots id k me p event told_of sized is lt told follows tells s r _ at _ =
      let v : View = me.0 in
      let f = r.each_view id v at in
      let made = makes_at f is in
      let n : ℕ = get_or s.words k 0 in
      let e : Event = event n in
      let t = told n in
      let may = follows s r at in
      let log' : List Event = r.log ++ e ∷ [] in
      let after : Truth = record (r.truth) { log = log' } in
      let agree : Agree bounds.processors s.words log' r.changes = agrees_plain bounds.processors s.words r.log r.changes r.words e t.no_start t.no_finish t.no_lock (t.no_unlock r.log) in
      let by_p : same_maker (maker_of e) (Processor p) ≡ true = ap (λ m. same_maker m (Processor p)) t.by ∙ same_maker_refl (Processor p) in
      let mine' : v.mine ++ e ∷ [] ≡ made_by (Processor p) log' = ap (λ l. l ++ e ∷ []) made.1 ∙ sym (made_by_own (Processor p) r.log e by_p) in
      let w : View = record { processors = v.processors; role = v.role; mine = v.mine ++ e ∷ []; seen = log'; changes = r.changes; texts = r.shelf.texts; told = []; right = v.right; shown = v.shown; done = v.done; left = v.left } in
      let fits = fits_now after id w r.known refl refl refl (subst (λ (m : Role). Makes after id m (v.mine ++ e ∷ [])) (sym is) (made.0, mine')) (has_stays r.truth r.holder id e may (λ u _. t.no_end u) (λ _ _. refl) v.right f.has) f.shown in (
        w,
        keeps,
        tt,
        happened s r id k n me.1 w e r.holder may (t.maker bounds.processors lt)
            (subst (λ (ws : List ℕ). Agree bounds.processors ws log' r.changes) (sym (set-get_or s.words k 0)) agree)
            (λ q j. let c = locks_push q j r.log e in let z = ap bit (t.no_lock q j) in let was = r.within.limited q j in omega (arith, c, z, was))
            (λ j ne m there. ap (λ x. same_maker x m) t.by ∙ alone r.truth id (Processor p) made.0 j ne m there)
            (λ u hit. absurd (false≠true (sym (t.no_end u) ∙ hit)))
            (λ u _. refl)
            fits v at refl refl
            (let same : IsSameShelf bounds s.words (set s.words k n) = subst (λ (ws : List ℕ). IsSameShelf bounds s.words ws) (sym (set-get_or s.words k 0)) (same_shelf bounds s.words) in
            shelf_event bounds s.words (set s.words k n) s.views r.log r.deeds id w e r.shelf same (length-set s.words k n) r.within.legal may t.no_put
            (fits_all bounds (set s.words k n) log' r.shelf.texts r.shelf.writer_of id w refl refl refl (texts_on r.shelf.texts r.log e t.no_put r.shelf.shelved.cells)
            (writes_event bounds s.words (set s.words k n) r.log e r.shelf.writer_of id same t.no_put v.right (r.shelf.each id v at).writes)))
            (push_banks bounds s.homes s.views r.log r.shelf.texts r.banks e id v w r.within.legal may t.no_put (λ u. t.no_end u) at (says_same v w refl refl)),
        tells s r w refl refl refl (adds_now s r id v e w.changes w.right at may (t.maker bounds.processors lt) t.no_put sized (omega arith) agree.reaches (owns_from_makes fits)),
      )

  pub tells_here : (slots id : ℕ) (me : Sat) (p : ℕ) (e : ℕ → Event) (told_of : ℕ → Sat → Type 0) → me.0.processors ≡ bounds.processors → me.0.role ≡ Cpu p → p < bounds.processors
      → ((n : ℕ) → IsTold p (e n)) → ((s : State Slot View) (r : Kept bounds s) → MayFollow r.log (e (get_or s.words number_place 0)))
      → ((n : ℕ) (w : View) → FindsNumber n w → w.right ≡ me.0.right → Adds me.0 (e n) w → told_of n (w, me.1))
      → Allows (Kept bounds) slots id me number_place (λ x. x) told_of
  tells_here slots id me p event told_of sized is lt told follows tells = tells_at slots id number_place me p event told_of sized is lt told (λ s r _. follows s r) (λ s r w changes _ right adds. tells (get_or s.words number_place 0) w (finds s r w changes) right adds)

  pub notes_here : (slots id : ℕ) (me : Sat) (p : ℕ) → me.0.processors ≡ bounds.processors → me.0.role ≡ Cpu p → p < bounds.processors → Allows (Kept bounds) slots id me number_place (λ x. x) (noted (step slots number_place 0 0 none) me)
  notes_here slots id me p sized is lt = tells_here slots id me p (λ n. Note (cookie_at n) (Processor p)) (noted (step slots number_place 0 0 none) me) sized is lt
      (λ n. record { by = refl; no_start = refl; no_finish = refl; no_lock = λ _ _. refl; no_unlock = λ _ _ _. refl; no_end = λ _. refl; maker = λ m lt. lt; no_put = refl })
      (λ s r. note_follows (get_or s.words number_place 0) r.changes r.log r.words.number r.words.reaches)
      (λ n w found right adds. (refl, right, found, λ q is'. subst (λ (z : ℕ). Adds me.0 (Note (cookie_at n) (Processor z)) w) (same_cpu p q (sym is ∙ is')) adds))

  pub asks_here : (slots id : ℕ) (me : Sat) (p cookie : ℕ) → me.0.processors ≡ bounds.processors → me.0.role ≡ Cpu p → p < bounds.processors → IsCookieNumber cookie → Allows (Kept bounds) slots id me number_place (λ x. x) (asked cookie (step slots number_place 0 0 none) me)
  asks_here slots id me p cookie sized is lt whole = tells_here slots id me p (λ n. Ask cookie (done_at n cookie) (Processor p)) (asked cookie (step slots number_place 0 0 none) me) sized is lt
      (λ n. record { by = refl; no_start = refl; no_finish = refl; no_lock = λ _ _. refl; no_unlock = λ _ _ _. refl; no_end = λ _. refl; maker = λ m lt. lt; no_put = refl })
      (λ s r. ask_follows cookie (get_or s.words number_place 0) r.changes r.log whole r.words.number r.words.reaches)
      (λ n w found right adds. (refl, right, found, λ q is'. subst (λ (z : ℕ). Adds me.0 (Ask cookie (done_at n cookie) (Processor z)) w) (same_cpu p q (sym is ∙ is')) adds))
