-- What the seat with the right to a cell does there.
use Rattle.std.proofs.Common.{◌≡◌, ℕ, ◌+◌, ◌*◌, ◌<◌, ◌≤◌, ◌≢◌, inl, inr, ⊎_elim, Bool, true, false, cond, eqb, ◌&&◌, List, [], ◌∷◌, ◌++◌, All, None, length, map, drop, get_or, set, refl, sym, ap, ◌∙◌, subst, eq-eqb, ne_eqb, append_assoc, length-set, arith, get_or-set_other, get_or-set_same}
use Rattle.std.proofs.lemmas.List.{length-map, map-append, get_or-take, get_or-drop, take-append-le, get_or_push}
use Rattle.std.proofs.lemmas.List.Elements.{All-nil, All-cons, All-head, All-tail, All-weaker, filter_map-append}
use mathlib.Core.Logic.{dite}
use mathlib.Core.Option.{none, some}
use mathlib.Core.Option as maybe
use native.Mathlib.Decide.{ℕ_discrete}
use lib.ListN.{get_elem?}
use lib.Seq.{set-get_or}
use Rattle.atomic_table.specs.Table.{State, step, keeps, Allows}
use Rattle.onedom.specs.declared.event.Maker.{Maker}
use Rattle.onedom.specs.declared.event.Maker.TheVariants.{Processor}
use Rattle.onedom.specs.declared.event.Event.{Event}
use Rattle.onedom.specs.declared.event.Event.TheVariants.{Put}
use Rattle.onedom.specs.Histories.{slot_of, version_of, shelved, puts_in, puts, IsClear, MayFollow, IsLegal, made_by, IsBeginning}
use Rattle.onedom.proofs.CallerLemmas.{made_by_own, same_maker_refl, beginning_refl, beginning_push, slot_kept, version_kept, shelved_kept, slot_put, version_put, shelved_put, version_up, clear_until_put, quiet}
use Rattle.sections.specs.Glossary.{KeepsBanks, offered, plan_put, Slot, Bounds, Moment, Role, Right, Step, Deed, Offer, Plan, Text, View, cells_from, cell_place, word_place, Agree, put_cell, put_cells, texts_of, offer_of, blank_words, word_of, slot_words, texts_at, IsStart, AreTextsOf, Lies, AreShelved, HasShelf, Writes, FitsShelf, IsTrueWord, KeepsShelf, GoesOn, Makes, Fits, Kept, Truth, words_with, plan_with, Owns, Adds, Keeps, EndsWithText, ComesFrom, Sat, put, refreshed, stored}
use Rattle.sections.proofs.Banking.{says_shelf, same_banks}
use Rattle.sections.proofs.Offers.{put_offer}
use Rattle.sections.proofs.Offering.{shelved_low, others_apart, put_banks}
use Rattle.sections.specs.declared.view.Role.TheVariants.{Cpu}
use Rattle.sections.specs.declared.view.Right.TheVariants.{Nothing, Section, Shelf, Undealt}
use Rattle.sections.specs.declared.view.Step.TheVariants.{LoadIndex, LoadUnlocks, LoadLocks, AddIndex, AddNumber, LoadWord}
use Rattle.sections.proofs.Counters.{index_low, locks_push}
use Rattle.sections.proofs.Agreement.{agrees_plain}
use Rattle.sections.proofs.Knowing.{now, covers_as, views_set, known_before, false≠true, fits_now, makes_at}
use Rattle.sections.proofs.Shelving.{texts_all, start_at, fewer_puts, fits_all, shelf_set}
use Rattle.sections.proofs.Finding.{texts_are, texts_of_append, words_stay, same_cell, same_slot}
use Rattle.sections.proofs.Steps.{alone, same_cpu, sound_after, happened, each_as}

-- Histories in which nothing is put into a cell

pub slot_unput : (c x : ℕ) (e : Event) → puts_in c e ≡ false → puts c x e ≡ false
slot_unput c x (Put d y v by) miss = ap (λ b. b && eqb y x) miss
slot_unput c x _ miss = refl

pub clear_quiet : (c x : ℕ) (h log : List Event) → IsBeginning h log → IsLegal log → version_of c log ≡ version_of c h → IsClear h c x → IsClear log c x
clear_quiet c x h log b legal same clear = subst (λ (l : List Event). IsClear l c x) (sym b.whole)
    (quiet (λ l. IsClear l c x) c (λ l e le may miss cl. clear_until_put l e c x le may (slot_unput c x e miss) cl) h b.rest (subst IsLegal b.whole legal) (ap (version_of c) (sym b.whole) ∙ same) clear)

pub slot_quiet : (c : ℕ) (h log : List Event) → IsBeginning h log → IsLegal log → version_of c log ≡ version_of c h → slot_of c log ≡ slot_of c h
slot_quiet c h log b legal same = ap (slot_of c) b.whole
    ∙ quiet (λ l. slot_of c l ≡ slot_of c h) c (λ l e le may miss was. slot_kept c l e miss ∙ was) h b.rest (subst IsLegal b.whole legal) (ap (version_of c) (sym b.whole) ∙ same) refl

-- Words

agree_aside : (n : ℕ) (words : List ℕ) (log : List Event) (changes k y : ℕ) → cells_from n ≤ k → Agree n words log changes → Agree n (set words k y) log changes
agree_aside n words log changes k y low r = record {
  wide = let l = length-set words k y in let w = r.wide in omega (arith, l, w);
  reaches = r.reaches;
  index = get_or-set_other words k 0 y 0 (λ h. omega (arith, h, low)) ∙ r.index;
  number = get_or-set_other words k 16 y 0 (λ h. omega (arith, h, low)) ∙ r.number;
  lock_counters = λ p i lt. get_or-set_other words k _ y 0 (λ h. let a = index_low i in omega (arith, h, low, lt, a)) ∙ r.lock_counters p i lt;
  unlock_counters = λ q i lt. get_or-set_other words k _ y 0 (λ h. let a = index_low i in omega (arith, h, low, lt, a)) ∙ r.unlock_counters q i lt;
}

-- the words of the cells and slots but for one
abbrev IsOtherwise : ℕ → List ℕ → List ℕ → Type 0
IsOtherwise k words after = (j : ℕ) → j ≢ k → get_or after j 0 ≡ get_or words j 0

set_else : (words : List ℕ) (k y : ℕ) → IsOtherwise k words (set words k y)
set_else words k y j n = get_or-set_other words k j y 0 n

-- Texts

pub one_text : (c : ℕ) (t : Text) → t.cell ≡ c → texts_of c (t ∷ []) ≡ t.words ∷ []
one_text c t is = let f : Text → List ℕ = λ u. u.words in let only : Bool → List Text = λ b. cond b (t ∷ []) [] in ap (λ b. map f (only b)) (eq-eqb t.cell c is)

slot_word : (x i : ℕ) (own : List ℕ) → i < 16 → get_or (slot_words x own) i 0 ≡ get_or own (16 * x + i) 0
slot_word x i own li = get_or-take 16 (drop (16 * x) own) i 0 li ∙ get_or-drop (16 * x) own i 0

-- the words of the version that was put last
put_word : (c v x i : ℕ) (own : List ℕ) (texts : List Text) (t : Text) → t.cell ≡ c → t.words ≡ slot_words x own → length (texts_of c texts) ≡ v → i < 16 → word_of c (v + 1) i (texts ++ t ∷ []) ≡ get_or own (16 * x + i) 0
put_word c v x i own texts t is has long li =
    let all : texts_of c (texts ++ t ∷ []) ≡ texts_of c texts ++ slot_words x own ∷ [] = texts_of_append c texts (t ∷ []) ∙ (ap (λ l. texts_of c texts ++ l) (one_text c t is) ∙ ap (λ ws. texts_of c texts ++ ws ∷ []) has) in
    ap (λ l. get_or (get_or (blank_words ∷ l) (v + 1) blank_words) i 0) all
    ∙ (ap (λ l. get_or l i 0) (get_or_push (blank_words ∷ texts_of c texts) (slot_words x own) blank_words (v + 1) (omega (arith, long))) ∙ slot_word x i own li)

-- Lists

all_two : {X : Type 0} (P Q R : X → Type 0) → ((x : X) → P x → Q x → R x) → (xs : List X) → All P xs → All Q xs → All R xs
all_two P Q R f [] a b = All-nil R
all_two P Q R f (x ∷ xs) a b = All-cons R x xs (f x (All-head P x xs a) (All-head Q x xs b)) (all_two P Q R f xs (All-tail P x xs a) (All-tail Q x xs b))

and_false : (a : Bool) → (a && false) ≡ false
and_false true = refl
and_false false = refl

count_texts : (texts : List Text) (log : List Event) → AreTextsOf texts log → length texts ≡ length (put_cells log)
count_texts texts log h = sym (length-map texts (λ t. t.cell)) ∙ ap length h

-- a right to a cell
pub same_shelf_right : (c d : ℕ) (own own' : List ℕ) (h h' : List Event) (q q' : Plan) → Shelf c own h q ≡ Shelf d own' h' q' → (c ≡ d) × (own ≡ own') × (h ≡ h') × (q ≡ q')
same_shelf_right c d own own' h h' q q' e = (λ i. cell_in (e i), λ i. words_with (e i), λ i. seen_in (e i), λ i. plan_with (e i))
  where
    cell_in : Right → ℕ
    cell_in (Shelf c own h q) = c
    cell_in _ = 0

    seen_in : Right → List Event
    seen_in (Shelf c own h q) = h
    seen_in _ = []

-- the words and the plan are those that go with the right
pub as_shelf : (y : Right) (c : ℕ) (own : List ℕ) (h : List Event) (q : Plan) → y ≡ Shelf c own h q → y ≡ Shelf c (words_with y) h (plan_with y)
as_shelf y c own h q e = e ∙ (λ i. Shelf c (words_with (sym e i)) h (plan_with (sym e i)))

-- A version is put

module _ (bounds : Bounds) (words : List ℕ) (views : List View) (log : List Event) (changes : ℕ) (deeds : List Deed) (k : KeepsShelf bounds words views log deeds)
    (legal : IsLegal log) (id c : ℕ) (own : List ℕ) (h : List Event) (has : HasShelf bounds words log k.writer_of id c own h) (inside : cell_place bounds.processors c < length words)
    (each_seen : (j : ℕ) (v : View) → get_elem? views j ≡ some v → IsBeginning v.seen log) (each_told : (j : ℕ) (v : View) → get_elem? views j ≡ some v → All (λ m. GoesOn m (now log changes)) v.told)
    (x y v : ℕ) (by : Maker) (lx : x < 8) (may : MayFollow log (Put c x v by)) (is : y ≡ 16 * v + x) (o : Offer) where
  abbrev text : Text
  text = record { cell = c; words = slot_words x own; offer = o }

  abbrev texts : List Text
  texts = k.texts ++ text ∷ []

  abbrev event : Event
  event = Put c x v by

  abbrev longer : List Event
  longer = log ++ event ∷ []

  abbrev after : List ℕ
  after = set words (cell_place bounds.processors c) y

  start : IsStart k.texts texts
  start = record { rest = text ∷ []; whole = refl }

  long : (d : ℕ) → length (texts_of d k.texts) ≡ version_of d log
  long d = texts_are d k.texts log legal k.shelved.cells

  word_same : (d z i : ℕ) → d < bounds.cells → z < 8 → i < 16 → get_or after (word_place bounds.processors d z i) 0 ≡ get_or words (word_place bounds.processors d z i) 0
  word_same d z i ld lz li = set_else words (cell_place bounds.processors c) y (word_place bounds.processors d z i) (λ e. omega (arith, e, lz, li))

  other_cell : (d : ℕ) → d ≢ c → eqb c d ≡ false
  other_cell d n = ne_eqb c d (λ e. n (sym e))

  pub put_cells_are : AreTextsOf texts longer
  put_cells_are = map-append (λ t. t.cell) k.texts (text ∷ []) ∙ (ap (λ l. l ++ c ∷ []) k.shelved.cells ∙ sym (filter_map-append put_cell log (event ∷ [])))

  lies_still : (d z : ℕ) → d < bounds.cells → z < 8 → puts d z event ≡ false → Lies bounds words log k.texts d z → Lies bounds after longer texts d z
  lies_still d z ld lz miss l = ⊎_elim
      (λ (clear : IsClear log d z). inl (clear_until_put log event d z legal may miss clear))
      (λ (lies : (i : ℕ) → i < 16 → get_or words (word_place bounds.processors d z i) 0 ≡ word_of d (shelved d z log) i k.texts). inr (λ i li.
      word_same d z i ld lz li ∙ (lies i li ∙ sym (ap (λ n. word_of d n i texts) (shelved_kept d z log event miss) ∙ ap (λ ws. get_or ws i 0) (words_stay d (shelved d z log) k.texts texts start (let a = shelved_low d z log legal in let b = long d in omega (arith, a, b)))))))
      l

  lies_there : Lies bounds after longer texts c x
  lies_there = inr (λ i li. word_same c x i has.cell lx li ∙ (has.stored x i lx li ∙ sym (ap (λ n. word_of c n i texts) (shelved_put c x v by log) ∙ (ap (λ n. word_of c n i texts) may.1 ∙ put_word c (version_of c log) x i own k.texts text refl refl (long c) li))))

  put_shelved : AreShelved bounds after longer texts
  put_shelved = record {
    cells = put_cells_are;
    low = λ d. dite (ℕ_discrete d c)
        (λ e. subst (λ (z : ℕ). slot_of z longer < 8) (sym e) (let s = slot_put c x v by log in omega (arith, s, lx)))
        (λ n. let s = slot_kept d log event (other_cell d n) in let l = k.shelved.low d in omega (arith, s, l));
    current = λ d ld. dite (ℕ_discrete d c)
        (λ e. subst (λ (z : ℕ). get_or after (cell_place bounds.processors z) 0 ≡ 16 * version_of z longer + slot_of z longer) (sym e)
        (let a = get_or-set_same words (cell_place bounds.processors c) y 0 inside in let b = version_put c x v by log in let s = slot_put c x v by log in omega (arith, a, b, s, is)))
        (λ n. let a = set_else words (cell_place bounds.processors c) y (cell_place bounds.processors d) (λ e. n (same_cell bounds.processors d c e)) in
        let b = version_kept d log event (other_cell d n) in let s = slot_kept d log event (other_cell d n) in let o = k.shelved.current d ld in omega (arith, a, b, s, o));
    slots = λ d z ld lz. dite (ℕ_discrete d c)
        (λ e. dite (ℕ_discrete z x)
        (λ f. subst (λ (p : ℕ × ℕ). Lies bounds after longer texts p.0 p.1) (λ i. (sym e i, sym f i)) lies_there)
        (λ f. lies_still d z ld lz (ap (λ b. eqb c d && b) (ne_eqb x z (λ g. f (sym g))) ∙ and_false (eqb c d)) (k.shelved.slots d z ld lz)))
        (λ n. lies_still d z ld lz (ap (λ b. b && eqb x z) (other_cell d n)) (k.shelved.slots d z ld lz));
  }

  others_write : (j : ℕ) → j ≢ id → (t : Right) → Writes bounds words log k.writer_of j t → Writes bounds after longer k.writer_of j t
  others_write j ne Nothing w = tt
  others_write j ne (Section s p i us hand) w = tt
  others_write j ne (Shelf d mine seen q) w = let other : d ≢ c = λ e. ne (sym w.writer ∙ (ap k.writer_of e ∙ has.writer)) in record {
    writer = w.writer;
    cell = w.cell;
    upto = beginning_push event w.upto;
    all = version_kept d log event (other_cell d other) ∙ w.all;
    long = w.long;
    stored = λ z i lz li. word_same d z i w.cell lz li ∙ w.stored z i lz li;
  }
  others_write j ne (Undealt from) w = λ d le. let n = w d le in let other : d ≢ c = λ e. ne (sym n.writer ∙ (ap k.writer_of e ∙ has.writer)) in record {
    writer = n.writer;
    unput = version_kept d log event (other_cell d other) ∙ n.unput;
    zeros = λ z i ld lz li. word_same d z i ld lz li ∙ n.zeros z i ld lz li;
  }

  texts_before : (seen : List Event) (known : List Text) → IsBeginning seen log → known ≡ texts_at k.texts seen → known ≡ texts_at texts seen
  texts_before seen known b is = is ∙ sym (take-append-le (length (put_cells seen)) k.texts (text ∷ []) (let a = fewer_puts seen log b in let n = count_texts k.texts log k.shelved.cells in omega (arith, a, n)))

  others_fit : (j : ℕ) (d : View) → j ≢ id → get_elem? views j ≡ some d → FitsShelf bounds after longer texts k.writer_of j d
  others_fit j d ne at = let f = k.each j d at in record {
    has = texts_before d.seen d.texts (each_seen j d at) f.has;
    told = all_two (λ m. GoesOn m (now log changes)) (λ m. m.texts ≡ texts_at k.texts m.history) (λ m. m.texts ≡ texts_at texts m.history) (λ m g e. texts_before m.history m.texts g.history e) d.told (each_told j d at) f.told;
    writes = others_write j ne d.right f.writes;
  }

  word_then : (l : Step) → IsTrueWord log k.texts l → IsTrueWord longer texts l
  word_then (LoadIndex n) t = tt
  word_then (LoadUnlocks q i n m) t = tt
  word_then (LoadLocks p i n m) t = tt
  word_then (AddIndex n) t = tt
  word_then (AddNumber n) t = tt
  word_then (LoadWord d n i m) t = let low = t.0 in (
    (let up = version_up d log event may in omega (arith, up, low)),
    t.1 ∙ sym (ap (λ ws. get_or ws i 0) (words_stay d n k.texts texts start (let b = long d in omega (arith, low, b)))),
  )

  pub shelf_put : (w : View) (q : Plan) → w.texts ≡ texts → w.seen ≡ longer → w.told ≡ [] → w.right ≡ Shelf c own longer q → KeepsShelf bounds after (set views id w) longer deeds
  shelf_put w q same seen untold right = record {
    texts = texts;
    writer_of = k.writer_of;
    room = length-set words (cell_place bounds.processors c) y ∙ k.room;
    shelved = put_shelved;
    each = views_set (FitsShelf bounds after longer texts k.writer_of) views id w
        record {
          has = same ∙ (texts_all texts longer put_cells_are ∙ ap (texts_at texts) (sym seen));
          told = subst (λ (l : List Moment). All (λ m. m.texts ≡ texts_at texts m.history) l) (sym untold) (All-nil (λ m. m.texts ≡ texts_at texts m.history));
          writes = subst (λ (t : Right). Writes bounds after longer k.writer_of id t) (sym right) record {
            writer = has.writer;
            cell = has.cell;
            upto = beginning_refl longer;
            all = refl;
            long = has.long;
            stored = λ z i lz li. word_same c z i has.cell lz li ∙ has.stored z i lz li;
          };
        }
        (λ j d ne at. others_fit j d ne at);
    loaded = All-weaker (λ d. IsTrueWord log k.texts d.step) (λ d. IsTrueWord longer texts d.step) (λ d t. word_then d.step t) deeds k.loaded;
  }

  -- what a seat knew has its texts there
  pub start_of : (seen : List Event) (known : List Text) → known ≡ texts_at k.texts seen → IsStart known texts
  start_of seen known e = let s = start_at (length (put_cells seen)) k.texts in record { rest = s.rest ++ text ∷ []; whole = ap (λ l. l ++ text ∷ []) s.whole ∙ (append_assoc (texts_at k.texts seen) s.rest (text ∷ []) ∙ ap (λ l. l ++ (s.rest ++ text ∷ [])) (sym e)) }

module _ (bounds : Bounds) where
  puts_at : (slots id y : ℕ) (me : Sat) (p c x : ℕ) (own : List ℕ) (h : List Event) (q : Plan) → me.0.processors ≡ bounds.processors → me.0.role ≡ Cpu p → p < bounds.processors → me.0.right ≡ Shelf c own h q → q.hand ≡ None → IsClear h c x → x < 8 → y ≡ 16 * (version_of c h + 1) + x
      → Allows (Kept bounds) slots id me (cell_place bounds.processors c) (λ _. y) (λ _. put (step slots (cell_place bounds.processors c) y 0 none) me y)
  unfolding shelf_put
  puts_at slots id y me p c x own h q sized is lt right free clear lx value s r _ at _ =
      let k : ℕ = cell_place bounds.processors c in
      let place : k ≡ cell_place bounds.processors c = refl in
      let v : View = me.0 in
      let f = r.each_view id v at in
      let made = makes_at f is in
      let has : HasShelf bounds s.words r.log r.shelf.writer_of id c own h = subst (λ (t : Right). Writes bounds s.words r.log r.shelf.writer_of id t) right (r.shelf.each id v at).writes in
      let e : Event = Put c x (version_of c h + 1) (Processor p) in
      let all = has.all in
      let next : version_of c h + 1 ≡ version_of c r.log + 1 = omega (arith, all) in
      let lc = has.cell in
      let may : MayFollow r.log e = (clear_quiet c x h r.log has.upto r.within.legal has.all clear, next) in
      let log' : List Event = r.log ++ e ∷ [] in
      let after : Truth = record (r.truth) { log = log' } in
      let wide = r.shelf.room in
      let agree : Agree bounds.processors (set s.words k y) log' r.changes = agree_aside bounds.processors s.words log' r.changes k y (omega (arith, place)) (agrees_plain bounds.processors s.words r.log r.changes r.words e refl refl (λ _ _. refl) (λ _ _. refl)) in
      let mine' : v.mine ++ e ∷ [] ≡ made_by (Processor p) log' = ap (λ l. l ++ e ∷ []) made.1 ∙ sym (made_by_own (Processor p) r.log e (same_maker_refl (Processor p))) in
      let text' : Text = record { cell = c; words = slot_words x own; offer = offered q x } in
      let texts' : List Text = r.shelf.texts ++ text' ∷ [] in
      let inside : cell_place bounds.processors c < length s.words = omega (arith, wide, lc) in
      let w : View = record { processors = v.processors; role = v.role; mine = v.mine ++ e ∷ []; seen = log'; changes = r.changes; texts = texts'; told = []; right = Shelf c own log' (plan_put q x); shown = v.shown; done = v.done; left = v.left } in
      let seen_each : (j : ℕ) (u : View) → get_elem? s.views j ≡ some u → IsBeginning u.seen r.log = λ j u e. (r.each_view j u e).seen in
      let told_each : (j : ℕ) (u : View) → get_elem? s.views j ≡ some u → All (λ m. GoesOn m (now r.log r.changes)) u.told = λ j u e. (r.each_view j u e).told in
      let shelf : KeepsShelf bounds (set s.words k y) (set s.views id w) log' r.deeds =
      (shelf_put bounds s.words s.views r.log r.changes r.deeds r.shelf r.within.legal id c own h has inside seen_each told_each x y (version_of c h + 1) (Processor p) lx may value (offered q x) w (plan_put q x) refl refl refl refl) in
      let banks : KeepsBanks bounds s.homes (set s.views id w) log' texts' = put_banks bounds s.homes s.views r.log r.shelf.texts r.banks id v w c x (version_of c h + 1)
      (Processor p) own h log' q text' r.within.legal may r.shelf.shelved.cells at right free lx refl refl refl refl (λ j d ne e d' q' is'. others_apart s r id c has.writer j d ne e d' q' is') in
      let g = r.shelf.each id v at in
      let start : (seen : List Event) (known : List Text) → known ≡ texts_at r.shelf.texts seen
      → IsStart known texts' = start_of bounds s.words s.views r.log r.changes r.deeds r.shelf r.within.legal id c own h has inside seen_each told_each x y (version_of c h + 1) (Processor p) lx may value (offered q x) in
      let long : length (texts_of c r.shelf.texts) ≡ version_of c h = texts_are c r.shelf.texts r.log r.within.legal r.shelf.shelved.cells ∙ has.all in (
        w,
        keeps,
        tt,
        happened bounds s r id k y me.1 w e r.holder may lt agree
            (λ q j. let n = locks_push q j r.log e in let was = r.within.limited q j in omega (arith, n, was))
            (λ j ne m there. alone bounds r.truth id (Processor p) made.0 j ne m there)
            (λ u hit. absurd (false≠true hit))
            (λ u _. refl)
            (fits_now after id w r.known refl refl refl (subst (λ (m : Role). Makes after id m (v.mine ++ e ∷ [])) (sym is) (made.0, mine')) tt f.shown)
            v at refl refl shelf
            banks,
        (
          refl,
          λ p' d z own' h' q' is' right' lz word value'.
              let pp : p ≡ p' = same_cpu p p' (sym is ∙ is') in
              let same = same_shelf_right c d own own' h h' q q' (sym right ∙ right') in
              let vv : version_of c h ≡ version_of d h' = λ i. version_of (same.0 i) (same.2 i) in
              let xz : x ≡ z = omega (arith, value, value', vv) in
              subst (λ (n : ℕ × ℕ × ℕ × List ℕ × List Event × Plan). Adds v (Put n.1 n.2 (version_of n.1 n.4 + 1) (Processor n.0)) w × (w.right ≡ Shelf n.1 n.3 w.seen (plan_put n.5 n.2))
              × EndsWithText n.1 (slot_words n.2 n.3) w.texts × ComesFrom n.1 n.4 w.seen (Put n.1 n.2 (version_of n.1 n.4 + 1) (Processor n.0)) × (offer_of n.1 (version_of n.1 n.4 + 1) w.texts ≡ offered n.5 n.2))
              (λ i. (pp i, same.0 i, xz i, same.1 i, same.2 i, same.3 i)) (
                record {
                  before = r.log;
                  seen = refl;
                  since = f.seen;
                  later = known_before f;
                  covers = f.told;
                  processors = refl;
                  role = refl;
                  mine = refl;
                  shown = refl;
                  told = refl;
                  done = refl;
                  texts = record {
                    since = start v.seen v.texts g.has;
                    covers = All-weaker (λ m. m.texts ≡ texts_at r.shelf.texts m.history) (λ m. IsStart m.texts texts') (λ m i. start m.history m.texts i) v.told g.told;
                  };
                  sound = sound_after bounds s r e v.processors v.role (v.mine ++ e ∷ []) r.changes texts' may lt sized agree.reaches (subst (λ (m : Role). Owns m (v.mine ++ e ∷ []) log') (sym is) mine')
                      (put_cells_are bounds s.words s.views r.log r.changes r.deeds r.shelf r.within.legal id c own h has inside seen_each told_each x y (version_of c h + 1) (Processor p) lx may value (offered q x)) banks.one_vault;
                },
                refl,
                record { before = r.shelf.texts; last = text'; whole = refl; cell = refl; same = refl },
                record { before = r.log; whole = refl; goes_on = has.upto; same = has.all },
                put_offer c (version_of c h) r.shelf.texts text' refl long,
              ),
        ),
      )

-- store to the cell
module _ (bounds : Bounds) where
  pub puts_here : (slots id k y : ℕ) (me : Sat) (p c x : ℕ) (own : List ℕ) (h : List Event) (q : Plan) → me.0.processors ≡ bounds.processors → me.0.role ≡ Cpu p
      → p < bounds.processors → me.0.right ≡ Shelf c own h q → q.hand ≡ None → IsClear h c x → x < 8 → k ≡ cell_place bounds.processors c → y ≡ 16 * (version_of c h + 1) + x
      → Allows (Kept bounds) slots id me k (λ _. y) (λ _. put (step slots k y 0 none) me y)
  puts_here slots id k y me p c x own h q sized is lt right free clear lx place value = subst (λ z. Allows (Kept bounds) slots id me z (λ _. y) (λ _. put (step slots z y 0 none) me y)) (sym place) (puts_at bounds slots id y me p c x own h q sized is lt right free clear lx value)

-- A step without an event, of the seat with the right to a cell

module _ (bounds : Bounds) where
  -- the same history and steps, where one word of a cell or slot may have changed
  pub remains : (s : State Slot View) (r : Kept bounds s) (id : ℕ) (words : List ℕ) (homes : List (maybe.Option Slot)) (v w : View) → get_elem? s.views id ≡ some v → w.role ≡ v.role → w.done ≡ v.done → Agree bounds.processors words r.log r.changes
      → Fits r.truth id w → (shelf : KeepsShelf bounds words (set s.views id w) r.log r.deeds) → KeepsBanks bounds homes (set s.views id w) r.log shelf.texts
      → Kept bounds record { words = words; homes = homes; views = set s.views id w }
  remains s r id words homes v w at role done agree fits shelf banks = record {
    truth = r.truth;
    known = r.known;
    small = r.small;
    within = r.within;
    words = agree;
    each_view = views_set (Fits r.truth) s.views id w fits (λ j d _ e. r.each_view j d e);
    deeds = r.deeds;
    done = r.done;
    each_done = each_as bounds s r id v w at role done;
    shelf = shelf;
    banks = banks;
  }

  -- the seat has then seen all
  abbrev pub seeing : (s : State Slot View) → Kept bounds s → View → Right → View
  seeing s r v right = record { processors = v.processors; role = v.role; mine = v.mine; seen = r.log; changes = r.changes; texts = r.shelf.texts; told = []; right = right; shown = v.shown; done = v.done; left = v.left }

  seeing_fits : (s : State Slot View) (r : Kept bounds s) (id : ℕ) (v : View) (c : ℕ) (own : List ℕ) (q : Plan) → get_elem? s.views id ≡ some v → Fits r.truth id (seeing s r v (Shelf c own r.log q))
  seeing_fits s r id v c own q at = let f = r.each_view id v at in fits_now r.truth id (seeing s r v (Shelf c own r.log q)) r.known refl refl refl f.makes tt f.shown

  seeing_keeps : (s : State Slot View) (r : Kept bounds s) (id : ℕ) (v : View) (c : ℕ) (own own' : List ℕ) (h : List Event) (q : Plan) → get_elem? s.views id ≡ some v → HasShelf bounds s.words r.log r.shelf.writer_of id c own h → Keeps c h v (seeing s r v (Shelf c own' r.log q))
  seeing_keeps s r id v c own own' h q at has = let f = r.each_view id v at in record {
    processors = refl;
    role = refl;
    mine = refl;
    shown = refl;
    told = refl;
    done = refl;
    since = f.seen;
    later = known_before f;
    covers = covers_as v.told r.log r.changes r.shelf.texts f.told;
    goes_on = has.upto;
    same = has.all;
    legal = r.within.legal;
  }

  pub has_shelf : (s : State Slot View) (r : Kept bounds s) (id : ℕ) (v : View) (c : ℕ) (own : List ℕ) (h : List Event) (q : Plan) → get_elem? s.views id ≡ some v → v.right ≡ Shelf c own h q → HasShelf bounds s.words r.log r.shelf.writer_of id c own h
  has_shelf s r id v c own h q at right = subst (λ (t : Right). Writes bounds s.words r.log r.shelf.writer_of id t) right (r.shelf.each id v at).writes

  -- load of the cell
  pub refreshes_here : (slots id k : ℕ) (me : Sat) (c : ℕ) (own : List ℕ) (h : List Event) (q : Plan) → me.0.right ≡ Shelf c own h q → Allows (Kept bounds) slots id me k (λ x. x) (refreshed (step slots k 0 0 none) me)
  refreshes_here slots id k me c own h q right s r _ at _ =
      let v : View = me.0 in
      let has = has_shelf s r id v c own h q at right in
      let w : View = seeing s r v (Shelf c own r.log q) in
      let K = r.shelf in
      let shelf = shelf_set K id w (fits_all bounds s.words r.log K.texts K.writer_of id w refl refl refl K.shelved.cells record { writer = has.writer; cell = has.cell; upto = beginning_refl r.log; all = refl; long = has.long; stored = has.stored }) in (
        w,
        keeps,
        tt,
        subst (λ (ws : List ℕ). Kept bounds record { words = ws; homes = s.homes; views = set s.views id w }) (sym (set-get_or s.words k 0))
            (remains s r id s.words s.homes v w at refl refl r.words (seeing_fits s r id v c own q at) shelf (same_banks bounds s.homes s.views r.log r.shelf.texts r.banks id v w at (says_shelf v w c own own h r.log q right refl refl))),
        (
          refl,
          λ d own' h' q' right'. let same = same_shelf_right c d own own' h h' q q' (sym right ∙ right') in
              subst (λ (n : ℕ × List ℕ × List Event × Plan). Keeps n.0 n.2 v w × (w.right ≡ Shelf n.0 n.1 w.seen n.3)) (λ i. (same.0 i, same.1 i, same.2 i, same.3 i)) (seeing_keeps s r id v c own own h q at has, refl),
        ),
      )

  -- store of a word of a slot
  pub stores_here : (slots id k y : ℕ) (me : Sat) (c x i : ℕ) (own : List ℕ) (h : List Event) (q : Plan) → me.0.right ≡ Shelf c own h q → IsClear h c x → x < 8
      → i < 16 → k ≡ word_place bounds.processors c x i → Allows (Kept bounds) slots id me k (λ _. y) (λ _. stored bounds.processors (step slots k y 0 none) me y)
  stores_here slots id k y me c x i own h q right clear lx li place s r _ at _ =
      let v : View = me.0 in
      let has = has_shelf s r id v c own h q at right in
      let lc = has.cell in
      let own' : List ℕ = set own (16 * x + i) y in
      let w : View = seeing s r v (Shelf c own' r.log q) in
      let K = r.shelf in
      let wide = K.room in
      let long = has.long in
      let after : List ℕ = set s.words k y in
      let now_clear : IsClear r.log c x = clear_quiet c x h r.log has.upto r.within.legal has.all clear in
      let low : cells_from bounds.processors ≤ k = omega (arith, place) in
      let else_word : (d z j : ℕ) → d < bounds.cells → z < 8 → j < 16 → ((d ≡ c) × (z ≡ x) × (j ≡ i) → ⊥) → get_or after (word_place bounds.processors d z j) 0 ≡ get_or s.words (word_place bounds.processors d z j) 0 =
      λ d z j ld lz lj ne. set_else s.words k y (word_place bounds.processors d z j) (λ e. ne (same_slot bounds.processors d c z x j i lz lx lj li (e ∙ place))) in
      let shelf : KeepsShelf bounds after (set s.views id w) r.log r.deeds = record {
        texts = K.texts;
        writer_of = K.writer_of;
        room = length-set s.words k y ∙ K.room;
        shelved = record {
          cells = K.shelved.cells;
          low = K.shelved.low;
          current = λ d ld. set_else s.words k y (cell_place bounds.processors d) (λ e. omega (arith, e, place, lx, li)) ∙ K.shelved.current d ld;
          slots = λ d z ld lz. dite (ℕ_discrete d c)
              (λ e. dite (ℕ_discrete z x)
              (λ f. inl (subst (λ (n : ℕ × ℕ). IsClear r.log n.0 n.1) (λ m. (sym e m, sym f m)) now_clear))
              (λ f. lies_else s.words after r.log K.texts d z (λ j lj. else_word d z j ld lz lj (λ n. f n.1)) (K.shelved.slots d z ld lz)))
              (λ n. lies_else s.words after r.log K.texts d z (λ j lj. else_word d z j ld lz lj (λ q. n q.0)) (K.shelved.slots d z ld lz));
        };
        each = views_set (FitsShelf bounds after r.log K.texts K.writer_of) s.views id w
            (fits_all bounds after r.log K.texts K.writer_of id w refl refl refl K.shelved.cells record {
              writer = has.writer;
              cell = has.cell;
              upto = beginning_refl r.log;
              all = refl;
              long = length-set own (16 * x + i) y ∙ has.long;
              stored = λ z j lz lj. dite (ℕ_discrete (16 * z + j) (16 * x + i))
                  (λ e. ap (λ n. get_or after n 0) (let n : word_place bounds.processors c z j ≡ k = omega (arith, e, place) in n)
                  ∙ (get_or-set_same s.words k y 0 (omega (arith, wide, place, lc, lx, li)) ∙ sym (ap (λ n. get_or own' n 0) e ∙ get_or-set_same own (16 * x + i) y 0 (omega (arith, long, lx, li)))))
                  (λ n. set_else s.words k y (word_place bounds.processors c z j) (λ e. n (omega (arith, e, place))) ∙ (has.stored z j lz lj ∙ sym (get_or-set_other own (16 * x + i) (16 * z + j) y 0 n)));
            })
            (λ j d ne e. let f = K.each j d e in record { has = f.has; told = f.told; writes = others_keep s.words after r.log K.writer_of j (λ d t at_j. ne (sym at_j ∙ (ap K.writer_of t ∙ has.writer))) (λ d z m nd ld lz lm. else_word d z m ld lz lm (λ q. nd q.0)) d.right f.writes });
        loaded = K.loaded;
      } in (
        w,
        keeps,
        tt,
        remains s r id after s.homes v w at refl refl (agree_aside bounds.processors s.words r.log r.changes k y low r.words) (seeing_fits s r id v c own' q at) shelf (same_banks bounds s.homes s.views r.log r.shelf.texts r.banks id v w at (says_shelf v w c own own' h r.log q right refl refl)),
        (
          refl,
          λ d z j mine h' q' right' lz lj word.
              let same = same_shelf_right c d own mine h h' q q' (sym right ∙ right') in
              let places = same_slot bounds.processors c d x z i j lx lz li lj (sym place ∙ word) in
              subst (λ (n : ℕ × ℕ × ℕ × List ℕ × List Event × Plan). Keeps n.0 n.4 v w × (w.right ≡ Shelf n.0 (set n.3 (16 * n.1 + n.2) y) w.seen n.5) × IsClear w.seen n.0 n.1) (λ m. (same.0 m, places.1 m, places.2 m, same.1 m, same.2 m, same.3 m))
              (seeing_keeps s r id v c own own' h q at has, refl, now_clear),
        ),
      )
    where
      lies_else : (words after : List ℕ) (log : List Event) (texts : List Text) (d z : ℕ) → ((j : ℕ) → j < 16 → get_or after (word_place bounds.processors d z j) 0 ≡ get_or words (word_place bounds.processors d z j) 0) → Lies bounds words log texts d z → Lies bounds after log texts d z
      lies_else words after log texts d z same l = ⊎_elim (λ (clear : IsClear log d z). inl clear)
          (λ (lies : (j : ℕ) → j < 16 → get_or words (word_place bounds.processors d z j) 0 ≡ word_of d (shelved d z log) j texts). inr (λ j lj. same j lj ∙ lies j lj)) l

      others_keep : (words after : List ℕ) (log : List Event) (writer_of : ℕ → ℕ) (j : ℕ) → ((d : ℕ) → d ≡ c → writer_of d ≡ j → ⊥) → ((d z m : ℕ) → d ≢ c → d < bounds.cells → z < 8 → m < 16 → get_or after (word_place bounds.processors d z m) 0 ≡ get_or words (word_place bounds.processors d z m) 0)
          → (t : Right) → Writes bounds words log writer_of j t → Writes bounds after log writer_of j t
      others_keep words after log writer_of j apart same Nothing w = tt
      others_keep words after log writer_of j apart same (Section s p i us hand) w = tt
      others_keep words after log writer_of j apart same (Shelf d mine seen q) w = record {
        writer = w.writer;
        cell = w.cell;
        upto = w.upto;
        all = w.all;
        long = w.long;
        stored = λ z m lz lm. same d z m (λ e. apart d e w.writer) w.cell lz lm ∙ w.stored z m lz lm;
      }
      others_keep words after log writer_of j apart same (Undealt from) w = λ d le. let n = w d le in record { writer = n.writer; unput = n.unput; zeros = λ z m ld lz lm. same d z m (λ e. apart d e n.writer) ld lz lm ∙ n.zeros z m ld lz lm }
