-- All words of a slot are loaded, one behind the other.
use Rattle.std.specs.Prelude.{None}
use Rattle.std.proofs.Common.{◌≡◌, ℕ, suc, ◌+◌, ◌-◌, ◌<◌, List, [], ◌∷◌, ◌++◌, All, arith, length, replicate, get_or, set, refl, sym, ap, ◌∙◌, subst, append_assoc, append-nil, length-append}
use Rattle.std.proofs.lemmas.List.{get_or_append_left}
use Rattle.std.proofs.lemmas.List.Elements.{All-head, All-tail, All-weaker}
use Rattle.std.proofs.Math.Seq.{set-append_seam, get_or-append_seam}
use mathlib.Core.Logic.{dite}
use mathlib.Core.Option.{none, some}
use native.Mathlib.Decide.{ℕ_discrete}
use lib.ListN.{get_elem?}
use Rattle.atomic_table.specs.Table.{State, step, Allows}
use Rattle.sseq.specs.declared.index.Index.{Index}
use Rattle.std.specs.Arc.{arc_value}
use Rattle.onedom.specs.declared.event.Maker.{Maker}
use Rattle.onedom.specs.declared.event.Maker.TheVariants.{Processor}
use Rattle.onedom.specs.declared.event.Event.{Event}
use Rattle.onedom.specs.Histories.{HasFound, IsBeginning}
use Rattle.onedom.proofs.CallerLemmas.{beginning_trans, found_stays}
use Rattle.sections.specs.Glossary.{Slot, Bounds, Moment, Step, View, locks, open_readings, word_place, IsStart, IsKnown, word_of, GoesOn, Has, IsMaker, Kept, moment_of, steps_of, lacking, bearer, informed, Sat, Sees, word_loads, ReadsWords, DomainSeat, SeesAll, LoadsSome, LoadsAllIn, lent_to, loaded_next, IsAtRest, section_of, view_of_cpu, IsCpu, view_of_found, IsFound}
use Rattle.sections.specs.declared.view.Right.TheVariants.{Section}
use Rattle.sections.specs.declared.view.Step.TheVariants.{LoadWord}
use Rattle.sections.specs.declared.cpu.Cpu.TheInside as cpu
use Rattle.sections.specs.declared.cpu.pins.Found.TheInside as found
use Rattle.sections.specs.Pins.{HasMet}
use Rattle.sections.proofs.CpuViews.{seen_as, history_of}
use Rattle.sections.proofs.Deeds.{cpu_makes, goes_on_trans}
use Rattle.sections.proofs.Finding.{words_stay, found_later, found_version, there, same_slot}
use Rattle.sections.proofs.Pinning.{lent}
use Rattle.sections.proofs.Shelving.{start_trans}
use Rattle.sections.proofs.Staying.{stays}
use Rattle.sections.proofs.Steps.{same_section, loads_here}
use Rattle.sections.proofs.Knowing.{has_at}

-- Steps one behind the other

pub sees_one : {l : Step} {v w : View} → Sees l v w → SeesAll (l ∷ []) v w
sees_one h = record { processors = h.processors; role = h.role; mine = h.mine; right = h.right; told = h.told; steps = h.steps; since = h.since; later = h.later; covers = h.covers; texts = h.texts; sound = h.sound }

pub sees_more : {ls : List Step} {l : Step} {v w z : View} → SeesAll ls v w → Sees l w z → SeesAll (ls ++ l ∷ []) v z
sees_more {ls} {l} {v} {w} {z} h g =
    let on : GoesOn (moment_of w) (moment_of z) = record { history = g.since; changes = g.later } in record {
      processors = g.processors ∙ h.processors;
      role = g.role ∙ h.role;
      mine = g.mine ∙ h.mine;
      right = g.right ∙ h.right;
      told = g.told;
      steps = λ m is. g.steps m (subst (λ r. IsMaker r m) (sym h.role) is) ∙ (ap (λ (x : List Step). x ++ l ∷ []) (h.steps m is) ∙ append_assoc (steps_of m v.done) ls (l ∷ []));
      since = beginning_trans h.since g.since;
      later = let a = h.later in let b = g.later in omega (arith, a, b);
      covers = All-weaker (λ m. GoesOn m (moment_of w)) (λ m. GoesOn m (moment_of z)) (λ m x. goes_on_trans m (moment_of w) (moment_of z) x on) v.told h.covers;
      texts = record {
        since = start_trans h.texts.since g.texts.since;
        covers = All-weaker (λ m. IsStart m.texts w.texts) (λ m. IsStart m.texts z.texts) (λ m x. start_trans x g.texts.since) v.told h.texts.covers;
      };
      sound = g.sound;
    }

loads_push : (c n i w : ℕ) (ws : List ℕ) → word_loads c n i (ws ++ w ∷ []) ≡ word_loads c n i ws ++ LoadWord c n (i + length ws) w ∷ []
loads_push c n i w [] = ap (λ k. LoadWord c n k w ∷ []) (let e : i ≡ i + 0 = omega arith in e)
loads_push c n i w (x ∷ xs) = ap (λ l. LoadWord c n i x ∷ l) (loads_push c n (i + 1) w xs ∙ ap (λ k. word_loads c n (i + 1) xs ++ LoadWord c n k w ∷ []) (let e : i + 1 + length xs ≡ i + suc (length xs) = omega arith in e))

pub loads_behind : (c n w : ℕ) (ws : List ℕ) → word_loads c n 0 (ws ++ w ∷ []) ≡ word_loads c n 0 ws ++ LoadWord c n (length ws) w ∷ []
loads_behind c n w ws = loads_push c n 0 w ws ∙ ap (λ k. word_loads c n 0 ws ++ LoadWord c n k w ∷ []) (let e : 0 + length ws ≡ length ws = omega arith in e)

-- The words so far

-- what was seen and known by a seat that the others told of it
module _ (cell slot : ℕ) (v o t : View) where
  abbrev pub start : View
  start = informed (informed v o) t

  abbrev pub Some : List ℕ → View → Type 0
  Some words w = LoadsSome cell slot t.right o.seen o.texts words start w

  pub texts_told : {ls : List Step} {w : View} → SeesAll ls start w → IsStart o.texts w.texts
  texts_told {w = w} h = All-head (λ m. IsStart m.texts w.texts) (moment_of o) v.told (All-tail (λ m. IsStart m.texts w.texts) (moment_of t) (moment_of o ∷ v.told) h.texts.covers)

  pub seen_told : {ls : List Step} {w : View} → SeesAll ls start w → IsBeginning o.seen w.seen
  seen_told {w = w} h = (All-head (λ m. GoesOn m (moment_of w)) (moment_of o) v.told (All-tail (λ m. GoesOn m (moment_of w)) (moment_of t) (moment_of o ∷ v.told) h.covers)).history

  -- what a load gives, of which nothing is known but the section and what it has found
  abbrev pub Gives : ℕ → ℕ → View → View → Type 0
  Gives k word w z = (s q n : ℕ) (i : Index) → t.right ≡ Section s q i [] None → HasFound o.seen s cell slot n → Sees (LoadWord cell n k word) w z × (word ≡ word_of cell n k z.texts)

  value : {ls : List Step} {z : View} (n k word : ℕ) → SeesAll ls start z → IsKnown cell n o.texts → word ≡ word_of cell n k z.texts → word ≡ word_of cell n k o.texts
  value {z = z} n k word h known is = is ∙ ap (λ ws. get_or ws k 0) (words_stay cell n o.texts z.texts (texts_told h) known)

  pub some_first : (word : ℕ) (w : View) → Gives 0 word start w → Some (word ∷ []) w
  some_first word w f = record {
    sees = λ s q n i right met. sees_one (f s q n i right met).0;
    values = λ s q n i right met known k lt. let zero : k ≡ 0 = omega (arith, lt) in let g = f s q n i right met in
        ap (λ j. get_or (word ∷ []) j 0) zero ∙ (value n 0 word (sees_one g.0) known g.1 ∙ ap (λ j. word_of cell n j o.texts) (sym zero));
  }

  pub some_more : (word : ℕ) (words : List ℕ) (w z : View) → Some words w → Gives (length words) word w z → Some (words ++ word ∷ []) z
  some_more word words w z h f = record { sees = sees; values = values }
    where
      sees : (s q n : ℕ) (i : Index) → t.right ≡ Section s q i [] None → HasFound o.seen s cell slot n → SeesAll (word_loads cell n 0 (words ++ word ∷ [])) start z
      sees s q n i right met = subst (λ l. SeesAll l start z) (sym (loads_behind cell n word words)) (sees_more (h.sees s q n i right met) (f s q n i right met).0)

      values : (s q n : ℕ) (i : Index) → t.right ≡ Section s q i [] None → HasFound o.seen s cell slot n → IsKnown cell n o.texts → (k : ℕ) → k < length (words ++ word ∷ []) → get_or (words ++ word ∷ []) k 0 ≡ word_of cell n k o.texts
      values s q n i right met known k lt = dite (ℕ_discrete k (length words))
          (λ e. ap (λ j. get_or (words ++ word ∷ []) j 0) e ∙ (get_or-append_seam words word [] 0 ∙ (value n (length words) word (sees s q n i right met) known (f s q n i right met).1 ∙ ap (λ j. word_of cell n j o.texts) (sym e))))
          (λ ne. let a = length-append words (word ∷ []) in let lk : k < length words = omega (arith, a, lt, ne) in get_or_append_left words (word ∷ []) 0 k lk ∙ h.values s q n i right met known k lk)

  -- who has loaded words has seen what the section found
  pub met_there : (s q n : ℕ) (i : Index) (words : List ℕ) (w : View) → Some words w → t.right ≡ Section s q i [] None → HasFound o.seen s cell slot n → (w.right ≡ Section s q i [] None) × HasFound w.seen s cell slot n
  met_there s q n i words w h right met = let all = h.sees s q n i right met in (all.right ∙ right, found_later o.seen w.seen s cell slot n (seen_told all) met)

  pub has_met : (s q n : ℕ) (i : Index) (words : List ℕ) (w : View) → Some words w → t.right ≡ Section s q i [] None → HasFound o.seen s cell slot n → HasMet cell slot w
  has_met s q n i words w h right met = let there = met_there s q n i words w h right met in record { section = s; processor = q; index = i; version = n; right = there.0; met = there.1 }

-- a word is stored behind those that are there
pub stored_behind : (n word : ℕ) (words : List ℕ) → length words < n → set (words ++ replicate (n - length words) 0) (length words) word ≡ (words ++ word ∷ []) ++ replicate (n - length (words ++ word ∷ [])) 0
stored_behind n word words lt =
    ap (λ m. set (words ++ replicate m 0) (length words) word) (let e : n - length words ≡ suc (n - (length words + 1)) = omega (arith, lt) in e)
    ∙ (set-append_seam words 0 (replicate (n - (length words + 1)) 0) word
    ∙ (sym (append_assoc words (word ∷ []) (replicate (n - (length words + 1)) 0))
    ∙ ap (λ m. (words ++ word ∷ []) ++ replicate (n - m) 0) (sym (length-append words (word ∷ [])))))

-- A further load

module _ (bounds : Bounds) where
  pub loads_next_here : (slots id k : ℕ) (me : Sat) (m : Maker) (c x i : ℕ) → IsMaker me.0.role m → me.0.processors ≡ bounds.processors → HasMet c x me.0 → c < bounds.cells → x < 8 → i < 16 → k ≡ word_place bounds.processors c x i
      → Allows (Kept bounds) slots id me k (λ x. x) (loaded_next (step slots k 0 0 none) me)
  loads_next_here slots id k me m c x i is sized h lc lx li place = loads_here bounds slots id k me m (λ n _. LoadWord c h.version i n) (loaded_next (step slots k 0 0 none) me) is sized
      (λ st r at. (tt, (found_version r.log h.section c x h.version r.within.legal (met st r at h.section h.version h.met), word st r at)))
      (λ st r w at seen changes texts sees. let n : ℕ = get_or st.words k 0 in (
        refl,
        sees.right,
        λ s' q' c' x' v' i' j' right' found' lx' li' place'.
            let places = same_slot bounds.processors c c' x x' i i' lx lx' li li' (sym place ∙ (place' ∙ ap (λ n. word_place n c' x' i') sized)) in
            let ss : h.section ≡ s' = (same_section h.section s' h.processor q' h.index j' (sym h.right ∙ right')).0 in
            let again : HasFound me.0.seen h.section c x v' = subst (λ (z : ℕ × ℕ × ℕ). HasFound me.0.seen z.0 z.1 z.2 v') (λ e. (sym ss e, sym places.0 e, sym places.1 e)) found' in
            let opened = (held st r at).1 in
            let vv : h.version ≡ v' = sym (found_stays r.log h.section c x h.version r.within.legal opened (met st r at h.section h.version h.met)) ∙ found_stays r.log h.section c x v' r.within.legal opened (met st r at h.section v' again) in
            subst (λ (z : ℕ × ℕ × ℕ). Sees (LoadWord z.0 z.1 z.2 n) me.0 w × (n ≡ word_of z.0 z.1 z.2 w.texts)) (λ e. (places.0 e, vv e, places.2 e)) (sees, word st r at ∙ ap (word_of c h.version i) (sym texts)),
      ))
    where
      held : (st : State Slot View) (r : Kept bounds st) → get_elem? st.views id ≡ some me.0 → Has r.truth id (Section h.section h.processor h.index [] None)
      held st r at = has_at (r.each_view id me.0 at) h.right

      met : (st : State Slot View) (r : Kept bounds st) → get_elem? st.views id ≡ some me.0 → (s v : ℕ) → HasFound me.0.seen s c x v → HasFound r.log s c x v
      met st r at s v f = found_later me.0.seen r.log s c x v (r.each_view id me.0 at).seen f

      word : (st : State Slot View) (r : Kept bounds st) → get_elem? st.views id ≡ some me.0 → get_or st.words k 0 ≡ word_of c h.version i r.shelf.texts
      word st r at = ap (λ z. get_or st.words z 0) place ∙ there bounds st.words r.log r.shelf.texts h.section c x h.version i r.shelf.shelved r.within.legal (held st r at).1 (met st r at h.section h.version h.met) lc lx li

-- The words so far stand before zeros

pub record SoFar (cell slot place : ℕ) (v o t : View) (words : List ℕ) (w : View) : Type 0 where
  pub got : List ℕ
  pub count : length got ≡ place
  pub words_are : words ≡ got ++ replicate (16 - length got) 0
  pub some : Some cell slot v o t got w

module _ (cell slot : ℕ) (v o t : View) where
  pub so_far_first : (word : ℕ) (w : View) → Gives cell slot v o t 0 word (start cell slot v o t) w → SoFar cell slot 1 v o t (set (replicate 16 0) 0 word) w
  so_far_first word w f = record { got = word ∷ []; count = refl; words_are = stored_behind 16 word [] (omega arith); some = some_first cell slot v o t word w f }

  pub so_far_more : (place word : ℕ) (words : List ℕ) (w z : View) → place < 16 → SoFar cell slot place v o t words w → Gives cell slot v o t place word w z → SoFar cell slot (place + 1) v o t (set words place word) z
  so_far_more place word words w z lt h f = let n = h.count in record {
    got = h.got ++ word ∷ [];
    count = length-append h.got (word ∷ []) ∙ ap (λ k. k + 1) n;
    words_are = ap (λ ws. set ws place word) h.words_are ∙ (ap (λ k. set (h.got ++ replicate (16 - length h.got) 0) k word) (sym n) ∙ stored_behind 16 word h.got (omega (arith, n, lt)));
    some = some_more cell slot v o t word h.got w z h.some (subst (λ k. Gives cell slot v o t k word w z) (sym n) f);
  }

  -- all of them
  pub so_far_all : (place : ℕ) (words : List ℕ) (w : View) → place ≡ 16 → SoFar cell slot place v o t words w → Some cell slot v o t words w
  so_far_all place words w all h = subst (λ ws. Some cell slot v o t ws w) (sym whole) h.some
    where
      none_left : 16 - length h.got ≡ 0
      none_left = let n = h.count in omega (arith, n, all)

      whole : words ≡ h.got
      whole = h.words_are ∙ (ap (λ k. h.got ++ replicate k 0) none_left ∙ append-nil h.got)

-- From what the loads tell a seat to what a caller sees

module _ {A : Type 0} {t : found.Inside} {lender seat : DomainSeat} {c : cpu.Inside A} {words : List ℕ} {p : ℕ} {k : Index}
    (b : IsFound t) (pinned : (t.seat.table_id ≡ lender.table_id) × HasFound t.seat.me.0.seen (section_of lender.me.0.right) t.cell t.slot t.version) (i : IsCpu c)
    (right : lender.me.0.right ≡ Section (section_of lender.me.0.right) p k [] None) (f : LoadsAllIn t.cell t.slot c.seat lender t.seat words seat) where
  sees : SeesAll (word_loads t.cell t.version 0 words) (lent_to c.seat lender t.seat) f.after
  sees = f.loads.sees (section_of lender.me.0.right) p t.version k right pinned.1

  lacks : seat.me.0 ≡ lacking f.after
  lacks = ap (λ m. m.0) f.stays

  mine : seat.me.0.mine ≡ c.seat.me.0.mine
  mine = ap (λ (z : View). z.mine) lacks ∙ sees.mine

  pub loads_all_cpu : IsCpu (record c { seat = seat })
  loads_all_cpu = stays i f.same_table (ap (λ m. m.1) f.stays) (subst IsAtRest (sym lacks) (record { free = refl; told = sees.told; sound = sees.sound }))
      (ap (λ (z : View). z.processors) lacks ∙ sees.processors) (ap (λ (z : View). z.role) lacks ∙ sees.role) (λ j. ap (locks c.processor j) mine) (ap (λ (l : List Event). length (open_readings l)) mine)

  pub reads_words : ReadsWords (lent lender p k) (view_of_found t) words (view_of_cpu c) (view_of_cpu (record c { seat = seat }))
  reads_words =
      let w : View = f.after in
      let n : ℕ = (arc_value c.table).shared.key.processors in
      let u : Moment = moment_of (bearer lender.me.0) in
      let o : Moment = moment_of (bearer t.seat.me.0) in
      let told : List Moment = c.seat.me.0.told in
      let behind : All (λ m. GoesOn m (moment_of w)) (o ∷ told) = All-tail (λ m. GoesOn m (moment_of w)) u (o ∷ told) sees.covers in
      let found : GoesOn o (moment_of w) = All-head (λ m. GoesOn m (moment_of w)) o told behind in
      subst (λ (z : View). ReadsWords (lent lender p k) (view_of_found t) words (seen_as c.seat.table_id n c.limit c.processor c.seat.me.0) (seen_as seat.table_id n c.limit c.processor z)) (sym lacks) (record {
        words_are = record { long = f.long; each = λ j lt. f.loads.values (section_of lender.me.0.right) p t.version k right pinned.1 b.known j (let l = f.long in omega (arith, lt, l)) };
        same = (f.same_table, refl, refl, refl);
        mine = sees.mine;
        steps = sees.steps (Processor c.processor) (cpu_makes c.processor c.seat.me.0.role i.role);
        since = sees.since;
        later = sees.later;
        texts_since = sees.texts.since;
        history = history_of n c.processor w (sees.processors ∙ i.placed.sized) (sees.role ∙ i.role) sees.sound;
        covers_reading = (All-head (λ m. GoesOn m (moment_of w)) u (o ∷ told) sees.covers).history;
        covers = found.history;
        not_before = found.changes;
        texts = All-head (λ m. IsStart m.texts w.texts) o told (All-tail (λ m. IsStart m.texts w.texts) u (o ∷ told) sees.texts.covers);
      })
