-- From what a load of a word tells a seat to what a caller sees.
use Rattle.std.specs.Prelude.{None}
use Rattle.std.proofs.Common.{◌≡◌, ℕ, ◌<◌, ◌≤◌, ◌/◌, ◌%◌, List, [], ◌∷◌, ◌++◌, arith, get_or, refl, sym, ap, ◌∙◌, subst}
use Rattle.std.proofs.lemmas.List.Elements.{All-head, All-tail}
use Rattle.atomic_table.specs.Seated.{TableId}
use Rattle.onedom.specs.declared.event.Maker.{Maker}
use Rattle.onedom.specs.declared.event.Maker.TheVariants.{Processor}
use Rattle.onedom.specs.declared.event.Event.{Event}
use Rattle.onedom.specs.declared.event.Event.TheVariants.{Find}
use Rattle.sseq.specs.declared.index.Index.{Index}
use Rattle.onedom.specs.Histories.{slot_of, version_of, HasFound, IsLegal, IsBeginning}
use Rattle.onedom.proofs.CallerLemmas.{beginning_append, legal_beginning, slot_kept, version_kept, versions_up}
use Rattle.sections.specs.Glossary.{Lent, Step, Text, View, cells_in, word_of, IsStart, IsKnown, GoesOn, moment_of, lacking, bearer, informed, Sees, Adds, DomainSeat, FindsIn, Remembers, LoadsIn, ReadingView, FoundView, IsPinned, Finds, ReadsWord, IsAtRest, section_of, view_of_cpu, IsCpu, view_of_found, IsFound, Loads}
use Rattle.sections.specs.declared.view.Role.TheVariants.{Cpu}
use Rattle.sections.specs.declared.view.Right.TheVariants.{Section}
use Rattle.sections.specs.declared.view.Step.TheVariants.{LoadWord}
use Rattle.sections.specs.declared.cpu.Cpu.TheInside as cpu
use Rattle.sections.specs.declared.cpu.pins.Found.TheInside as found
use Rattle.sections.proofs.Deeds.{cpu_makes}
use Rattle.sections.proofs.CpuViews.{seen_as, history_of, last_may_follow, adds_cut, rests_cut}
use Rattle.sections.proofs.Finding.{words_stay}
use Rattle.sections.proofs.Staying.{maker_of, stays_seen, stays_told}

pub rests_lacking : (l : Step) (v w w' : View) → w' ≡ lacking w → Sees l v w → IsAtRest w'
rests_lacking l v w w' cut h = subst (λ (z : View). IsAtRest z) (sym cut) (record { free = refl; told = h.told; sound = h.sound })

-- what was found is current in what is then seen, and no older than what was seen before
pub finds_current : (t c x n : ℕ) (by : Maker) (old before new : List Event) → new ≡ before ++ Find t c x n by ∷ [] → IsLegal new → IsBeginning old before → (x ≡ slot_of c new) × (n ≡ version_of c new) × (version_of c old ≤ n)
finds_current t c x n by old before new is legal since =
    let whole : IsLegal (before ++ Find t c x n by ∷ []) = subst IsLegal is legal in
    let may = last_may_follow before (Find t c x n by) whole in
    let first : IsLegal before = legal_beginning (beginning_append before (Find t c x n by ∷ [])) whole in
    let up : version_of c old ≤ version_of c before = subst (λ (l : List Event). version_of c old ≤ version_of c l) (sym since.whole) (versions_up c old since.rest (subst IsLegal since.whole first)) in
    let at = may.2 in (
      may.1 ∙ sym (ap (slot_of c) is ∙ slot_kept c before (Find t c x n by) refl),
      may.2 ∙ sym (ap (version_of c) is ∙ version_kept c before (Find t c x n by) refl),
      omega (arith, up, at),
    )

module _ (l : Step) (v o t w w' : View) (cut : w' ≡ lacking w) (h : Sees l (informed (informed v o) t) w) where
  pub loads_lent : (d d' : TableId) (n limit p : ℕ) → d' ≡ d → v.processors ≡ n → v.role ≡ Cpu p → Loads l (seen_as d n limit p v) (seen_as d' n limit p w')
  loads_lent d d' n limit p same sized is = subst (λ (z : View). Loads l (seen_as d n limit p v) (seen_as d' n limit p z)) (sym cut) (record {
    same = (same, refl, refl, refl);
    mine = h.mine;
    steps = h.steps (Processor p) (cpu_makes p v.role is);
    since = h.since;
    later = h.later;
    texts = h.texts.since;
    history = history_of n p w (h.processors ∙ sized) (h.role ∙ is) h.sound;
  })

  pub covers_lender : IsBeginning t.seen w'.seen
  covers_lender = subst (λ (z : View). IsBeginning t.seen z.seen) (sym cut) (All-head (λ m. GoesOn m (moment_of w)) (moment_of t) (moment_of o ∷ v.told) h.covers).history

  pub covers_found : GoesOn (moment_of o) (moment_of w')
  covers_found = subst (λ (z : View). GoesOn (moment_of o) (moment_of z)) (sym cut) (let g = All-head (λ m. GoesOn m (moment_of w)) (moment_of o) v.told (All-tail (λ m. GoesOn m (moment_of w)) (moment_of t) (moment_of o ∷ v.told) h.covers) in record { history = g.history; changes = g.changes })

  pub texts_found : IsStart o.texts w'.texts
  texts_found = subst (λ (z : View). IsStart o.texts z.texts) (sym cut) (All-head (λ m. IsStart m.texts w.texts) (moment_of o) v.told (All-tail (λ m. IsStart m.texts w.texts) (moment_of t) (moment_of o ∷ v.told) h.texts.covers))

  pub value_found : (c n i word : ℕ) → IsKnown c n o.texts → word ≡ word_of c n i w.texts → word ≡ word_of c n i o.texts
  value_found c n i word known is = is ∙ ap (λ ws. get_or ws i 0) (words_stay c n o.texts w.texts (subst (λ (z : View). IsStart o.texts z.texts) cut texts_found) known)

-- the seat that lends the right to a section, as a caller sees it
abbrev pub lent : DomainSeat → ℕ → Index → ReadingView
lent s p k = record { domain = s.table_id; section = section_of s.me.0.right; processor = p; index = k; seen = s.me.0.seen; changes = s.me.0.changes }

abbrev pub found_in : ℕ → ℕ → DomainSeat → found.Inside
found_in cell word seat = record { cell = cell; slot = word % 16; version = word / 16; seat = seat }

-- A find, whoever lends the right
module _ {A : Type 0} {c : cpu.Inside A} {cell word p : ℕ} {k : Index} {us : List Lent} {lender seat token : DomainSeat} (i : IsCpu c) (right : lender.me.0.right ≡ Section (section_of lender.me.0.right) p k us None) (f : FindsIn cell c.seat lender word seat token) where
  abbrev event : Event
  event = Find (section_of lender.me.0.right) cell (word % 16) (word / 16) (Processor c.processor)

  told : Adds (informed c.seat.me.0 (bearer lender.me.0)) event f.after × IsKnown cell (word / 16) f.after.texts × (word % 16 < 8)
  told = f.adds (section_of lender.me.0.right) p c.processor k us i.role right

  cut : seat.me.0 ≡ lacking f.after
  cut = ap (λ m. m.0) f.stays

  pub finds_cpu : IsCpu (record c { seat = seat })
  finds_cpu = stays_told i f.same_table.0 (ap (λ m. m.1) f.stays) (rests_cut _ _ _ _ cut told.0) refl (ap maker_of cut) told.0 refl (λ _. refl) (λ _. refl)

  pub finds_found : cell < cells_in c.seat.table_id → IsFound (found_in cell word token)
  finds_found inside = record {
    bare = ap (λ m. m.1) f.given;
    free = ap (λ m. m.0.right) f.given;
    cell = subst (λ (t : TableId). cell < cells_in t) (sym f.same_table.1) inside;
    slot = told.2;
    known = subst (λ (l : List Text). IsKnown cell (word / 16) l) (sym (ap (λ m. m.0.texts) f.given)) told.1;
  }

  pub finds : Finds cell (lent lender p k) (view_of_cpu c) (view_of_cpu (record c { seat = seat })) (view_of_found (found_in cell word token))
  finds = let now = finds_current (section_of lender.me.0.right) cell (word % 16) (word / 16) (Processor c.processor) c.seat.me.0.seen told.0.before seat.me.0.seen
      (ap (λ (v : View). v.seen) cut ∙ told.0.seen) (subst (λ (v : View). IsLegal v.seen) (sym cut) told.0.sound.legal) told.0.since in record {
        adds = adds_cut event _ _ _ _ c.processor c.seat.me.0 (bearer lender.me.0) (informed c.seat.me.0 (bearer lender.me.0)) f.after seat.me.0 f.same_table.0 i.placed.sized i.role refl cut told.0;
        current = (now.0, now.1);
        not_older = now.2;
        low = told.2;
        known = subst (λ (v : View). IsKnown cell (word / 16) v.texts) (sym cut) told.1;
        found_is = λ n. record {
          domain = f.same_table.1 n;
          cell = cell;
          slot = word % 16;
          version = word / 16;
          seen = (ap (λ m. m.0.seen) f.given ∙ sym (ap (λ m. m.0.seen) f.stays)) n;
          changes = (ap (λ m. m.0.changes) f.given ∙ sym (ap (λ m. m.0.changes) f.stays)) n;
          texts = (ap (λ m. m.0.texts) f.given ∙ sym (ap (λ m. m.0.texts) f.stays)) n;
        };
      }

  pub finds_pinned : lender.table_id ≡ c.seat.table_id → IsPinned (lent lender p k) (view_of_found (found_in cell word token))
  finds_pinned here = (f.same_table.1 ∙ sym here, record { before = told.0.before; by = Processor c.processor; after = []; whole = ap (λ m. m.0.seen) f.given ∙ told.0.seen })

-- what a caller says of a pin, of what its parts are seen as
pub pinned_as : {r s : ReadingView} {f g : FoundView} → r ≡ s → f ≡ g → IsPinned s g → IsPinned r f
pinned_as reading pin is = subst (λ (z : ReadingView × FoundView). IsPinned z.0 z.1) (λ n. (sym reading n, sym pin n)) is

-- A load of a word, whoever lends the right
module _ {t : found.Inside} {lender : DomainSeat} (b : IsFound t) (pinned : (t.seat.table_id ≡ lender.table_id) × HasFound t.seat.me.0.seen (section_of lender.me.0.right) t.cell t.slot t.version) where
  pub remembers : {table : TableId} → lender.table_id ≡ table → Remembers table lender t.cell t.slot t.seat
  remembers here = record {
    seated = pinned.0 ∙ here;
    bare = b.bare;
    free = b.free;
    version = t.version;
    met = λ s q j right. subst (λ (z : ℕ). HasFound t.seat.me.0.seen z t.cell t.slot t.version) (ap section_of right) pinned.1;
  }

  module _ {A : Type 0} {c : cpu.Inside A} {place word p : ℕ} {k : Index} {seat : DomainSeat} (i : IsCpu c) (right : lender.me.0.right ≡ Section (section_of lender.me.0.right) p k [] None) (f : LoadsIn t.cell t.slot place c.seat lender t.seat word seat) where
    abbrev step : Step
    step = LoadWord t.cell t.version place word

    sees : Sees step (informed (informed c.seat.me.0 (bearer t.seat.me.0)) (bearer lender.me.0)) f.after × (word ≡ word_of t.cell t.version place f.after.texts)
    sees = f.sees (section_of lender.me.0.right) p t.version k right pinned.1

    lacks : seat.me.0 ≡ lacking f.after
    lacks = ap (λ m. m.0) f.stays

    pub loads_cpu : IsCpu (record c { seat = seat })
    loads_cpu = stays_seen i f.same_table (ap (λ m. m.1) f.stays) (rests_lacking step _ f.after _ lacks sees.0) refl (ap maker_of lacks) sees.0

    pub reads_word : ReadsWord (lent lender p k) (view_of_found t) place word (view_of_cpu c) (view_of_cpu (record c { seat = seat }))
    reads_word = let v : View = c.seat.me.0 in let o : View = bearer t.seat.me.0 in let u : View = bearer lender.me.0 in let goes = covers_found step v o u f.after seat.me.0 lacks sees.0 in record {
      load = loads_lent step v o u f.after seat.me.0 lacks sees.0 _ _ _ _ c.processor f.same_table i.placed.sized i.role;
      covers_reading = covers_lender step v o u f.after seat.me.0 lacks sees.0;
      covers = goes.history;
      not_before = goes.changes;
      texts = texts_found step v o u f.after seat.me.0 lacks sees.0;
      value = value_found step v o u f.after seat.me.0 lacks sees.0 t.cell t.version place word b.known sees.1;
    }
