-- A section that begins, finds a box and ends in one call: its right stays at the processor's own seat.
use Rattle.std.proofs.Common.{◌≡◌, ◌≢◌, ℕ, ◌+◌, ◌/◌, ◌≤◌, [], All, None, false, length, get_or, refl, sym, ap, ◌∙◌, subst}
use Rattle.std.proofs.lemmas.List.Elements.{All-nil, All-cons}
use Rattle.std.specs.Arc.{arc_value}
use Rattle.atomic_table.specs.Seated.{TableId}
use Rattle.sseq.specs.declared.index.Index.{Index}
use Rattle.sseq.specs.Indexes.{index_number, low_bit}
use Rattle.onedom.specs.declared.event.Maker.TheVariants.{Processor}
use Rattle.onedom.specs.declared.event.Event.TheVariants.{Begin, End}
use Rattle.onedom.specs.Histories.{begins_of, IsBeginning}
use Rattle.sections.specs.Glossary.{View, is_held, index_word, IsStart, offer_of, KnowsVault, GoesOn, moment_of, steps_of, lacking, bearer, informed, Sees, Adds, Catches, DomainSeat, IsPlaced, BeginsSection, IsAtRest, section_of, view_of_cpu, IsCpu, view_of_found, CpuView, offer_found, FindsThere, ShowsHere, BeginsKnowing, FindsInSection}
use Rattle.sections.specs.declared.view.Right.TheVariants.{Nothing, Section}
use Rattle.sections.specs.declared.view.Role.TheVariants.{Cpu}
use Rattle.sections.specs.declared.view.Step.TheVariants.{LoadIndex}
use Rattle.sections.specs.declared.cpu.Cpu.TheInside as cpu
use Rattle.sections.specs.declared.cpu.pins.Found.TheInside as found
use Rattle.sections.specs.Seats.{Covers}
use Rattle.sections.proofs.CpuViews.{history_of}
use Rattle.sections.proofs.Ending.{Follows, FoundWith, found_then, now, finds_it, sized, role, reading_seen, ends_it, settles}
use Rattle.sections.proofs.Ending as ending
use Rattle.sections.proofs.Entering.{one_more, enters_reading, looks_and_begins, between_is}
use Rattle.sections.proofs.Offered.{vault_stays}
use Rattle.sections.proofs.Pinning.{lent}
use Rattle.sections.proofs.Shelving.{start_trans}

-- a load that covers what another has seen is a load
pub sees_covered : {v o w : View} → IsAtRest v → (h : Covers v o w) → Sees (LoadIndex h.value) v w
sees_covered {w = w} rests h = record {
  processors = h.processors;
  role = h.role;
  mine = h.mine;
  right = h.right ∙ sym rests.free;
  shown = h.shown;
  told = h.told;
  steps = h.steps;
  since = h.since;
  later = h.later;
  covers = subst (λ l. All (λ m. GoesOn m (moment_of w)) l) (sym rests.told) (All-nil (λ m. GoesOn m (moment_of w)));
  texts = record { since = h.texts; covers = subst (λ l. All (λ m. IsStart m.texts w.texts) l) (sym rests.told) (All-nil (λ m. IsStart m.texts w.texts)) };
  sound = h.sound;
}

-- what a seat with a right finds, a seat finds that took the right in and was told what the first has seen
as_if_told : (cell word : ℕ) (v at : View) → FindsThere cell word v at → FindsThere cell word (informed (lacking v) (bearer v)) at
as_if_told cell word v at h s q p i us is has = let f = h s q p i us is has in let a = f.0 in (
  record {
    before = a.before;
    seen = a.seen;
    since = a.since;
    later = a.later;
    covers = All-cons (λ m. GoesOn m (record { history = a.before; changes = at.changes; texts = [] })) (moment_of v) v.told (record { history = a.since; changes = a.later }) a.covers;
    processors = a.processors;
    role = a.role;
    mine = a.mine;
    shown = a.shown;
    told = a.told;
    done = a.done;
    texts = record { since = a.texts.since; covers = All-cons (λ m. IsStart m.texts at.texts) (moment_of v) v.told a.texts.since a.texts.covers };
    sound = a.sound;
  },
  f.1,
  f.2,
)

-- the seat began a section of the index that its look found, and keeps the right. The look had seen what `known` had
pub record BeganHere {A : Type 0} (c : cpu.Inside A) (known : View) (k : Index) (between locked : DomainSeat) : Type 0 where
  pub invariant : IsCpu c
  pub two : length c.begun ≡ 2
  pub room : get_or c.begun (index_number k) 0 ≢ c.limit
  pub table : between.table_id ≡ c.seat.table_id
  pub looks : Covers c.seat.me.0 known between.me.0
  pub index : k ≡ low_bit looks.value
  pub section : ℕ
  pub adds : Adds between.me.0 (Begin section c.processor k (Processor c.processor)) locked.me.0
  pub right : locked.me.0.right ≡ Section section c.processor k [] None
  pub kind : is_held section ≡ false

-- the index is that of the word that the look found
pub index_found : {v o w : View} {k : Index} {word : ℕ} (looks : Covers v o w) → k ≡ low_bit word → word ≡ index_word w.changes → k ≡ low_bit looks.value
index_found looks index word = index ∙ ap low_bit (word ∙ sym looks.current)

pub began_here : {A : Type 0} {c : cpu.Inside A} {known : View} {k : Index} {word : ℕ} {between locked : DomainSeat} → IsCpu c → length c.begun ≡ 2
    → get_or c.begun (index_number k) 0 ≢ c.limit → between.table_id ≡ c.seat.table_id → Covers c.seat.me.0 known between.me.0 → k ≡ low_bit word → word ≡ index_word between.me.0.changes
    → (t : ℕ) × Adds between.me.0 (Begin t c.processor k (Processor c.processor)) locked.me.0 × (locked.me.0.right ≡ Section t c.processor k [] None) × (is_held t ≡ false) → BeganHere c known k between locked
began_here i two room table looks index word told = record {
  invariant = i;
  two = two;
  room = room;
  table = table;
  looks = looks;
  index = index_found looks index word;
  section = told.0;
  adds = told.1;
  right = told.2;
  kind = told.3;
}

follows : {v w : View} → Catches v w → Follows v w
follows h = record { processors = h.processors; role = h.role; mine = h.mine; since = h.since; later = h.later }

module _ {A : Type 0} {c : cpu.Inside A} {k : Index} {between locked : DomainSeat} (t : found.Inside) (b : BeganHere c t.seat.me.0 k between locked) where
  -- as if a token had been cut off then
  abbrev begun : DomainSeat
  begun = record c.seat { me = (lacking locked.me.0, []) }

  abbrev token : DomainSeat
  token = record c.seat { me = (bearer locked.me.0, []) }

  abbrev inside : cpu.Inside A
  inside = record c { seat = begun; begun = one_more c.begun k }

  abbrev pub s : ℕ
  s = section_of locked.me.0.right

  begins : BeginsSection false c.processor k between begun token
  begins = record { section = b.section; after = locked.me.0; adds = b.adds; right = b.right; kind = b.kind; same_table = (sym b.table, sym b.table); stays = refl; given = refl }

  begun_cpu : IsCpu inside
  begun_cpu = enters_reading b.invariant b.two b.room begins b.table b.looks.processors b.looks.role b.looks.mine refl

  pub right_here : locked.me.0.right ≡ Section s c.processor k [] None
  right_here = b.right ∙ ap (λ (z : ℕ). Section z c.processor k [] None) (sym (ap section_of b.right))

  begins_knowing : BeginsKnowing (view_of_found t) (view_of_cpu c) (view_of_cpu inside) (lent token c.processor k)
  begins_knowing =
      let sees = sees_covered b.invariant.rests b.looks in
      let same = sym (between_is b.invariant between b.table sees b.looks.current b.index b.room begins) in record {
        locks = looks_and_begins b.invariant between b.table sees b.looks.current b.index b.room begins;
        covers = subst (λ (z : CpuView). IsBeginning t.seat.me.0.seen z.seen) same b.looks.covers;
        not_before = subst (λ (z : CpuView). t.seat.me.0.changes ≤ z.changes) same b.looks.not_before;
        texts = subst (λ (z : CpuView). IsStart t.seat.me.0.texts z.texts) same b.looks.brings;
      }

  pub placed_here : locked.table_id ≡ between.table_id → locked.me.1 ≡ [] → IsPlaced (arc_value c.table).shared.key (arc_value c.table).shared.table_id locked
  placed_here table bare = let placed = b.invariant.placed in record {
    seated = table ∙ (b.table ∙ placed.seated);
    wide = placed.wide;
    cells = placed.cells;
    bare = bare;
    sized = b.adds.processors ∙ (b.looks.processors ∙ placed.sized);
  }

  pub role_here : locked.me.0.role ≡ Cpu c.processor
  role_here = b.adds.role ∙ (b.looks.role ∙ b.invariant.role)

  -- what was known of a cell's vault is known where the section has begun
  pub knows_here : (cell keys : ℕ) (vault : TableId) → KnowsVault cell keys vault t.seat.me.0.texts → KnowsVault cell keys vault locked.me.0.texts
  knows_here cell keys vault knew = vault_stays cell keys vault t.seat.me.0.texts locked.me.0.texts (start_trans b.looks.brings b.adds.texts.since) knew

  module _ {cell : ℕ} {last : DomainSeat} (h : ShowsHere cell locked last) where
    -- and joined again for the find alone
    pub found_here : FoundWith inside cell h.word c.processor k token last h.at
    found_here = record { invariant = begun_cpu; right = right_here; finds = as_if_told cell h.word locked.me.0 h.at h.finds; follows = follows h.catches }

    module _ (final : DomainSeat) (table : final.table_id ≡ c.seat.table_id) (free : final.me.0.right ≡ Nothing) (adds : Adds last.me.0 (End s c.processor (Processor c.processor)) final.me.0) where
      pub finds_in_section : (reads : FindsInSection cell (view_of_found t) (view_of_cpu c) (view_of_cpu (record c { seat = final }))) × (offer_found reads.ends.found ≡ offer_of cell (h.word / 16) h.at.texts)
      finds_in_section = let f = found_here in (
        record {
          begun = view_of_cpu inside;
          section = lent token c.processor k;
          begins = begins_knowing;
          ends = record {
            at = found_then f;
            found = ending.found f;
            finds = finds_it f;
            caught = now f;
            catches = record {
              same = (refl, refl, refl, refl);
              mine = h.catches.mine;
              steps = ap (steps_of (Processor c.processor)) h.catches.done;
              since = h.catches.since;
              later = h.catches.later;
              texts_since = h.catches.texts.since;
              history = history_of _ c.processor last.me.0 (sized f) (role f) h.catches.sound;
              covers_section = reading_seen f;
              covers = h.catches.since;
              not_before = h.catches.later;
              texts = h.catches.texts.since;
            };
            ends = ends_it f final table free adds;
          };
        },
        refl,
      )

      pub settled_here : final.me.1 ≡ [] → (c.processor ≡ c.processor → begins_of s last.me.0.mine ≡ 1) → IsCpu (record c { seat = final; begun = one_more c.begun k; settled = c.settled + 1 })
      settled_here bare begun_once = settles found_here final table free adds bare refl (ap is_held (ap section_of b.right) ∙ b.kind) begun_once
