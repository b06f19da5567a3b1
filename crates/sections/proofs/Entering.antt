-- What is always true of a processor stays true where its seat begins a section, which then is open.
use Rattle.std.proofs.Common.{◌≡◌, ◌≢◌, ℕ, ◌+◌, true, false, Bool, List, [], ◌∷◌, ◌++◌, length, get_or, set, refl, sym, ap, ◌∙◌, arith}
use Rattle.sseq.specs.declared.index.Index.{Index}
use Rattle.sseq.specs.Indexes.{index_number, low_bit}
use Rattle.onedom.specs.declared.event.Event.{Event}
use Rattle.onedom.specs.declared.event.Event.TheVariants.{Begin}
use Rattle.onedom.specs.declared.event.Maker.TheVariants.{Processor}
use Rattle.sections.specs.declared.cpu.Cpu.TheInside as cpu
use Rattle.sections.specs.Glossary.{View, locks, open_readings, index_word, lacking, Sees, DomainSeat, BeginsSection, section_of, view_of_cpu, IsCpu, LookView, Looks, LooksInVain, LooksAndBegins}
use Rattle.sections.specs.declared.view.Step.TheVariants.{LoadIndex}
use Rattle.sections.proofs.CpuViews.{loads_from, adds_alone, fresh_section, rests_cut, begun_more, limited_more, sum_more, one_more_unclosed, same_unclosed_begun, has_room, at_limit}
use Rattle.sections.proofs.Pinning.{lent}

-- one more section of this index was begun
abbrev pub one_more : List ℕ → Index → List ℕ
one_more begun k = set begun (index_number k) (get_or begun (index_number k) 0 + 1)

-- `between` is the seat right before the section begins
module _ {A : Type 0} {c : cpu.Inside A} {held : Bool} {k : Index} {between seat token : DomainSeat} (i : IsCpu c) (two : length c.begun ≡ 2) (full : get_or c.begun (index_number k) 0 ≢ c.limit)
    (b : BeginsSection held c.processor k between seat token) (table : between.table_id ≡ c.seat.table_id) (processors : between.me.0.processors ≡ c.seat.me.0.processors) (role : between.me.0.role ≡ c.seat.me.0.role) (mine : between.me.0.mine ≡ c.seat.me.0.mine) where
  cut : seat.me.0 ≡ lacking b.after
  cut = ap (λ m. m.0) b.stays

  enters : (n : ℕ) → length (open_readings b.after.mine) + n ≡ length (open_readings between.me.0.mine) + c.settled + 1 → IsCpu (record c { seat = seat; begun = one_more c.begun k; settled = n })
  enters n settled = record {
    placed = record {
      seated = b.same_table.0 ∙ (table ∙ i.placed.seated);
      wide = i.placed.wide;
      cells = i.placed.cells;
      bare = ap (λ m. m.1) b.stays;
      sized = ap (λ (v : View). v.processors) cut ∙ (b.adds.processors ∙ (processors ∙ i.placed.sized));
    };
    rests = rests_cut _ _ _ _ cut b.adds;
    role = ap (λ (v : View). v.role) cut ∙ (b.adds.role ∙ (role ∙ i.role));
    there = i.there;
    limit = i.limit;
    begun = begun_more c.begun c.processor k b.section (Processor c.processor) c.seat.me.0.mine _ two i.begun (ap (λ (v : View). v.mine) cut ∙ (b.adds.mine ∙ ap (λ (l : List Event). l ++ Begin b.section c.processor k (Processor c.processor) ∷ []) mine));
    limited = limited_more c.begun k c.limit two full i.limited;
    small = i.small;
    settled =
        let more = sum_more c.begun k two in
        let was = i.settled in
        let same : length (open_readings between.me.0.mine) ≡ length (open_readings c.seat.me.0.mine) = ap (λ l. length (open_readings l)) mine in
        let after : length (open_readings seat.me.0.mine) ≡ length (open_readings b.after.mine) = ap (λ (v : View). length (open_readings v.mine)) cut in
        omega (arith, more, was, same, after, settled);
  }

  -- a reading, which is open here
  pub enters_reading : held ≡ false → IsCpu (record c { seat = seat; begun = one_more c.begun k; settled = c.settled })
  enters_reading is = enters c.settled (let one = one_more_unclosed b.section c.processor k _ _ (b.adds.role ∙ (role ∙ i.role)) b.adds (b.kind ∙ is) in omega (arith, one))

  -- a held section, which doesn't count here
  pub enters_held : held ≡ true → IsCpu (record c { seat = seat; begun = one_more c.begun k; settled = c.settled + 1 })
  enters_held is = enters (c.settled + 1) (let none = same_unclosed_begun b.section c.processor k _ _ (b.adds.role ∙ (role ∙ i.role)) b.adds (b.kind ∙ is) in omega (arith, none))

-- a look
module _ {A : Type 0} {c : cpu.Inside A} {value : ℕ} {k : Index} (i : IsCpu c) (between : DomainSeat) (table : between.table_id ≡ c.seat.table_id) (sees : Sees (LoadIndex value) c.seat.me.0 between.me.0) (current : value ≡ index_word between.me.0.changes) (index : k ≡ low_bit value) where
  abbrev look : LookView
  look = record { domain = c.seat.table_id; index = k; seen = between.me.0.seen; changes = between.me.0.changes }

  looks : Looks (view_of_cpu c) (view_of_cpu (record c { seat = between })) look
  looks = record {
    value = value;
    load = loads_from _ _ _ _ _ _ _ _ table i.placed.sized i.role sees;
    current = current;
    look_is = λ n. record { domain = c.seat.table_id; index = index n; seen = between.me.0.seen; changes = between.me.0.changes };
  }

  -- where no more sections of the index may begin
  pub looks_in_vain : get_or c.begun (index_number k) 0 ≡ c.limit → LooksInVain (view_of_cpu c) (view_of_cpu (record c { seat = between }))
  looks_in_vain full = record { look = look; looks = looks; exhausted = ap (locks c.processor k) sees.mine ∙ at_limit _ _ _ (i.begun k) full }

  -- and where a section begins
  pub looks_and_begins : {held : Bool} {seat token : DomainSeat} → get_or c.begun (index_number k) 0 ≢ c.limit → (b : BeginsSection held c.processor k between seat token) → LooksAndBegins held (view_of_cpu c) (view_of_cpu (record c { seat = seat })) (lent token c.processor k)
  looks_and_begins full b = let right = ap (λ m. m.0.right) b.given ∙ b.right in record {
    between = view_of_cpu (record c { seat = between });
    look = look;
    looks = looks;
    enters = record {
      section = b.section;
      room = has_room _ _ _ (i.begun k ∙ ap (locks c.processor k) (sym sees.mine)) (i.limited k) full;
      fresh = fresh_section _ _ _ _ _ _ b.adds;
      kind = b.kind;
      adds = adds_alone _ _ _ _ _ _ between.me.0 _ _ b.same_table.0 (sees.processors ∙ i.placed.sized) (sees.role ∙ i.role) (ap (λ m. m.0) b.stays) b.adds;
      reading = λ n. record { domain = b.same_table.1 n; section = section_of (right n); processor = c.processor; index = k; seen = (ap (λ m. m.0.seen) b.given ∙ sym (ap (λ m. m.0.seen) b.stays)) n; changes = (ap (λ m. m.0.changes) b.given ∙ sym (ap (λ m. m.0.changes) b.stays)) n };
    };
  }

  pub between_is : {held : Bool} {seat token : DomainSeat} (full : get_or c.begun (index_number k) 0 ≢ c.limit) (b : BeginsSection held c.processor k between seat token) → (looks_and_begins full b).between ≡ view_of_cpu (record c { seat = between })
  unfolding looks_and_begins
  between_is full b = refl
