use Rattle.sections.proofs.Banking.{free_nothing, free_section, free_shelf}
use Rattle.std.proofs.Common.{rules, ◌≡◌, ◌%◌, ◌^◌, ◌≤◌, ℕ, [], ◌∷◌, ◌++◌, refl, sym, ap, ◌∙◌, subst}
use Rattle.onedom.specs.declared.event.Event.TheVariants.{Note}
use Rattle.onedom.specs.declared.event.Maker.TheVariants.{Processor}
use Rattle.sections.specs.Glossary.{word_count, token}
use Rattle.sections.proofs.Sharing.{gives_token}
use Rattle.sections.proofs.Seating.{some_words}
use Rattle.sections.proofs.CpuViews.{notes_from, rests_cut, whole_cookie, small_cookie}
use Rattle.sections.proofs.Staying.{maker_of, stays_told}
use Rattle.sections.proofs.cpu.Cpu.cookie.Goals as goal

pub split_seat-seat-requires : goal.split_seat-seat-requires
split_seat-seat-requires g c = let wide : c.deref.result.now.shared.table_id.words ≡ word_count c.deref.result.now.shared.key.processors c.deref.result.now.shared.key.cells = search rules in
    (c.note_number-number.ensures.same_table ∙ search rules, some_words _ _ _ wide, gives_token _ _ _ (search (rules, free_nothing, free_section, free_shelf)))

pub invariant_of-self : goal.invariant_of-self
invariant_of-self g c =
    let told = c.note_number-number.ensures in
    let s = c.split_seat-seat.ensures in
    let a = told.adds c.self.inside.processor c.self.invariant.role in
    stays_told c.self.invariant (s.0 ∙ told.same_table) (ap (λ m. m.1) s.2 ∙ (told.bare ∙ c.self.invariant.placed.bare)) (rests_cut _ _ _ _ (ap (λ m. m.0) s.2) a) refl (ap (λ m. maker_of m.0) s.2) a refl (λ _. refl) (λ _. refl)

pub invariant_of-result : goal.invariant_of-result
invariant_of-result g c =
    let told = c.note_number-number.ensures in
    let s = c.split_seat-seat.ensures in
    let a = told.adds c.self.inside.processor c.self.invariant.role in
    let free = told.right ∙ c.self.invariant.rests.free in
    let seen = ap (λ m. m.0.seen) s.4 in
    let is = c.snap.ensures.meaning in record {
      bare = ap (λ m. m.1) s.4;
      plain = ap (λ m. m.0) s.4 ∙ (λ i. token (ap (λ m. m.0.seen) (sym s.4) i) (ap (λ m. m.0.changes) (sym s.4) i) (ap (λ m. m.0.texts) (sym s.4) i) (free i));
      given = record { before = a.before; by = Processor c.self.inside.processor; whole = seen ∙ (a.seen ∙ ap (λ n. a.before ++ Note n (Processor c.self.inside.processor) ∷ []) (sym is)) };
      whole = subst (λ (n : ℕ). n % 4 ≡ 0) (sym is) (whole_cookie c.note_number-number.result);
      small = subst (λ (n : ℕ). n ≤ 2 ^ 61) (sym is) (small_cookie c.note_number-number.result told.finds.room);
    }

pub returns : goal.returns
returns g c =
    let told = c.note_number-number.ensures in
    let s = c.split_seat-seat.ensures in
    let a = told.adds c.self.inside.processor c.self.invariant.role in
    rw (← c.self.view_is) (record {
      number = c.note_number-number.result;
      notes = notes_from _ _ _ _ _ _ c.self.inside.seat.me.0 c.note_number-number.new.seat.me.0 _ (s.0 ∙ told.same_table) c.self.invariant.placed.sized c.self.invariant.role (ap (λ m. m.0) s.2) told.finds a;
      cookie_is = λ i. record {
        domain = (s.3 ∙ told.same_table) i;
        number = c.snap.ensures.meaning i;
        seen = (ap (λ m. m.0.seen) s.4 ∙ sym (ap (λ m. m.0.seen) s.2)) i;
        changes = (ap (λ m. m.0.changes) s.4 ∙ sym (ap (λ m. m.0.changes) s.2)) i;
      };
    })
