use Rattle.sections.proofs.Banking.{free_nothing, free_section, free_shelf}
use Rattle.std.proofs.Common.{rules, ◌≡◌, ◌%◌, ◌^◌, ◌≤◌, ℕ, [], ◌∷◌, ◌++◌, refl, sym, ap, ◌∙◌, subst, arith}
use Rattle.sseq.specs.Numbers.{cookie_at}
use Rattle.onedom.specs.declared.event.Event.TheVariants.{Note}
use Rattle.onedom.specs.declared.event.Maker.TheVariants.{Processor}
use Rattle.sections.specs.Glossary.{View, word_count, number_word, bearer, informed, lacking, token}
use Rattle.sections.proofs.Sharing.{gives_token, takes_token}
use Rattle.sections.proofs.Seating.{some_words}
use Rattle.sections.proofs.CpuViews.{adds_cut, number_grows, rests_cut, whole_cookie, small_cookie}
use Rattle.sections.proofs.Staying.{maker_of, stays_told}
use Rattle.sections.proofs.cpu.Cpu.cookie_behind.Goals as goal

pub split_seat-told-requires : goal.split_seat-told-requires
split_seat-told-requires g c = let wide : c.deref.result.now.shared.table_id.words ≡ word_count c.deref.result.now.shared.key.processors c.deref.result.now.shared.key.cells = search rules in
    (search rules, some_words _ _ _ wide, gives_token _ _ _ (search (rules, free_nothing, free_section, free_shelf)))

pub join_seat-requires : goal.join_seat-requires
join_seat-requires g c = let wide : c.deref.result.now.shared.table_id.words ≡ word_count c.deref.result.now.shared.key.processors c.deref.result.now.shared.key.cells = search rules in
    (search rules, search rules, ap (λ m. m.1) c.split_seat-told.ensures.4, some_words _ _ _ wide, takes_token _ _ _ _ _ (search (rules, free_nothing, free_section, free_shelf)) (search (rules, free_nothing, free_section, free_shelf)))

pub note_number-number-requires-clause-role : goal.note_number-number-requires-clause-role
note_number-number-requires-clause-role g c = (c.self.inside.processor, ap (λ m. m.0.role) c.join_seat.ensures.2 ∙ c.self.invariant.role, search rules)

pub split_seat-seat-requires : goal.split_seat-seat-requires
split_seat-seat-requires g c = let wide : c.deref.result.now.shared.table_id.words ≡ word_count c.deref.result.now.shared.key.processors c.deref.result.now.shared.key.cells = search rules in
    (c.note_number-number.ensures.same_table ∙ (c.join_seat.ensures.0 ∙ search rules), some_words _ _ _ wide, gives_token _ _ _ (search (rules, free_nothing, free_section, free_shelf)))

pub split_seat-requires : goal.split_seat-requires
split_seat-requires g c = let wide : c.deref.result.now.shared.table_id.words ≡ word_count c.deref.result.now.shared.key.processors c.deref.result.now.shared.key.cells = search rules in
    (c.split_seat-seat.ensures.0 ∙ (c.note_number-number.ensures.same_table ∙ (c.join_seat.ensures.0 ∙ search rules)), some_words _ _ _ wide, gives_token _ _ _ (search (rules, free_nothing, free_section, free_shelf)))

pub invariant_of-self : goal.invariant_of-self
invariant_of-self g c =
    let told = c.note_number-number.ensures in
    let s = c.split_seat-seat.ensures in
    let t = c.split_seat.ensures in
    let joined = c.join_seat.ensures.2 in
    let a = told.adds c.self.inside.processor (ap (λ m. m.0.role) joined ∙ c.self.invariant.role) in
    let cut : c.split_seat.new.seat.me.0 ≡ lacking c.note_number-number.new.seat.me.0 = ap (λ m. m.0) t.2 ∙ ap (λ m. lacking m.0) s.2 in
    stays_told c.self.invariant (t.0 ∙ (s.0 ∙ (told.same_table ∙ c.join_seat.ensures.0))) (ap (λ m. m.1) t.2 ∙ (ap (λ m. m.1) s.2 ∙ (told.bare ∙ (ap (λ m. m.1) joined ∙ c.self.invariant.placed.bare)))) (rests_cut _ _ _ _ cut a)
    (ap (λ m. maker_of m.0) joined) (ap maker_of cut) a refl (λ _. refl) (λ _. refl)

pub invariant_of-result : goal.invariant_of-result
invariant_of-result g c =
    let told = c.note_number-number.ensures in
    let s = c.split_seat-seat.ensures in
    let joined = c.join_seat.ensures.2 in
    let role = ap (λ m. m.0.role) joined ∙ c.self.invariant.role in
    let a = told.adds c.self.inside.processor role in
    let free = told.right ∙ (ap (λ m. m.0.right) joined ∙ (ap (λ m. m.0.right) c.split_seat-told.ensures.4 ∙ ap (λ (v : View). v.right) c.sight.invariant.plain)) in
    let seen = ap (λ m. m.0.seen) s.4 in
    let is = c.snap.ensures.meaning in record {
      bare = ap (λ m. m.1) s.4;
      plain = ap (λ m. m.0) s.4 ∙ (λ i. token (ap (λ m. m.0.seen) (sym s.4) i) (ap (λ m. m.0.changes) (sym s.4) i) (ap (λ m. m.0.texts) (sym s.4) i) (free i));
      given = record { before = a.before; by = Processor c.self.inside.processor; whole = seen ∙ (a.seen ∙ ap (λ n. a.before ++ Note n (Processor c.self.inside.processor) ∷ []) (sym is)) };
      whole = subst (λ (n : ℕ). n % 4 ≡ 0) (sym is) (whole_cookie c.note_number-number.result);
      small = subst (λ (n : ℕ). n ≤ 2 ^ 61) (sym is) (small_cookie c.note_number-number.result told.finds.room);
    }

pub returns : goal.returns
returns g c =
    let told = c.note_number-number.ensures in
    let s = c.split_seat-seat.ensures in
    let t = c.split_seat.ensures in
    let joined = c.join_seat.ensures.2 in
    let p : ℕ = c.self.inside.processor in
    let a = told.adds p (ap (λ m. m.0.role) joined ∙ c.self.invariant.role) in
    let cut : c.split_seat.new.seat.me.0 ≡ lacking c.note_number-number.new.seat.me.0 = ap (λ m. m.0) t.2 ∙ ap (λ m. lacking m.0) s.2 in
    let adds = adds_cut (Note (cookie_at c.note_number-number.result) (Processor p)) _ _ _ c.self.inside.limit p c.self.inside.seat.me.0 (bearer c.sight.inside.seat.me.0) c.join_seat.new.seat.me.0 c.note_number-number.new.seat.me.0 c.split_seat.new.seat.me.0
    (t.0 ∙ (s.0 ∙ (told.same_table ∙ c.join_seat.ensures.0))) c.self.invariant.placed.sized c.self.invariant.role (ap (λ m. m.0) joined ∙ ap (λ m. informed c.self.inside.seat.me.0 m.0) c.split_seat-told.ensures.4) cut a in
    let now : c.note_number-number.result ≡ number_word c.split_seat.new.seat.me.0.changes = told.finds.current ∙ ap (λ (v : View). number_word v.changes) (sym cut) in
    let grown = number_grows _ _ adds.later in
    rw (← c.self.view_is, ← c.sight.view_is) (record {
      number = c.note_number-number.result;
      adds = adds;
      current = now;
      since = omega (arith, grown, now);
      small = told.finds.room;
      cookie_is = λ i. record {
        domain = (s.3 ∙ (told.same_table ∙ c.join_seat.ensures.0)) i;
        number = c.snap.ensures.meaning i;
        seen = (ap (λ m. m.0.seen) s.4 ∙ sym (ap (λ (v : View). v.seen) cut)) i;
        changes = (ap (λ m. m.0.changes) s.4 ∙ sym (ap (λ (v : View). v.changes) cut)) i;
      };
      sight_is = λ i. record {
        domain = (t.3 ∙ sym t.0) i;
        seen = (ap (λ m. m.0.seen) t.4 ∙ sym (ap (λ m. m.0.seen) t.2)) i;
        changes = (ap (λ m. m.0.changes) t.4 ∙ sym (ap (λ m. m.0.changes) t.2)) i;
      };
    })
