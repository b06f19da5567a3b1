use Rattle.sections.proofs.Banking.{free_nothing, free_section, free_shelf}
use Rattle.std.proofs.Common.{rules, ◌≡◌, ◌*◌, ℕ, true, refl, sym, ap, ◌∙◌, arith}
use Rattle.sseq.specs.Numbers.{periods_ended}
use Rattle.onedom.specs.declared.event.Event.TheVariants.{Ask}
use Rattle.onedom.specs.declared.event.Maker.TheVariants.{Processor}
use Rattle.sections.specs.Glossary.{word_count, number_word, bearer, informed}
use Rattle.sections.proofs.Sharing.{gives_token, takes_token}
use Rattle.sections.proofs.Seating.{some_words, two_words}
use Rattle.sections.proofs.CpuViews.{adds_both, number_grows, rests_cut}
use Rattle.sections.proofs.Sighting.{asks_how_far}
use Rattle.sections.proofs.Staying.{maker_of, stays_told}
use Rattle.sections.proofs.cpu.Cpu.how_far_behind.Goals as goal

pub split_seat-first-requires : goal.split_seat-first-requires
split_seat-first-requires g c = let wide : c.deref.result.now.shared.table_id.words ≡ word_count c.deref.result.now.shared.key.processors c.deref.result.now.shared.key.cells = search rules in
    (search rules, some_words _ _ _ wide, gives_token _ _ _ (search (rules, free_nothing, free_section, free_shelf)))

pub join_seat-requires : goal.join_seat-requires
join_seat-requires g c = let wide : c.deref.result.now.shared.table_id.words ≡ word_count c.deref.result.now.shared.key.processors c.deref.result.now.shared.key.cells = search rules in
    (search rules, search rules, ap (λ m. m.1) c.split_seat-first.ensures.4, some_words _ _ _ wide, takes_token _ _ _ _ _ (search (rules, free_nothing, free_section, free_shelf)) (search (rules, free_nothing, free_section, free_shelf)))

pub split_seat-told-requires : goal.split_seat-told-requires
split_seat-told-requires g c = let wide : c.deref.result.now.shared.table_id.words ≡ word_count c.deref.result.now.shared.key.processors c.deref.result.now.shared.key.cells = search rules in
    (search rules, some_words _ _ _ wide, gives_token _ _ _ (search (rules, free_nothing, free_section, free_shelf)))

pub join_seat-requires-2 : goal.join_seat-requires-2
join_seat-requires-2 g c = let wide : c.deref.result.now.shared.table_id.words ≡ word_count c.deref.result.now.shared.key.processors c.deref.result.now.shared.key.cells = search rules in
    (c.join_seat.ensures.0 ∙ search rules, search rules, ap (λ m. m.1) c.split_seat-told.ensures.4, some_words _ _ _ wide, takes_token _ _ _ _ _ (search (rules, free_nothing, free_section, free_shelf)) (search (rules, free_nothing, free_section, free_shelf)))

pub load-number-requires : goal.load-number-requires
load-number-requires g c = let wide : c.deref.result.now.shared.table_id.words ≡ word_count c.deref.result.now.shared.key.processors c.deref.result.now.shared.key.cells = search rules in (
  c.join_seat-2.ensures.0 ∙ (c.join_seat.ensures.0 ∙ search rules),
  two_words _ _ _ wide,
  asks_how_far _ _ _ _ c.self.inside.processor
      (ap (λ m. m.0.processors) c.join_seat-2.ensures.2 ∙ (ap (λ m. m.0.processors) c.join_seat.ensures.2 ∙ search rules)) (ap (λ m. m.0.role) c.join_seat-2.ensures.2 ∙ (ap (λ m. m.0.role) c.join_seat.ensures.2 ∙ c.self.invariant.role)) (search rules),
)

pub split_seat-requires : goal.split_seat-requires
split_seat-requires g c = let wide : c.deref.result.now.shared.table_id.words ≡ word_count c.deref.result.now.shared.key.processors c.deref.result.now.shared.key.cells = search rules in
    (c.load-number.ensures.0 ∙ (c.join_seat-2.ensures.0 ∙ (c.join_seat.ensures.0 ∙ search rules)), some_words _ _ _ wide, gives_token _ _ _ (search (rules, free_nothing, free_section, free_shelf)))

pub invariant_of-self : goal.invariant_of-self
invariant_of-self g c =
    let told = c.load-number.ensures in
    let s = c.split_seat.ensures in
    let i = c.join_seat.ensures.2 in
    let j = c.join_seat-2.ensures.2 in
    let a = told.2.3 c.self.inside.processor (ap (λ m. m.0.role) j ∙ (ap (λ m. m.0.role) i ∙ c.self.invariant.role)) in
    stays_told c.self.invariant (s.0 ∙ (told.0 ∙ (c.join_seat-2.ensures.0 ∙ c.join_seat.ensures.0))) (ap (λ m. m.1) s.2 ∙ (told.2.0 ∙ (ap (λ m. m.1) j ∙ (ap (λ m. m.1) i ∙ c.self.invariant.placed.bare)))) (rests_cut _ _ _ _ (ap (λ m. m.0) s.2) a)
    (ap (λ m. maker_of m.0) j ∙ ap (λ m. maker_of m.0) i) (ap (λ m. maker_of m.0) s.2) a refl (λ _. refl) (λ _. refl)

pub returns-clause-asks : goal.returns-clause-asks
returns-clause-asks g c =
    let told = c.load-number.ensures in
    let s = c.split_seat.ensures in
    let i = c.join_seat.ensures.2 in
    let j = c.join_seat-2.ensures.2 in
    let p : ℕ = c.self.inside.processor in
    let same : c.load-number.result ≡ c.unwrap.result = search rules in
    let a = told.2.3 p (ap (λ m. m.0.role) j ∙ (ap (λ m. m.0.role) i ∙ c.self.invariant.role)) in
    let both = adds_both (Ask (4 * periods_ended c.load-number.result) true (Processor p)) _ _ _ c.self.inside.limit p c.self.inside.seat.me.0 (bearer c.given.inside.seat.me.0)
    (bearer c.sight.inside.seat.me.0) c.join_seat.new.seat.me.0 c.join_seat-2.new.seat.me.0 c.load-number.new.seat.me.0 c.split_seat.new.seat.me.0
    (s.0 ∙ (told.0 ∙ (c.join_seat-2.ensures.0 ∙ c.join_seat.ensures.0))) c.self.invariant.placed.sized c.self.invariant.role
    (ap (λ m. m.0) i ∙ ap (λ m. informed c.self.inside.seat.me.0 m.0) c.split_seat-first.ensures.4)
    (ap (λ m. m.0) j ∙ ap (λ m. informed c.join_seat.new.seat.me.0 m.0) c.split_seat-told.ensures.4)
    (ap (λ m. m.0) s.2) a in
    let changes : c.split_seat.new.seat.me.0.changes ≡ c.load-number.new.seat.me.0.changes = ap (λ m. m.0.changes) s.2 in
    let finds = told.2.2 in
    let grown = number_grows _ _ both.0.later in
    rw (← c.self.view_is, ← c.given.view_is, ← c.sight.view_is, ← same) (record {
      asks = record {
        adds = both.0;
        current = finds.current ∙ ap number_word (sym changes);
        since = let now : c.load-number.result ≡ number_word c.split_seat.new.seat.me.0.changes = finds.current ∙ ap number_word (sym changes) in omega (arith, grown, now);
        small = finds.room;
        sight_is = λ k. record {
          domain = (s.3 ∙ sym s.0) k;
          seen = (ap (λ m. m.0.seen) s.4 ∙ sym (ap (λ m. m.0.seen) s.2)) k;
          changes = (ap (λ m. m.0.changes) s.4 ∙ sym (ap (λ m. m.0.changes) s.2)) k;
        };
      };
      covers = both.1;
      not_before = both.2;
    })
