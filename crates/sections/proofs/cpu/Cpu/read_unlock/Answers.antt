use Rattle.sections.proofs.Banking.{free_nothing, free_section, free_shelf}
use Rattle.std.proofs.Common.{rules, ◌≡◌, ℕ, false, length, ap, ◌∙◌, sym, subst, arith}
use Rattle.sseq.specs.declared.index.Index.TheVariants.{Zero, One}
use Rattle.sections.specs.Glossary.{is_held, locks, open_readings, section_of, ReadingView, EndsWithBegin}
use Rattle.sections.proofs.Agreement.{unlock_there}
use Rattle.sections.proofs.Steps.{ends_here}
use Rattle.sections.proofs.Sharing.{takes_token}
use Rattle.sections.proofs.CpuViews.{begun_here, ended_index, adds_event, rests_after, one_less_unclosed, locks_unchanged}
use Rattle.sections.proofs.cpu.Cpu.read_unlock.Goals as goal

pub join_seat-requires : goal.join_seat-requires
join_seat-requires g c = (search rules, search rules, search rules, search rules, takes_token _ _ _ _ _ (search (rules, free_nothing, free_section, free_shelf)) (search (rules, free_nothing, free_section, free_shelf)))

pub fetch_add-requires : goal.fetch_add-requires
fetch_add-requires g c =
    let joined = c.join_seat.ensures.2 in (
      search rules,
      rw c.place_of_unlock.ensures (search (rules, unlock_there)),
      ends_here _ _ _ _ _ (section_of c.reading.inside.seat.me.0.right) c.reading.inside.processor c.self.inside.processor c.reading.inside.index (search rules) (ap (λ m. m.0.role) joined ∙ c.self.invariant.role)
          (ap (λ m. m.0.right) joined ∙ c.reading.invariant.right) (search rules) c.place_of_unlock.ensures,
    )

pub overflow_add-self : goal.overflow_add-self
overflow_add-self g c = let was = c.self.invariant.settled in let a = c.self.invariant.limited Zero in let b = c.self.invariant.limited One in let small = c.self.invariant.small in omega (arith, was, a, b, small)

pub invariant_of-self : goal.invariant_of-self
invariant_of-self g c =
    let joined = c.join_seat.ensures.2 in
    let q : ℕ = c.self.inside.processor in
    let role = ap (λ m. m.0.role) joined ∙ c.self.invariant.role in
    let told = c.fetch_add.ensures.2.2 _ _ q _ role (ap (λ m. m.0.right) joined ∙ c.reading.invariant.right) in
    let here : c.reading.inside.processor ≡ q = ap (λ z. z.processor) c.reading.view_is ∙ (c.requires.1 ∙ sym (ap (λ z. z.processor) c.self.view_is)) in
    let less = one_less_unclosed _ q _ _ (told.0.role ∙ role) told.0 (told.1 here) c.reading.invariant.kind in
    let same : length (open_readings c.join_seat.new.seat.me.0.mine) ≡ length (open_readings c.self.inside.seat.me.0.mine) = ap (λ m. length (open_readings m.0.mine)) joined in
    let was = c.self.invariant.settled in record {
      placed = record {
        seated = search rules;
        wide = c.self.invariant.placed.wide;
        cells = c.self.invariant.placed.cells;
        bare = c.fetch_add.ensures.2.0 ∙ (ap (λ m. m.1) joined ∙ c.self.invariant.placed.bare);
        sized = told.0.processors ∙ (ap (λ m. m.0.processors) joined ∙ c.self.invariant.placed.sized);
      };
      rests = rests_after _ _ _ c.fetch_add.ensures.2.1 told.0;
      role = told.0.role ∙ role;
      there = c.self.invariant.there;
      limit = c.self.invariant.limit;
      begun = λ i. c.self.invariant.begun i ∙ sym (locks_unchanged q i _ q _ c.join_seat.new.seat.me.0.mine _ told.0.mine ∙ ap (λ m. locks q i m.0.mine) joined);
      limited = c.self.invariant.limited;
      small = c.self.invariant.small;
      settled = omega (arith, less, same, was);
    }

pub returns-clause-ends : goal.returns-clause-ends
returns-clause-ends g c =
    let joined = c.join_seat.ensures.2 in
    let q : ℕ = c.self.inside.processor in
    let role = ap (λ m. m.0.role) joined ∙ c.self.invariant.role in
    let told = c.fetch_add.ensures.2.2 _ _ q _ role (ap (λ m. m.0.right) joined ∙ c.reading.invariant.right) in
    rw (← c.self.view_is, ← c.reading.view_is) (adds_event _ _ _ _ _ _ c.self.inside.seat.me.0 c.reading.inside.seat.me.0 _ _ (c.fetch_add.ensures.0 ∙ c.join_seat.ensures.0) c.self.invariant.placed.sized c.self.invariant.role (ap (λ m. m.0) joined) told.0)

pub returns-clause-begun : goal.returns-clause-begun
returns-clause-begun g c = begun_here _ _ _ (subst (λ (r : ReadingView). EndsWithBegin r) c.reading.view_is c.reading.invariant.begun) c.requires.1 (returns-clause-ends g c)

pub returns-clause-index : goal.returns-clause-index
returns-clause-index g c = ended_index _ _ _ (subst (λ (r : ReadingView). EndsWithBegin r) c.reading.view_is c.reading.invariant.begun) (returns-clause-ends g c)

pub returns-clause-kind : goal.returns-clause-kind
returns-clause-kind g c = subst (λ (r : ReadingView). is_held r.section ≡ false) c.reading.view_is c.reading.invariant.kind
