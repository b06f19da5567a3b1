-- What is read of a chain in one hand.
use Rattle.std.proofs.Common.{◌≡◌, ℕ, ◌<◌, ◌≤◌, ◌^◌, List, length, sym, ap, ◌∙◌, subst}
use Rattle.solo.proofs.Words.{Result, Ok, Err, MatchResult, Exhausted, index_now, Block, ids_text, IsTextOf, cell_of, ChainState, ChainCell, ReadsOnce, Lists, Calls, IsRefused, IsOutOfSections, in_cell, IsCurrent, Visits}
use Rattle.notify.specs.Calling.{Answers}
use Rattle.notify.proofs.CallerLemmas.{read_of_version}
use Rattle.solo.proofs.Meeting.{Hand, s'}
use Rattle.solo.proofs.Called.{Says}
use Rattle.solo.proofs.Visiting.{Reads, found_words, visit_says, refused_says}

module _ {J : Type 0} (t : Hand J) where
  abbrev reads_of : (v : ChainCell) (blocks : List Block) → ReadsOnce v t.was t.now blocks → Reads v.place.cell t.was t.now
  reads_of v blocks h = record {
    reading = h.reading;
    begun = h.begun;
    locks = h.locks;
    begins_as = h.acts;
    found = h.reads.found;
    between = h.reads.between;
    finds = h.reads.finds;
    finds_as = h.reads.acts;
    behind = h.behind;
    loads_as = h.reads.loads.acts;
    ends_as = h.closes;
  }

  -- the blocks that are read are those whose text is current
  blocks_are : (v : ChainCell) (blocks : List Block) (h : ReadsOnce v t.was t.now blocks) (put : List Block) → v.ids ≤ 2 ^ 32 → v.place.cell < 4 → IsTextOf v.ids (in_cell v.place.cell t.s.shelf) put → blocks ≡ put
  blocks_are v blocks h put small low_cell text = read_of_version v.ids small h.reads.found h.reads.words put blocks (subst (λ l. IsTextOf v.ids l put) (sym (found_words t v.place.cell (reads_of v blocks h) low_cell)) text) h.reads.loads.words_are h.reads.read

  abbrev IsOut : Type 0
  IsOut = IsOutOfSections t.s.limits t.p (index_now t.s.course.standing) t.s.course × (s' t ≡ t.s)

  -- the chain's own view reads what is current
  module _ (s : ChainState) (v : ChainCell) (is : v ≡ record { place = cell_of s.writer; ids = s.ids }) (now : IsCurrent t.s s) where
    small : v.ids ≤ 2 ^ 32
    small = subst (λ (x : ChainCell). x.ids ≤ 2 ^ 32) (sym is) now.small

    low_cell : v.place.cell < 4
    low_cell = subst (λ (x : ChainCell). x.place.cell < 4) (sym is) now.cell.1

    text : IsTextOf v.ids (in_cell v.place.cell t.s.shelf) s.blocks
    text = subst (λ (x : ChainCell). IsTextOf x.ids (in_cell x.place.cell t.s.shelf) s.blocks) (sym is) now.text

    here : {it : Type 0} → Says t (Visits t.s.limits t.p v.place.cell t.s.course (s' t).course) → it → Says t (Visits t.s.limits t.p s.writer.cell t.s.course (s' t).course × it)
    here {it} h told = record { met = h.met; same = h.same; what = (subst (λ (x : ChainCell). Visits t.s.limits t.p x.place.cell t.s.course (s' t).course) is h.what, told) }

    -- the ids of its blocks are told
    pub ids_says : (r : Result (List ℕ × ℕ) Exhausted) → MatchResult r (λ r. Lists v t.was t.now r.0 r.1) (λ _. IsRefused t.was t.now)
        → Says t (MatchResult r (λ _. Visits t.s.limits t.p s.writer.cell t.s.course (s' t).course) (λ _. IsOut) × MatchResult r (λ r. (r.0 ≡ ids_text s.blocks) × (r.1 ≡ length s.blocks)) (λ _. Unit {0}))
    ids_says (Ok r) h =
        let same = blocks_are v h.blocks h.reads s.blocks small low_cell text in
        here (visit_says t v.place.cell (reads_of v h.blocks h.reads)) (h.ids_are ∙ ap ids_text same, h.count_is ∙ ap length same)
    ids_says (Err x) h = let it = refused_says t x h.looks h.acts in record { met = it.met; same = it.same; what = (it.what, tt) }

    -- the handlers of its blocks have given the answer
    pub call_says : (gives : ℕ → ℕ → Type 0) (r : Result (ℕ × ℕ) Exhausted) → MatchResult r (λ r. Calls gives v t.was t.now r.0 r.1) (λ _. IsRefused t.was t.now)
        → Says t (MatchResult r (λ _. Visits t.s.limits t.p s.writer.cell t.s.course (s' t).course) (λ _. IsOut) × MatchResult r (λ r. Answers gives s.blocks r.0 r.1) (λ _. Unit {0}))
    call_says gives (Ok r) h = here (visit_says t v.place.cell (reads_of v h.blocks h.reads)) (subst (λ l. Answers gives l r.0 r.1) (blocks_are v h.blocks h.reads s.blocks small low_cell text) h.answers)
    call_says gives (Err x) h = let it = refused_says t x h.looks h.acts in record { met = it.met; same = it.same; what = (it.what, tt) }
