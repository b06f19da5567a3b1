-- A section that reads what is current in a cell, in one hand.
use Rattle.std.proofs.Common.{◌≡◌, ℕ, ◌<◌, ◌≤◌, List, [], ◌∷◌, ◌++◌, length, refl, sym, ap, ◌∙◌, subst, arith, append_assoc}
use Rattle.solo.proofs.Words.{Err, false, append_cancel_left, filter_map-append, Event, IsBeginning, beginning_trans, Exhausted, put_cell, put_cells, words_of, IsStart, AreTextsOf, ReadingView, FoundView, ReadLocks, LooksInVain, Finds, start_trans, index_now, CpuView, Act, Acts, ActsAs, loads}
use Rattle.solo.proofs.Words.{begins, ends, IsOutOfSections, Does, shelf_of, in_cell, visits, Visits}
use Rattle.sections.specs.Views as sections
use Rattle.domain.specs.Acting as doing
use Rattle.solo.proofs.Adding.{Did, did_of, did_both}
use Rattle.solo.proofs.Meeting as meeting
use Rattle.solo.proofs.Meeting.{Hand, s', held}
use Rattle.solo.proofs.Called.{Says}
use Rattle.solo.proofs.Quiet.{lock_says, begins_here}
use Rattle.solo.proofs.Shelving.{words_as_before, in_cell_is}

module _ {J : Type 0} where
  -- the section began, found a version of the cell, loaded words, and ended
  pub record Reads (cell : ℕ) (c d : CpuView J) : Type 0 where
    pub reading : ReadingView
    pub begun : CpuView J
    pub locks : ReadLocks c.cpu begun.cpu reading
    pub begins_as : ActsAs (begins reading.section reading.index) c begun
    pub found : FoundView
    pub between : CpuView J
    pub finds : Finds cell reading begun.cpu between.cpu found
    pub finds_as : ActsAs (doing.finds reading.section cell found) begun between
    pub behind : CpuView J
    pub loads_as : ActsAs loads between behind
    pub ends_as : ActsAs (ends reading.section) behind d

module _ {J : Type 0} (t : Hand J) where
  -- one of several acts
  pub step : (what : ℕ → Act) (c c' : CpuView J) → c.cpu.processor ≡ t.p → ActsAs what c c' → Did t.p (what t.p) c c'
  step what c c' is did = did_of t.p (what t.p) c c' (subst (λ q. Acts q (what q) c c') is did)

  pub first_here : t.was.cpu.processor ≡ t.p
  first_here = (held t).processor

  -- what was seen and known before
  pub seen_before : t.was.cpu.seen ≡ t.v.seat.seen
  seen_before = ap (λ (x : CpuView J). x.cpu.seen) t.is ∙ t.met.together.seen t.p t.was t.inside

  pub texts_before : t.was.cpu.texts ≡ t.v.seat.texts
  texts_before = ap (λ (x : CpuView J). x.cpu.texts) t.is ∙ t.met.together.texts t.p t.was t.inside

  pub are_texts : AreTextsOf t.was.cpu.texts t.was.cpu.seen
  are_texts = subst (λ (z : _ × _). AreTextsOf z.0 z.1) (λ i. (sym texts_before i, sym seen_before i)) t.met.together.history.texts

  pub shelf_before : t.s.shelf ≡ shelf_of t.was.cpu.seen t.was.cpu.texts
  shelf_before = ap (λ x. x.shelf) (meeting.view_is t) ∙ (λ i. shelf_of (sym seen_before i) (sym texts_before i))

  -- what a section finds among events of which none is a Put is what is current
  module _ (cell : ℕ) (r : ReadingView) (c d : sections.CpuView) (f : FoundView) (found : Finds cell r c d f) (start : IsStart t.was.cpu.texts c.texts) (low : IsBeginning t.was.cpu.seen d.seen) (high : IsBeginning d.seen t.now.cpu.seen)
      (events : List Event) (whole : t.now.cpu.seen ≡ t.was.cpu.seen ++ events) (none : put_cells events ≡ []) where
    nothing_put : put_cells low.rest ≡ []
    nothing_put = no_front (put_cells low.rest) (put_cells high.rest) (sym (filter_map-append put_cell low.rest high.rest) ∙ (ap put_cells parts ∙ none))
      where
        parts : low.rest ++ high.rest ≡ events
        parts = append_cancel_left t.was.cpu.seen (low.rest ++ high.rest) events (sym (append_assoc t.was.cpu.seen low.rest high.rest) ∙ (ap (λ l. l ++ high.rest) (sym low.whole) ∙ (sym high.whole ∙ whole)))

        no_front : (a b : List ℕ) → a ++ b ≡ [] → a ≡ []
        no_front [] b none = refl
        no_front (x ∷ xs) b none = absurd (let n = ap length none in omega (arith, n))

    pub words_found : cell < 4 → words_of f.cell f.version f.texts ≡ in_cell cell t.s.shelf
    words_found low_cell =
        let is = found.found_is in
        (λ i. words_of (ap (λ (z : FoundView). z.cell) is i) (found.current.1 i) (ap (λ (z : FoundView). z.texts) is i))
        ∙ (words_as_before t.was.cpu.seen low.rest d.seen low.whole nothing_put t.was.cpu.texts d.texts (start_trans start found.adds.texts) are_texts found.adds.history.texts cell
        ∙ (sym (in_cell_is cell low_cell t.was.cpu.seen t.was.cpu.texts) ∙ ap (in_cell cell) (sym shelf_before)))

  -- A section that reads

  module _ (cell : ℕ) (h : Reads cell t.was t.now) where
    begun_here : h.begun.cpu.processor ≡ t.p
    begun_here = h.begins_as.events.same.3 ∙ first_here

    found_here : h.between.cpu.processor ≡ t.p
    found_here = h.finds_as.events.same.3 ∙ begun_here

    loaded_here : h.behind.cpu.processor ≡ t.p
    loaded_here = h.loads_as.events.same.3 ∙ found_here

    abbrev a_visit : Act
    a_visit = visits h.reading.section h.reading.index cell h.found.slot h.found.version t.p

    first_did : Did t.p (begins h.reading.section h.reading.index t.p) t.was h.begun
    first_did = step (begins h.reading.section h.reading.index) t.was h.begun first_here h.begins_as

    second_did : Did t.p (doing.finds h.reading.section cell h.found t.p) h.begun h.between
    second_did = step (doing.finds h.reading.section cell h.found) h.begun h.between begun_here h.finds_as

    third_did : Did t.p (loads t.p) h.between h.behind
    third_did = step loads h.between h.behind found_here h.loads_as

    last_did : Did t.p (ends h.reading.section t.p) h.behind t.now
    last_did = step (ends h.reading.section) h.behind t.now loaded_here h.ends_as

    visit_did : Did t.p a_visit t.was t.now
    visit_did = did_both t.p _ _ 0 first_did (did_both t.p _ _ 0 second_did (did_both t.p _ _ 0 third_did last_did))

    whole : t.now.cpu.seen ≡ t.was.cpu.seen ++ a_visit.events
    whole = meeting.seen_first_of_all t visit_did ∙ (meeting.history_is t visit_did ∙ ap (λ l. l ++ a_visit.events) (sym seen_before))

    -- what is found is what is current
    pub found_words : cell < 4 → words_of h.found.cell h.found.version h.found.texts ≡ in_cell cell t.s.shelf
    found_words = words_found cell h.reading h.begun.cpu h.between.cpu h.found h.finds (start_trans h.locks.looks.load.texts h.locks.enters.adds.texts) (beginning_trans first_did.events.since second_did.events.since) (beginning_trans third_did.events.since last_did.events.since) a_visit.events whole refl

    not_later : h.locks.between.changes ≤ t.now.cpu.changes
    not_later =
        let a = h.locks.enters.adds.later in
        let b = second_did.events.later in
        let c = third_did.events.later in
        let d = last_did.events.later in omega (arith, a, b, c, d)

    pub visit_says : Says t (Visits t.s.limits t.p cell t.s.course (s' t).course)
    visit_says =
        let here = begins_here t false h.begun.cpu h.reading h.locks (meeting.changes_are t visit_did) not_later in record {
          met = meeting.have_met t visit_did;
          same = meeting.same_domain t visit_did refl refl;
          what = record {
            room = here.1;
            section = h.reading.section;
            slot = h.found.slot;
            version = h.found.version;
            happens = subst (λ i. Does t.p (visits h.reading.section i cell h.found.slot h.found.version) t.s.course (s' t).course) here.0 (meeting.does t visit_did _ refl);
          };
        }

  -- none may begin
  pub refused_says : (x : Exhausted) → LooksInVain t.was.cpu t.now.cpu → ActsAs loads t.was t.now → Says t (IsOutOfSections t.s.limits t.p (index_now t.s.course.standing) t.s.course × (s' t ≡ t.s))
  refused_says x looks acts = lock_says t false (Err x) looks acts
