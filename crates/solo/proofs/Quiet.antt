-- What the calls of a processor for sections, cookies and the number say of the domain in one hand, beside their acts.
use Rattle.std.proofs.Common.{◌≡◌, ℕ, ◌<◌, ◌≤◌, Bool, false, List, refl, sym, ap, ◌∙◌, subst, arith}
use Rattle.solo.proofs.Words.{Option, Some, None, MatchOption, Result, Ok, Err, MatchResult, Index, cookie_at, Processor, Event, made_by, cookie_after, index_word, number_word, locks, LookView, ReadingView, SightView, Exhausted, NotACookie, Begins as Starts, IsSameCpu, Looks, LooksAndBegins, Enters}
use Rattle.solo.proofs.Words.{LooksInVain, IsExhausted, Notes, Asks, IsNoCookie, locks_mine, index_now, number_now, loads, begins, notes, asks_whether, ActsAs, IsOutOfSections, IsReadingAt, IsLookNow, Does}
use Rattle.sseq.specs.Indexes.{low_bit}
use Rattle.sections.specs.Views as sections
use Rattle.solo.specs.Calls as call
use Rattle.solo.specs.Calls.{Begins}
use Rattle.solo.proofs.Meeting.{Hand, s', held, changes_were, makers_were, changes_are, does, did_it}
use Rattle.solo.proofs.Called.{Says, says, says_does, still}

module _ {J : Type 0} where
  module _ (t : Hand J) where
    abbrev was : sections.CpuView
    was = t.was.cpu

    abbrev now : sections.CpuView
    now = t.now.cpu

    abbrev Loaded : Type 0
    Loaded = ActsAs loads t.was t.now

    -- as many sections of an index were begun on it as in the whole history
    own_locks : (q : ℕ) (i : Index) (mine : List Event) → q ≡ t.p → mine ≡ made_by (Processor t.p) t.s.course.standing.history → locks q i mine ≡ locks t.p i t.s.course.standing.history
    own_locks q i mine qp mm = (λ z. locks (qp z) i (mm z)) ∙ locks_mine t.s.course.standing.processors t.p i t.s.course.standing.history (makers_were t)

    index_is : (c c' : sections.CpuView) (l : LookView) → Looks c c' l → c'.changes ≡ t.s.course.standing.changes → l.index ≡ index_now t.s.course.standing
    index_is c c' l looks same = ap (λ (x : LookView). x.index) looks.look_is ∙ ap low_bit (looks.current ∙ ap index_word same)

    -- Looks

    pub look_says : (l : LookView) → Looks was now l → Loaded → Says t (IsLookNow t.s l × (s' t ≡ t.s))
    look_says l h did = says t loads did refl refl _ (
      record { table = ap (λ (x : LookView). x.domain) h.look_is ∙ (held t).domain; index = index_is was now l h (changes_are t (did_it t loads did)) },
      still t did,
    )

    -- Sections

    abbrev IsBegun : Index → ReadingView → Type 0
    IsBegun i r = Begins t.s.limits t.p i r.section t.s.course (s' t).course × IsReadingAt t.s.table t.p i r

    abbrev IsOut : Index → Type 0
    IsOut i = IsOutOfSections t.s.limits t.p i t.s.course × (s' t ≡ t.s)

    -- a section begins, at the processor as it was behind loads
    module _ (c : sections.CpuView) (same : IsSameCpu was c) (mine : c.mine ≡ was.mine) where
      counted : (i : Index) → locks c.processor i c.mine ≡ locks t.p i t.s.course.standing.history
      counted i = own_locks c.processor i c.mine (same.3 ∙ (held t).processor) (mine ∙ (held t).mine)

      most : c.sections ≡ t.s.limits.sections
      most = same.2 ∙ (held t).sections

      begun_says : (look : LookView) (kind : Bool) (r : ReadingView) → Starts kind c look now r → ActsAs (begins r.section r.index) t.was t.now → Says t (IsBegun look.index r)
      begun_says look kind r h did =
          let index : r.index ≡ look.index = ap (λ (x : ReadingView). x.index) h.reading in
          let begun = counted look.index in
          let sections = most in
          let room : locks c.processor look.index c.mine < c.sections = h.room in
          says t (begins r.section r.index) did refl refl _ (
            record {
              room = omega (arith, begun, sections, room);
              happens = subst (λ i. Does t.p (begins r.section i) t.s.course (s' t).course) index (does t (did_it t (begins r.section r.index) did) (begins r.section r.index) refl);
            },
            record {
              table_is = ap (λ (x : ReadingView). x.domain) h.reading ∙ (same.0 ∙ (held t).domain);
              processor = ap (λ (x : ReadingView). x.processor) h.reading ∙ (same.3 ∙ (held t).processor);
              index = index;
            },
          )

      -- none may begin
      out_says : (i : Index) → IsExhausted c i → Loaded → Says t (IsOut i)
      out_says i full did = says t loads did refl refl _ (sym (counted i) ∙ (full ∙ most), still t did)

    abbrev DoesTake : Result ReadingView Exhausted → Type 0
    DoesTake taken = MatchResult taken (λ r. ActsAs (begins r.section r.index) t.was t.now) (λ _. Loaded)

    pub enter_says : (look : LookView) (taken : Result ReadingView Exhausted) → MatchResult taken (λ r. Enters was look now r) (λ _. IsExhausted was look.index × (now ≡ was)) → DoesTake taken → Says t (MatchResult taken (IsBegun look.index) (λ _. IsOut look.index))
    enter_says look (Ok r) h did = begun_says was (refl, refl, refl, refl) refl look false r h did
    enter_says look (Err x) h did = out_says was (refl, refl, refl, refl) refl look.index h.0 did

    pub lock_says : (kind : Bool) (taken : Result ReadingView Exhausted) → MatchResult taken (λ r. LooksAndBegins kind was now r) (λ _. LooksInVain was now) → DoesTake taken → Says t (MatchResult taken (IsBegun (index_now t.s.course.standing)) (λ _. IsOut (index_now t.s.course.standing)))
    lock_says kind (Ok r) h did =
        let low = h.looks.load.later in let high = h.enters.adds.later in
        let before = changes_were t in
        let all = changes_are t (did_it t (begins r.section r.index) did) in
        subst (λ i. Says t (IsBegun i r)) (index_is was h.between h.look h.looks (omega (arith, low, high, before, all))) (begun_says h.between h.looks.load.same h.looks.load.mine h.look kind r h.enters did)
    lock_says kind (Err x) h did = subst (λ i. Says t (IsOut i)) (index_is was now h.look h.looks (changes_are t (did_it t loads did))) (out_says now h.looks.load.same h.looks.load.mine h.look.index h.exhausted did)

    -- a section that begins has the index that now is, also where more is done behind it
    pub begins_here : (kind : Bool) (begun : sections.CpuView) (r : ReadingView) (h : LooksAndBegins kind was begun r) → now.changes ≡ t.s.course.standing.changes → h.between.changes ≤ now.changes
        → (r.index ≡ index_now t.s.course.standing) × (locks t.p (index_now t.s.course.standing) t.s.course.standing.history < t.s.limits.sections)
    begins_here kind begun r h all late =
        let low = h.looks.load.later in
        let before = changes_were t in
        let index : h.look.index ≡ index_now t.s.course.standing = index_is was h.between h.look h.looks (omega (arith, low, late, before, all)) in
        let room : locks h.between.processor h.look.index h.between.mine < h.between.sections = h.enters.room in
        let count = counted h.between h.looks.load.same h.looks.load.mine h.look.index in
        let sections = most h.between h.looks.load.same h.looks.load.mine in
        (ap (λ (x : ReadingView). x.index) h.enters.reading ∙ index, subst (λ i. locks t.p i t.s.course.standing.history < t.s.limits.sections) index (omega (arith, room, count, sections)))

    -- The number and cookies

    pub number_says : (number : ℕ) → Notes number was now → ActsAs (notes (cookie_at number)) t.was t.now → Says t ((number ≡ number_now t.s.course.standing) × call.GivesCookie t.p (cookie_after t.s.course.standing.history) t.s.course (s' t).course)
    number_says number h did =
        let gives = does t (did_it t (notes (cookie_at number)) did) (notes (cookie_at number)) refl in
        says t (notes (cookie_at number)) did refl refl _ (h.current ∙ ap number_word (changes_are t (did_it t (notes (cookie_at number)) did)), subst (λ n. call.GivesCookie t.p n t.s.course (s' t).course) gives.follows.0 gives)

    pub poll_says : (cookie : ℕ) (taken : Result Bool NotACookie) → MatchResult taken (λ done. Asks was.seen was.changes cookie done was now) (λ _. IsNoCookie cookie × (now ≡ was)) → MatchResult taken (λ done. ActsAs (asks_whether cookie done) t.was t.now) (λ _. Loaded)
        → Says t (MatchResult taken (λ done. call.Asks t.p cookie done t.s.course (s' t).course) (λ _. IsNoCookie cookie × (s' t ≡ t.s)))
    poll_says cookie (Ok done) h did = says_does t (asks_whether cookie done) did refl refl
    poll_says cookie (Err x) h did = says t loads did refl refl _ (h.0, still t did)

    -- asked after once, or found done before
    pub member_says : (found : Option SightView) (cookie : ℕ) (done : Bool) → MatchOption found (ActsAs (asks_whether cookie done) t.was t.now) (λ _. Loaded)
        → Says t (MatchOption found (call.Asks t.p cookie done t.s.course (s' t).course) (λ _. s' t ≡ t.s))
    member_says None cookie done did = says_does t (asks_whether cookie done) did refl refl
    member_says (Some sight) cookie done did = says t loads did refl refl _ (still t did)
