-- One answer behind another, until there is no more to do at once.
use Rattle.std.proofs.Common.{◌≡◌, ℕ, ◌+◌, ◌%◌, ◌<◌, ◌≤◌, true, false, ◌⊎◌, inl, inr, ◌-◌, ◌≢◌, List, [], ◌∷◌, ◌++◌, length, refl, sym, ap, ◌∙◌, subst, append_assoc, length-append, arith}
use Rattle.sseq.specs.declared.index.Index.{Index}
use Rattle.onedom.specs.declared.event.Event.{Event}
use Rattle.onedom.specs.declared.event.Event.TheVariants.{Start}
use Rattle.onedom.specs.declared.event.Maker.TheVariants.{Engine}
use Rattle.onedom.specs.Histories.{starts_in, IsRunning}
use Rattle.onedom.proofs.CallerLemmas.{starts_in_push, starts_grow, beginning_append}
use Rattle.sections.specs.Glossary.{IsBeforeFlip, IsBehindFlip, IsSeenByEngine, IsSameEngine}
use Rattle.sections.proofs.CallerLemmas.{busy_running}
use Rattle.scan.specs.Glossary.{Progress, leads_on, AtWork, Stage, AdvancesTo, AdvancesThrough, CarriesOn, FindsExhausted}
use Rattle.scan.specs.declared.progress.Progress.TheVariants as answer

-- how many answers of the same period may be on the way from here
abbrev pub to_go : Progress → ℕ
to_go (answer.Started n) = 2
to_go (answer.Flipped i) = 1
to_go a = 0

-- how often the number and the index word were changed by then
abbrev pub StandsAt : Progress → ℕ → Type 0
StandsAt (answer.Started n) changes = IsBeforeFlip changes
StandsAt (answer.Flipped i) changes = IsBehindFlip changes
StandsAt a changes = Unit {0}

two_at_most : (a : Progress) → to_go a ≤ 2
two_at_most answer.Idle = omega arith
two_at_most (answer.Started n) = omega arith
two_at_most (answer.Flipped i) = omega arith
two_at_most (answer.Ended n) = omega arith
two_at_most (answer.Waiting i) = omega arith
two_at_most answer.Step = omega arith

pub leads : (a : Progress) → ((n : ℕ) × (a ≡ answer.Started n)) ⊎ ((i : Index) × (a ≡ answer.Flipped i)) → leads_on a ≡ true
leads a (inl (n, is)) = ap leads_on is
leads a (inr (i, is)) = ap leads_on is

pub leads_no_further : (a : Progress) → ((n : ℕ) → a ≢ answer.Started n) → ((i : Index) → a ≢ answer.Flipped i) → leads_on a ≡ false
leads_no_further answer.Idle not_started not_flipped = refl
leads_no_further (answer.Started n) not_started not_flipped = absurd (not_started n refl)
leads_no_further (answer.Flipped i) not_started not_flipped = absurd (not_flipped i refl)
leads_no_further (answer.Ended n) not_started not_flipped = refl
leads_no_further (answer.Waiting i) not_started not_flipped = refl
leads_no_further answer.Step not_started not_flipped = refl

-- where there is more to do, a period runs
busy_there : (a : Progress) (changes : ℕ) → leads_on a ≡ true → StandsAt a changes → 0 < changes % 4
busy_there answer.Idle changes on at = absurd cc
busy_there (answer.Started n) changes on at = omega (arith, at)
busy_there (answer.Flipped i) changes on at = omega (arith, at)
busy_there (answer.Ended n) changes on at = absurd cc
busy_there (answer.Waiting i) changes on at = absurd cc
busy_there answer.Step changes on at = absurd cc

-- how many changes are to come until the running period ends, or, at rest, the next one
abbrev pub left_of : ℕ → ℕ
left_of changes = 4 - changes % 4

module _ {N : Type 0} (loads : N → ℕ → N → Type 0) where
  -- a period that starts is one more than there were
  started_more : (v w : AtWork N) (n : ℕ) → AdvancesTo loads v (answer.Started n) w → starts_in v.seat.seen + 1 ≤ starts_in w.seat.seen
  started_more v w n h =
      let others : List Event = h.goes_on.others in
      let whole = h.answered.events in
      let pushed = starts_in_push (v.seat.seen ++ others) (Start Engine) in
      let grown = starts_grow (beginning_append v.seat.seen others) in
      let same = ap starts_in (whole ∙ sym (append_assoc v.seat.seen others (Start Engine ∷ []))) in
      omega (arith, pushed, grown, same)

  -- where the answer stands
  stands : (v w : AtWork N) (a : Progress) → 1 ≤ v.seat.processors → IsSeenByEngine v.seat → AdvancesTo loads v a w → StandsAt a w.seat.changes
  stands v w answer.Idle some seen h = tt
  stands v w (answer.Started n) some seen h =
      let more = started_more v w n h in let before = seen.reaches.started in let after = h.answered.agree.started in
      let changes = h.answered.changes in let due = h.due in let done = h.done in
      omega (arith, some, more, before, after, changes, due, done)
  stands v w (answer.Flipped i) some seen h = h.answered.says.behind
  stands v w (answer.Ended n) some seen h = tt
  stands v w (answer.Waiting i) some seen h = tt
  stands v w answer.Step some seen h = tt

  -- behind a start none follows, and behind a flip neither a start nor a flip
  fewer_to_go : (x w : AtWork N) (a b : Progress) → leads_on a ≡ true → StandsAt a x.seat.changes → x.so_far ≡ 0 → AdvancesTo loads x b w → StandsAt b w.seat.changes → to_go b < to_go a
  fewer_to_go x w answer.Idle b on at none h then = absurd cc
  fewer_to_go x w (answer.Started n) answer.Idle on at none h then = omega arith
  fewer_to_go x w (answer.Started n) (answer.Started m) on at none h then = let changes = h.answered.changes in let done = h.done in absurd (omega (arith, at, then, none, changes, done))
  fewer_to_go x w (answer.Started n) (answer.Flipped i) on at none h then = omega arith
  fewer_to_go x w (answer.Started n) (answer.Ended m) on at none h then = omega arith
  fewer_to_go x w (answer.Started n) (answer.Waiting i) on at none h then = omega arith
  fewer_to_go x w (answer.Started n) answer.Step on at none h then = omega arith
  fewer_to_go x w (answer.Flipped j) answer.Idle on at none h then = omega arith
  fewer_to_go x w (answer.Flipped j) (answer.Started m) on at none h then = let changes = h.answered.changes in let done = h.done in absurd (omega (arith, at, then, none, changes, done))
  fewer_to_go x w (answer.Flipped j) (answer.Flipped i) on at none h then = let changes = h.answered.changes in let done = h.done in absurd (omega (arith, at, then, none, changes, done))
  fewer_to_go x w (answer.Flipped j) (answer.Ended m) on at none h then = omega arith
  fewer_to_go x w (answer.Flipped j) (answer.Waiting i) on at none h then = omega arith
  fewer_to_go x w (answer.Flipped j) answer.Step on at none h then = omega arith
  fewer_to_go x w (answer.Ended n) b on at none h then = absurd cc
  fewer_to_go x w (answer.Waiting i) b on at none h then = absurd cc
  fewer_to_go x w answer.Step b on at none h then = absurd cc

  -- the engine has carried on as far as this answer
  pub record HasCarried (v : AtWork N) (a : Progress) (w : AtWork N) : Type 0 where
    pub same : IsSameEngine v.seat w.seat
    pub stages : List (Stage N)
    pub through : AdvancesThrough loads stages v a w
    pub few : length stages + to_go a ≤ 2
    pub place : StandsAt a w.seat.changes
    pub done : w.so_far ≡ 0

  pub first_answer : (v w : AtWork N) (a : Progress) → 1 ≤ v.seat.processors → IsSeenByEngine v.seat → AdvancesTo loads v a w → HasCarried v a w
  first_answer v w a some seen h = record { same = h.goes_on.same; stages = []; through = h; few = let most = two_at_most a in omega (arith, most); place = stands v w a some seen h; done = h.done }

  one_by_one : (ss : List (Stage N)) (v x w : AtWork N) (a b : Progress) → AdvancesThrough loads ss v a x → leads_on a ≡ true → AdvancesTo loads x b w → AdvancesThrough loads (ss ++ record { answer = a; engine = x } ∷ []) v b w
  one_by_one [] v x w a b row on h = (row, on, h)
  one_by_one (s ∷ ss) v x w a b row on h = (row.0, row.1, one_by_one ss s.engine x w a b row.2 on h)

  -- one answer more, and there are fewer to go
  module _ (v x w : AtWork N) (a b : Progress) (carried : HasCarried v a x) (on : leads_on a ≡ true) (some : 1 ≤ x.seat.processors) (seen : IsSeenByEngine x.seat) where
    pub fewer : AdvancesTo loads x b w → to_go b < to_go a
    fewer h = fewer_to_go x w a b on carried.place carried.done h (stands x w b some seen h)

    pub next_answer : AdvancesTo loads x b w → HasCarried v b w
    next_answer h = record {
      same = let was = carried.same in let is = h.goes_on.same in (is.0 ∙ was.0, is.1 ∙ was.1, is.2 ∙ was.2);
      stages = carried.stages ++ record { answer = a; engine = x } ∷ [];
      through = one_by_one carried.stages v x w a b carried.through on h;
      few = let long = length-append carried.stages (record { answer = a; engine = x } ∷ []) in let few = carried.few in let less = fewer h in omega (arith, long, few, less);
      place = stands x w b some seen h;
      done = h.done;
    }

  -- in the middle of a period no other one is asked for
  not_refused : (v x w : AtWork N) (a : Progress) → HasCarried v a x → leads_on a ≡ true → IsSeenByEngine x.seat → FindsExhausted loads x w → FindsExhausted loads v w
  not_refused v x w a carried on seen h =
      let running : IsRunning x.seat.seen = busy_running x.seat.changes x.seat.seen (busy_there a x.seat.changes on carried.place) seen.reaches in
      absurd (h.out.resting (subst (λ e. IsRunning e.seen) (sym h.seat) running))

  pub carries_on : (v w : AtWork N) (a : Progress) → HasCarried v a w → leads_on a ≡ false → CarriesOn loads v a w
  carries_on v w a carried off = record { same = carried.same; stages = carried.stages; through = carried.through; stops = off; few = let few = carried.few in omega (arith, few) }

  -- On the way

  -- nothing was done yet, or the last answer leads on
  pub record IsOnTheWay (v x : AtWork N) : Type 0 where
    pub from : (x ≡ v) ⊎ ((a : Progress) × HasCarried v a x × (leads_on a ≡ true))

  pub not_yet : (v : AtWork N) → IsOnTheWay v v
  not_yet v = record { from = inl refl }

  pub goes_on : (v w : AtWork N) (a : Progress) → HasCarried v a w → leads_on a ≡ true → IsOnTheWay v w
  goes_on v w a carried on = record { from = inr (a, carried, on) }

  module _ (v x w : AtWork N) (some : 1 ≤ x.seat.processors) (seen : IsSeenByEngine x.seat) where
    came_to : (b : Progress) → (x ≡ v) ⊎ ((a : Progress) × HasCarried v a x × (leads_on a ≡ true)) → AdvancesTo loads x b w → HasCarried v b w
    came_to b (inl same) h = subst (λ z. HasCarried z b w) same (first_answer x w b some seen h)
    came_to b (inr (a, carried, on)) h = next_answer v x w a b carried on some seen h

    pub comes_to : (b : Progress) → IsOnTheWay v x → AdvancesTo loads x b w → HasCarried v b w
    comes_to b way h = came_to b way.from h

    refused_from : (x ≡ v) ⊎ ((a : Progress) × HasCarried v a x × (leads_on a ≡ true)) → FindsExhausted loads x w → FindsExhausted loads v w
    refused_from (inl same) h = subst (λ z. FindsExhausted loads z w) same h
    refused_from (inr (a, carried, on)) h = not_refused v x w a carried on seen h

    pub refused : IsOnTheWay v x → FindsExhausted loads x w → FindsExhausted loads v w
    refused way h = refused_from way.from h

  -- each answer that leads on brings the end of the period nearer
  pub nearer : (x w : AtWork N) (b : Progress) → 1 ≤ x.seat.processors → IsSeenByEngine x.seat → AdvancesTo loads x b w → leads_on b ≡ true → left_of w.seat.changes < left_of x.seat.changes
  nearer x w answer.Idle some seen h on = absurd cc
  nearer x w (answer.Started n) some seen h on =
      let more = started_more x w n h in let before = seen.reaches.started in let after = h.answered.agree.started in
      let changes = h.answered.changes in let due = h.due in let done = h.done in
      omega (arith, some, more, before, after, changes, due, done)
  nearer x w (answer.Flipped i) some seen h on =
      let behind : IsBehindFlip w.seat.changes = h.answered.says.behind in let changes = h.answered.changes in let due = h.due in let done = h.done in
      omega (arith, some, behind, changes, due, done)
  nearer x w (answer.Ended n) some seen h on = absurd cc
  nearer x w (answer.Waiting i) some seen h on = absurd cc
  nearer x w answer.Step some seen h on = absurd cc
