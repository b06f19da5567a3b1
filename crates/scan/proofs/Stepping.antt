-- From a step at the seat to a step of the engine.
use Rattle.sseq.specs.declared.index.Index.{Index}
use native.Mathlib.Decide.{ℕ_discrete, dec_lt}
use mathlib.Core.Logic.{dite}
use Rattle.std.proofs.Common.{◌≡◌, ℕ, ◌+◌, ◌*◌, ◌%◌, ◌<◌, ◌≤◌, ◌≢◌, ◌⊎◌, inl, inr, ⊎_elim, Result, Ok, Err, IsErr, MatchResult, [], ◌++◌, length, refl, sym, ap, ◌∙◌, subst, append_assoc, append-nil, length-append, arith, List, ◌∷◌}
use Rattle.onedom.specs.declared.event.Event.{Event}
use Rattle.onedom.specs.Histories.{ended_in, IsRunning, IsBeginning, starts_in}
use Rattle.sections.specs.Glossary.{number_word, IsIdle, IsBeforeFlip, IsBehindFlip, IsSeenByEngine, EngineView}
use Rattle.sections.proofs.CallerLemmas.{busy_running, idle_not_running}
use Rattle.scan.specs.Glossary.{Place, Progress, so_far, wanted, viewed, IsScanning, IsAt, Moves, PeriodsExhausted, number_at_rest, steps_for, events_of, changes_for, changes_so_far, FirstLoaded, WaitsFor, Says, Counts, StepsThrough, AtWork, standing_of, Shows, NeedsLoaded, GetsOn, StepsTo, AdvancesTo}
use Rattle.scan.specs.declared.place.Place.TheVariants.{Idle, Wanted, Unlocks, Locks, Passed, Flipped}
use Rattle.scan.specs.declared.progress.Progress.TheVariants as answer
use Rattle.onedom.proofs.CallerLemmas.{length_grows}

pub half_few : (e : EngineView) (p : Place) → IsAt e p → 1 ≤ e.processors → so_far e.processors p ≤ 2 * e.processors + 1
half_few e Idle at some = omega arith
half_few e (Wanted n) at some = omega (arith, some)
half_few e (Unlocks p ended) at some = let there = at.there in omega (arith, there)
half_few e (Locks p ended begun) at some = let there = at.there in omega (arith, there)
half_few e Passed at some = omega arith
half_few e (Flipped i) at some = omega arith

-- where something is to be done and nothing is half done, a period runs
pub nothing_half_runs : (e : EngineView) (p : Place) → p ≢ Idle → IsSeenByEngine e → IsAt e p → 1 ≤ e.processors → so_far e.processors p ≡ 0 → IsRunning e.seen
nothing_half_runs e Idle other seen at some none = absurd (other refl)
nothing_half_runs e (Wanted n) other seen at some none = absurd (omega (arith, none))
nothing_half_runs e (Unlocks p ended) other seen at some none = busy_running e.changes e.seen (busy at.scanning.running) seen.reaches
  where
    busy : IsBeforeFlip e.changes ⊎ IsBehindFlip e.changes → 0 < e.changes % 4
    busy (inl h) = omega (arith, h)
    busy (inr h) = omega (arith, h)
nothing_half_runs e (Locks p ended begun) other seen at some none = absurd (omega (arith, none, some))
nothing_half_runs e Passed other seen at some none = absurd (omega (arith, none, some))
nothing_half_runs e (Flipped i) other seen at some none = absurd (omega (arith, none))

scanning_runs : (e : EngineView) → IsSeenByEngine e → IsScanning e → IsRunning e.seen
scanning_runs e seen s = busy_running e.changes e.seen (busy s.running) seen.reaches
  where
    busy : IsBeforeFlip e.changes ⊎ IsBehindFlip e.changes → 0 < e.changes % 4
    busy (inl h) = omega (arith, h)
    busy (inr h) = omega (arith, h)

-- at each place but two a period runs
pub place_runs : (e : EngineView) (p : Place) → p ≢ Idle → ((n : ℕ) → p ≢ Wanted n) → IsSeenByEngine e → IsAt e p → IsRunning e.seen
place_runs e Idle some other seen at = absurd (some refl)
place_runs e (Wanted n) some other seen at = absurd (other n refl)
place_runs e (Unlocks p ended) some other seen at = scanning_runs e seen at.scanning
place_runs e (Locks p ended begun) some other seen at = scanning_runs e seen at.scanning
place_runs e Passed some other seen at = scanning_runs e seen at.scanning
place_runs e (Flipped i) some other seen at = let flipping = at.flipping in busy_running e.changes e.seen (omega (arith, flipping)) seen.reaches

pub not_idle : (n : ℕ) (p : Place) → 0 < so_far n p → p ≢ Idle
not_idle n p some is = let none : so_far n p ≡ 0 = ap (so_far n) is in omega (arith, some, none)

-- where something is half done, a period runs, unless one is wanted
half_runs : (n : ℕ) (e : EngineView) (p : Place) → ((n : ℕ) → p ≢ Wanted n) → IsSeenByEngine e → IsAt e p → 0 < so_far n p → IsRunning e.seen
half_runs n e p other seen at some = place_runs e p (not_idle n p some) other seen at

-- what was wanted is started, in one step
after_wanted : (e f : EngineView) (n : ℕ) (next : Place) (a : Progress) → 1 ≤ e.processors → IsIdle e.changes → Moves e (Wanted n) f next a → so_far f.processors next ≡ 0
after_wanted e f n next answer.Idle some idle m = m.counts.1
after_wanted e f n next (answer.Started k) some idle m = m.counts.1
after_wanted e f n next (answer.Flipped i) some idle m = m.counts.1
after_wanted e f n next (answer.Ended k) some idle m = m.counts.1
after_wanted e f n next (answer.Waiting i) some idle m = m.counts.1
after_wanted e f n next answer.Step some idle m =
    let two = m.counts in let changes = m.answered.changes in
    absurd (idle_not_running f.changes f.seen (omega (arith, idle, two, changes, some)) m.history.reaches (half_runs f.processors f next m.not_wanted m.history m.place_is (omega (arith, two))))

none_wanted : (p : Place) → ((n : ℕ) → p ≢ Wanted n) → wanted p ≡ 0
none_wanted Idle other = refl
none_wanted (Wanted n) other = absurd (other n refl)
none_wanted (Unlocks p ended) other = refl
none_wanted (Locks p ended begun) other = refl
none_wanted Passed other = refl
none_wanted (Flipped i) other = refl

-- where there is more to do, nothing else is wanted than before
need_kept : (e f : EngineView) (place next : Place) (a : Progress) → 1 ≤ e.processors → IsAt e place → Moves e place f next a → 0 < so_far f.processors next → wanted next ≡ wanted place
need_kept e f Idle next a some at m more = none_wanted next m.not_wanted
need_kept e f (Wanted n) next a some at m more = absurd (let done = after_wanted e f n next a some at.0 m in omega (arith, more, done))
need_kept e f (Unlocks p ended) next a some at m more = none_wanted next m.not_wanted
need_kept e f (Locks p ended begun) next a some at m more = none_wanted next m.not_wanted
need_kept e f Passed next a some at m more = none_wanted next m.not_wanted
need_kept e f (Flipped i) next a some at m more = none_wanted next m.not_wanted

-- at rest nothing more is to be done
resting_done : (e f : EngineView) (place next : Place) (a : Progress) → 1 ≤ e.processors → place ≢ Idle → IsSeenByEngine e → IsAt e place → Moves e place f next a → ¬ IsRunning e.seen → so_far f.processors next ≡ 0
resting_done e f Idle next a some other seen at m resting = absurd (other refl)
resting_done e f (Wanted n) next a some other seen at m resting = after_wanted e f n next a some at.0 m
resting_done e f (Unlocks p ended) next a some other seen at m resting = absurd (resting (place_runs e (Unlocks p ended) other (λ n h. cc) seen at))
resting_done e f (Locks p ended begun) next a some other seen at m resting = absurd (resting (place_runs e (Locks p ended begun) other (λ n h. cc) seen at))
resting_done e f Passed next a some other seen at m resting = absurd (resting (place_runs e Passed other (λ n h. cc) seen at))
resting_done e f (Flipped i) next a some other seen at m resting = absurd (resting (place_runs e (Flipped i) other (λ n h. cc) seen at))

module _ {N : Type 0} (loads : N → ℕ → N → Type 0) where
  pub steps_from : (e f : EngineView) (needs : N) (place next : Place) (a : Progress) → 1 ≤ e.processors → place ≢ Idle → IsSeenByEngine e → IsAt e place → Moves e place f next a → StepsTo loads (viewed e needs place) a (viewed f needs next)
  steps_from e f needs place next a some not_idle seen at m = record {
    goes_on = record { same = m.same; history = m.history; events = m.events; made = m.made; steps = m.steps; others = m.others };
    needs = record { count = 0; need = wanted place; at_rest = λ resting none. absurd (resting (nothing_half_runs e place not_idle seen at some none)); busy = λ _. (refl, refl, refl) };
    step = record {
      answered = m.answered;
      counts = m.counts;
      few = let same = m.same.1 in let few = half_few f next m.place_is (omega (arith, some, same)) in omega (arith, few, same);
      wanted = λ resting more. absurd (let done = resting_done e f place next a some not_idle seen at m resting in omega (arith, more, done));
      scan = λ running more. (half_runs f.processors f next m.not_wanted m.history m.place_is more, m.scan more);
    };
    shows = m.shows;
    one = let one = m.one in omega (arith, one);
    alone = λ some_load. absurd (omega (arith, some_load));
    in_order = m.in_order;
    need = λ more. need_kept e f place next a some at m more;
    no_need = λ _. none_wanted next m.not_wanted;
  }

-- Several steps

-- after some steps without an answer more is half done than there was
pub record HasMoved {N : Type 0} (loads : N → ℕ → N → Type 0) (v w : AtWork N) : Type 0 where
  pub goes_on : GetsOn answer.Step v w
  pub seen : w.seat.seen ≡ v.seat.seen ++ (goes_on.others ++ [])
  pub more : v.so_far < w.so_far
  pub needs : NeedsLoaded loads v w
  pub steps : length goes_on.made + needs.count + v.so_far ≡ w.so_far
  pub changes : w.seat.changes + changes_so_far v.seat.processors v.so_far ≡ v.seat.changes + changes_so_far v.seat.processors w.so_far
  pub need : w.need ≡ needs.need
  pub scan : IsRunning v.seat.seen → IsRunning w.seat.seen × FirstLoaded w.began v.so_far v.began v.seat.seen w.seat.seen
  -- at rest a period is wanted by now, and that is all
  pub resting : ¬ IsRunning v.seat.seen → (w.seat ≡ v.seat) × (w.so_far ≡ 1)

module _ {N : Type 0} (loads : N → ℕ → N → Type 0) where
  abbrev goes_further : (u v w : AtWork N) (a : Progress) → GetsOn answer.Step u v → GetsOn a v w → GetsOn a u w
  goes_further u v w a b c = record {
    same = (c.same.0 ∙ b.same.0, c.same.1 ∙ b.same.1, c.same.2 ∙ b.same.2);
    history = c.history;
    events = c.events ∙ ap (λ l. l ++ events_of a) (b.events ∙ append-nil u.seat.mine);
    made = b.made ++ c.made;
    steps = c.steps ∙ (ap (λ l. l ++ c.made) b.steps ∙ append_assoc u.seat.steps b.made c.made);
    others = b.others ++ c.others;
  }

  -- others came between, and then others again
  between_both : (h x y events : List Event) → (h ++ (x ++ [])) ++ (y ++ events) ≡ h ++ ((x ++ y) ++ events)
  between_both h x y events = ap (λ l. (h ++ l) ++ (y ++ events)) (append-nil x) ∙ (append_assoc h x (y ++ events) ∙ ap (λ l. h ++ l) (sym (append_assoc x y events)))

  seen_further : (u v w : AtWork N) (x y events : List Event) → v.seat.seen ≡ u.seat.seen ++ (x ++ []) → w.seat.seen ≡ v.seat.seen ++ (y ++ events) → w.seat.seen ≡ u.seat.seen ++ ((x ++ y) ++ events)
  seen_further u v w x y events before after = after ∙ (ap (λ l. l ++ (y ++ events)) before ∙ between_both u.seat.seen x y events)

  seen_since : (u v : AtWork N) (rest : List Event) → v.seat.seen ≡ u.seat.seen ++ rest → IsBeginning u.seat.seen v.seat.seen
  seen_since u v rest whole = record { rest = rest; whole = whole }

  -- where more is half done, the need was loaded before
  abbrev needs_further : (u v w : AtWork N) → HasMoved loads u v → NeedsLoaded loads v w → NeedsLoaded loads u w
  needs_further u v w moved n =
      let some = moved.more in
      let still = n.busy (inr (omega (arith, some))) in record {
        count = moved.needs.count + n.count;
        need = n.need;
        at_rest = λ resting none. let l = moved.needs.at_rest resting none in let one = l.0 in let zero = still.0 in
            (omega (arith, one, zero), subst (λ m. loads u.needs m w.needs) (sym (still.2 ∙ moved.need)) (subst (λ x. loads u.needs moved.needs.need x) (sym still.1) l.1));
        busy = λ b. let s = moved.needs.busy b in let x = s.0 in let y = still.0 in (omega (arith, x, y), still.1 ∙ s.1, still.2 ∙ (moved.need ∙ s.2));
      }

  scan_further : (u v w : AtWork N) (since : ℕ) → HasMoved loads u v → IsBeginning v.seat.seen w.seat.seen → FirstLoaded since v.so_far v.began v.seat.seen w.seat.seen → IsRunning u.seat.seen → FirstLoaded since u.so_far u.began u.seat.seen w.seat.seen
  scan_further u v w since moved later first running = let some = moved.more in let is = first.before (omega (arith, some)) in let before = (moved.scan running).1 in record {
    before = λ h. is ∙ before.before h;
    now = λ none. let here = before.now none in let low = here.0 in let high = here.1 in let longer = length_grows later in (omega (arith, low, is), omega (arith, high, is, longer));
  }

  -- a scan waits only while a period runs
  not_at_rest : (u v w : AtWork N) (i : Index) → HasMoved loads u v → StepsTo loads v (answer.Waiting i) w → IsRunning u.seat.seen
  not_at_rest u v w i moved s = dite (dec_lt (ended_in u.seat.seen) (starts_in u.seat.seen)) (λ running. running) (λ rests.
      let same = (moved.resting rests).0 in
      let before = moved.goes_on.history in
      let counts = s.step.counts in
      let due = counts.0 in
      let done = counts.1 in
      let changes = s.step.answered.changes in
      let idle : IsIdle v.seat.changes = dite (ℕ_discrete (v.seat.changes % 4) 0) (λ h. h) (λ busy. absurd (rests (subst (λ e. IsRunning e.seen) same (busy_running v.seat.changes v.seat.seen (omega (arith, busy)) before.reaches)))) in
      absurd (idle_not_running w.seat.changes w.seat.seen (omega (arith, idle, changes, due, done)) s.goes_on.history.reaches s.step.answered.says.running))

  abbrev waits_further : (u v w : AtWork N) (i : Index) → HasMoved loads u v → (s : StepsTo loads v (answer.Waiting i) w) → WaitsFor i (standing_of u) (standing_of w)
  waits_further u v w i moved s = let says = s.step.answered.says in
      record {
        running = says.running;
        index = says.index;
        since = says.since;
        first = scan_further u v w says.since moved (seen_since v w _ s.step.answered.events) says.first (not_at_rest u v w i moved s);
        moment = says.moment;
        upto = says.upto;
        after = says.after;
        section = says.section;
        is_open = says.is_open;
        of_index = says.of_index;
      }

  -- what the last step answers, all of them together do
  says_further : (u v w : AtWork N) (a : Progress) → a ≢ answer.Step → HasMoved loads u v → (s : StepsTo loads v a w) → (says : Says a s.needs.need (standing_of u) (standing_of w)) × Shows a s.needs.need (standing_of u) (standing_of w) says w.seat
  says_further u v w answer.Idle other moved s = (s.step.answered.says, tt)
  says_further u v w (answer.Started n) other moved s = (s.step.answered.says, tt)
  says_further u v w (answer.Flipped i) other moved s = (s.step.answered.says, s.shows)
  says_further u v w (answer.Ended n) other moved s = (s.step.answered.says, tt)
  says_further u v w (answer.Waiting i) other moved s = (waits_further u v w i moved s, s.shows)
  says_further u v w answer.Step other moved s = absurd (other refl)

  counted : (n : ℕ) (a : Progress) (before after : ℕ) → a ≢ answer.Step → Counts n a before after → (before + 1 ≡ steps_for n a) × (after ≡ 0)
  counted n answer.Idle before after other c = c
  counted n (answer.Started m) before after other c = c
  counted n (answer.Flipped i) before after other c = c
  counted n (answer.Ended m) before after other c = c
  counted n (answer.Waiting i) before after other c = c
  counted n answer.Step before after other c = absurd (other refl)

  first_step : (u w : AtWork N) → StepsTo loads u answer.Step w → HasMoved loads u w
  first_step u w s = let next = s.step.counts in let one = s.one in let changes = s.step.answered.changes in record {
    goes_on = s.goes_on;
    seen = s.step.answered.events;
    more = omega (arith, next);
    needs = s.needs;
    steps = omega (arith, one, next);
    changes = omega (arith, changes);
    need = s.need (omega (arith, next));
    scan = λ running. s.step.scan running (omega (arith, next));
    resting = λ rests.
        let one_half = (s.step.wanted rests (omega (arith, next))).2 in
        let loaded = (s.needs.at_rest rests (omega (arith, next, one_half))).0 in
        (s.alone (omega (arith, loaded)), one_half);
  }

  next_step : (u v w : AtWork N) → HasMoved loads u v → StepsTo loads v answer.Step w → HasMoved loads u w
  next_step u v w moved s =
      let next = s.step.counts in let one = s.one in let before = moved.steps in let more = moved.more in let same = moved.goes_on.same.1 in
      let was = moved.changes in let changes = s.step.answered.changes in
      let made = length-append moved.goes_on.made s.goes_on.made in record {
        goes_on = goes_further u v w answer.Step moved.goes_on s.goes_on;
        seen = seen_further u v w moved.goes_on.others s.goes_on.others [] moved.seen s.step.answered.events;
        more = omega (arith, next, more);
        needs = needs_further u v w moved s.needs;
        steps = omega (arith, made, one, next, before);
        changes = omega (arith, was, changes, same);
        need = s.need (omega (arith, next));
        scan = λ running. let first = s.step.scan (moved.scan running).0 (omega (arith, next)) in (first.0, scan_further u v w w.began moved (seen_since v w _ s.step.answered.events) first.1 running);
        resting = λ rests.
            let before = moved.resting rests in
            let so_far = before.1 in
            let one_half = (s.step.wanted (subst (λ e. ¬ IsRunning e.seen) (sym before.0) rests) (omega (arith, next))).2 in
            absurd (omega (arith, next, so_far, one_half));
      }

  has_moved : (u v w : AtWork N) → (v ≡ u) ⊎ HasMoved loads u v → StepsTo loads v answer.Step w → HasMoved loads u w
  has_moved u v w (inl same) s = first_step u w (subst (λ z. StepsTo loads z answer.Step w) same s)
  has_moved u v w (inr moved) s = next_step u v w moved s

  -- steps without an answer, after each of which the engine was as one of these
  abbrev pub Stepped : List (AtWork N) → AtWork N → AtWork N → Type 0
  Stepped [] u v = v ≡ u
  Stepped (x ∷ xs) u v = StepsTo loads u answer.Step x × Stepped xs x v

  one_step_more : (xs : List (AtWork N)) (u v w : AtWork N) → Stepped xs u v → StepsTo loads v answer.Step w → Stepped (xs ++ w ∷ []) u w
  one_step_more [] u v w same s = (subst (λ z. StepsTo loads z answer.Step w) same s, refl)
  one_step_more (x ∷ xs) u v w h s = (h.0, one_step_more xs x v w h.1 s)

  abbrev Through : List (AtWork N) → AtWork N → Progress → AtWork N → Type 0
  Through xs u a w = StepsThrough (λ b x y. StepsTo loads x b y) xs a u w

  and_the_answer : (xs : List (AtWork N)) (u v w : AtWork N) (a : Progress) → Stepped xs u v → StepsTo loads v a w → Through xs u a w
  and_the_answer [] u v w a same s = subst (λ z. StepsTo loads z a w) same s
  and_the_answer (x ∷ xs) u v w a h s = (h.0, and_the_answer xs x v w a h.1 s)

  -- so far there was no answer
  pub record IsUnderWay (u v : AtWork N) : Type 0 where
    pub between : List (AtWork N)
    pub stepped : Stepped between u v
    pub moved : (v ≡ u) ⊎ HasMoved loads u v

  pub nothing_yet : (u : AtWork N) → IsUnderWay u u
  nothing_yet u = record { between = []; stepped = refl; moved = inl refl }

  pub under_way : (u v w : AtWork N) → IsUnderWay u v → StepsTo loads v answer.Step w → IsUnderWay u w
  under_way u v w h s = record { between = h.between ++ w ∷ []; stepped = one_step_more h.between u v w h.stepped s; moved = inr (has_moved u v w h.moved s) }

  at_once : (u w : AtWork N) (a : Progress) (xs : List (AtWork N)) → Through xs u a w → StepsTo loads u a w → a ≢ answer.Step → AdvancesTo loads u a w
  at_once u w a xs through s other = let c = counted u.seat.processors a u.so_far w.so_far other s.step.counts in let one = s.one in let taken = c.0 in let none = c.1 in record {
    advances = record { between = xs; through = through; answer = other };
    goes_on = s.goes_on;
    needs = s.needs;
    answered = s.step.answered;
    shows = s.shows;
    steps = omega (arith, one, taken);
    due = omega (arith, taken);
    done = none;
    no_need = s.no_need none;
  }

  at_last : (u v w : AtWork N) (a : Progress) (xs : List (AtWork N)) → Through xs u a w → HasMoved loads u v → StepsTo loads v a w → a ≢ answer.Step → AdvancesTo loads u a w
  at_last u v w a xs through moved s other =
      let c = counted v.seat.processors a v.so_far w.so_far other s.step.counts in let one = s.one in let none = c.1 in let before = moved.steps in
      let was = moved.changes in let changes = s.step.answered.changes in let same = moved.goes_on.same.1 in
      let taken : v.so_far + 1 ≡ steps_for u.seat.processors a = c.0 ∙ ap (λ n. steps_for n a) same in
      let made = length-append moved.goes_on.made s.goes_on.made in
      let further = says_further u v w a other moved s in record {
        advances = record { between = xs; through = through; answer = other };
        goes_on = goes_further u v w a moved.goes_on s.goes_on;
        needs = needs_further u v w moved s.needs;
        answered = record {
          same = (s.step.answered.same.0 ∙ moved.goes_on.same.1, s.step.answered.same.1 ∙ moved.goes_on.same.2);
          events = seen_further u v w moved.goes_on.others s.goes_on.others (events_of a) moved.seen s.step.answered.events;
          legal = s.step.answered.legal;
          agree = s.step.answered.agree;
          changes = omega (arith, was, changes, same, none);
          says = further.0;
        };
        shows = further.1;
        steps = omega (arith, made, one, before, taken);
        due = let more = moved.more in omega (arith, taken, more);
        done = none;
        no_need = s.no_need none;
      }

  arrived : (u v w : AtWork N) (a : Progress) (xs : List (AtWork N)) → Through xs u a w → (v ≡ u) ⊎ HasMoved loads u v → StepsTo loads v a w → a ≢ answer.Step → AdvancesTo loads u a w
  arrived u v w a xs through (inl same) s other = at_once u w a xs through (subst (λ z. StepsTo loads z a w) same s) other
  arrived u v w a xs through (inr moved) s other = at_last u v w a xs through moved s other

  pub arrives : (u v w : AtWork N) (a : Progress) → IsUnderWay u v → StepsTo loads v a w → a ≢ answer.Step → AdvancesTo loads u a w
  arrives u v w a h s other = arrived u v w a h.between (and_the_answer h.between u v w a h.stepped s) h.moved s other

pub at_error : (r : Result Progress PeriodsExhausted) (P : Progress → Type 0) (Q : Type 0) → IsErr r → Q → MatchResult r P (λ _. Q)
at_error (Ok a) P Q is q = absurd cc
at_error (Err x) P Q is q = q

-- At rest

module _ {N : Type 0} (loads : N → ℕ → N → Type 0) (e : EngineView) (some : 1 ≤ e.processors) (seen : IsSeenByEngine e) (idle : IsIdle e.changes) (needs needs' : N) (need : ℕ) (found : loads needs need needs') where
  resting : ¬ IsRunning e.seen
  resting running = idle_not_running e.changes e.seen idle seen.reaches running

  -- the need was loaded, and nothing was done
  pub loaded_at_rest : (next : Place) (a : Progress) → events_of a ≡ [] → changes_for a ≡ 0 → Counts e.processors a 0 (so_far e.processors next) → so_far e.processors next ≤ 1
      → (says : Says a need (standing_of (viewed e needs Idle)) (standing_of (viewed e needs' next))) → Shows a need (standing_of (viewed e needs Idle)) (standing_of (viewed e needs' next)) says e
      → (0 < so_far e.processors next → (wanted next ≡ need) × (number_at_rest e.seen < need) × (ended_in e.seen < e.periods)) → (so_far e.processors next ≡ 0 → wanted next ≡ 0) → StepsTo loads (viewed e needs Idle) a (viewed e needs' next)
  loaded_at_rest next a none unchanged counts few says shows more no_need = record {
    goes_on = record { same = (refl, refl, refl); history = seen; events = sym (append-nil e.mine) ∙ ap (λ l. e.mine ++ l) (sym none); made = []; steps = sym (append-nil e.steps); others = [] };
    needs = record {
      count = 1;
      need = need;
      at_rest = λ _ _. (refl, found);
      busy = λ b. absurd (⊎_elim resting (λ (some_half : 0 < 0). omega (arith, some_half)) b);
    };
    step = record {
      answered = record {
        same = (refl, refl);
        events = sym (append-nil e.seen) ∙ ap (λ l. e.seen ++ l) (sym none);
        legal = seen.legal;
        agree = seen.reaches;
        changes = omega (arith, few, some, unchanged);
        says = says;
      };
      counts = counts;
      few = omega (arith, few, some);
      wanted = λ _ h. let m = more h in (m.1, m.2, omega (arith, few, h));
      scan = λ running h. absurd (resting running);
    };
    shows = shows;
    one = let nothing : length (events_of a) ≡ 0 = ap length none in omega (arith, nothing);
    alone = λ _. refl;
    in_order = inl refl;
    need = λ h. (more h).0;
    no_need = no_need;
  }

  -- it tells of no period that is still to come
  pub nothing_asked : need ≤ number_word e.changes → StepsTo loads (viewed e needs Idle) answer.Idle (viewed e needs' Idle)
  nothing_asked low = loaded_at_rest Idle answer.Idle refl refl (refl, refl) (omega arith) (resting, let ended = seen.reaches.ended in omega (arith, ended, idle, low)) tt (λ h. absurd (omega (arith, h))) (λ _. refl)

  -- it tells of one
  pub is_asked : number_word e.changes < need → number_word e.changes < 4 * e.periods → StepsTo loads (viewed e needs Idle) answer.Step (viewed e needs' (Wanted need))
  is_asked high room = let ended = seen.reaches.ended in
      loaded_at_rest (Wanted need) answer.Step refl refl refl (omega arith) (λ all. absurd (omega (arith, all, some))) tt (λ _. (refl, omega (arith, ended, idle, high), omega (arith, ended, idle, room))) (λ none. absurd (omega (arith, none)))
