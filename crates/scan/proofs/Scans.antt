-- What the loads of a scan tell.
use Rattle.std.proofs.Common.{◌≡◌, ℕ, zero, suc, ◌+◌, ◌*◌, ◌%◌, ◌^◌, ◌<◌, ◌≤◌, ◌≢◌, ◌⊎◌, inl, inr, Bool, if◌then◌else◌, eq-eqb, ne_eqb, ◌==◌, List, [], ◌∷◌, ◌++◌, length, refl, sym, ap, ◌∙◌, subst, append_assoc, append-nil, arith}
use mathlib.Core.Logic.{dite}
use native.Mathlib.Decide.{ℕ_discrete}
use Rattle.sseq.specs.declared.index.Index.{Index}
use Rattle.sseq.specs.Indexes.{low_bit, other_index}
use Rattle.onedom.specs.declared.event.Event.{Event}
use Rattle.onedom.specs.Histories.{starts_in, WasEmpty, IsEmpty, IsBeginning}
use Rattle.onedom.proofs.CallerLemmas.{beginning_refl, beginning_trans, legal_beginning, length_grows, empty_grows, count_append, count_cons}
use Rattle.sections.specs.declared.view.Step.{Step}
use Rattle.sections.specs.declared.view.Step.TheVariants.{LoadIndex, LoadUnlocks, LoadLocks, AddIndex, AddNumber, LoadWord}
use Rattle.sections.specs.Glossary.{index_word, locks, unlocks, sum_below, all_locks, all_unlocks, IsBeforeFlip, IsBehindFlip, EngineView, IsSeenByEngine, TakesStep, CountsUnlocks, CountsLocks}
use Rattle.sections.proofs.CallerLemmas.{sum_le, unlocks_grow, locks_grow, busy_running, equal_sums}
use Rattle.scan.specs.Glossary.{Place, Progress, current, not_current, events_of, changes_for, FirstLoaded, WaitsFor, Says, Counts, so_far, seen_at_load, began, wanted, standing_at, IsScanning, BeganScan, InUnlocks, InLocks, HasPassed, IsAt, Moves, IsStepAt, is_counter_load, counter_loads, HasScanned, Shows}
use Rattle.scan.specs.declared.place.Place.TheVariants.{Wanted, Unlocks, Locks}
use Rattle.scan.proofs.OpenBetween.{open_between, makers_of}

-- The first load of a scan

loads_of_rest : (b : List Step) (i : Index) (found seen : ℕ) (rest : List Step) → counter_loads (b ++ LoadUnlocks 0 i found seen ∷ rest) ≡ counter_loads b + (1 + counter_loads rest)
loads_of_rest b i found seen rest = count_append is_counter_load b (LoadUnlocks 0 i found seen ∷ rest) ∙ ap (λ n. counter_loads b + n) (count_cons is_counter_load (LoadUnlocks 0 i found seen) rest)

abbrev pick : ℕ → ℕ → Bool → ℕ
pick seen other b = if b then seen else other

pub seen_at_first : (loads : ℕ) (before : List Step) (i : Index) (found seen : ℕ) (rest : List Step) → counter_loads rest + 1 ≡ loads → seen_at_load loads (before ++ LoadUnlocks 0 i found seen ∷ rest) ≡ seen
seen_at_first loads [] i found seen rest is = ap (pick seen (seen_at_load loads rest)) (eq-eqb (counter_loads rest + 1) loads is)
seen_at_first loads (LoadUnlocks q j n m ∷ b) i found seen rest is = ap (pick m (seen_at_load loads (b ++ LoadUnlocks 0 i found seen ∷ rest)))
    (ne_eqb (counter_loads (b ++ LoadUnlocks 0 i found seen ∷ rest) + 1) loads (λ h. let more = loads_of_rest b i found seen rest in omega (arith, h, more, is))) ∙ seen_at_first loads b i found seen rest is
seen_at_first loads (LoadLocks q j n m ∷ b) i found seen rest is = ap (pick m (seen_at_load loads (b ++ LoadUnlocks 0 i found seen ∷ rest)))
    (ne_eqb (counter_loads (b ++ LoadUnlocks 0 i found seen ∷ rest) + 1) loads (λ h. let more = loads_of_rest b i found seen rest in omega (arith, h, more, is))) ∙ seen_at_first loads b i found seen rest is
seen_at_first loads (LoadIndex n ∷ b) i found seen rest is = seen_at_first loads b i found seen rest is
seen_at_first loads (AddIndex n ∷ b) i found seen rest is = seen_at_first loads b i found seen rest is
seen_at_first loads (AddNumber n ∷ b) i found seen rest is = seen_at_first loads b i found seen rest is
seen_at_first loads (LoadWord c v x m ∷ b) i found seen rest is = seen_at_first loads b i found seen rest is

pub began_seen : (loads : ℕ) (e : EngineView) (first : List Event) → BeganScan loads e first → seen_at_load loads e.steps ≡ length first
began_seen loads e first b = ap (seen_at_load loads) b.steps ∙ seen_at_first loads b.before (not_current e.changes) b.found (length first) b.rest b.count

seen_none : (loads : ℕ) (extra : List Step) → counter_loads extra ≡ 0 → seen_at_load loads extra ≡ 0
seen_none loads [] none = refl
seen_none loads (LoadUnlocks q j n m ∷ b) none = absurd (let c = count_cons is_counter_load (LoadUnlocks q j n m) b in omega (arith, none, c))
seen_none loads (LoadLocks q j n m ∷ b) none = absurd (let c = count_cons is_counter_load (LoadLocks q j n m) b in omega (arith, none, c))
seen_none loads (LoadIndex n ∷ b) none = seen_none loads b (let c = count_cons is_counter_load (LoadIndex n) b in omega (arith, none, c))
seen_none loads (AddIndex n ∷ b) none = seen_none loads b (let c = count_cons is_counter_load (AddIndex n) b in omega (arith, none, c))
seen_none loads (AddNumber n ∷ b) none = seen_none loads b (let c = count_cons is_counter_load (AddNumber n) b in omega (arith, none, c))
seen_none loads (LoadWord c v x m ∷ b) none = seen_none loads b (let c = count_cons is_counter_load (LoadWord c v x m) b in omega (arith, none, c))

-- what is no load of a counter changes nothing of it
pub seen_still : (loads : ℕ) (steps extra : List Step) → counter_loads extra ≡ 0 → seen_at_load loads (steps ++ extra) ≡ seen_at_load loads steps
seen_still loads [] extra none = seen_none loads extra none
seen_still loads (LoadUnlocks q j n m ∷ b) extra none = let same : counter_loads (b ++ extra) ≡ counter_loads b = (let c = count_append is_counter_load b extra in omega (arith, c, none)) in λ k. if same k + 1 == loads then m else seen_still loads b extra none k
seen_still loads (LoadLocks q j n m ∷ b) extra none = let same : counter_loads (b ++ extra) ≡ counter_loads b = (let c = count_append is_counter_load b extra in omega (arith, c, none)) in λ k. if same k + 1 == loads then m else seen_still loads b extra none k
seen_still loads (LoadIndex n ∷ b) extra none = seen_still loads b extra none
seen_still loads (AddIndex n ∷ b) extra none = seen_still loads b extra none
seen_still loads (AddNumber n ∷ b) extra none = seen_still loads b extra none
seen_still loads (LoadWord c v x m ∷ b) extra none = seen_still loads b extra none

first_as : (since since' so_far began : ℕ) (seen seen' : List Event) → since' ≡ since → FirstLoaded since so_far began seen seen' → FirstLoaded since' so_far began seen seen'
first_as since since' so_far began seen seen' is h = subst (λ n. FirstLoaded n so_far began seen seen') (sym is) h

-- Sums

sum_more : (f : ℕ → ℕ) (p : ℕ) → sum_below f (p + 1) ≡ sum_below f p + f p
sum_more f p = ap (sum_below f) one
  where
    one : p + 1 ≡ suc p
    one = omega arith

pub sum_fewer : (f : ℕ → ℕ) (p n : ℕ) → p ≤ n → sum_below f p ≤ sum_below f n
sum_fewer f p zero le = let none : p ≡ 0 = omega arith in let same : sum_below f p ≡ sum_below f 0 = ap (sum_below f) none in omega (arith, same)
sum_fewer f p (suc n) le = dite (ℕ_discrete p (suc n))
    (λ e. let same : sum_below f p ≡ sum_below f (suc n) = ap (sum_below f) e in omega (arith, same))
    (λ ne. let r = sum_fewer f p n (omega arith) in omega (arith, r))

-- As long as the engine changes no word

module _ (e f : EngineView) (seen : IsSeenByEngine e) (later : IsSeenByEngine f) (since : IsBeginning e.seen f.seen) (changes : f.changes ≡ e.changes) where
  pub same_scanned : not_current f.changes ≡ not_current e.changes
  same_scanned = ap (λ c. other_index (low_bit (index_word c))) changes

  pub no_start : starts_in e.seen ≡ starts_in f.seen
  no_start = let a = seen.reaches.started in let b = later.reaches.started in omega (arith, a, b, changes)

  pub still_scanning : IsScanning e → IsScanning f
  still_scanning s = record {
    running = subst (λ c. IsBeforeFlip c ⊎ IsBehindFlip c) (sym changes) s.running;
    first_scan = λ behind. subst (λ i. WasEmpty i f.seen) (ap (λ c. low_bit (index_word c)) (sym changes)) (empty_grows (current e.changes) since no_start (s.first_scan (subst IsBehindFlip changes behind)));
  }

  -- so many more loads of counters
  pub began_still : (k more : ℕ) (first : List Event) (extra : List Step) → f.steps ≡ e.steps ++ extra → counter_loads extra ≡ more → BeganScan k e first → BeganScan (k + more) f first
  began_still k more first extra steps is b = record {
    before = b.before;
    found = b.found;
    rest = b.rest ++ extra;
    steps = steps ∙ (ap (λ x. x ++ extra) b.steps ∙ (append_assoc b.before (LoadUnlocks 0 (not_current e.changes) b.found (length first) ∷ b.rest) extra
        ∙ ap (λ i. b.before ++ LoadUnlocks 0 i b.found (length first) ∷ (b.rest ++ extra)) (sym same_scanned)));
    count = let c = b.count in let both = count_append is_counter_load b.rest extra in omega (arith, c, both, is);
    seen = beginning_trans b.seen since;
    since_start = b.since_start ∙ no_start;
  }

-- Unlock counters

-- what is known after the load
pub record Unlocked (e f : EngineView) (p ended : ℕ) : Type 0 where
  pub first : List Event
  pub began : BeganScan (p + 1) f first
  pub scan : FirstLoaded (length first) p (seen_at_load p e.steps) e.seen f.seen
  pub least : sum_below (λ q. unlocks q (not_current f.changes) first) (p + 1) ≤ ended
  pub most : ended ≤ sum_below (λ q. unlocks q (not_current f.changes) f.seen) (p + 1)

module _ (e f : EngineView) (p ended found : ℕ) (i : Index) (seen : IsSeenByEngine e) (here : InUnlocks e p ended) (is : i ≡ not_current e.changes) (counts : CountsUnlocks p i found e f) where
  now_scanned : i ≡ not_current f.changes
  now_scanned = is ∙ sym (same_scanned e f seen counts.step.history counts.step.since counts.step.changes_are)

  most_so_far : ended + found ≤ sum_below (λ q. unlocks q i f.seen) (p + 1)
  most_so_far =
      let was : ended ≤ sum_below (λ q. unlocks q i e.seen) p = subst (λ j. ended ≤ sum_below (λ q. unlocks q j e.seen) p) (sym is) here.most in
      let grown = sum_le (λ q. unlocks q i e.seen) (λ q. unlocks q i f.seen) p (λ q. unlocks_grow q i counts.step.since) in
      let more = sum_more (λ q. unlocks q i f.seen) p in let exact = counts.exact in omega (arith, was, grown, more, exact)

  first_load : p ≡ 0 → Unlocked e f p (ended + found)
  first_load none = record {
    first = f.seen;
    began = record {
      before = e.steps;
      found = found;
      rest = [];
      steps = counts.step.steps ∙ (λ k. e.steps ++ LoadUnlocks (none k) (now_scanned k) found (length f.seen) ∷ []);
      count = omega (arith, none);
      seen = beginning_refl f.seen;
      since_start = refl;
    };
    scan = record { before = λ some. absurd (omega (arith, some, none)); now = λ _. (length_grows counts.step.since, omega arith) };
    least = subst (λ j. sum_below (λ q. unlocks q j f.seen) (p + 1) ≤ ended + found) now_scanned
        (let more = sum_more (λ q. unlocks q i f.seen) p in let nothing : sum_below (λ q. unlocks q i f.seen) p ≡ 0 = ap (sum_below (λ q. unlocks q i f.seen)) none in let exact = counts.exact in omega (arith, more, nothing, exact));
    most = subst (λ j. ended + found ≤ sum_below (λ q. unlocks q j f.seen) (p + 1)) now_scanned most_so_far;
  }

  later_load : 0 < p → Unlocked e f p (ended + found)
  later_load some = let b = here.began some in let first : List Event = b.0 in record {
    first = first;
    began = began_still e f seen counts.step.history counts.step.since counts.step.changes_are p 1 first (LoadUnlocks p i found (length f.seen) ∷ []) counts.step.steps refl b.1;
    scan = record { before = λ _. sym (began_seen p e first b.1); now = λ none. absurd (omega (arith, none, some)) };
    least = subst (λ j. sum_below (λ q. unlocks q j first) (p + 1) ≤ ended + found) now_scanned
        (let was : sum_below (λ q. unlocks q i first) p ≤ ended = subst (λ j. sum_below (λ q. unlocks q j first) p ≤ ended) (sym is) b.2 in
        let more = sum_more (λ q. unlocks q i first) p in let grown = unlocks_grow p i (beginning_trans b.1.seen counts.step.since) in let exact = counts.exact in omega (arith, was, more, grown, exact));
    most = subst (λ j. ended + found ≤ sum_below (λ q. unlocks q j f.seen) (p + 1)) now_scanned most_so_far;
  }

  pub unlocked : Unlocked e f p (ended + found)
  unlocked = dite (ℕ_discrete p 0) (λ none. first_load none) (λ some. later_load (omega arith))

  -- the sum is no more than there were sections
  pub unlocks_fit : ended + found < 2 ^ 62
  unlocks_fit =
      let there = here.there in let same = counts.step.same.1 in
      let all = sum_fewer (λ q. unlocks q i f.seen) (p + 1) f.processors (omega (arith, there, same)) in
      let sums = (equal_sums f.processors i f.seen counts.step.history.legal counts.step.history.makers).0 in
      let bound = counts.bound in let most = most_so_far in omega (arith, all, sums, bound, most)

  pub next_unlocks : p + 1 < f.processors → InUnlocks f (p + 1) (ended + found)
  next_unlocks more = let u = unlocked in record {
    scanning = still_scanning e f seen counts.step.history counts.step.since counts.step.changes_are here.scanning;
    there = more;
    began = λ _. (u.first, u.began, u.least);
    most = u.most;
  }

  pub scan_unlocks : FirstLoaded (seen_at_load (p + 1) f.steps) p (seen_at_load p e.steps) e.seen f.seen
  scan_unlocks = let u = unlocked in first_as _ _ _ _ _ _ (began_seen (p + 1) f u.first u.began) u.scan

  pub scan_last_unlocks : f.processors ≤ p + 1 → FirstLoaded (seen_at_load (f.processors + 0) f.steps) p (seen_at_load p e.steps) e.seen f.seen
  scan_last_unlocks last = let there = here.there in let same = counts.step.same.1 in
      subst (λ k. FirstLoaded (seen_at_load k f.steps) p (seen_at_load p e.steps) e.seen f.seen) (omega (arith, last, there, same)) scan_unlocks

  pub first_locks : f.processors ≤ p + 1 → InLocks f 0 (ended + found) 0
  first_locks last = let u = unlocked in let there = here.there in let same = counts.step.same.1 in
      let n : p + 1 ≡ f.processors = omega (arith, last, there, same) in record {
        scanning = still_scanning e f seen counts.step.history counts.step.since counts.step.changes_are here.scanning;
        there = omega (arith, there, same);
        first = u.first;
        middle = f.seen;
        began = subst (λ k. BeganScan k f u.first) (omega (arith, n)) u.began;
        in_order = u.began.seen;
        seen = beginning_refl f.seen;
        since_start = refl;
        ended_least = subst (λ k. sum_below (λ q. unlocks q (not_current f.changes) u.first) k ≤ ended + found) n u.least;
        ended_most = subst (λ k. ended + found ≤ sum_below (λ q. unlocks q (not_current f.changes) f.seen) k) n u.most;
        begun_least = omega arith;
        begun_most = omega arith;
      }

-- Lock counters

module _ (e f : EngineView) (p ended begun found : ℕ) (i : Index) (seen : IsSeenByEngine e) (here : InLocks e p ended begun) (is : i ≡ not_current e.changes) (counts : CountsLocks p i found e f) where
  now_scanned_l : i ≡ not_current f.changes
  now_scanned_l = is ∙ sym (same_scanned e f seen counts.step.history counts.step.since counts.step.changes_are)

  least_begun : sum_below (λ q. locks q i here.middle) (p + 1) ≤ begun + found
  least_begun =
      let was : sum_below (λ q. locks q i here.middle) p ≤ begun = subst (λ j. sum_below (λ q. locks q j here.middle) p ≤ begun) (sym is) here.begun_least in
      let more = sum_more (λ q. locks q i here.middle) p in let grown = locks_grow p i (beginning_trans here.seen counts.step.since) in let exact = counts.exact in omega (arith, was, more, grown, exact)

  most_begun : begun + found ≤ sum_below (λ q. locks q i f.seen) (p + 1)
  most_begun =
      let was : begun ≤ sum_below (λ q. locks q i e.seen) p = subst (λ j. begun ≤ sum_below (λ q. locks q j e.seen) p) (sym is) here.begun_most in
      let grown = sum_le (λ q. locks q i e.seen) (λ q. locks q i f.seen) p (λ q. locks_grow q i counts.step.since) in
      let more = sum_more (λ q. locks q i f.seen) p in let exact = counts.exact in omega (arith, was, grown, more, exact)

  pub locks_fit : begun + found < 2 ^ 62
  locks_fit = let there = here.there in let same = counts.step.same.1 in
      let all = sum_fewer (λ q. locks q i f.seen) (p + 1) f.processors (omega (arith, there, same)) in let bound = counts.bound in let most = most_begun in omega (arith, all, bound, most)

  same_count : f.processors ≡ e.processors
  same_count = counts.step.same.1

  least_ended : all_unlocks f.processors (not_current f.changes) here.first ≤ ended
  least_ended = subst (λ (z : ℕ × Index). all_unlocks z.0 z.1 here.first ≤ ended) (λ k. (sym same_count k, (sym is ∙ now_scanned_l) k)) here.ended_least

  most_ended : ended ≤ all_unlocks f.processors (not_current f.changes) here.middle
  most_ended = subst (λ (z : ℕ × Index). ended ≤ all_unlocks z.0 z.1 here.middle) (λ k. (sym same_count k, (sym is ∙ now_scanned_l) k)) here.ended_most

  began_now : BeganScan (f.processors + (p + 1)) f here.first
  began_now = let same = same_count in subst (λ k. BeganScan k f here.first) (omega (arith, same)) (began_still e f seen counts.step.history counts.step.since counts.step.changes_are (e.processors + p) 1 here.first (LoadLocks p i found (length f.seen) ∷ []) counts.step.steps refl here.began)

  -- the scan is the one that was half done
  scan_on : FirstLoaded (length here.first) (e.processors + p) (seen_at_load (e.processors + p) e.steps) e.seen f.seen
  scan_on = let there = here.there in record { before = λ _. sym (began_seen (e.processors + p) e here.first here.began); now = λ none. absurd (omega (arith, none, there)) }

  pub scan_locks : FirstLoaded (seen_at_load (f.processors + (p + 1)) f.steps) (e.processors + p) (seen_at_load (e.processors + p) e.steps) e.seen f.seen
  scan_locks = first_as _ _ _ _ _ _ (began_seen (f.processors + (p + 1)) f here.first began_now) scan_on

  pub scan_passed : f.processors ≤ p + 1 → FirstLoaded (seen_at_load (2 * f.processors) f.steps) (e.processors + p) (seen_at_load (e.processors + p) e.steps) e.seen f.seen
  scan_passed last = let there = here.there in let same = same_count in
      subst (λ k. FirstLoaded (seen_at_load k f.steps) (e.processors + p) (seen_at_load (e.processors + p) e.steps) e.seen f.seen) (omega (arith, last, there, same)) scan_locks

  pub still : IsScanning f
  still = still_scanning e f seen counts.step.history counts.step.since counts.step.changes_are here.scanning

  pub next_locks : p + 1 < f.processors → InLocks f (p + 1) ended (begun + found)
  next_locks more = record {
    scanning = still;
    there = more;
    first = here.first;
    middle = here.middle;
    began = began_now;
    in_order = here.in_order;
    seen = beginning_trans here.seen counts.step.since;
    since_start = here.since_start ∙ no_start e f seen counts.step.history counts.step.since counts.step.changes_are;
    ended_least = least_ended;
    ended_most = most_ended;
    begun_least = subst (λ j. sum_below (λ q. locks q j here.middle) (p + 1) ≤ begun + found) now_scanned_l least_begun;
    begun_most = subst (λ j. begun + found ≤ sum_below (λ q. locks q j f.seen) (p + 1)) now_scanned_l most_begun;
  }

  -- the sums at the moment of the last unlock load
  middle_sums : all_unlocks f.processors i here.middle ≤ all_locks f.processors i here.middle
  middle_sums = let upto = beginning_trans here.seen counts.step.since in (equal_sums f.processors i here.middle (legal_beginning upto counts.step.history.legal) (makers_of f.processors here.middle f.seen upto counts.step.history.makers)).0

  -- equal sums: none was open then
  pub passed : f.processors ≤ p + 1 → ended ≡ begun + found → HasPassed f
  passed last equal =
      let there = here.there in let same = same_count in
      let n : p + 1 ≡ f.processors = omega (arith, last, there, same) in
      let upto = beginning_trans here.seen counts.step.since in
      let least : all_locks f.processors i here.middle ≤ begun + found = subst (λ k. sum_below (λ q. locks q i here.middle) k ≤ begun + found) n least_begun in
      let most : ended ≤ all_unlocks f.processors i here.middle = subst (λ j. ended ≤ all_unlocks f.processors j here.middle) (sym now_scanned_l) most_ended in
      let sums = middle_sums in
      let empty = (equal_sums f.processors i here.middle (legal_beginning upto counts.step.history.legal) (makers_of f.processors here.middle f.seen upto counts.step.history.makers)).1.0 (omega (arith, sums, least, most, equal)) in record {
        scanning = still;
        empty = record {
          moment = here.middle;
          upto = upto;
          since_start = here.since_start ∙ no_start e f seen counts.step.history counts.step.since counts.step.changes_are;
          empty = subst (λ j. IsEmpty j here.middle) now_scanned_l empty;
        };
      }

  pub passed_empty : f.processors ≤ p + 1 → ended ≡ begun + found → WasEmpty (not_current e.changes) f.seen
  passed_empty last equal = subst (λ j. WasEmpty j f.seen) (same_scanned e f seen counts.step.history counts.step.since counts.step.changes_are) (passed last equal).empty

  -- unequal sums: one was open at some moment of the scan
  pub waits : f.processors ≤ p + 1 → ended ≢ begun + found → (says : WaitsFor i (standing_at e (Locks p ended begun)) (standing_at f (Unlocks 0 0))) × HasScanned i says.since f
  waits last unequal =
      let there = here.there in let same = same_count in
      let n : p + 1 ≡ f.processors = omega (arith, last, there, same) in
      let least : all_locks f.processors i here.middle ≤ begun + found = subst (λ k. sum_below (λ q. locks q i here.middle) k ≤ begun + found) n least_begun in
      let most : ended ≤ all_unlocks f.processors i here.middle = subst (λ j. ended ≤ all_unlocks f.processors j here.middle) (sym now_scanned_l) most_ended in
      let sums = middle_sums in
      let early : all_unlocks f.processors i here.first ≤ ended = subst (λ j. all_unlocks f.processors j here.first ≤ ended) (sym now_scanned_l) least_ended in
      let late : begun + found ≤ all_locks f.processors i f.seen = subst (λ k. begun + found ≤ sum_below (λ q. locks q i f.seen) k) n most_begun in
      let b = began_now in
      let found_open = open_between f.processors i here.first f.seen b.seen counts.step.history.legal counts.step.history.makers (omega (arith, early, late, least, most, sums, unequal)) in
      let count = b.count in (
        record {
          running = busy_running f.changes f.seen (busy still.running) counts.step.history.reaches;
          index = now_scanned_l;
          since = length here.first;
          first = scan_on;
          moment = found_open.moment;
          upto = found_open.upto;
          after = length_grows found_open.since;
          section = found_open.section;
          is_open = found_open.is_open;
          of_index = found_open.of_index;
        },
        record {
          before = b.before;
          found = b.found;
          rest = b.rest;
          steps = b.steps ∙ ap (λ j. b.before ++ LoadUnlocks 0 j b.found (length here.first) ∷ b.rest) (sym now_scanned_l);
          loads = omega (arith, count, n);
        },
      )
    where
      busy : IsBeforeFlip f.changes ⊎ IsBehindFlip f.changes → 0 < f.changes % 4
      busy (inl h) = omega (arith, h)
      busy (inr h) = omega (arith, h)

pub first_unlocks : (e : EngineView) → IsScanning e → 1 ≤ e.processors → InUnlocks e 0 0
first_unlocks e s some = record { scanning = s; there = some; began = λ none. absurd (omega (arith, none)); most = omega arith }

-- Steps at the seat

-- what was seen since: what others did, and then what the engine did with this answer
pub others_before : (e f : EngineView) (a : Progress) (since : IsBeginning e.seen f.seen) → events_of a ≡ [] → f.seen ≡ e.seen ++ (since.rest ++ events_of a)
others_before e f a since none = since.whole ∙ ap (λ l. e.seen ++ l) (sym (append-nil since.rest) ∙ ap (λ l. since.rest ++ l) (sym none))

pub moves_by_load : (e f : EngineView) (l : Step) (place next : Place) (a : Progress) → TakesStep l e.changes e f → IsStepAt e.processors (so_far e.processors place) (not_current e.changes) l → events_of a ≡ [] → changes_for a ≡ 0
    → (so_far e.processors place ≤ 2 * e.processors) × (so_far f.processors next ≤ 2 * e.processors) → Counts e.processors a (so_far e.processors place) (so_far f.processors next) → IsAt f next → ((n : ℕ) → next ≢ Wanted n)
    → (0 < so_far f.processors next → FirstLoaded (began f next) (so_far e.processors place) (began e place) e.seen f.seen)
    → (says : Says a (wanted place) (standing_at e place) (standing_at f next)) → Shows a (wanted place) (standing_at e place) (standing_at f next) says f → Moves e place f next a
moves_by_load e f l place next a takes here none unchanged within counts at other scan says shows = record {
  same = takes.same;
  history = takes.history;
  events = takes.mine ∙ (sym (append-nil e.mine) ∙ ap (λ x. e.mine ++ x) (sym none));
  made = l ∷ [];
  steps = takes.steps;
  one = let zero : length (events_of a) ≡ 0 = ap length none in omega (arith, zero);
  in_order = inr (l, refl, here);
  others = takes.since.rest;
  answered = record {
    same = (takes.same.1, takes.same.2);
    events = others_before e f a takes.since none;
    legal = takes.history.legal;
    agree = takes.history.reaches;
    changes = let same = takes.changes_are in let before = within.0 in let after = within.1 in omega (arith, same, before, after, unchanged);
    says = says;
  };
  shows = shows;
  counts = counts;
  place_is = at;
  not_wanted = other;
  scan = scan;
}
