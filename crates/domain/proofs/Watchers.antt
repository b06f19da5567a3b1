-- Watching a domain: loads of counters, and what two sums of an index tell.
use Rattle.std.proofs.Common.{◌≡◌, ◌≢◌, ℕ, zero, suc, ◌+◌, ◌^◌, ◌<◌, ◌≤◌, if◌then◌else◌, None, List, [], ◌∷◌, ◌++◌, length, get_or, map, sum, refl, sym, ap, ◌∙◌, subst, arith, ne_eqb, append_assoc, length-append}
use Rattle.std.specs.Prelude.{Vec}
use Rattle.std.specs.Vec.{with_items}
use Rattle.std.proofs.lemmas.List.{get_or_push, get_or_append_left, with_items_is}
use Rattle.std.proofs.lemmas.List.Sums.{sum_by-append, sum_by-cons}
use mathlib.Core.Logic.{dite}
use native.Mathlib.Decide.{ℕ_discrete}
use Rattle.sseq.specs.declared.index.Index.{Index}
use Rattle.sseq.specs.declared.index.Index.TheVariants.{Zero, One}
use Rattle.onedom.specs.declared.event.Event.{Event}
use Rattle.onedom.specs.Histories.{IsBeginning}
use Rattle.onedom.proofs.CallerLemmas.{beginning_refl, beginning_trans}
use Rattle.sections.specs.declared.view.Step.{Step}
use Rattle.sections.specs.Glossary.{locks, unlocks, sum_below, all_locks, all_unlocks, IsStart, IsSeenBy, IsSameCpu, Loads, Notes, Looks}
use Rattle.sections.specs.Views as sections
use Rattle.sections.proofs.CallerLemmas.{start_refl, start_trans, locks_grow, unlocks_grow, sum_le, equal_sums}
use Rattle.funnel.specs.Glossary.{FunnelView, LoadsRoot}
use Rattle.calls.specs.declared.view.Deed.{Deed}
use Rattle.calls.specs.Tallies as tallies
use Rattle.calls.specs.Glossary.{deed, deeds_of, CallSeatView, queued_loads, finished_loads, AddsUp}
use Rattle.calls.proofs.CallerLemmas.{begins_on}
use Rattle.glance.specs.declared.counters.Pair.{Pair}
use Rattle.glance.specs.declared.counters.Counts.{Counts}
use Rattle.glance.specs.declared.counters.Holder.{Holder}
use Rattle.domain.specs.Glossary.{Counter, LoadsCounters, IsBetween, count_of, FindsCount, LoadsRow, LoadsEach, LoadsSums, CpuView, with_cpu, with_calls, Acts, Adds, nothing, loads, notes, ActsAs, WasEmptyIn, WasBalanced, Watches, IsNoLess, CountsEach, Tells, holder_at, differing, NamesHolders, Snaps}
use Rattle.domain.specs.declared.domain.loads.Counter.TheVariants as counter
use Rattle.glance.specs.declared.snapshot.Snapshot.{Snapshot}
use Rattle.glance.specs.Glances.{pair_of, counters_of}
use Rattle.domain.proofs.Counting.{sum_next, first_ones}
use Rattle.scan.proofs.CallerLemmas.{open_between}
use Rattle.domain.proofs.Acting as acting
use Rattle.domain.proofs.Acting.{does_nothing, loads_deeds, adds_loads, queued_loads_count, finished_loads_count, both_count, then_finishes}

-- Loads

-- loads were made, and nothing else. Before the first of them nothing is known of the history
pub record MadeLoads (c d : sections.CpuView) : Type 0 where
  pub same : IsSameCpu c d
  pub mine : d.mine ≡ c.mine
  pub since : IsBeginning c.seen d.seen
  pub later : c.changes ≤ d.changes
  pub texts : IsStart c.texts d.texts

made_none : (c : sections.CpuView) → MadeLoads c c
made_none c = record { same = (refl, refl, refl, refl); mine = refl; since = beginning_refl c.seen; later = omega arith; texts = start_refl c.texts }

made_more : (l : Step) (c d e : sections.CpuView) → MadeLoads c d → Loads l d e → MadeLoads c e
made_more l c d e h n = record {
  same = (n.same.0 ∙ h.same.0, n.same.1 ∙ h.same.1, n.same.2 ∙ h.same.2, n.same.3 ∙ h.same.3);
  mine = n.mine ∙ h.mine;
  since = beginning_trans h.since n.since;
  later = (let a = h.later in let b = n.later in omega (arith, a, b));
  texts = start_trans h.texts n.texts;
}

as_loads : (c d : sections.CpuView) → MadeLoads c d → IsSeenBy d → LoadsCounters c d
as_loads c d h is = record { same = h.same; mine = h.mine; since = h.since; later = h.later; texts = h.texts; history = is }

-- One processor

-- at a moment from the first history on, up to the second, so many were counted
pub record StoodAt (count : List Event → ℕ) (found : ℕ) (seen seen' : List Event) : Type 0 where
  pub moment : List Event
  pub since : IsBeginning seen moment
  pub upto : IsBeginning moment seen'
  pub exact : found ≡ count moment

-- the unlock counter stood so at a moment not after the middle one, and the lock counter at one not before it
pub record FindsPair (p : ℕ) (i : Index) (k : Pair) (seen middle seen' : List Event) : Type 0 where
  pub unlocks : StoodAt (unlocks p i) k.unlocks seen middle
  pub locks : StoodAt (locks p i) k.locks middle seen'

pub watched_loads : (p : ℕ) (k : Counts) (c d : sections.CpuView) → Watches p k c d → LoadsCounters c d
watched_loads p k c d h = as_loads c d (made_more _ c h.third d (made_more _ c h.middle h.third (made_more _ c h.first h.middle (made_more _ c c h.first (made_none c) h.zero_unlocks.load) h.one_unlocks.load) h.zero_locks.load) h.one_locks.load) h.one_locks.load.history

pub pair_found : (p : ℕ) (i : Index) (k : Counts) (c d : sections.CpuView) → (h : Watches p k c d) → FindsPair p i (pair_of i k) c.seen h.middle.seen d.seen
pair_found p Zero k c d h = record {
  unlocks = record { moment = h.first.seen; since = h.zero_unlocks.load.since; upto = h.one_unlocks.load.since; exact = h.zero_unlocks.exact };
  locks = record { moment = h.third.seen; since = h.zero_locks.load.since; upto = h.one_locks.load.since; exact = h.zero_locks.exact };
}
pair_found p One k c d h = record {
  unlocks = record { moment = h.middle.seen; since = beginning_trans h.zero_unlocks.load.since h.one_unlocks.load.since; upto = beginning_refl h.middle.seen; exact = h.one_unlocks.exact };
  locks = record { moment = d.seen; since = beginning_trans h.zero_locks.load.since h.one_locks.load.since; upto = beginning_refl d.seen; exact = h.one_locks.exact };
}

no_less : (p : ℕ) (i : Index) (k : Pair) (seen middle seen' : List Event) → FindsPair p i k seen middle seen' → IsNoLess p i k seen
no_less p i k seen middle seen' h =
    let u = unlocks_grow p i h.unlocks.since in let ue = h.unlocks.exact in
    let l = locks_grow p i (beginning_trans h.unlocks.since (beginning_trans h.unlocks.upto h.locks.since)) in let le = h.locks.exact in
    record { unlocks = omega (arith, u, ue); locks = omega (arith, l, le) }

was_balanced : (p : ℕ) (i : Index) (k : Pair) (seen middle seen' : List Event) → FindsPair p i k seen middle seen' → k.locks ≡ k.unlocks → WasBalanced p i seen seen'
was_balanced p i k seen middle seen' h equal =
    let u = unlocks_grow p i h.unlocks.upto in let ue = h.unlocks.exact in
    let l = locks_grow p i h.locks.since in let le = h.locks.exact in
    record { moment = middle; since = beginning_trans h.unlocks.since h.unlocks.upto; upto = beginning_trans h.locks.since h.locks.upto; balanced = omega (arith, u, ue, l, le, equal) }

pub watched_since : (p : ℕ) (k : Counts) (c d : sections.CpuView) → Watches p k c d → (i : Index) → IsNoLess p i (pair_of i k) c.seen
watched_since p k c d h i = no_less p i (pair_of i k) c.seen h.middle.seen d.seen (pair_found p i k c d h)

pub watched_balanced : (p : ℕ) (k : Counts) (c d : sections.CpuView) → Watches p k c d → (i : Index) → (pair_of i k).locks ≡ (pair_of i k).unlocks → WasBalanced p i c.seen d.seen
watched_balanced p k c d h i equal = was_balanced p i (pair_of i k) c.seen h.middle.seen d.seen (pair_found p i k c d h) equal

-- All processors

next_place : (p : ℕ) → p + 1 ≡ suc p
next_place p = omega arith

-- a row stays as it is where more numbers follow
row_stays : (w : Counter) (i : Index) (k : ℕ) (found : List ℕ) (n : ℕ) (c d : sections.CpuView) → k ≤ length found → LoadsRow w i found k c d → LoadsRow w i (found ++ n ∷ []) k c d
row_stays w i zero found n c d long h = h
row_stays w i (suc p) found n c d long h =
    let inside : p < length found = omega (arith, long) in
    (h.0, row_stays w i p found n c h.0 (omega (arith, long)) h.1, subst (λ z. FindsCount w p i z h.0 d) (sym (get_or_append_left found (n ∷ []) 0 p inside)) h.2)

row_more : (w : Counter) (i : Index) (k : ℕ) (found : List ℕ) (n : ℕ) (c d e : sections.CpuView) → length found ≡ k → LoadsRow w i found k c d → FindsCount w k i n d e → LoadsRow w i (found ++ n ∷ []) (k + 1) c e
row_more w i k found n c d e long h f =
    subst (λ m. LoadsRow w i (found ++ n ∷ []) m c e) (sym (next_place k))
    (d, row_stays w i k found n c d (omega (arith, long)) h, subst (λ z. FindsCount w k i z d e) (sym (get_or_push found n 0 k long)) f)

-- a counter doesn't fall
counts_grow : (w : Counter) (i : Index) (p : ℕ) (seen history : List Event) → IsBeginning seen history → count_of w i p seen ≤ count_of w i p history
counts_grow counter.Unlocks i q seen history b = unlocks_grow q i b
counts_grow counter.Locks i p seen history b = locks_grow p i b

-- it is no more than there may be
pub record IsFound (w : Counter) (i : Index) (k n : ℕ) (d e : sections.CpuView) : Type 0 where
  pub step : Step
  pub load : Loads step d e
  pub exact : n ≡ count_of w i k e.seen
  pub bound : k < e.processors → sum_below (λ p. count_of w i p e.seen) (k + 1) ≤ 2 ^ 60

pub is_found : (w : Counter) (i : Index) (k n : ℕ) (d e : sections.CpuView) → FindsCount w k i n d e → IsFound w i k n d e
is_found counter.Unlocks i k n d e f = record {
  step = _;
  load = f.load;
  exact = f.exact;
  bound = λ inside.
      let part = first_ones (λ p. unlocks p i e.seen) (k + 1) e.processors (omega (arith, inside)) in
      let fewer = (equal_sums e.processors i e.seen f.load.history.legal f.load.history.makers).0 in
      let bound = f.bound in
      omega (arith, part, fewer, bound);
}
is_found counter.Locks i k n d e f = record {
  step = _;
  load = f.load;
  exact = f.exact;
  bound = λ inside.
      let part = first_ones (λ p. locks p i e.seen) (k + 1) e.processors (omega (arith, inside)) in
      let bound = f.bound in
      omega (arith, part, bound);
}

-- the counters of the first k processors were loaded
pub record LoadedSoFar (w : Counter) (i : Index) (k : ℕ) (found : List ℕ) (total : ℕ) (c d : sections.CpuView) : Type 0 where
  pub row : LoadsRow w i found k c d
  pub loads : MadeLoads c d
  pub one_each : length found ≡ k
  pub total_is : total ≡ sum found
  pub between : IsBetween (λ h. sum_below (λ p. count_of w i p h) k) total c.seen d.seen
  pub history : 0 < k → IsSeenBy d
  pub small : total ≤ 2 ^ 60

pub loaded_none : (w : Counter) (i : Index) (found : List ℕ) (c : sections.CpuView) → found ≡ [] → LoadedSoFar w i 0 found 0 c c
loaded_none w i found c none = subst (λ (l : List ℕ). LoadedSoFar w i 0 l 0 c c) (sym none) record {
  row = refl;
  loads = made_none c;
  one_each = refl;
  total_is = refl;
  between = record { no_less = omega arith; no_more = omega arith };
  history = λ lt. absurd (omega (arith, lt));
  small = omega arith;
}

-- one more counter was loaded
module _ (w : Counter) (i : Index) (k : ℕ) (found : List ℕ) (total n : ℕ) (c d e : sections.CpuView) (h : LoadedSoFar w i k found total c d) (f : FindsCount w k i n d e) (inside : k < c.processors) where
  one : IsFound w i k n d e
  one = is_found w i k n d e f

  more_between : IsBetween (λ h. sum_below (λ p. count_of w i p h) (k + 1)) (total + n) c.seen e.seen
  more_between =
      let less = h.between.no_less in
      let more = h.between.no_more in
      let exact = one.exact in
      let low = sum_next (λ p. count_of w i p c.seen) k in
      let high = sum_next (λ p. count_of w i p e.seen) k in
      let here = counts_grow w i k c.seen e.seen (beginning_trans h.loads.since one.load.since) in
      let grown = sum_le (λ p. count_of w i p d.seen) (λ p. count_of w i p e.seen) k (λ p. counts_grow w i p d.seen e.seen one.load.since) in
      record { no_less = omega (arith, less, exact, low, here); no_more = omega (arith, more, exact, high, grown) }

  pub count_fits : total + n ≤ 2 ^ 60
  count_fits =
      let wide = h.loads.same.1 in let more = one.load.same.1 in
      let few = one.bound (omega (arith, wide, more, inside)) in
      let most = more_between.no_more in omega (arith, most, few)

  pub count_more : LoadedSoFar w i (k + 1) (found ++ n ∷ []) (total + n) c e
  count_more = record {
    row = row_more w i k found n c d e h.one_each h.row f;
    loads = made_more one.step c d e h.loads one.load;
    one_each = (let next = length-append found (n ∷ []) in let long = h.one_each in omega (arith, next, long));
    total_is = (let more = sum_by-append (λ x. x) found (n ∷ []) in let was = h.total_is in omega (arith, more, was));
    between = more_between;
    history = λ _. one.load.history;
    small = count_fits;
  }

pub loaded_each : (w : Counter) (i : Index) (k : ℕ) (found : List ℕ) (total : ℕ) (c d : sections.CpuView) → k ≡ c.processors → 0 < k → LoadedSoFar w i k found total c d → LoadsEach w i found total c d
loaded_each w i k found total c d all some h = record {
  row = subst (λ m. LoadsRow w i found m c d) all h.row;
  loads = as_loads c d h.loads (h.history some);
  one_each = h.one_each ∙ all;
  total_is = h.total_is;
  between = subst (λ m. IsBetween (λ h. sum_below (λ p. count_of w i p h) m) total c.seen d.seen) all h.between;
  small = h.small;
}

-- What two sums tell

-- all unlocks were loaded by the middle, and the locks from there on
module _ (i : Index) (unlocked locked : List ℕ) (ended begun : ℕ) (c m d : sections.CpuView) (u : LoadsEach counter.Unlocks i unlocked ended c m) (l : LoadsEach counter.Locks i locked begun m d) where
  wide : m.processors ≡ c.processors
  wide = u.loads.same.1

  wide_too : d.processors ≡ m.processors
  wide_too = l.loads.same.1

  least_ended : all_unlocks m.processors i c.seen ≤ ended
  least_ended = subst (λ n. all_unlocks n i c.seen ≤ ended) (sym wide) u.between.no_less

  most_ended : ended ≤ all_unlocks m.processors i m.seen
  most_ended = subst (λ n. ended ≤ all_unlocks n i m.seen) (sym wide) u.between.no_more

  middle_sums : all_unlocks m.processors i m.seen ≤ all_locks m.processors i m.seen
  middle_sums = (equal_sums m.processors i m.seen u.loads.history.legal u.loads.history.makers).0

  most_begun : begun ≤ all_locks d.processors i d.seen
  most_begun = subst (λ n. begun ≤ all_locks n i d.seen) (sym wide_too) l.between.no_more

  first_ended : all_unlocks d.processors i c.seen ≤ ended
  first_ended = subst (λ n. all_unlocks n i c.seen ≤ ended) (sym wide_too) least_ended

  pub sums_tell : Tells i ended begun c.seen d.seen
  sums_tell =
      let most = most_ended in let sums = middle_sums in let least = l.between.no_less in
      let first = first_ended in let last = most_begun in
      record {
        no_more = omega (arith, most, sums, least);
        empty = λ equal. record {
          moment = m.seen;
          since = u.loads.since;
          upto = l.loads.since;
          empty = (equal_sums m.processors i m.seen u.loads.history.legal u.loads.history.makers).1.0 (omega (arith, most, sums, least, equal));
        };
        is_open = λ fewer. open_between d.processors i c.seen d.seen (beginning_trans u.loads.since l.loads.since) l.loads.history.legal l.loads.history.makers (omega (arith, first, last, fewer));
      }

-- Holders

nothing_else : {X : Type 0} (xs ys : List X) → xs ++ ys ≡ [] → (xs ≡ []) × (ys ≡ [])
nothing_else [] ys none = (refl, none)
nothing_else (x ∷ xs) ys none = absurd cc

not_named : (p u l : ℕ) → holder_at p u l ≡ [] → l ≡ u
not_named p u l none = dite (ℕ_discrete l u)
    (λ e. e)
    (λ ne. absurd (let one : holder_at p u l ≡ record { processor = p; pair = record { locks = l; unlocks = u } } ∷ [] = ap (λ b. if b then [] else record { processor = p; pair = record { locks = l; unlocks = u } } ∷ []) (ne_eqb l u ne) in let z = sym one ∙ none in cc))

-- where nobody is named, the counters are the same
none_differing : (us ls : List ℕ) (n : ℕ) → differing us ls n ≡ [] → (p : ℕ) → p < n → get_or ls p 0 ≡ get_or us p 0
none_differing us ls zero none p lt = absurd (omega (arith, lt))
none_differing us ls (suc n) none p lt =
    let parts = nothing_else (differing us ls n) (holder_at n (get_or us n 0) (get_or ls n 0)) none in
    dite (ℕ_discrete p n)
    (λ e. subst (λ q. get_or ls q 0 ≡ get_or us q 0) (sym e) (not_named n (get_or us n 0) (get_or ls n 0) parts.1))
    (λ ne. none_differing us ls n parts.0 p (omega (arith, lt, ne)))

same_sum : (us ls : List ℕ) → length us ≡ length ls → ((p : ℕ) → p < length us → get_or ls p 0 ≡ get_or us p 0) → sum us ≡ sum ls
same_sum [] [] long each = refl
same_sum [] (l ∷ ls) long each = absurd (omega (arith, long))
same_sum (u ∷ us) [] long each = absurd (omega (arith, long))
same_sum (u ∷ us) (l ∷ ls) long each =
    let one : l ≡ u = each 0 (omega arith) in
    let rest = same_sum us ls (omega (arith, long)) (λ p lt. each (suc p) (omega (arith, lt))) in
    let a = sum_by-cons (λ x. x) u us in
    let b = sum_by-cons (λ x. x) l ls in
    omega (arith, one, rest, a, b)

-- where the sums are not the same, somebody is named
pub some_differing : (us ls : List ℕ) (n : ℕ) → length us ≡ n → length ls ≡ n → sum us < sum ls → differing us ls n ≢ []
some_differing us ls n long_us long_ls fewer none =
    let same = same_sum us ls (long_us ∙ sym long_ls) (λ p lt. none_differing us ls n none p (omega (arith, lt, long_us))) in
    omega (arith, same, fewer)

-- The counters of an index

module _ {i : Index} {unlocked locked : List ℕ} {ended begun : ℕ} {c d : sections.CpuView} (h : LoadsSums i unlocked ended locked begun c d) where
  pub each_tell : Tells i ended begun c.seen d.seen
  each_tell = sums_tell i unlocked locked ended begun c h.middle d h.unlocks h.locks

  pub each_same : IsSameCpu c d
  each_same = let u = h.unlocks.loads.same in let l = h.locks.loads.same in (l.0 ∙ u.0, l.1 ∙ u.1, l.2 ∙ u.2, l.3 ∙ u.3)

  pub many_unlocks : length unlocked ≡ c.processors
  many_unlocks = h.unlocks.one_each

  pub many_locks : length locked ≡ c.processors
  many_locks = h.locks.one_each ∙ h.unlocks.loads.same.1

  -- vectors whose places were filled
  pub filled : {A : Type 0} (v w : Vec ℕ A) → length v.items ≡ c.processors → length w.items ≡ c.processors → LoadsSums i (with_items v unlocked).items ended (with_items w locked).items begun c d
  filled v w long long_too =
      let us = with_items_is v unlocked (many_unlocks ∙ sym (v.ok.0 ∙ long)) in
      let ls = with_items_is w locked (many_locks ∙ sym (w.ok.0 ∙ long_too)) in
      subst (λ (z : List ℕ × List ℕ). LoadsSums i z.0 ended z.1 begun c d) (λ j. (sym us j, sym ls j)) h

module _ {J : Type 0} (c c' : CpuView J) (rest : c' ≡ with_cpu c'.cpu c) where
  pub counted_acts : LoadsCounters c.cpu c'.cpu → ActsAs loads c c'
  counted_acts h = does_nothing c c' rest (acting.made_none c.cpu c'.cpu h.same h.mine h.since h.later)

  pub each_acts : {i : Index} {unlocked locked : List ℕ} {ended begun : ℕ} → LoadsSums i unlocked ended locked begun c.cpu c'.cpu → ActsAs loads c c'
  each_acts h = does_nothing c c' rest (acting.made_none c.cpu c'.cpu (each_same h) (h.locks.loads.mine ∙ h.unlocks.loads.mine) (beginning_trans h.unlocks.loads.since h.locks.loads.since) (let a = h.unlocks.loads.later in let b = h.locks.loads.later in omega (arith, a, b)))

-- Who is named

module _ {i : Index} {unlocked locked : List ℕ} {ended begun : ℕ} {c d : sections.CpuView} (h : LoadsSums i unlocked ended locked begun c d) where
  pub names_some : (named : List Holder) → ended ≢ begun → named ≡ differing unlocked locked c.processors → NamesHolders i named c d
  names_some named other is = record { unlocked = unlocked; ended = ended; locked = locked; begun = begun; sums = h; none = λ equal. absurd (other equal); some = λ _. is }

module _ (i : Index) (named : List Holder) (c d : sections.CpuView) (h : NamesHolders i named c d) where
  told : Tells i h.ended h.begun c.seen d.seen
  told = sums_tell i h.unlocked h.locked h.ended h.begun c h.sums.middle d h.sums.unlocks h.sums.locks

  pub named_empty : named ≡ [] → WasEmptyIn i c.seen d.seen
  named_empty none = dite (ℕ_discrete h.ended h.begun)
      (λ equal. told.empty equal)
      (λ other.
      let fewer : h.ended < h.begun = (let no_more = told.no_more in omega (arith, no_more, other)) in
      let us = h.sums.unlocks.total_is in let ls = h.sums.locks.total_is in
      absurd (some_differing h.unlocked h.locked c.processors h.sums.unlocks.one_each (h.sums.locks.one_each ∙ h.sums.unlocks.loads.same.1) (omega (arith, fewer, us, ls)) (sym (h.some fewer) ∙ none)))

-- A domain at a glance

deeds_begin_on : {J : Type 0} {a b c : List (Deed J)} → tallies.IsBeginning a b → tallies.IsBeginning b c → tallies.IsBeginning a c
deeds_begin_on {J} {a} {b} {c} h k = begins_on h k

module _ {J : Type 0} where
  -- a note of a cookie, and then loads
  pub notes_then : (n : ℕ) (c d e : CpuView J) → ActsAs (notes n) c d → ActsAs loads d e → ActsAs (notes n) c e
  notes_then n c d e h k = then_finishes {p = c.cpu.processor} {a = notes n c.cpu.processor} {owner = 0} {count = 0} {list = None} refl (λ q away. away) h (subst (λ p. Acts p nothing d e) h.events.same.3 k)

  -- the tally words are added up
  pub totals_act : (c c' : CpuView J) → c' ≡ with_calls c'.calls c → (queued finished : ℕ) → AddsUp c.calls queued finished c'.calls → ActsAs loads c c'
  totals_act c c' rest queued finished h =
      let first : Adds (map (deed c.calls.processor) (queued_loads 0 h.queued.found)) c.calls h.between = adds_loads (queued_loads 0 h.queued.found) c.calls h.between h.queued.loads in
      let second : Adds (map (deed h.between.processor) (finished_loads 0 h.finished.found)) h.between c'.calls = adds_loads (finished_loads 0 h.finished.found) h.between c'.calls h.finished.loads in
      let same = h.queued.loads.same in
      let same_too = h.finished.loads.same in
      let p : ℕ = c.calls.processor in
      loads_deeds c c' rest (map (deed p) (queued_loads 0 h.queued.found) ++ map (deed p) (finished_loads 0 h.finished.found))
      record {
        same = (same_too.0 ∙ same.0, same_too.1 ∙ same.1, same_too.2 ∙ same.2, same_too.3 ∙ same.3);
        since = deeds_begin_on first.since second.since;
        own = subst (λ q. deeds_of q c'.calls.seen ≡ deeds_of q h.between.seen ++ map (deed q) (finished_loads 0 h.finished.found)) same.2 second.own
            ∙ (ap (λ l. l ++ map (deed p) (finished_loads 0 h.finished.found)) first.own ∙ append_assoc (deeds_of p c.calls.seen) (map (deed p) (queued_loads 0 h.queued.found)) (map (deed p) (finished_loads 0 h.finished.found)));
      }
      (both_count (map (deed p) (queued_loads 0 h.queued.found)) (map (deed p) (finished_loads 0 h.finished.found)) (queued_loads_count p 0 h.queued.found) (finished_loads_count p 0 h.finished.found))

module _ {A J : Type 0} (s : Snapshot A) (c0 c1 c2 c3 c4 c5 c6 : CpuView J) (look : sections.LookView)
    (r1 : c1 ≡ with_cpu c1.cpu c0) (r2 : c2 ≡ with_cpu c2.cpu c1) (r3 : c3 ≡ with_cpu c3.cpu c2) (r4 : c4 ≡ with_cpu c4.cpu c3) (r5 : c5 ≡ record c4 { needs = c5.needs }) (r6 : c6 ≡ with_calls c6.calls c5)
    (noted : Notes s.number c0.cpu c1.cpu) (looks : Looks c1.cpu c2.cpu look) (index : s.index ≡ look.index)
    (zero_counted : CountsEach Zero s.zero c2.cpu c3.cpu) (one_counted : CountsEach One s.one c3.cpu c4.cpu) (need : LoadsRoot c4.needs s.need c5.needs) (added : AddsUp c5.calls s.queued s.finished c6.calls) where
  needs_same : c4.needs ≡ c0.needs
  needs_same = ap (λ (z : CpuView J). z.needs) r4 ∙ (ap (λ (z : CpuView J). z.needs) r3 ∙ (ap (λ (z : CpuView J). z.needs) r2 ∙ ap (λ (z : CpuView J). z.needs) r1))

  calls_same : c5.calls ≡ c0.calls
  calls_same = ap (λ (z : CpuView J). z.calls) r5 ∙ (ap (λ (z : CpuView J). z.calls) r4 ∙ (ap (λ (z : CpuView J). z.calls) r3 ∙ (ap (λ (z : CpuView J). z.calls) r2 ∙ ap (λ (z : CpuView J). z.calls) r1)))

  turn_same : c6.turn ≡ c0.turn
  turn_same = ap (λ (z : CpuView J). z.turn) r6 ∙ (ap (λ (z : CpuView J). z.turn) r5 ∙ (ap (λ (z : CpuView J). z.turn) r4 ∙ (ap (λ (z : CpuView J). z.turn) r3 ∙ (ap (λ (z : CpuView J). z.turn) r2 ∙ ap (λ (z : CpuView J). z.turn) r1))))

  cpu_same : c6.cpu ≡ c4.cpu
  cpu_same = ap (λ (z : CpuView J). z.cpu) r6 ∙ ap (λ (z : CpuView J). z.cpu) r5

  needs_last : c6.needs ≡ c5.needs
  needs_last = ap (λ (z : CpuView J). z.needs) r6

  pub snapped : Snaps s c0 c6
  snapped = record {
    noted = c1.cpu;
    notes = noted;
    looked = c2.cpu;
    look = look;
    looks = looks;
    index = index;
    counted = c3.cpu;
    zero = zero_counted;
    one = subst (λ z. CountsEach One s.one c3.cpu z) (sym cpu_same) one_counted;
    need = subst (λ (z : FunnelView × FunnelView). LoadsRoot z.0 s.need z.1) (λ k. (needs_same k, sym needs_last k)) need;
    calls = subst (λ (z : CallSeatView J). AddsUp z s.queued s.finished c6.calls) calls_same added;
    turn = turn_same;
  }

-- what was seen before and after may be more
wider : (i : Index) (ended begun : ℕ) (a b c d : List Event) → IsBeginning a b → IsBeginning c d → Tells i ended begun b c → Tells i ended begun a d
wider i ended begun a b c d before after h = record {
  no_more = h.no_more;
  empty = λ equal. let e = h.empty equal in record { moment = e.moment; since = beginning_trans before e.since; upto = beginning_trans e.upto after; empty = e.empty };
  is_open = λ fewer. let o = h.is_open fewer in record { moment = o.moment; since = beginning_trans before o.since; upto = beginning_trans o.upto after; section = o.section; is_open = o.is_open; of_index = o.of_index };
}

pub snapshot_tells : {A J : Type 0} (s : Snapshot A) (c c' : CpuView J) → Snaps s c c' → (i : Index) → Tells i (counters_of i s).ended (counters_of i s).begun c.cpu.seen c'.cpu.seen
snapshot_tells s c c' h Zero =
    let noted = h.notes.adds in
    let first : IsBeginning c.cpu.seen h.noted.seen = beginning_trans noted.since record { rest = _; whole = noted.seen } in
    wider Zero s.zero.ended s.zero.begun c.cpu.seen h.looked.seen h.counted.seen c'.cpu.seen (beginning_trans first h.looks.load.since) (beginning_trans h.one.unlocks.loads.since h.one.locks.loads.since) (each_tell h.zero)
snapshot_tells s c c' h One =
    let noted = h.notes.adds in
    let first : IsBeginning c.cpu.seen h.noted.seen = beginning_trans noted.since record { rest = _; whole = noted.seen } in
    let second = beginning_trans h.zero.unlocks.loads.since h.zero.locks.loads.since in
    wider One s.one.ended s.one.begun c.cpu.seen h.counted.seen c'.cpu.seen c'.cpu.seen (beginning_trans first (beginning_trans h.looks.load.since second)) (beginning_refl c'.cpu.seen) (each_tell h.one)
