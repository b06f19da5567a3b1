-- A place is left as it is by what the engine only sees.
use Rattle.std.proofs.Common.{◌≡◌, ℕ, ◌+◌, ◌*◌, ◌≤◌, List, [], ◌∷◌, ◌++◌, refl, sym, ap, ◌∙◌, subst, arith}
use Rattle.sseq.specs.declared.index.Index.{Index}
use Rattle.sseq.specs.Indexes.{low_bit}
use Rattle.onedom.specs.declared.event.Event.{Event}
use Rattle.onedom.specs.Histories.{starts_in, WasEmpty, IsBeginning}
use Rattle.onedom.proofs.CallerLemmas.{beginning_trans, empty_grows}
use Rattle.sections.specs.declared.view.Step.{Step}
use Rattle.sections.specs.declared.view.Step.TheVariants.{LoadIndex}
use Rattle.sections.specs.Glossary.{index_word, locks, unlocks, sum_below, all_unlocks, IsIdle, CpuView, EngineView, IsSeenByEngine, IsSameEngine, TiesEngine}
use Rattle.sections.proofs.CallerLemmas.{sum_le, unlocks_grow, locks_grow, starts_mine}
use Rattle.scan.specs.Glossary.{Place, not_current, so_far, wanted, began, rests_at, seen_at_load, BeganScan, InUnlocks, InLocks, IsAt, counter_loads, with_seat}
use Rattle.scan.specs.declared.place.Place.TheVariants.{Idle, Wanted, Unlocks, Locks, Passed, Flipped}
use Rattle.scan.proofs.Scans.{same_scanned, no_start, still_scanning, began_still, seen_still}

-- only loads were made, and none of a counter
pub record OnlySees (e f : EngineView) : Type 0 where
  pub same : IsSameEngine e f
  pub seen : IsSeenByEngine e
  pub history : IsSeenByEngine f
  pub since : IsBeginning e.seen f.seen
  pub changes : f.changes ≡ e.changes
  pub extra : List Step
  pub steps : f.steps ≡ e.steps ++ extra
  pub none : counter_loads extra ≡ 0

-- a tie is a load, and then a processor is noted
pub ties_only : (e f : EngineView) (c d : CpuView) → IsSeenByEngine e → TiesEngine e c f d → OnlySees e f
ties_only e f c d seen h = subst (λ z. OnlySees e z) (sym h.notes) record {
  same = h.covers.step.same;
  seen = seen;
  history = h.covers.step.history;
  since = h.covers.step.since;
  changes = h.covers.step.changes_are;
  extra = LoadIndex h.covers.value ∷ [];
  steps = h.covers.step.steps;
  none = refl;
}

module _ (e f : EngineView) (h : OnlySees e f) where
  scanned_still : not_current f.changes ≡ not_current e.changes
  scanned_still = same_scanned e f h.seen h.history h.since h.changes

  began_on : (k : ℕ) (first : List Event) → BeganScan k e first → BeganScan k f first
  began_on k first b = subst (λ n. BeganScan n f first) (omega arith) (began_still e f h.seen h.history h.since h.changes k 0 first h.extra h.steps h.none b)

  unlocks_on : (p ended : ℕ) → InUnlocks e p ended → InUnlocks f p ended
  unlocks_on p ended at = record {
    scanning = still_scanning e f h.seen h.history h.since h.changes at.scanning;
    there = let there = at.there in let same = h.same.1 in omega (arith, there, same);
    began = λ some. let b = at.began some in (b.0, began_on p b.0 b.1, subst (λ i. sum_below (λ q. unlocks q i b.0) p ≤ ended) (sym scanned_still) b.2);
    most = subst (λ i. ended ≤ sum_below (λ q. unlocks q i f.seen) p) (sym scanned_still)
        (let most = at.most in let grown = sum_le (λ q. unlocks q (not_current e.changes) e.seen) (λ q. unlocks q (not_current e.changes) f.seen) p (λ q. unlocks_grow q (not_current e.changes) h.since) in omega (arith, most, grown));
  }

  locks_on : (p ended begun : ℕ) → InLocks e p ended begun → InLocks f p ended begun
  locks_on p ended begun at = let same : f.processors ≡ e.processors = h.same.1 in let both : ◌≡◌ {A = ℕ × Index} (f.processors, not_current f.changes) (e.processors, not_current e.changes) = λ k. (same k, scanned_still k) in record {
    scanning = still_scanning e f h.seen h.history h.since h.changes at.scanning;
    there = let there = at.there in omega (arith, there, same);
    first = at.first;
    middle = at.middle;
    began = subst (λ n. BeganScan (n + p) f at.first) (sym same) (began_on (e.processors + p) at.first at.began);
    in_order = at.in_order;
    seen = beginning_trans at.seen h.since;
    since_start = at.since_start ∙ no_start e f h.seen h.history h.since h.changes;
    ended_least = subst (λ (z : ℕ × Index). all_unlocks z.0 z.1 at.first ≤ ended) (sym both) at.ended_least;
    ended_most = subst (λ (z : ℕ × Index). ended ≤ all_unlocks z.0 z.1 at.middle) (sym both) at.ended_most;
    begun_least = subst (λ i. sum_below (λ q. locks q i at.middle) p ≤ begun) (sym scanned_still) at.begun_least;
    begun_most = subst (λ i. begun ≤ sum_below (λ q. locks q i f.seen) p) (sym scanned_still)
        (let most = at.begun_most in let grown = sum_le (λ q. locks q (not_current e.changes) e.seen) (λ q. locks q (not_current e.changes) f.seen) p (λ q. locks_grow q (not_current e.changes) h.since) in omega (arith, most, grown));
  }

  empty_on : (i : Index) → WasEmpty i e.seen → WasEmpty i f.seen
  empty_on i empty = empty_grows i h.since (no_start e f h.seen h.history h.since h.changes) empty

  pub at_still : (p : Place) → IsAt e p → IsAt f p
  at_still Idle at = let same = h.changes in omega (arith, at, same)
  at_still (Wanted n) at = let idle = at.0 in let room = at.1 in let below = at.2 in let same = h.changes in let periods = h.same.2 in (omega (arith, idle, same), omega (arith, room, same, periods), omega (arith, below, same))
  at_still (Unlocks p ended) at = unlocks_on p ended at
  at_still (Locks p ended begun) at = locks_on p ended begun at
  at_still Passed at = record { scanning = still_scanning e f h.seen h.history h.since h.changes at.scanning; empty = subst (λ i. WasEmpty i f.seen) (sym scanned_still) (empty_on (not_current e.changes) at.empty) }
  at_still (Flipped i) at = let same = h.changes in let flipping = at.flipping in record { flipping = omega (arith, flipping, same); index = at.index ∙ ap (λ c. low_bit (index_word c)) (sym same); empty = empty_on i at.empty }

  -- the scan that is half done began when it did
  seen_at_load_still : (loads loads' : ℕ) → loads' ≡ loads → seen_at_load loads' f.steps ≡ seen_at_load loads e.steps
  seen_at_load_still loads loads' is = ap (λ k. seen_at_load k f.steps) is ∙ (ap (seen_at_load loads) h.steps ∙ seen_still loads e.steps h.extra h.none)

  began_still_there : (place : Place) → began f place ≡ began e place
  began_still_there Idle = refl
  began_still_there (Wanted n) = refl
  began_still_there (Unlocks p ended) = seen_at_load_still p p refl
  began_still_there (Locks p ended begun) = seen_at_load_still (e.processors + p) (f.processors + p) (ap (λ n. n + p) h.same.1)
  began_still_there Passed = seen_at_load_still (2 * e.processors) (2 * f.processors) (ap (λ n. 2 * n) h.same.1)
  began_still_there (Flipped i) = seen_at_load_still (2 * e.processors) (2 * f.processors) (ap (λ n. 2 * n) h.same.1)

  pub rests_still : (place : Place) → rests_at f place ≡ with_seat f (rests_at e place)
  rests_still place = λ k. record { seat = f; need = wanted place; so_far = so_far (h.same.1 k) place; began = began_still_there place k }

-- a seat that made no event has started no period
pub untouched : (e : EngineView) → IsSeenByEngine e → e.mine ≡ [] → IsIdle e.changes
untouched e seen none =
    let starts : starts_in e.seen ≡ 0 = sym (starts_mine e.processors e.seen seen.makers) ∙ ap starts_in (sym seen.own ∙ none) in
    let started = seen.reaches.started in omega (arith, starts, started)
