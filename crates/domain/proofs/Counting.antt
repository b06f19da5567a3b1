-- Adding up the counters of all processors.
use Rattle.std.proofs.Common.{◌≡◌, ℕ, zero, suc, ◌+◌, ◌≤◌, List, refl, sym, ap, ◌∙◌, subst, arith}
use mathlib.Core.Logic.{dite}
use native.Mathlib.Decide.{ℕ_discrete}
use Rattle.sseq.specs.declared.index.Index.{Index}
use Rattle.sseq.specs.declared.index.Index.TheVariants.{Zero, One}
use Rattle.onedom.proofs.CallerLemmas.{beginning_trans}
use Rattle.sections.specs.Glossary.{locks, unlocks, sum_below, all_locks, all_unlocks, opened_in, closed_in, IsSeenBy}
use Rattle.sections.specs.Views as sections
use Rattle.sections.proofs.CallerLemmas.{start_trans, locks_grow, unlocks_grow, sum_le, counters_add_up}
use Rattle.domain.specs.Glossary.{LoadsCounters, IsBetween, LoadsSums, CountsSections}

-- Loads

loads_and_loads : (c d e : sections.CpuView) → LoadsCounters c d → LoadsCounters d e → LoadsCounters c e
loads_and_loads c d e h n = record {
  same = (n.same.0 ∙ h.same.0, n.same.1 ∙ h.same.1, n.same.2 ∙ h.same.2, n.same.3 ∙ h.same.3);
  mine = n.mine ∙ h.mine;
  since = beginning_trans h.since n.since;
  later = (let a = h.later in let b = n.later in omega (arith, a, b));
  texts = start_trans h.texts n.texts;
  history = n.history;
}

-- Sums

pub sum_next : (f : ℕ → ℕ) (m : ℕ) → sum_below f (m + 1) ≡ sum_below f m + f m
sum_next f m = let next : m + 1 ≡ suc m = omega arith in ap (sum_below f) next

-- the first ones are no more than all
pub first_ones : (f : ℕ → ℕ) (m n : ℕ) → m ≤ n → sum_below f m ≤ sum_below f n
first_ones f m zero le = let none : m ≡ 0 = omega (arith, le) in subst (λ k. sum_below f k ≤ sum_below f 0) (sym none) (omega arith)
first_ones f m (suc n) le = dite (ℕ_discrete m (suc n))
    (λ e. subst (λ k. sum_below f k ≤ sum_below f (suc n)) (sym e) (omega arith))
    (λ ne. let r = first_ones f m n (omega (arith, le, ne)) in omega (arith, r))

-- One index

-- the unlock counters of an index were added up, and its lock counters
record CountsIndex (i : Index) (begun ended : ℕ) (c d : sections.CpuView) : Type 0 where
  pub loads : LoadsCounters c d
  pub begun_are : IsBetween (all_locks c.processors i) begun c.seen d.seen
  pub ended_are : IsBetween (all_unlocks c.processors i) ended c.seen d.seen

index_counted : (i : Index) (unlocked locked : List ℕ) (ended begun : ℕ) (c d : sections.CpuView) → LoadsSums i unlocked ended locked begun c d → CountsIndex i begun ended c d
index_counted i unlocked locked ended begun c d h =
    let n = c.processors in
    let m = h.middle in
    let wide : m.processors ≡ n = h.unlocks.loads.same.1 in
    let least = subst (λ z. all_locks z i m.seen ≤ begun) wide h.locks.between.no_less in
    let most = h.unlocks.between.no_more in
    let before = sum_le (λ p. locks p i c.seen) (λ p. locks p i m.seen) n (λ p. locks_grow p i h.unlocks.loads.since) in
    let after = sum_le (λ q. unlocks q i m.seen) (λ q. unlocks q i d.seen) n (λ q. unlocks_grow q i h.locks.loads.since) in
    record {
      loads = loads_and_loads c m d h.unlocks.loads h.locks.loads;
      begun_are = record { no_less = omega (arith, least, before); no_more = subst (λ z. begun ≤ all_locks z i d.seen) wide h.locks.between.no_more };
      ended_are = record { no_less = h.unlocks.between.no_less; no_more = omega (arith, most, after) };
    }

-- Both

pub sections_counted : (us ls us_too ls_too : List ℕ) (begun ended begun_too ended_too : ℕ) (c d e : sections.CpuView) → IsSeenBy c → LoadsSums Zero us ended ls begun c d → LoadsSums One us_too ended_too ls_too begun_too d e → CountsSections (begun + begun_too) (ended + ended_too) c e
sections_counted us ls us_too ls_too begun ended begun_too ended_too c d e was first_index second_index =
    let h1 = index_counted Zero us ls ended begun c d first_index in
    let h2 = index_counted One us_too ls_too ended_too begun_too d e second_index in
    let n = c.processors in
    let wide : d.processors ≡ n = h1.loads.same.1 in
    let first = counters_add_up n c.seen was.legal was.makers in
    let last = counters_add_up e.processors e.seen h2.loads.history.legal h2.loads.history.makers in
    let wide_too : e.processors ≡ n = h2.loads.same.1 ∙ wide in
    let a = h1.begun_are.no_less in
    let b = subst (λ z. all_locks z One d.seen ≤ begun_too) wide h2.begun_are.no_less in
    let g = sum_le (λ p. locks p One c.seen) (λ p. locks p One d.seen) n (λ p. locks_grow p One h1.loads.since) in
    let o = first.opened in
    let a' = h1.begun_are.no_more in
    let b' = subst (λ z. begun_too ≤ all_locks z One e.seen) wide h2.begun_are.no_more in
    let g' = sum_le (λ p. locks p Zero d.seen) (λ p. locks p Zero e.seen) n (λ p. locks_grow p Zero h2.loads.since) in
    let o' = subst (λ z. all_locks z Zero e.seen + all_locks z One e.seen ≡ opened_in e.seen) wide_too last.opened in
    let x = h1.ended_are.no_less in
    let y = subst (λ z. all_unlocks z One d.seen ≤ ended_too) wide h2.ended_are.no_less in
    let g2 = sum_le (λ q. unlocks q One c.seen) (λ q. unlocks q One d.seen) n (λ q. unlocks_grow q One h1.loads.since) in
    let k = first.closed in
    let x' = h1.ended_are.no_more in
    let y' = subst (λ z. ended_too ≤ all_unlocks z One e.seen) wide h2.ended_are.no_more in
    let g3 = sum_le (λ q. unlocks q Zero d.seen) (λ q. unlocks q Zero e.seen) n (λ q. unlocks_grow q Zero h2.loads.since) in
    let k' = subst (λ z. all_unlocks z Zero e.seen + all_unlocks z One e.seen ≡ closed_in e.seen) wide_too last.closed in
    record {
      loads = loads_and_loads c d e h1.loads h2.loads;
      middle = d;
      zero = record { unlocked = us; ended = ended; locked = ls; begun = begun; sums = first_index };
      one = record { unlocked = us_too; ended = ended_too; locked = ls_too; begun = begun_too; sums = second_index };
      opened_is = refl;
      closed_is = refl;
      opened_are = record { no_less = omega (arith, a, b, g, o); no_more = omega (arith, a', b', g', o') };
      closed_are = record { no_less = omega (arith, x, y, g2, k); no_more = omega (arith, x', y', g3, k') };
    }
