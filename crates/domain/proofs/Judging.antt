-- Who is there, and what the counts say of the history.
use Rattle.std.proofs.Common.{◌≡◌, ℕ, zero, suc, ◌+◌, ◌%◌, ◌<◌, ◌≤◌, ◌==◌, ◌||◌, cond, Bool, true, false, List, [], ◌∷◌, ◌++◌, map, take, get_or, length, Ok, Err, refl, sym, ap, ◌∙◌, subst, arith, eqb-true}
use Rattle.std.specs.Prelude.{Result, MatchResult}
use Rattle.std.specs.List.{list_any}
use Rattle.std.proofs.Math.Seq.{take-append_seam}
use mathlib.Core.Logic.{dite}
use native.Mathlib.Decide.{ℕ_discrete}
use Rattle.onedom.specs.declared.event.Event.{Event}
use Rattle.onedom.specs.Histories.{IsRunning}
use Rattle.calls.specs.declared.view.Deed.{Deed}
use Rattle.calls.specs.Tallies as deeds
use Rattle.calls.specs.Glossary.{deed, deeds_of, CallSeatView, queued_loads, finished_loads, all_queued, all_finished}
use Rattle.desk.specs.BayViews.{BaySeatView}
use Rattle.funnel.specs.Views.{FunnelView}
use Rattle.domain.proofs.Lending.{turn_same}
use Rattle.sections.specs.Views as sections
use Rattle.sections.specs.Glossary.{IsSameCpu, IsStart, sum_below}
use Rattle.sseq.specs.Numbers.{periods_ended}
use Rattle.sections.proofs.CallerLemmas.{idle_not_running, busy_running, counters_add_up}
use Rattle.domain.specs.Glossary.{InUse, Totals, Engine, DomainView, CpuView, IsOf, Each, IsHistoryOf, CountsHistory, AreAllThere, CountsInAll, AreDeedsOf, CountsCalls, IsBack, AreBack, is_there, missing_of, open_count, whole_of, IsUnused, AreTotals, IsCause, IsJudged, IsHandedBack, IsNothingLeft, IsLeft}
use Rattle.domain.specs.declared.domain.cleanup.InUse.TheVariants.{Missing, Sections, Period, Callbacks}
use Rattle.scan.specs.Stations.{TakesTurn}

-- Who is there

none_of_sum : (f : ℕ → ℕ) (n p : ℕ) → sum_below f n ≡ 0 → p < n → f p ≡ 0
none_of_sum f zero p none lt = absurd (omega (arith, lt))
none_of_sum f (suc n) p none lt = dite (ℕ_discrete p n)
    (λ e. let last : f n ≡ 0 = omega (arith, none) in ap f e ∙ last)
    (λ ne. none_of_sum f n p (omega (arith, none)) (omega (arith, lt, ne)))

abbrev missed : Bool → ℕ
missed b = cond b 0 1

is_true : (b : Bool) → missed b ≡ 0 → b ≡ true
is_true true h = refl
is_true false h = absurd (omega (arith, h))

-- a place where the test holds
one_of : {X : Type 0} (test : X → Bool) (xs : List X) → list_any test xs ≡ true → (k : ℕ) × (k < length xs) × ((d : X) → test (get_or xs k d) ≡ true)
one_of test [] h = absurd cc
one_of test (x ∷ xs) h = by_first (test x) refl (λ rest. one_of test xs rest)
  where
    by_first : (b : Bool) → test x ≡ b → (list_any test xs ≡ true → (k : ℕ) × (k < length xs) × ((d : _) → test (get_or xs k d) ≡ true)) → (k : ℕ) × (k < length (x ∷ xs)) × ((d : _) → test (get_or (x ∷ xs) k d) ≡ true)
    by_first true is later = (0, omega arith, λ d. is)
    by_first false is later =
        let rest : list_any test xs ≡ true = sym (ap (λ b. b || list_any test xs) is) ∙ h in
        let found = later rest in
        let lt = found.1 in
        (suc found.0, omega (arith, lt), found.2)

module _ {J : Type 0} where
  pub all_there : (d : DomainView) (cpus : List (CpuView J)) → missing_of d.processors cpus ≡ 0 → AreAllThere d cpus
  all_there d cpus none p lt =
      let is : is_there p cpus ≡ true = is_true (is_there p cpus) (none_of_sum (λ q. missed (is_there q cpus)) d.processors p none lt) in
      let found = one_of (λ (c : CpuView J). c.cpu.processor == p) cpus is in
      (found.0, found.1, λ c. eqb-true (get_or cpus found.0 c).cpu.processor p (found.2 c))

-- What the counts say

module _ {J : Type 0} (d : DomainView) (cpus : List (CpuView J)) (history : List Event) (all : List (Deed J)) (t : Totals) (number : ℕ) (of_all : IsHistoryOf d cpus history)
    (counts : CountsHistory history t.opened t.closed number) (queued : t.queued ≡ all_queued d.processors all) (finished : t.finished ≡ all_finished d.processors all) where
  open_is : t.closed + open_count history ≡ t.opened
  open_is =
      let law = (counters_add_up d.processors history of_all.legal of_all.makers).still_open in
      let o = counts.opened_are in
      let k = counts.closed_are in
      omega (arith, law, o, k)

  rests_there : number % 4 ≡ 0 → ¬ IsRunning history
  rests_there rests = let n = counts.number_is in idle_not_running counts.changes history (omega (arith, n, rests)) counts.reaches

  causes : (cause : InUse) → IsLeft t number cause → IsCause (whole_of d.processors history all) cause
  causes (Missing n) h = h
  causes (Sections n) h = let is = open_is in let left = h.0 in (omega (arith, is, left), h.1)
  causes Period h =
      let is = open_is in
      let left = h.0 in
      let n = counts.number_is in
      let some = h.1 in
      (omega (arith, is, left), busy_running counts.changes history (omega (arith, n, some)) counts.reaches)
  causes (Callbacks n) h = let is = open_is in let left = h.0 in let waiting = h.2 in (omega (arith, is, left), rests_there h.1, omega (arith, queued, finished, waiting), h.3)

  says : t.periods ≡ periods_ended number → (answer : Result Totals InUse) → MatchResult answer (λ u. (u ≡ t) × IsNothingLeft t number) (λ cause. IsLeft t number cause)
      → MatchResult answer (λ u. IsUnused (whole_of d.processors history all) × AreTotals (whole_of d.processors history all) u) (IsCause (whole_of d.processors history all))
  says periods (Ok u) h =
      let nothing = h.1 in
      let is = open_is in
      let left = nothing.closed in
      let run = nothing.finished in
      let n = counts.number_is in
      let e = counts.reaches.ended in (
        record { closed = omega (arith, is, left); rests = rests_there nothing.rests; run = omega (arith, queued, finished, run) },
        subst (λ (z : Totals). AreTotals (whole_of d.processors history all) z) (sym h.0) record { opened = counts.opened_are; closed = counts.closed_are; queued = queued; finished = finished; periods = omega (arith, periods, n, e) },
      )
  says periods (Err cause) h = causes cause h

module _ {J : Type 0} where
  -- no more sections have ended than were begun
  pub no_more_closed : (d : DomainView) (cpus cpus' : List (CpuView J)) (opened closed number : ℕ) → CountsInAll d cpus opened closed number cpus' → closed ≤ opened
  no_more_closed d cpus cpus' opened closed number h =
      let law = (counters_add_up d.processors h.history h.of_all.legal h.of_all.makers).still_open in
      let o = h.counts.opened_are in
      let k = h.counts.closed_are in
      omega (arith, law, o, k)

-- One count and then the other

module _ {J : Type 0} (d : DomainView) (cpus between : List (CpuView J)) (opened closed number : ℕ) (h : CountsInAll d cpus opened closed number between) where
  pub still_here : Each (IsOf d) between
  still_here k x lt = let count = h.back.count in (h.back.each k x (omega (arith, lt, count))).here

  pub still_there : AreAllThere d cpus → AreAllThere d between
  still_there there p lt =
      let one = there p lt in
      let inside = one.1 in
      let count = h.back.count in
      (one.0, omega (arith, inside, count), λ x. (h.back.each one.0 x inside).same.3 ∙ one.2 x)

  module _ (cpus' : List (CpuView J)) (queued finished : ℕ) (k : CountsCalls d between queued finished cpus') (some : 0 < length cpus) where
    as_long : length cpus' ≡ length cpus
    as_long = k.back.count ∙ h.back.count

    in_between : (n : ℕ) → n < length cpus → n < length between
    in_between n lt = let count = h.back.count in omega (arith, lt, count)

    deeds_of_all : AreDeedsOf d cpus k.all
    deeds_of_all = record {
      since = λ n x lt. subst (λ (z : CallSeatView J). deeds.IsBeginning z.seen k.all) (h.back.each n x lt).calls (k.of_all.since n x (in_between n lt));
      true = k.of_all.true;
      takers = k.of_all.takers;
      one_each = k.of_all.one_each;
      queued = k.of_all.queued;
      finished = k.of_all.finished;
      first = λ x. subst (λ (z : CallSeatView J). deeds_of z.processor k.all ≡ deeds_of z.processor z.seen ++ map (deed z.processor) (queued_loads 0 k.of_all.queued ++ finished_loads 0 k.of_all.finished)) (h.back.each 0 x some).calls (k.of_all.first x);
      others = λ n x positive lt. subst (λ (z : CallSeatView J). deeds_of z.processor k.all ≡ deeds_of z.processor z.seen) (h.back.each n x lt).calls (k.of_all.others n x positive (in_between n lt));
    }

    each_back : (n : ℕ) (x : CpuView J) → n < length cpus → IsBack d h.history k.all (get_or cpus n x) (get_or cpus' n x)
    each_back n x lt =
        let a = h.back.each n x lt in
        let b = k.back.each n x (in_between n lt) in
        let cpu = ap (λ (z : CpuView J). z.cpu) b.rest in
        record {
          here = b.here;
          same = subst (λ (z : sections.CpuView). IsSameCpu (get_or cpus n x).cpu z) (sym cpu) a.same;
          mine = ap (λ (z : sections.CpuView). z.mine) cpu ∙ a.mine;
          seen = ap (λ (z : sections.CpuView). z.seen) cpu ∙ a.seen;
          texts = subst (λ (z : sections.CpuView). IsStart (get_or cpus n x).cpu.texts z.texts) (sym cpu) a.texts;
          needs = ap (λ (z : CpuView J). z.needs) b.rest ∙ a.needs;
          calls = b.calls ∙ ap (λ (z : CallSeatView J). record z { seen = k.all }) a.calls;
        }

    turn_still : (n : ℕ) (x : CpuView J) → n < length cpus → (get_or cpus' n x).turn ≡ (get_or between n x).turn
    turn_still n x lt = ap (λ (z : CpuView J). z.turn) (k.back.each n x (in_between n lt)).rest

    are_back : AreBack d h.history k.all cpus cpus'
    are_back = record {
      count = as_long;
      each = each_back;
      found = h.back.found;
      left = h.back.left;
      rest = h.back.rest;
      same = h.back.same;
      mine = h.back.mine;
      changes = h.back.changes;
      seen = h.back.seen;
      first = λ x. subst (λ (z : BaySeatView Engine). TakesTurn (get_or cpus 0 x).turn h.back.found h.back.left z) (sym (turn_still 0 x some)) (h.back.first x);
      others = λ n x positive lt. turn_still n x lt ∙ h.back.others n x positive lt;
    }

    pub judged : (periods : ℕ) (answer : Result Totals InUse) → periods ≡ periods_ended number
        → MatchResult answer (λ u. (u ≡ record { opened = opened; closed = closed; queued = queued; finished = finished; periods = periods }) × IsNothingLeft (record { opened = opened; closed = closed; queued = queued; finished = finished; periods = periods }) number)
        (λ cause. IsLeft (record { opened = opened; closed = closed; queued = queued; finished = finished; periods = periods }) number cause)
        → IsJudged d cpus answer cpus'
    judged periods answer periods_are is = record {
      history = h.history;
      of_all = h.of_all;
      all = k.all;
      deeds_of_all = deeds_of_all;
      says = says d cpus h.history k.all (record { opened = opened; closed = closed; queued = queued; finished = finished; periods = periods }) number h.of_all h.counts k.queued_are k.finished_are periods_are answer is;
      back = are_back;
    }

-- All is handed back

-- the items as they are kept, all of them
pub all_kept : {X : Type 0} (n : ℕ) (items rest : List X) → n ≡ length items → take n (items ++ rest) ≡ items
all_kept n items rest same = ap (λ k. take k (items ++ rest)) same ∙ take-append_seam items rest

module _ {J : Type 0} where
  pub nothing_changed : (d : DomainView) (cpus : List (CpuView J)) → Each (IsOf d) cpus → IsHandedBack d cpus d cpus
  nothing_changed d cpus here = record { domain = refl; count = refl; here = here; same = λ k c lt. record { cpu = (refl, refl, refl, refl); needs = record { domain = refl; shape = refl; holder = refl }; turn = refl; calls = (refl, refl, refl, refl) } }

module _ {J : Type 0} (d : DomainView) (history : List Event) (all : List (Deed J)) (cpus cpus' : List (CpuView J)) (h : AreBack d history all cpus cpus') where
  turn_same_seat : (k : ℕ) (c : CpuView J) → k < length cpus → (get_or cpus' k c).turn ≡ record (get_or cpus k c).turn { seen = (get_or cpus' k c).turn.seen }
  turn_same_seat zero c lt = let t = h.first c in turn_same _ h.found h.left t.took _ t.takes t.puts
  turn_same_seat (suc k) c lt = let same = h.others (suc k) c (omega arith) lt in same ∙ (λ i. record (get_or cpus (suc k) c).turn { seen = (sym same i).seen })

  pub handed_back : IsHandedBack d cpus d cpus'
  handed_back = record {
    domain = refl;
    count = h.count;
    here = λ k c lt. let count = h.count in (h.each k c (omega (arith, lt, count))).here;
    same = λ k c lt. let e = h.each k c lt in record {
      cpu = e.same;
      needs = record { domain = ap (λ (z : FunnelView). z.domain) e.needs; shape = ap (λ (z : FunnelView). z.shape) e.needs; holder = ap (λ (z : FunnelView). z.holder) e.needs };
      turn = turn_same_seat k c lt;
      calls = (ap (λ (z : CallSeatView J). z.tallies) e.calls, ap (λ (z : CallSeatView J). z.processors) e.calls, ap (λ (z : CallSeatView J). z.processor) e.calls, ap (λ (z : CallSeatView J). z.domain) e.calls);
    };
  }
