-- Taking the domain in one hand down: nothing is missing, what was done in all is what all have seen, and behind a refusal they meet again.
use Rattle.std.proofs.Common.{◌≡◌, ℕ, zero, suc, ◌+◌, ◌%◌, ◌<◌, ◌≤◌, ◌==◌, if◌then◌else◌, inl, Bool, true, map, sum, List, [], ◌∷◌, ◌++◌, length, get_or, set, refl, sym, ap, ◌∙◌, subst, arith, append-nil, eq-eqb}
use Rattle.solo.proofs.Words.{All, length-map, map-append, get_or_default, set-get_or, Maker, Processor, Engine, Event, IsBeginning, IsRunning, made_by, beginning_refl, Limits, sum_below, HasItsMaker, IsCount, bounds_of, IsSameEngine, IsStart, start_trans, raised_by, greatest, number_at_rest}
use Rattle.solo.proofs.Words.{with_seat, Deed, deed, queued_in, finished_in, deeds_of, AreTakers, CallSeatView, queued_loads, finished_loads, added, all_queued, all_finished, InUse, Totals, DomainView, CpuView as DomainCpu, IsOf, new_cpu, TakesTurn, IsAllOf, EngineMeets, TalliesMeet, MeetsHere}
use Rattle.solo.proofs.Words.{IsHistoryOf, AreDeedsOf, AreBack, is_there, missing_of, IsUnused, AreTotals, IsCause, IsHandedBack, all_the_same, CountsNothing, nothing_done, adds_none, queued_loads_count, finished_loads_count, both_count, SoloView, View, AllHold, AskTogether, TurnTogether}
use Rattle.solo.proofs.Words.{TallyTogether, HaveMet, queued_on, finished_on, seen_first, shelf_of}
use Rattle.std.proofs.lemmas.List.Sums.{sum_by-cons}
use Rattle.std.proofs.lemmas.List.Folds.{list_any_at}
use Rattle.funnel.specs.Histories as tree
use Rattle.funnel.proofs.CallerLemmas.{begins_itself}
use Rattle.calls.specs.Tallies as tallies
use Rattle.domain.specs.declared.domain.cleanup.InUse.TheVariants.{Missing, Sections, Period, Callbacks}
use Rattle.domain.specs.Cleanup as cleanup
use Rattle.solo.specs.Cleanup.{whole_of, IsTakenDown, IsInUse}
use Rattle.solo.proofs.NothingBetween.{IsMaker, nothing_between}
use Rattle.solo.proofs.Shelving.{shelf_stays}
use Rattle.solo.proofs.Turning.{turn_turned}
use Rattle.solo.proofs.Settled.{HaveAsked, IsSettled, settled, asked_together}
use Rattle.solo.proofs.Tallying.{GoesOnBy, KeepCalls, IsTallied, still_queued, still_finished, count_at, calls_stay, tallied}
use Rattle.solo.proofs.Hand.{first_seen, view, now_is}

-- Counts of all processors together

sum_is : (count : ℕ → ℕ) (p : ℕ) (ns : List ℕ) → ((k : ℕ) → k < length ns → get_or ns k 0 ≡ count (p + k)) → sum ns ≡ added count p (length ns)
sum_is count p [] each = refl
sum_is count p (x ∷ xs) each =
    let first : x ≡ count p = each 0 (omega arith) ∙ ap count (let e : p + 0 ≡ p = omega arith in e) in
    let rest = sum_is count (p + 1) xs (λ k lt. each (suc k) (omega (arith, lt)) ∙ ap count (let e : p + suc k ≡ p + 1 + k = omega arith in e)) in
    let cut = sum_by-cons (λ z. z) x xs in
    omega (arith, first, rest, cut)

abbrev missed : Bool → ℕ
missed b = if b then 0 else 1

module _ {J : Type 0} where
  -- a processor that is there is not missing
  none_missed : (cpus : List (DomainCpu J)) (nobody : DomainCpu J) → ((k : ℕ) → k < length cpus → (get_or cpus k nobody).cpu.processor ≡ k) → (m : ℕ) → m ≤ length cpus → sum_below (λ p. if is_there p cpus then 0 else 1) m ≡ 0
  none_missed cpus nobody order zero le = refl
  none_missed cpus nobody order (suc m) le =
      let before = none_missed cpus nobody order m (omega (arith, le)) in
      let there : is_there m cpus ≡ true = list_any_at (λ c. c.cpu.processor == m) cpus m nobody (omega (arith, le)) (eq-eqb (get_or cpus m nobody).cpu.processor m (order m (omega (arith, le)))) in
      let none : missed (is_there m cpus) ≡ 0 = ap missed there in
      omega (arith, before, none)

  -- the domain has as many processors as are in hand
  processors_are : (d : DomainView) (limits : Limits) (cpus : List (DomainCpu J)) (v : View) → HaveMet d limits cpus v → d.processors ≡ length cpus
  processors_are d limits [] v met = let some = met.all.some in absurd (omega (arith, some))
  processors_are d limits (c ∷ cpus) v met = sym (met.all.here 0 c met.all.some).many ∙ met.all.count 0 c met.all.some

  module _ (d : DomainView) (limits : Limits) (cpus : List (DomainCpu J)) (lay : View) (met : HaveMet d limits cpus lay) (seen : SoloView J) (seen_is : seen_first d limits cpus ≡ seen) where
    abbrev nobody : DomainCpu J
    nobody = new_cpu d (bounds_of 0 limits) (record { processors = 0; nodes = 0 }) 0

    some : 0 < length cpus
    some = met.all.some

    many : d.processors ≡ length cpus
    many = processors_are d limits cpus lay met

    all_there : missing_of d.processors cpus ≡ 0
    all_there = none_missed cpus nobody (λ k lt. met.all.order k nobody lt) d.processors (let is = many in omega (arith, is))

    view_is : seen ≡ view d limits cpus lay met
    view_is = now_is d limits cpus lay met seen seen_is

    -- What was done in all

    module _ (history : List Event) (of_all : IsHistoryOf d cpus history) where
      each_made : (m : Maker) → IsMaker (length cpus) m → made_by m history ≡ made_by m lay.seat.seen
      each_made (Processor k) lt =
          let held = met.together.hold.each k nobody lt in
          ap (λ q. made_by (Processor q) history) (sym held.processor) ∙ (of_all.own k nobody lt ∙ held.mine)
      each_made Engine is = of_all.engine nobody ∙ ap (made_by Engine) (met.together.seen of_all.one nobody of_all.there)

      pub history_is : history ≡ lay.seat.seen
      history_is =
          let same = append-nil lay.seat.seen in
          let since : IsBeginning lay.seat.seen history = subst (λ l. IsBeginning l history) (met.together.seen 0 nobody some) (of_all.since 0 nobody some) in
          (nothing_between (length cpus) lay.seat.seen [] [] history (subst (λ l. IsBeginning l history) (sym same) since) (subst (λ n. All (HasItsMaker n) history) many of_all.makers) (λ m is. ap length (each_made m is ∙ ap (made_by m) (sym same)))).1 ∙ same

      seen_history : history ≡ seen.course.standing.history
      seen_history = history_is ∙ sym (ap (λ (x : SoloView J). x.course.standing.history) view_is)

    module _ (deeds : List (Deed J)) (of_all : AreDeedsOf d cpus deeds) where
      abbrev counting : List (Deed J)
      counting = map (deed 0) (queued_loads 0 of_all.queued ++ finished_loads 0 of_all.finished)

      counts_nothing : CountsNothing counting
      counts_nothing = subst (λ l. CountsNothing l) (sym (map-append (deed 0) (queued_loads 0 of_all.queued) (finished_loads 0 of_all.finished)))
          (both_count (map (deed 0) (queued_loads 0 of_all.queued)) (map (deed 0) (finished_loads 0 of_all.finished)) (queued_loads_count 0 0 of_all.queued) (finished_loads_count 0 0 of_all.finished))

      goes_by_first : GoesOnBy (length cpus) 0 met.deeds counting deeds
      goes_by_first = record {
        since = subst (λ (s : CallSeatView J). tallies.IsBeginning s.seen deeds) (met.tally_together.seats 0 nobody some) (of_all.since 0 nobody some);
        own = subst (λ (s : CallSeatView J). deeds_of s.processor deeds ≡ deeds_of s.processor s.seen ++ map (deed s.processor) (queued_loads 0 of_all.queued ++ finished_loads 0 of_all.finished)) (met.tally_together.seats 0 nobody some) (of_all.first nobody);
        others = λ q lt other. subst (λ (s : CallSeatView J). deeds_of s.processor deeds ≡ deeds_of s.processor s.seen) (met.tally_together.seats q nobody lt) (of_all.others q nobody (omega (arith, other)) lt);
        takers = subst (λ n. AreTakers n deeds) many of_all.takers;
      }

      pub same_queued : (k : ℕ) → k < length cpus → queued_in k deeds ≡ queued_in k met.deeds
      same_queued = still_queued (length cpus) 0 met.deeds counting deeds goes_by_first counts_nothing

      pub same_finished : (k : ℕ) → finished_in k deeds ≡ finished_in k met.deeds
      same_finished = still_finished (length cpus) 0 met.deeds counting deeds goes_by_first counts_nothing

      queued_sum : all_queued d.processors deeds ≡ sum seen.course.queued
      queued_sum =
          let long : length (queued_on cpus) ≡ length cpus = length-map cpus (λ c. queued_in c.calls.processor c.calls.seen) in
          ap (λ n. all_queued n deeds) (many ∙ sym long) ∙ (sym (sum_is (λ p. queued_in p deeds) 0 (queued_on cpus) (λ k lt. let there : k < length cpus = omega (arith, lt, long) in count_at 0 queued_in d met.deeds cpus met.tally_together k there ∙ (sym (same_queued k there) ∙ ap (λ q. queued_in q deeds) (let e : k ≡ 0 + k = omega arith in e)))) ∙ sym (ap (λ (x : SoloView J). sum x.course.queued) view_is))

      finished_sum : all_finished d.processors deeds ≡ sum seen.course.finished
      finished_sum =
          let long : length (finished_on cpus) ≡ length cpus = length-map cpus (λ c. finished_in c.calls.processor c.calls.seen) in
          ap (λ n. all_finished n deeds) (many ∙ sym long) ∙ (sym (sum_is (λ p. finished_in p deeds) 0 (finished_on cpus) (λ k lt. let there : k < length cpus = omega (arith, lt, long) in count_at 0 finished_in d met.deeds cpus met.tally_together k there ∙ (sym (same_finished k) ∙ ap (λ q. finished_in q deeds) (let e : k ≡ 0 + k = omega arith in e)))) ∙ sym (ap (λ (x : SoloView J). sum x.course.finished) view_is))

    -- Totals, and why it is in use

    whole_is : (history : List Event) (deeds : List (Deed J)) → IsHistoryOf d cpus history → AreDeedsOf d cpus deeds → cleanup.whole_of d.processors history deeds ≡ whole_of seen.course
    whole_is history deeds of_all deeds_of_all = λ i. record { history = seen_history history of_all i; queued = queued_sum deeds deeds_of_all i; finished = finished_sum deeds deeds_of_all i }

    pub taken_down : (t : Totals) → cleanup.IsTakenDown d cpus t → IsTakenDown seen.course t
    taken_down t h =
        let same = whole_is h.history h.all h.of_all h.deeds_of_all in
        record { unused = subst IsUnused same h.unused; totals = subst (λ w. AreTotals w t) same h.totals }

    pub refused_is : (cause : InUse) (dm : DomainView) (mid : List (DomainCpu J)) → cleanup.IsRefused d cpus cause dm mid → cleanup.IsInUse d cpus cause dm mid
    refused_is (Missing n) dm mid h = let none = all_there in let is = h.0 in let some = h.1 in absurd (omega (arith, none, is, some))
    refused_is (Sections n) dm mid h = h
    refused_is Period dm mid h = h
    refused_is (Callbacks n) dm mid h = h

    pub in_use : (cause : InUse) (dm : DomainView) (mid : List (DomainCpu J)) → cleanup.IsRefused d cpus cause dm mid → IsInUse seen.course cause
    in_use cause dm mid h = let r = refused_is cause dm mid h in subst (λ w. IsCause w cause) (whole_is r.history r.all r.of_all r.deeds_of_all) r.is

    -- all come back
    pub handed_back : (dm : DomainView) (mid : List (DomainCpu J)) → dm ≡ d → IsHandedBack d cpus dm mid → IsAllOf dm mid
    handed_back dm mid same h = subst (λ (z : DomainView). IsAllOf z mid) (sym same) (all_the_same d cpus mid h.count h.same (subst (λ (z : DomainView). (k : ℕ) (c : DomainCpu J) → k < length cpus → IsOf z (get_or mid k c)) same (λ k c lt. h.here k c (let long = h.count in omega (arith, long, lt)))) met.all)

    -- Then they meet

    module _ (history : List Event) (of_all : IsHistoryOf d cpus history) (deeds : List (Deed J)) (deeds_of_all : AreDeedsOf d cpus deeds) (mid : List (DomainCpu J)) (h : AreBack d history deeds cpus mid) (engine : IsSameEngine h.found.seat h.left.seat) (d' : DomainView) (cpus' : List (DomainCpu J)) (all : IsAllOf d' cpus') (meets : MeetsHere mid cpus') where
      within : (k : ℕ) → k < length mid → k < length cpus
      within k lt = let long = h.count in omega (arith, long, lt)

      within_mid : (k : ℕ) → k < length cpus → k < length mid
      within_mid k lt = let long = h.count in omega (arith, long, lt)

      turn : TakesTurn (get_or cpus 0 nobody).turn h.found h.left (get_or mid 0 nobody).turn
      turn = h.first nobody

      turns : (h.found ≡ lay) × (meets.found ≡ h.left) × TurnTogether meets.turns.swaps cpus' meets.left
      turns = turn_turned met.swaps cpus mid lay met.turn_together some h.count h.others cpus' meets.found meets.left meets.turns meets.count nobody h.found h.left turn

      engine_meets : EngineMeets h.left.seat mid meets.left.seat cpus'
      engine_meets = subst (λ (z : View). EngineMeets z.seat mid meets.left.seat cpus') turns.1 meets.engine

      engine_is : IsSameEngine lay.seat h.left.seat
      engine_is = subst (λ (z : View). IsSameEngine z.seat h.left.seat) turns.0 engine

      whole : lay.seat.seen ++ [] ≡ lay.seat.seen
      whole = append-nil lay.seat.seen

      hold : AllHold limits (lay.seat.seen ++ []) mid h.left.seat
      hold = record {
        in_range = met.together.hold.in_range;
        periods = engine_is.2 ∙ met.together.hold.periods;
        count = subst IsCount (sym engine_is.1) met.together.hold.count;
        all = h.count ∙ (met.together.hold.all ∙ sym engine_is.1);
        engine = h.mine ∙ (ap (λ (z : View). z.seat.mine) turns.0 ∙ (met.together.hold.engine ∙ ap (made_by Engine) (sym whole)));
        each = λ k c lt.
            let was = met.together.hold.each k c (within k lt) in
            let b = h.each k c (within k lt) in record {
              domain = b.same.0 ∙ (was.domain ∙ sym engine_is.0);
              processors_are = b.same.1 ∙ (was.processors_are ∙ sym engine_is.1);
              sections = b.same.2 ∙ was.sections;
              processor = b.same.3 ∙ was.processor;
              mine = b.mine ∙ (was.mine ∙ ap (made_by (Processor k)) (sym whole));
            };
      }

      acted : IsSettled limits lay.seat.seen [] [] cpus' meets.left.seat
      acted = settled mid cpus' h.left.seat meets.left.seat meets.count engine_meets nobody limits lay.seat.seen [] [] (record { hold = hold; seen = inl (subst (λ l. IsBeginning l h.left.seat.seen) (h.seen ∙ (history_is history of_all ∙ sym whole)) (beginning_refl h.left.seat.seen)) })

      -- The tree

      have_asked : HaveAsked 0 met.raises [] mid
      have_asked = record {
        mine = λ k c lt. ap (λ n. n.mine) (h.each k c (within k lt)).needs ∙ (met.ask_together.mine k c (within k lt) ∙ ap (raised_by k) (sym (append-nil met.raises)));
        inside = within_mid 0 some;
        own = refl;
        others = λ q other. refl;
        since = λ c. subst (λ l. tree.IsBeginning met.raises l) (sym (ap (λ n. n.seen) (h.each 0 c some).needs ∙ met.ask_together.seen 0 c some)) (begins_itself met.raises);
      }

      asking : (meets.needs.raises ≡ met.raises ++ []) × AskTogether meets.needs.raises cpus'
      asking = asked_together d' mid cpus' all meets.count meets.needs nobody 0 met.raises [] have_asked

      same_asked : greatest meets.needs.raises ≡ greatest met.raises
      same_asked = ap greatest (asking.0 ∙ append-nil met.raises)

      -- The tally words

      mid_tally : TallyTogether d deeds mid
      mid_tally = record {
        seats = λ k c lt.
            let was = met.tally_together.seats k c (within k lt) in
            (h.each k c (within k lt)).calls ∙ (ap (λ (s : CallSeatView J). record s { seen = deeds }) was ∙ ap (λ n. record { domain = d.domain; tallies = d.tallies; processors = n; processor = k; seen = deeds }) (sym h.count));
        takers = subst (λ n. AreTakers n deeds) (many ∙ sym h.count) deeds_of_all.takers;
      }

      abbrev first : DomainCpu J
      first = get_or mid 0 nobody

      unmoved : set mid 0 first ≡ mid
      unmoved = set-get_or mid 0 nobody

      first_is : first ≡ get_or mid 0 first
      first_is = get_or_default mid 0 nobody first (within_mid 0 some)

      count : length cpus' ≡ length (set mid 0 first)
      count = meets.count ∙ sym (ap length unmoved)

      tallies_meet : TalliesMeet (set mid 0 first) cpus'
      tallies_meet = subst (λ l. TalliesMeet l cpus') (sym unmoved) meets.calls

      tallied_so : IsTallied d d' 0 deeds [] tallies_meet.deeds mid cpus'
      tallied_so = tallied d d' deeds mid cpus' 0 first first (within_mid 0 some) first_is mid_tally [] (adds_none first.calls first.calls refl) count tallies_meet all

      calls_kept : KeepCalls cpus cpus'
      calls_kept =
          let one = calls_stay d d met.deeds deeds cpus mid met.tally_together mid_tally h.count 0 (counting deeds deeds_of_all) (goes_by_first deeds deeds_of_all) (counts_nothing deeds deeds_of_all) in
          let two = calls_stay d d' deeds tallies_meet.deeds mid cpus' mid_tally tallied_so.together meets.count 0 [] tallied_so.on nothing_done in
          (two.0 ∙ one.0, two.1 ∙ one.1, two.2 ∙ one.2)

      -- All of it

      same_engine : IsSameEngine lay.seat meets.left.seat
      same_engine = (engine_meets.same.0 ∙ engine_is.0, engine_meets.same.1 ∙ engine_is.1, engine_meets.same.2 ∙ engine_is.2)

      rest_is : meets.left ≡ with_seat meets.left.seat lay
      rest_is = subst (λ (z : View). meets.left ≡ with_seat meets.left.seat z) turns.1 meets.rest ∙ ap (λ (z : View). with_seat meets.left.seat z) (h.rest ∙ ap (λ (z : View). with_seat h.left.seat z) turns.0)

      history_stays : meets.left.seat.seen ≡ lay.seat.seen
      history_stays = acted.seen ∙ whole

      changes_stay : meets.left.seat.changes ≡ lay.seat.changes
      changes_stay = engine_meets.changes ∙ (h.changes ∙ ap (λ (z : View). z.seat.changes) turns.0)

      -- the words of versions that were known before are known still, and no version was put
      texts_on : IsStart lay.seat.texts meets.left.seat.texts
      texts_on = start_trans (subst (λ l. IsStart l (get_or mid 0 nobody).cpu.texts) (met.together.texts 0 nobody some) (h.each 0 nobody some).texts) (engine_meets.each 0 nobody (within_mid 0 some)).accepts.texts_since

      same_shelf : shelf_of meets.left.seat.seen meets.left.seat.texts ≡ shelf_of lay.seat.seen lay.seat.texts
      same_shelf = shelf_stays lay.seat.seen [] meets.left.seat.seen acted.seen refl lay.seat.texts meets.left.seat.texts texts_on met.together.history.texts acted.together.history.texts

      pub refused_met : HaveMet d' limits cpus' meets.left
      refused_met = record {
        all = all;
        together = acted.together;
        raises = meets.needs.raises;
        ask_together = asking.1;
        swaps = meets.turns.swaps;
        turn_together = turns.2;
        deeds = tallies_meet.deeds;
        tally_together = tallied_so.together;
        cookies = ap (λ n. n % 4) same_asked ∙ met.cookies;
        wanted = λ resting half.
            let so_far = ap (λ (x : View). x.so_far) rest_is in
            let need = ap (λ (x : View). x.need) rest_is in
            let was = met.wanted (λ running. resting (subst IsRunning (sym history_stays) running)) (omega (arith, so_far, half)) in record {
              need = need ∙ (was.need ∙ sym same_asked);
              above = (let above = was.above in let same = ap number_at_rest history_stays in omega (arith, above, same, need));
            };
      }

      pub refused_same : seen_first d' limits cpus' ≡ seen
      refused_same =
          first_seen d' limits cpus' meets.left (greatest meets.needs.raises) all.some turns.2.lying (λ c. ap greatest (asking.1.seen 0 c all.some))
          ∙ ((λ i. record {
            table = same_engine.0 i;
            limits = limits;
            tallies = tallied_so.tallies i;
            course = record {
              standing = record {
                processors = same_engine.1 i;
                periods = same_engine.2 i;
                history = history_stays i;
                changes = changes_stay i;
                so_far = ap (λ (x : View). x.so_far) rest_is i;
                began = ap (λ (x : View). x.began) rest_is i;
              };
              asked = same_asked i;
              queued = calls_kept.0 i;
              finished = calls_kept.1 i;
            };
            lines = calls_kept.2 i;
            shelf = same_shelf i;
          }) ∙ sym view_is)
