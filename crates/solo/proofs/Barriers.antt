-- What barriers, and a look at a batch that is out, say of the domain in one hand: they only load, and find the counts.
use Rattle.std.proofs.Common.{◌≡◌, ℕ, ◌<◌, ◌≤◌, length, get_or, refl, sym, ap, ◌∙◌, subst, arith}
use Rattle.solo.proofs.Words.{Bool, true, false, MatchBool, Result, Ok, Err, MatchResult, IfOk, get_or_past, ext_get_or, dite, dec_lt, queued_in, finished_in, CallSeatView, TicketView, IsDone, queued_later, finished_later, loads, ActsAs}
use Rattle.calls.specs.Barriers.{Starts, IsBehind}
use Rattle.solo.specs.Barriers.{ticket_of, IsTicketOf, AreReached}
use Rattle.solo.proofs.Meeting.{Hand, s', deeds_were, queued_were, finished_were, queued_long, tallies_are, many_are, seen_by_all, queued_now, finished_now, did_it}
use Rattle.solo.proofs.Called.{Says, says, still}

module _ {J : Type 0} where
  module _ (t : Hand J) (did : ActsAs loads t.was t.now) where
    -- nothing has changed, and this
    abbrev pub Stays : Type 0 → Type 0
    Stays what = Says t ((s' t ≡ t.s) × what)

    stays : (what : Type 0) → what → Stays what
    stays what it = says t loads did refl refl _ (still t did, it)

    seen_before : t.was.calls.seen ≡ t.met.deeds
    seen_before = ap (λ (s : CallSeatView J). s.seen) (deeds_were t)

    -- no count has changed since

    no_more_queued : (k : ℕ) → k < length t.cpus → queued_in k t.now.calls.seen ≤ get_or t.s.course.queued k 0
    no_more_queued k lt = let later = queued_later k (seen_by_all t (did_it t loads did)) in let now = queued_now t (did_it t loads did) k lt in omega (arith, later, now)

    no_more_finished : (k : ℕ) → k < length t.cpus → finished_in k t.now.calls.seen ≤ get_or t.s.course.finished k 0
    no_more_finished k lt = let later = finished_later k (seen_by_all t (did_it t loads did)) in let now = finished_now t (did_it t loads did) k lt in omega (arith, later, now)

    -- A barrier starts: each load found what was queued before, as nothing was queued meanwhile

    module _ {E : Type 0} where
      pub start_says : (r : Result TicketView E) → MatchResult r (λ ticket. Starts t.was.calls ticket t.now.calls) (λ _. t.now ≡ t.was) → Stays (IfOk r (λ ticket. (ticket ≡ ticket_of t.s) × IsTicketOf t.s ticket))
      start_says (Err e) h = stays _ tt
      start_says (Ok ticket) h =
          let words_are : t.was.calls.processors ≡ length t.cpus = ap (λ (s : CallSeatView J). s.processors) (deeds_were t) in
          let tallies = h.tallies ∙ (ap (λ (s : CallSeatView J). s.tallies) (deeds_were t) ∙ tallies_are t) in
          let each : length ticket.numbers ≡ length t.cpus = h.whole ∙ words_are in
          let numbers : ticket.numbers ≡ t.s.course.queued = ext_get_or 0 ticket.numbers t.s.course.queued (each ∙ sym (queued_long t)) (λ k lt.
          let there : k < length t.cpus = omega (arith, each, lt) in
          let c = h.each k (subst (λ n. k < n) (sym words_are) there) in
          let low = queued_later k c.not_before in
          let high = queued_later k c.not_after in
          let most = no_more_queued k there in
          let old = ap (queued_in k) seen_before in
          let was = queued_were t k there in
          let counted = c.counted in
          omega (arith, low, high, most, old, was, counted)) in
          stays _ ((λ i. record { tallies = tallies i; numbers = numbers i }), (tallies, each ∙ many_are t))

    -- A barrier is polled

    module _ (ticket : TicketView) (of_domain : IsTicketOf t.s ticket) where
      -- of a processor that is not there nothing is waited for
      none_beyond : (k : ℕ) → length t.cpus ≤ k → get_or ticket.numbers k 0 ≡ 0
      none_beyond k ge = get_or_past ticket.numbers k 0 (let many = of_domain.1 in let all = many_are t in omega (arith, many, all, ge))

      found : (done : Bool) → MatchBool done (IsDone ticket t.now.calls.seen) (IsBehind ticket t.was.calls t.now.calls) → MatchBool done (AreReached ticket.numbers t.s.course.finished) (¬ AreReached ticket.numbers t.s.course.finished)
      found true is_done = λ k. dite (dec_lt k (length t.cpus))
          (λ there. let enough = is_done k in let most = no_more_finished k there in omega (arith, enough, most))
          (λ beyond. let none = none_beyond k (omega (arith, beyond)) in omega (arith, none))
      found false behind = λ are.
          let k : ℕ = behind.processor in
          let below = behind.below in
          let enough = are k in
          dite (dec_lt k (length t.cpus))
          (λ there. let old = finished_later k behind.counted.not_before in let counted = behind.counted.counted in let same = ap (finished_in k) seen_before in let was = finished_were t k there in omega (arith, below, enough, old, counted, same, was))
          (λ beyond. let none = none_beyond k (omega (arith, beyond)) in omega (arith, none, below))

      pub poll_says : (done : Bool) → MatchBool done (IsDone ticket t.now.calls.seen) (IsBehind ticket t.was.calls t.now.calls) → Stays (MatchBool done (AreReached ticket.numbers t.s.course.finished) (¬ AreReached ticket.numbers t.s.course.finished))
      poll_says done is = stays _ (found done is)
