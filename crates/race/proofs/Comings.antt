-- Readers that have raced are back.
use Rattle.std.proofs.Common.{◌≡◌, ◌*◌, ℕ, suc, ◌<◌, List, [], ◌∷◌, Result, Ok, Err, IfOk, length, get_or, ap, ◌∙◌, subst, arith}
use Rattle.race.proofs.Words.{sum_by-cons, Course, Reader, Workers, RaceTotals, AreBack, HaveRaced, opened_by, CleansUp, AreCounts, AreTotals}

pub back_of : (g : Course) (w : Workers) → HaveRaced g w → AreBack g w
back_of g w h = record {
  many = h.many;
  each = λ i d lt. let r = h.each i d lt in record { is = r.is; tells = r.tells; number_is = r.number_is; opened = (let n = r.opened in omega (arith, n)); closed = r.few };
  updater = h.updater;
  last = h.last;
}

pub whatever : {A B X : Type 0} (r : Result A B) → X → IfOk r (λ _. X)
whatever (Ok a) x = x
whatever (Err b) x = tt

-- each of them has opened one lease in each round
times : (rounds : ℕ) (rs : List Reader) → ((i : ℕ) (d : Reader) → i < length rs → (get_or rs i d).opened ≡ rounds) → opened_by rs ≡ length rs * rounds
times rounds [] h = omega arith
times rounds (r ∷ rs) h =
    let first = h 0 r (omega arith) in
    let rest = times rounds rs (λ i d lt. h (suc i) d (omega (arith, lt))) in
    sum_by-cons (λ (z : Reader). z.opened) r rs ∙ grind (arith, first, rest)

pub all_opened : (g : Course) (w : Workers) → HaveRaced g w → opened_by w.readers.items ≡ length w.readers.items * g.rounds
all_opened g w h = times g.rounds w.readers.items (λ i d lt. (h.each i d lt).opened)

-- so the totals are those of so many readers
pub totals_are : (readers rounds : ℕ) (g : Course) (w : Workers) (t : RaceTotals) → g.desk.seats ≡ readers → g.rounds ≡ rounds → HaveRaced g w → AreCounts g.rounds t → t.opened ≡ opened_by w.readers.items
    → (t.versions ≡ w.updater.versions) × (t.queued ≡ w.updater.queued) × (t.finished ≡ w.updater.finished) → CleansUp g w t.domain → AreTotals readers rounds t
totals_are readers rounds g w t seats rounds_are h counts opened updated cleans = record {
  counts = subst (λ n. AreCounts n t) rounds_are counts;
  opened = opened ∙ (all_opened g w h ∙ (ap (λ n. n * g.rounds) (h.many ∙ seats) ∙ ap (λ n. readers * n) rounds_are));
  course = g;
  seats = seats;
  rounds_are = rounds_are;
  workers = w;
  raced = h;
  updated = updated;
  cleans = cleans;
}
