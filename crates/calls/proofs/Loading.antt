-- What one load, and several of them, leave of a seat.
use Rattle.std.proofs.Common.{◌≡◌, ℕ, ◌+◌, ◌*◌, ◌/◌, ◌<◌, ◌≤◌, false, List, [], ◌∷◌, ◌++◌, map, length, get_or, refl, sym, ap, ◌∙◌, subst, append_assoc, append-nil, arith}
use Rattle.std.proofs.lemmas.List.{get_or_push, get_or_append_left, get_or_past, get_or_default}
use mathlib.Core.Logic.{dite}
use native.Mathlib.Decide.{ℕ_discrete, dec_le}
use Rattle.atomic_table.specs.Seated.{TableId}
use Rattle.calls.specs.Glossary.{Act, Deed, View, finished_place, word_count, deed, is_queue, queued_in, finished_in, deeds_of, IsBeginning, IsTrueOf, AreTrueAfter, AreTrue, CallSeatView, TicketView, IsCountBetween, Loads, queued_loads, finished_loads, number_for}
use Rattle.calls.specs.declared.view.Act.TheVariants.{LoadQueued, LoadFinished}
use Rattle.calls.specs.Plays.{Does as DoesThere}
use Rattle.calls.specs.Calls.{Does}
use Rattle.calls.proofs.Counting.{queued_still, same_queued, deeds_own, begins_itself}

module _ {J : Type 0} where
  -- a step that queues nothing leaves the maker's own count as it was
  pub same_count : (p : ℕ) (act : Act J) (v w : View J) → DoesThere p act v w → is_queue act ≡ false → queued_in p w.seen ≡ queued_in p v.seen
  same_count p act v w d none = ap (queued_in p) d.seen ∙ (queued_still p d.before p act none ∙ same_queued p d.before v.seen d.own)

pub strides : (words n : ℕ) → words ≡ 16 * n + 8 → words / 16 ≡ n
strides words n e = omega (arith, e)

-- Beginnings

module _ {J : Type 0} where
  pub begins_on : {a b c : List (Deed J)} → IsBeginning a b → IsBeginning b c → IsBeginning a c
  begins_on {a} {b} {c} h k = record { rest = h.rest ++ k.rest; whole = k.whole ∙ (ap (λ l. l ++ k.rest) h.whole ∙ append_assoc a h.rest k.rest) }

  pub queued_append : (p : ℕ) (a b : List (Deed J)) → queued_in p (a ++ b) ≡ queued_in p a + queued_in p b
  queued_append p [] b = omega arith
  queued_append p (x ∷ xs) b = let r = queued_append p xs b in omega (arith, r)

  pub finished_append : (p : ℕ) (a b : List (Deed J)) → finished_in p (a ++ b) ≡ finished_in p a + finished_in p b
  finished_append p [] b = omega arith
  finished_append p (x ∷ xs) b = let r = finished_append p xs b in omega (arith, r)

  pub queued_later : (p : ℕ) {a b : List (Deed J)} → IsBeginning a b → queued_in p a ≤ queued_in p b
  queued_later p {a} {b} h = let e = ap (queued_in p) h.whole in let s = queued_append p a h.rest in omega (arith, e, s)

  pub finished_later : (p : ℕ) {a b : List (Deed J)} → IsBeginning a b → finished_in p a ≤ finished_in p b
  finished_later p {a} {b} h = let e = ap (finished_in p) h.whole in let s = finished_append p a h.rest in omega (arith, e, s)

  -- Loads

  last_after : (before l : List (Deed J)) (d : Deed J) → AreTrueAfter before (l ++ d ∷ []) → IsTrueOf (before ++ l) d.act
  last_after before [] d h = subst (λ (z : List (Deed J)). IsTrueOf z d.act) (sym (append-nil before)) h.0
  last_after before (x ∷ xs) d h = subst (λ (z : List (Deed J)). IsTrueOf z d.act) (append_assoc before (x ∷ []) xs) (last_after (before ++ x ∷ []) xs d h.1)

  -- the last of true loads is true
  pub last_true : (l seen : List (Deed J)) (d : Deed J) → seen ≡ l ++ d ∷ [] → AreTrue seen → IsTrueOf l d.act
  last_true l seen d e h = last_after [] l d (subst (λ (z : List (Deed J)). AreTrue z) e h)

  pub no_loads : (s : CallSeatView J) → AreTrue s.seen → Loads [] s s
  no_loads s true = record { same = (refl, refl, refl, refl); since = begins_itself s.seen; own = sym (append-nil (deeds_of s.processor s.seen)); loads = true }

  map_push : (p : ℕ) (acts : List (Act J)) (act : Act J) → map (deed p) (acts ++ act ∷ []) ≡ map (deed p) acts ++ deed p act ∷ []
  map_push p [] act = refl
  map_push p (x ∷ xs) act = ap (λ z. deed p x ∷ z) (map_push p xs act)

  -- one more
  pub one_more_load : (acts : List (Act J)) (act : Act J) (s m t : CallSeatView J) → Loads acts s m → Does act m t → Loads (acts ++ act ∷ []) s t
  one_more_load acts act s m t h d =
      let p : ℕ = s.processor in
      let by : m.processor ≡ p = h.same.2 in
      let kept : deeds_of p d.before ≡ deeds_of p m.seen = subst (λ (z : ℕ). deeds_of z d.before ≡ deeds_of z m.seen) by d.own in
      let seen : t.seen ≡ d.before ++ deed p act ∷ [] = d.seen ∙ ap (λ (z : ℕ). d.before ++ deed z act ∷ []) by in record {
        same = (d.same.0 ∙ h.same.0, d.same.1 ∙ h.same.1, d.same.2 ∙ h.same.2, d.same.3 ∙ h.same.3);
        since = begins_on h.since (begins_on d.since record { rest = deed p act ∷ []; whole = seen });
        own = ap (deeds_of p) seen ∙ (deeds_own p d.before (deed p act) refl ∙ (ap (λ l. l ++ deed p act ∷ []) (kept ∙ h.own) ∙ (append_assoc (deeds_of p s.seen) (map (deed p) acts) (deed p act ∷ []) ∙ ap (λ l. deeds_of p s.seen ++ l) (sym (map_push p acts act)))));
        loads = d.loads;
      }

  -- Counts at moments

  pub later_count : (count : List (Deed J) → ℕ) (n : ℕ) {a b c : List (Deed J)} → IsCountBetween count n a b → IsBeginning b c → IsCountBetween count n a c
  later_count count n h k = record { moment = h.moment; not_before = h.not_before; not_after = begins_on h.not_after k; counted = h.counted }

  pub goes_on : (act : Act J) (m t : CallSeatView J) → Does act m t → IsBeginning m.seen t.seen
  goes_on act m t d = begins_on d.since record { rest = deed m.processor act ∷ []; whole = d.seen }

  pub queued_found : (p n : ℕ) (a : List (Deed J)) (m t : CallSeatView J) → IsBeginning a m.seen → Does (LoadQueued p n) m t → IsCountBetween (queued_in p) n a t.seen
  queued_found p n a m t since d = record {
    moment = d.before;
    not_before = begins_on since d.since;
    not_after = record { rest = deed m.processor (LoadQueued p n) ∷ []; whole = d.seen };
    counted = last_true d.before t.seen (deed m.processor (LoadQueued p n)) d.seen d.loads;
  }

  pub finished_found : (p n : ℕ) (a : List (Deed J)) (m t : CallSeatView J) → IsBeginning a m.seen → Does (LoadFinished p n) m t → IsCountBetween (finished_in p) n a t.seen
  finished_found p n a m t since d = record {
    moment = d.before;
    not_before = begins_on since d.since;
    not_after = record { rest = deed m.processor (LoadFinished p n) ∷ []; whole = d.seen };
    counted = last_true d.before t.seen (deed m.processor (LoadFinished p n)) d.seen d.loads;
  }

  pub queued_not_below : (p n : ℕ) {a b : List (Deed J)} → IsCountBetween (queued_in p) n a b → queued_in p a ≤ n
  queued_not_below p n h = let l = queued_later p h.not_before in let e = h.counted in omega (arith, l, e)

  pub finished_not_above : (p n : ℕ) {a b : List (Deed J)} → IsCountBetween (finished_in p) n a b → n ≤ finished_in p b
  finished_not_above p n h = let l = finished_later p h.not_after in let e = h.counted in omega (arith, l, e)

-- Numbers in order

module _ {J : Type 0} where
  queued_loads_from : (p : ℕ) (ns : List ℕ) (n : ℕ) → queued_loads {J = J} p (ns ++ n ∷ []) ≡ queued_loads p ns ++ LoadQueued (p + length ns) n ∷ []
  queued_loads_from p [] n = ap (λ k. LoadQueued k n ∷ []) (let e : p ≡ p + 0 = omega arith in e)
  queued_loads_from p (x ∷ xs) n = ap (λ l. LoadQueued p x ∷ l) (queued_loads_from (p + 1) xs n ∙ ap (λ k. queued_loads (p + 1) xs ++ LoadQueued k n ∷ []) (let e : p + 1 + length xs ≡ p + length (x ∷ xs) = omega arith in e))

  pub queued_loads_push : (i : ℕ) (ns : List ℕ) (n : ℕ) → length ns ≡ i → queued_loads {J = J} 0 (ns ++ n ∷ []) ≡ queued_loads 0 ns ++ LoadQueued i n ∷ []
  queued_loads_push i ns n count = queued_loads_from 0 ns n ∙ ap (λ k. queued_loads 0 ns ++ LoadQueued k n ∷ []) (let e : 0 + length ns ≡ i = omega (arith, count) in e)

  finished_loads_from : (p : ℕ) (ns : List ℕ) (n : ℕ) → finished_loads {J = J} p (ns ++ n ∷ []) ≡ finished_loads p ns ++ LoadFinished (p + length ns) n ∷ []
  finished_loads_from p [] n = ap (λ k. LoadFinished k n ∷ []) (let e : p ≡ p + 0 = omega arith in e)
  finished_loads_from p (x ∷ xs) n = ap (λ l. LoadFinished p x ∷ l) (finished_loads_from (p + 1) xs n ∙ ap (λ k. finished_loads (p + 1) xs ++ LoadFinished k n ∷ []) (let e : p + 1 + length xs ≡ p + length (x ∷ xs) = omega arith in e))

  pub finished_loads_push : (i : ℕ) (ns : List ℕ) (n : ℕ) → length ns ≡ i → finished_loads {J = J} 0 (ns ++ n ∷ []) ≡ finished_loads 0 ns ++ LoadFinished i n ∷ []
  finished_loads_push i ns n count = finished_loads_from 0 ns n ∙ ap (λ k. finished_loads 0 ns ++ LoadFinished k n ∷ []) (let e : 0 + length ns ≡ i = omega (arith, count) in e)

-- what holds of each number so far, and of the next one, holds of each
pub each_push : (K : ℕ → ℕ → Type 0) (i : ℕ) (ns : List ℕ) (n : ℕ) → length ns ≡ i → ((p : ℕ) → p < i → K p (get_or ns p 0)) → K i n → (p : ℕ) → p < i + 1 → K p (get_or (ns ++ n ∷ []) p 0)
each_push K i ns n count all one p lt = dite (ℕ_discrete p i)
    (λ e. subst (λ (z : ℕ × ℕ). K z.0 z.1) (λ j. (sym e j, sym (get_or_push ns n 0 p (count ∙ sym e)) j)) one)
    (λ ne. let below : p < i = omega (arith, lt, ne) in let inside : p < length ns = omega (arith, below, count) in subst (λ (z : ℕ). K p z) (sym (get_or_append_left ns (n ∷ []) 0 p inside)) (all p below))

-- a number of each processor that is there is a number of each processor
pub all_reached : (ns : List ℕ) (count : ℕ → ℕ) → ((p : ℕ) → p < length ns → get_or ns p 0 ≤ count p) → (p : ℕ) → get_or ns p 0 ≤ count p
all_reached ns count each p = dite (dec_le (p + 1) (length ns)) (λ l. each p (omega (arith, l))) (λ g. let none = get_or_past ns p 0 (omega (arith, g)) in omega (arith, none))

module _ {J : Type 0} where
  -- a ticket has a number for each processor of its tally words
  pub ticket_whole : (t : TicketView) (s : CallSeatView J) (tallies : TableId) (ns : List ℕ) → t ≡ record { tallies = tallies; numbers = ns } → tallies.words ≡ word_count (length ns) → s.tallies.words ≡ word_count s.processors → t.tallies ≡ s.tallies → length t.numbers ≡ s.processors
  ticket_whole t s tallies ns is whole wide same =
      let long = ap (λ (z : TicketView). length z.numbers) is in
      let words = ap (λ (z : TicketView). z.tallies.words) is in
      let one = ap (λ (z : TableId). z.words) same in
      omega (arith, long, words, one, whole, wide)

-- what is read is the number
pub number_read : (t u : TicketView) (i x : ℕ) → t ≡ u → i < length t.numbers → x ≡ get_or t.numbers i x → x ≡ number_for i u
number_read t u i x same inside is = is ∙ (get_or_default t.numbers i x 0 inside ∙ ap (number_for i) same)

module _ {J : Type 0} where
  pub reached_push : (number : ℕ → ℕ) (i : ℕ) (a b : List (Deed J)) → IsBeginning a b → ((p : ℕ) → p < i → number p ≤ finished_in p a) → number i ≤ finished_in i b → (p : ℕ) → p < i + 1 → number p ≤ finished_in p b
  reached_push number i a b on all one p lt = dite (ℕ_discrete p i)
      (λ e. subst (λ (z : ℕ). number z ≤ finished_in z b) (sym e) one)
      (λ ne. let was = all p (omega (arith, lt, ne)) in let more = finished_later p on in omega (arith, was, more))

  -- a load finds all that had been queued before, as far as anything that is then seen tells
  pub load_not_below : (c p n : ℕ) (a : List (Deed J)) (v w : View J) → DoesThere c (LoadQueued p n) v w → IsBeginning a w.seen → queued_in p a ≤ n
  load_not_below c p n a v w d h =
      let low = queued_later p h in
      let found : n ≡ queued_in p d.before = last_true d.before w.seen (deed c (LoadQueued p n)) d.seen d.loads in
      let still = ap (queued_in p) d.seen ∙ queued_still p d.before c (LoadQueued p n) refl in
      omega (arith, low, found, still)

-- of the same tally words there are as many processors
-- the finished word of the processor is one of the table's, so it is one of those that are there
pub receipt_inside : (tallies other : TableId) (p n : ℕ) → tallies.words ≡ word_count n → other ≡ tallies → finished_place p < other.words → p < n
receipt_inside tallies other p n wide same there = let words = ap (λ (t : TableId). t.words) same in omega (arith, wide, words, there)

pub same_many : (tallies other : TableId) (m n : ℕ) → tallies.words ≡ word_count m → other.words ≡ word_count n → tallies ≡ other → m ≡ n
same_many tallies other m n one two same = let words = ap (λ (t : TableId). t.words) same in omega (arith, one, two, words)
