-- What a domain tells when it is taken down is what its processors did.
use Rattle.std.proofs.Common.{◌≡◌, ◌≢◌, ℕ, ◌+◌, ◌<◌, ◌==◌, Bool, true, false, cond, filter, List, [], ◌∷◌, ◌++◌, map, length, get_or, sum_by, refl, sym, ap, ◌∙◌, subst, arith}
use Rattle.race.proofs.Words.{dite, ℕ_discrete, Processor, made_by, opened_in, closed_in, Deed, deed, queued_in, finished_in, deeds_of, queued_loads, finished_loads, added, Totals, DomainView, CpuView, IsOf, IsTakenDown, CountsNothing, nothing_done, queued_loads_count, finished_loads_count}
use Rattle.race.proofs.Words.{both_count, map-append, own_deeds}
use Rattle.calls.proofs.CallerLemmas.{same_queued}
use Rattle.race.proofs.Parting.{added_one, sum_by_place}
use Rattle.race.proofs.Sections.{opened_by_all, closed_by_all}
use Rattle.race.proofs.Callbacks.{finished_by_all}

module _ {J : Type 0} where
  abbrev is_by : ℕ → Deed J → Bool
  is_by k x = x.by == k

  once : (k : ℕ) (x : Deed J) (l l' : List (Deed J)) (b : Bool) → is_by k x ≡ b → filter (is_by k) l' ≡ l' → filter (is_by k) (cond b (x ∷ l') l') ≡ cond b (x ∷ l') l'
  once k x l l' true e h = ap (λ c. cond c (x ∷ filter (is_by k) l') (filter (is_by k) l')) e ∙ ap (λ z. x ∷ z) h
  once k x l l' false e h = h

  own_of_own : (k : ℕ) (l : List (Deed J)) → deeds_of k (deeds_of k l) ≡ deeds_of k l
  own_of_own k [] = refl
  own_of_own k (x ∷ xs) = once k x xs (deeds_of k xs) (is_by k x) refl (own_of_own k xs)

  -- what a processor has queued stands in its own deeds
  own_queued : (k : ℕ) (l : List (Deed J)) → queued_in k l ≡ queued_in k (deeds_of k l)
  own_queued k l = same_queued k l (deeds_of k l) (sym (own_of_own k l))

-- all processors of the domain, each at the place of its number
pub record AreInPlace (d : DomainView) (cpus : List (CpuView Unit)) : Type 0 where
  pub count : length cpus ≡ d.processors
  pub here : (k : ℕ) (c : CpuView Unit) → k < length cpus → IsOf d (get_or cpus k c)
  pub number : (k : ℕ) (c : CpuView Unit) → k < length cpus → (get_or cpus k c).cpu.processor ≡ k

module _ (d : DomainView) (cpus : List (CpuView Unit)) (t : Totals) (down : IsTakenDown d cpus t) (places : AreInPlace d cpus) where
  own_at : (k : ℕ) (c : CpuView Unit) → k < length cpus → (get_or cpus k c).cpu.mine ≡ made_by (Processor k) down.history
  own_at k c lt = sym (down.of_all.own k c lt) ∙ ap (λ p. made_by (Processor p) down.history) (places.number k c lt)

  -- the sections that were begun, and that have ended
  pub opened_told : t.opened ≡ sum_by (λ c. opened_in c.cpu.mine) cpus
  opened_told = down.totals.opened
      ∙ (sym (opened_by_all d.processors down.history down.of_all.makers)
      ∙ (ap (λ n. added (λ k. opened_in (made_by (Processor k) down.history)) 0 n) (sym places.count)
      ∙ sym (sum_by_place (λ (c : CpuView Unit). opened_in c.cpu.mine) (λ k. opened_in (made_by (Processor k) down.history)) cpus (λ i c lt. ap opened_in (own_at i c lt)))))

  pub closed_told : t.closed ≡ sum_by (λ c. closed_in c.cpu.mine) cpus
  closed_told = down.totals.closed
      ∙ (sym (closed_by_all d.processors down.history down.of_all.makers)
      ∙ (ap (λ n. added (λ k. closed_in (made_by (Processor k) down.history)) 0 n) (sym places.count)
      ∙ sym (sum_by_place (λ (c : CpuView Unit). closed_in c.cpu.mine) (λ k. closed_in (made_by (Processor k) down.history)) cpus (λ i c lt. ap closed_in (own_at i c lt)))))

  -- Callbacks: all but the last processor have done nothing at the tally words
  abbrev IdleBut : ℕ → Type 0
  IdleBut last = (k : ℕ) (c : CpuView Unit) → k < last → (get_or cpus k c).calls.seen ≡ []

  tally : (k : ℕ) (c : CpuView Unit) → k < length cpus → (get_or cpus k c).calls.processor ≡ k
  tally k c lt = sym (places.here k c lt).fits.cpu ∙ places.number k c lt

  abbrev loads_of : ℕ → List (Deed Unit)
  loads_of p = map (deed p) (queued_loads 0 down.deeds_of_all.queued ++ finished_loads 0 down.deeds_of_all.finished)

  loads_nothing : (p : ℕ) → CountsNothing (loads_of p)
  loads_nothing p = subst (λ (l : List (Deed Unit)). CountsNothing l) (sym (map-append (deed p) (queued_loads 0 down.deeds_of_all.queued) (finished_loads 0 down.deeds_of_all.finished)))
      (both_count (map (deed p) (queued_loads 0 down.deeds_of_all.queued)) (map (deed p) (finished_loads 0 down.deeds_of_all.finished)) (queued_loads_count p 0 down.deeds_of_all.queued) (finished_loads_count p 0 down.deeds_of_all.finished))

  module _ (last : ℕ) (some : 0 < last) (behind : d.processors ≡ last + 1) (idle : IdleBut last) (u : CpuView Unit) (u_last : get_or cpus last u ≡ u) where
    there : (k : ℕ) → k < last → k < length cpus
    there k lt = let n = places.count in omega (arith, lt, n, behind)

    last_there : last < length cpus
    last_there = let n = places.count in omega (arith, n, behind)

    first_idle : CountsNothing (deeds_of 0 down.all)
    first_idle =
        let zero_there : 0 < length cpus = there 0 some in
        let p = tally 0 u zero_there in
        let none : deeds_of (get_or cpus 0 u).calls.processor (get_or cpus 0 u).calls.seen ≡ [] = ap (deeds_of (get_or cpus 0 u).calls.processor) (idle 0 u some) in
        let is : deeds_of (get_or cpus 0 u).calls.processor down.all ≡ loads_of (get_or cpus 0 u).calls.processor = down.deeds_of_all.first u ∙ ap (λ l. l ++ loads_of (get_or cpus 0 u).calls.processor) none in
        subst (λ (l : List (Deed Unit)). CountsNothing l) (sym (ap (λ k. deeds_of k down.all) (sym p) ∙ is)) (loads_nothing (get_or cpus 0 u).calls.processor)

    other_idle : (k : ℕ) → 0 < k → k < last → CountsNothing (deeds_of k down.all)
    other_idle k pos lt =
        let p = tally k u (there k lt) in
        let is : deeds_of (get_or cpus k u).calls.processor down.all ≡ [] = down.deeds_of_all.others k u pos (there k lt) ∙ ap (deeds_of (get_or cpus k u).calls.processor) (idle k u lt) in
        subst (λ (l : List (Deed Unit)). CountsNothing l) (sym (ap (λ q. deeds_of q down.all) (sym p) ∙ is)) nothing_done

    idle_counts : (k : ℕ) → k < last → CountsNothing (deeds_of k down.all)
    idle_counts k lt = dite (ℕ_discrete k 0) (λ e. subst (λ q. CountsNothing (deeds_of q down.all)) (sym e) first_idle) (λ ne. other_idle k (omega (arith, ne)) lt)

    last_own : deeds_of last down.all ≡ own_deeds u.calls
    last_own =
        let p = tally last u last_there in
        let is = down.deeds_of_all.others last u some last_there in
        ap (λ k. deeds_of k down.all) (sym p) ∙ (is ∙ ap (λ (c : CpuView Unit). own_deeds c.calls) u_last)

    last_number : u.calls.processor ≡ last
    last_number = ap (λ (c : CpuView Unit). c.calls.processor) (sym u_last) ∙ tally last u last_there

    queued_at : (k : ℕ) → k < last → queued_in k down.all ≡ 0
    queued_at k lt = own_queued k down.all ∙ (idle_counts k lt).queued k

    -- the callbacks that were queued are those of the last processor
    pub queued_told : t.queued ≡ queued_in u.calls.processor (own_deeds u.calls)
    queued_told =
        down.totals.queued
        ∙ (added_one (λ k. queued_in k down.all) 0 d.processors last (omega arith) (omega (arith, behind)) (λ j le lt ne. queued_at j (omega (arith, lt, ne, behind)))
        ∙ (own_queued last down.all ∙ (ap (queued_in last) last_own ∙ ap (λ k. queued_in k (own_deeds u.calls)) (sym last_number))))

    finished_at : (q : ℕ) → finished_in q down.all ≡ finished_in q (own_deeds u.calls)
    finished_at q =
        sym (finished_by_all q d.processors down.all down.deeds_of_all.takers)
        ∙ (added_one (λ k. finished_in q (deeds_of k down.all)) 0 d.processors last (omega arith) (omega (arith, behind)) (λ j le lt ne. (idle_counts j (omega (arith, lt, ne, behind))).finished q)
        ∙ ap (finished_in q) last_own)

    -- and so are those that were finished, where it finished none of others
    pub finished_told : ((q : ℕ) → q ≢ u.calls.processor → finished_in q (own_deeds u.calls) ≡ 0) → t.finished ≡ finished_in u.calls.processor (own_deeds u.calls)
    finished_told none =
        down.totals.finished
        ∙ (added_one (λ k. finished_in k down.all) 0 d.processors last (omega arith) (omega (arith, behind)) (λ j le lt ne. finished_at j ∙ none j (λ e. ne (e ∙ last_number)))
        ∙ (finished_at last ∙ ap (λ k. finished_in k (own_deeds u.calls)) (sym last_number)))

    -- all that were queued are finished
    pub all_told : t.queued ≡ t.finished
    all_told = down.totals.queued ∙ (down.unused.run ∙ sym down.totals.finished)
